use Rattle.std.proofs.Common.{◌≡◌, map, drop}
use Rattle.oe_model.specs.Requests.{first_absent}
use Rattle.oe_store.specs.Places.{rows}
use Rattle.oe_admission.proofs.rejections.absent_supply.Given as goal

-- the first that isn't there of the lines that are left is the first of all
abbrev pub invariant-loop-line : goal.invariant-loop-line
invariant-loop-line l =
    first_absent (map (λ x. x.supply) l.lines) (rows l.tables) ≡ first_absent
    (map (λ x. x.supply) (drop l.line-index l.lines)) (rows l.tables)
