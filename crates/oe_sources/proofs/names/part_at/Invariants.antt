use Rattle.std.proofs.Common.{◌≡◌, ◌++◌, take, drop}
use Rattle.std.specs.Option.{option_map}
use Rattle.oe_sources.specs.Name.{parted_at}
use Rattle.oe_sources.proofs.names.part_at.Given as goal

-- no such byte stands before here
abbrev pub invariant-loop-i : goal.invariant-loop-i
invariant-loop-i l =
    parted_at l.byte l.text ≡ option_map (λ p. (take l.i l.text ++ p.0, p.1)) (parted_at l.byte (drop l.i l.text))
