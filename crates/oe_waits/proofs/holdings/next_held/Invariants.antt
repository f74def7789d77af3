use Rattle.std.proofs.Common.{take, option_map}
use Rattle.oe_waits.specs.Names.{is_left}
use Rattle.oe_waits.proofs.HeldFacts.{IsBest}
use Rattle.oe_waits.proofs.holdings.next_held.Given as goal

-- the least of the names so far that are left, or none of them is
abbrev pub invariant-loop-name : goal.invariant-loop-name
invariant-loop-name g l =
    IsBest (is_left (g.M.Machine.world l.core) l.fn.holder l.behind.items) (take l.name-index l.names)
    (option_map (λ n. n.now) l.least)
