use Rattle.std.proofs.Common.{take, option_map}
use Rattle.oe_busy.specs.Happenings.{count_in}
use Rattle.oe_busy.specs.Firsts.{is_left}
use Rattle.oe_busy.proofs.FirstFacts.{IsBest}
use Rattle.oe_busy.proofs.firsts.next_name.Given as goal

-- the first of the names so far that are left, or none of them is
abbrev pub invariant-loop-name : goal.invariant-loop-name
invariant-loop-name l =
    IsBest (count_in l.counts) (is_left (count_in l.counts) (option_map (λ n. n.now) l.behind))
    (take l.name-index l.names) (option_map (λ n. n.now) l.first)
