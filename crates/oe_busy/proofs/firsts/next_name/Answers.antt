use Rattle.std.proofs.Common.{◌+◌, take, option_map, sym, ap, ◌∙◌, subst, arith}
use Rattle.oe_locks.specs.Listed.{stands}
use Rattle.oe_busy.specs.Happenings.{count_in}
use Rattle.oe_busy.specs.Firsts.{is_left, sooner}
use Rattle.oe_busy.proofs.FirstFacts.{IsBest, best_all, best_more}
use Rattle.oe_busy.proofs.MetFacts.{not_left}
use Rattle.oe_busy.proofs.firsts.next_name.Goals as goal

pub loop-name-preserved : goal.loop-name-preserved
loop-name-preserved c =
    let f = count_in c.args.counts.now in
    let g = is_left f (option_map (λ n. n.now) c.args.behind) in
    let first = option_map (λ n. n.now) c.loop-name.first in
    subst (IsBest f g (take (c.loop-name.name-index + 1) c.names-names.result.now))
    (ap (sooner f first c.name-item.result) (sym c.is_left.ensures) ∙ sym c.sooner-first.ensures)
    (best_more f g c.names-names.result.now c.loop-name.name-index c.name-item.result first c.name-item.is
    (omega arith) c.loop-name.invariant)

pub returns : goal.returns
returns c =
    best_all (count_in c.args.counts.now) (option_map (λ n. n.now) c.args.behind) c.names-names.result.now
    c.loop-name.name-index (option_map (λ n. n.now) c.loop-name.first) (omega arith) c.loop-name.invariant
    (λ q m. not_left c.args.counts.now (option_map (λ n. n.now) c.args.behind) q
    (ap (λ ks. stands ks q) (sym c.names-names.ensures) ∙ m))
