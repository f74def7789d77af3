use Rattle.std.proofs.Common.{rules, ◌≡◌, ℕ, sym, subst}
use Rattle.std.specs.Prelude.{IsSome}
use Rattle.oe_log.specs.Log.{SegmentLog, active_at, open_total}
use Rattle.oe_undo.specs.Chains.{IsAlone}
use Rattle.oe_parts_tests.proofs.AloneFacts.{only_one_is_alone}
use Rattle.oe_parts_tests.proofs.opened.only_segment.Goals as goal

pub returns-clause-alone : goal.returns-clause-alone
returns-clause-alone c = λ k.
    let one : open_total c.segments-segments.result.now ≡ 1 = search rules in
    let some : IsSome (active_at c.segments-segments.result.now c.args.terminal) = search rules in
    let alone : IsAlone c.segments-segments.result.now c.args.terminal k =
    only_one_is_alone c.segments-segments.result.now c.args.terminal one some k in
    subst (λ (u : SegmentLog). IsAlone u c.of.result k) c.segments-segments.ensures
    (subst (λ (t : ℕ). IsAlone c.segments-segments.result.now t k) (sym c.of.ensures) alone)
