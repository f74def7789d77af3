-- A key's link ends at the horizon exactly where no record of the key is left.
use Rattle.std.proofs.Common.{◌≡◌, ℕ, ◌+◌, ◌-◌, sym, ap, ◌∙◌, subst, length, arith}
use Rattle.oe_log.specs.Log.{SegmentLog, total_count}
use Rattle.oe_undo.specs.Chains.{IsEnd}
use Rattle.oe_undo.specs.Held.{horizon}
use Rattle.oe_undo.specs.Undo.{link_seen}
use Rattle.oe_journal.proofs.names.is_unnamed.Goals as goal

less : (h n t : ℕ) → h + n ≡ t → h ≡ t - n
less h n t e = omega arith

is_at : (u v : SegmentLog) (h : ℕ) → v ≡ u → h + length v.committed ≡ total_count v → h ≡ horizon u
is_at u v h same is = less h (length v.committed) (total_count v) is ∙ ap horizon same

pub returns : goal.returns
returns c =
    let law = c.ends_without_records.ensures c.args.undo.now.log (link_seen c.args.undo.now) c.args.key.now
    c.is_chained.ensures.whole c.is_chained.ensures.chained in
    let at : c.horizon.result ≡ horizon c.args.undo.now.log = is_at c.args.undo.now.log c.segments.result.now
    c.horizon.result c.segments.ensures c.horizon.ensures.value in (
      λ h. law.0 (subst (λ n. IsEnd n (link_seen c.args.undo.now c.args.key.now)) at (c.has_ended.ensures.0 h)),
      λ h. c.has_ended.ensures.1 (subst (λ n. IsEnd n (link_seen c.args.undo.now c.args.key.now)) (sym at) (law.1 h)),
    )
