-- Why a record can't be pushed.
use Rattle.std.proofs.Common.{◌≡◌, refl, sym, ap, ◌∙◌, subst, None, Some, IsSome}
use Rattle.oe_rows.specs.declared.keys.Key.{Key}
use Rattle.oe_rows.specs.declared.layouts.Layout.{Layout}
use Rattle.oe_change.specs.Writes.{key_written}
use Rattle.oe_undo.specs.Chains.{IsAlone}
use Rattle.oe_undo.specs.Links.{place_of}
use Rattle.oe_model.specs.Lengths.{record_length}
use Rattle.oe_layout.specs.Records.{record_of_lent}
use Rattle.oe_store.specs.Places.{rows}
use Rattle.oe_log.specs.Log.{IsFull, SegmentLog}
use Rattle.oe_undo.specs.Undo.{IsUnpushed}
use Rattle.oe_writes.specs.Records.{record_of_write}
use Rattle.oe_journal.proofs.MoreFacts.{of_some}
use Rattle.oe_journal.proofs.LinkedFacts.{unplaced}
use Rattle.oe_writes.proofs.RecordFacts.{recorded}
use Rattle.oe_journal.proofs.RecordedFacts.{record_written, writes_may}
use Rattle.oe_journal.proofs.writes.push.Goals as goal

-- the record is of the key that is written
pub push-requires-clause-alone : goal.push-requires-clause-alone
push-requires-clause-alone g c =
    let own : record_of_write c.args.undo.now.log.layout (g.W.OneWrite.write c.args.write.now) (rows c.args.tables.now)
    ≡ Some (record_of_lent c.in-Some.record) =
    subst (λ (l : Layout). record_of_write l (g.W.OneWrite.write c.args.write.now) (rows c.args.tables.now)
    ≡ Some (record_of_lent c.in-Some.record))
    (c.layout.ensures ∙ ap (λ (u : SegmentLog). u.layout) c.segments.ensures) (sym c.in-Some.ensures) in
    subst (IsAlone c.args.undo.now.log c.args.segment)
    (sym (record_written c.args.undo.now.log.layout (g.W.OneWrite.write c.args.write.now) (rows c.args.tables.now)
    (record_of_lent c.in-Some.record) own)) c.requires.alone

-- the write has a record, which fits, and its key no place
pub returns-in-Err-NoMemory-clause-cause : goal.returns-in-Err-NoMemory-clause-cause
returns-in-Err-NoMemory-clause-cause g c =
    let layout = c.args.undo.now.log.layout in
    let has : record_of_write layout (g.W.OneWrite.write c.args.write.now) (rows c.args.tables.now)
    ≡ Some (record_of_lent c.in-Some.record) =
    subst (λ (l : Layout). record_of_write l (g.W.OneWrite.write c.args.write.now) (rows c.args.tables.now)
    ≡ Some (record_of_lent c.in-Some.record))
    (c.layout.ensures ∙ ap (λ (u : SegmentLog). u.layout) c.segments.ensures) (sym c.in-Some.ensures) in
    let cause = subst (IsUnpushed c.args.undo.now c.args.segment (record_of_lent c.in-Some.record))
    c.in-Err-NoMemory.field-0-is c.in-Err-NoMemory.ensures.cause in
    let own = record_written layout (g.W.OneWrite.write c.args.write.now) (rows c.args.tables.now)
    (record_of_lent c.in-Some.record) has in (
      recorded layout (g.W.OneWrite.write c.args.write.now) (rows c.args.tables.now) (subst IsSome (sym has) refl),
      of_some (λ b. IsFull c.args.undo.now.log c.args.segment (record_length b) → ⊥)
          (record_of_write layout (g.W.OneWrite.write c.args.write.now) (rows c.args.tables.now))
          (record_of_lent c.in-Some.record) has cause.0,
      unplaced c.args.tables.now c.args.undo.now.links (key_written (g.W.OneWrite.write c.args.write.now))
          (writes_may (g.W.OneWrite.write c.args.write.now))
          c.requires.linked
          (subst (λ (k : Key). place_of c.args.undo.now.links k ≡ None) own cause.1),
    )
