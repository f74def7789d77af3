use Rattle.oe_log.specs.Log.{committed_records}
use Rattle.oe_log.specs.Stands.{model_records, deleted_keys}
use Rattle.std.specs.Prelude.{[], get_or}
use Rattle.oe_undo.specs.Chains.{IsEnd}
use Rattle.oe_undo.specs.Undo.{link_seen}
use Rattle.oe_store.specs.Names.{SameNames}
use Rattle.oe_journal.proofs.PurgeFacts.{LooksAt}
use Rattle.oe_journal.proofs.purges.give_up_deleted.Given as goal

abbrev pub invariant-loop-key : goal.invariant-loop-key
invariant-loop-key l =
    SameNames l.fn.tables l.tables
    × LooksAt (λ k. IsEnd l.moment (link_seen l.undo k)) l.fn.tables l.tables
    (deleted_keys (model_records (get_or (committed_records l.undo.log) l.later []))) l.key-iterator
