use Rattle.std.proofs.Common.{[], get_or, subst, ◌∙◌}
use Rattle.oe_log.specs.Log.{committed_records}
use Rattle.oe_log.specs.Stands.{model_records, deleted_keys}
use Rattle.oe_undo.specs.Chains.{IsEnd}
use Rattle.oe_undo.specs.Undo.{link_seen}
use Rattle.oe_journal.proofs.PurgeFacts.{LooksAt, one_looked_at, all_looked_at}
use Rattle.oe_journal.proofs.purges.give_up_deleted.Goals as goal

pub loop-key-preserved : goal.loop-key-preserved
loop-key-preserved c =
    let keys = deleted_keys (model_records (get_or (committed_records c.args.undo.now.log) c.args.later [])) in (
      c.give_up_key.ensures.names ∙ c.loop-key.invariant.0,
      one_looked_at (λ k. IsEnd c.args.moment (link_seen c.args.undo.now k)) c.args.tables.now c.loop-key.tables
          c.give_up_key.new.tables keys c.in-Some.key c.next.new.self
          c.give_up_key.ensures.rows c.give_up_key.ensures.places
          (subst (LooksAt (λ k. IsEnd c.args.moment
          (link_seen c.args.undo.now k)) c.args.tables.now c.loop-key.tables keys)
          c.in-Some.ensures.steps c.loop-key.invariant.1),
    )

pub returns-clause-places : goal.returns-clause-places
returns-clause-places c =
    let records = model_records (get_or (committed_records c.args.undo.now.log) c.args.later []) in
    all_looked_at (λ k. IsEnd c.args.moment (link_seen c.args.undo.now k)) c.args.tables.now c.loop-key.tables records
    (subst (LooksAt (λ k. IsEnd c.args.moment (link_seen c.args.undo.now k)) c.args.tables.now c.loop-key.tables
    (deleted_keys records)) c.in-None.ensures.steps.0 c.loop-key.invariant.1)

pub returns-clause-names : goal.returns-clause-names
returns-clause-names c = c.loop-key.invariant.0
