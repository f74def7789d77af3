use Rattle.std.proofs.Common.{ℕ, sym, subst, List, Option}
use Rattle.std.specs.Option.{IsSomeAnd}
use Rattle.oe_rows.specs.declared.keys.CustomerKey.{CustomerKey}
use Rattle.oe_store.specs.Places.{rows}
use Rattle.oe_log.specs.Log.{SegmentLog}
use Rattle.oe_log.specs.Stands.{undo_of}
use Rattle.oe_undo.specs.Held.{horizon}
use Rattle.oe_journal.specs.Forgetting.{LosesName, ForgetsNames, name_lost}
use Rattle.oe_journal.specs.ExactNames.{HasExactNames}
use Rattle.oe_journal.proofs.KeptNameFacts.{put_back_exact}
use Rattle.oe_layout.specs.Records.{record_of_own}
use Rattle.oe_model.specs.Changes.{record_key}
use Rattle.oe_journal.proofs.ForgetsFacts.{puts_back_still}
use Rattle.oe_journal.proofs.unwinding.put_back.Goals as goal

pub returns-clause-places : goal.returns-clause-places
returns-clause-places c =
    puts_back_still c.args.tables.now c.undo_change.new.tables c.forget_lost.new.tables c.forget_lost.ensures.others
    (record_of_own c.args.newest) (record_key (record_of_own c.args.newest)) c.args.undo.now.log
    c.undo_change.ensures.places

pub returns-clause-exact : goal.returns-clause-exact
returns-clause-exact c h =
    let lost = subst (λ (v : Option (CustomerKey × List ℕ)). ForgetsNames c.undo_change.new.tables
    c.forget_lost.new.tables (λ n k. IsSomeAnd v (λ x. LosesName c.undo_change.new.undo.log
    (horizon c.undo_change.new.undo.log) x n k))) c.name_lost-lost.ensures c.forget_lost.ensures.names in
    subst (λ (u : SegmentLog). HasExactNames c.forget_lost.new.tables (undo_of u)) (sym c.undo_change.ensures.log)
    (put_back_exact c.args.newest c.args.tables.now c.undo_change.new.tables c.forget_lost.new.tables
    c.args.undo.now.log c.requires.stands c.undo_change.ensures.rows c.undo_change.ensures.names
    c.forget_lost.ensures.others
    (subst (λ (u : SegmentLog). ForgetsNames c.undo_change.new.tables c.forget_lost.new.tables
    (λ n k. IsSomeAnd (name_lost (rows c.args.tables.now) (record_of_own c.args.newest))
    (λ x. LosesName u (horizon u) x n k))) c.undo_change.ensures.log lost) c.is_chained.ensures.whole h)
