-- Where the head says that nothing was deleted, no record is of a delete.
use Rattle.std.proofs.Common.{◌≡◌, Bool, true, false, List, [], ◌∷◌, cond, get_or, refl, sym, ap, ◌∙◌}
use Rattle.std.specs.List.{cons_option}
use Rattle.oe_model.specs.Changes.{Record}
use Rattle.oe_log.specs.Log.{committed_records}
use Rattle.oe_log.specs.Stands.{model_records, deleted_keys, DeletesNothing}
use Rattle.oe_log.proofs.log.Log.deleted.Goals as goal

none_deleted : (bs : List Record) → DeletesNothing bs → deleted_keys bs ≡ []
none_deleted [] h = refl
none_deleted (b ∷ bs) h = ap (λ o. cons_option o (deleted_keys bs)) h.0 ∙ none_deleted bs h.1

all_or_none : (has : Bool) (bs : List Record) → (has ≡ false → DeletesNothing bs)
    → cond has (deleted_keys bs) [] ≡ deleted_keys bs
all_or_none true bs h = refl
all_or_none false bs h = sym (none_deleted bs (h refl))

pub returns : goal.returns
returns c =
    let bs = model_records (get_or (committed_records c.args.self.now) c.args.later []) in
    ap (λ (rs : List Record). cond c.may_delete-has_any.result (deleted_keys rs) []) c.committed_records-records.ensures
    ∙ all_or_none c.may_delete-has_any.result bs c.may_delete-has_any.ensures
