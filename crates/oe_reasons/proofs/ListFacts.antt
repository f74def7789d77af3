-- The lists of verbs, forms and columns are whole.
use Rattle.std.proofs.Common.{◌≡◌, [], ◌∷◌, Some, refl, arith}
use Rattle.std.proofs.lemmas.List.Elements.{All-cons, All-nil}
use Rattle.oe_reasons.specs.declared.verbs.Verb.{Verb}
use Rattle.oe_reasons.specs.declared.verbs.Verb.TheVariants as verb
use Rattle.oe_reasons.specs.declared.verbs.Kind.{Kind}
use Rattle.oe_reasons.specs.declared.verbs.Kind.TheVariants as kind
use Rattle.oe_reasons.specs.declared.forms.Column.{Column}
use Rattle.oe_reasons.specs.declared.forms.Column.TheVariants as column
use Rattle.oe_reasons.specs.declared.forms.Form.{Form}
use Rattle.oe_reasons.specs.declared.forms.Form.TheVariants as form
use Rattle.std.specs.List.{All, Contains}
use Rattle.oe_reasons.specs.Verbs.{is_word, kind_of, kind_word, verb_of, verb_word}
use Rattle.oe_reasons.specs.Columns.{forms, forms_of}
use Rattle.oe_reasons.specs.Laws.{BeginsWith, IsTold, Lists_are_whole, Verbs_are_read}

verb_read : (v : Verb) → verb_of (verb_word v) ≡ Some v
unfolding verb_of is_word
verb_read verb.Open = refl
verb_read verb.Begin = refl
verb_read verb.Next = refl
verb_read verb.Run = refl
verb_read verb.Save = refl
verb_read verb.Back = refl
verb_read verb.Rollback = refl
verb_read verb.Read = refl
verb_read verb.Audit = refl
verb_read verb.Purge = refl
verb_read verb.Rewind = refl
verb_read verb.Dump = refl
verb_read verb.Waits = refl
verb_read verb.Locks = refl

kind_read : (k : Kind) → kind_of (kind_word k) ≡ Some k
unfolding kind_of is_word
kind_read kind.Payment = refl
kind_read kind.NewOrder = refl
kind_read kind.Delivery = refl
kind_read kind.Rename = refl
kind_read kind.Status = refl
kind_read kind.Level = refl

pub verbs_are_read : Verbs_are_read
verbs_are_read = record { each_verb = verb_read; each_kind = kind_read }

listed : (f : Form) → Contains forms f
listed form.Opening = (0, omega arith, refl)
listed form.Payment = (1, omega arith, refl)
listed form.NewOrder = (2, omega arith, refl)
listed form.Delivery = (3, omega arith, refl)
listed form.Deliveries = (4, omega arith, refl)
listed form.Rename = (5, omega arith, refl)
listed form.Next = (6, omega arith, refl)
listed form.Run = (7, omega arith, refl)
listed form.Save = (8, omega arith, refl)
listed form.Back = (9, omega arith, refl)
listed form.Rollback = (10, omega arith, refl)
listed form.Status = (11, omega arith, refl)
listed form.Level = (12, omega arith, refl)
listed form.Audit = (13, omega arith, refl)
listed form.Purge = (14, omega arith, refl)
listed form.Rewind = (15, omega arith, refl)
listed form.Dump = (16, omega arith, refl)
listed form.Waits = (17, omega arith, refl)
listed form.Locks = (18, omega arith, refl)

alone : (v : Verb) (f : Form) → BeginsWith v f → All (BeginsWith v) (f ∷ [])
alone v f h = All-cons (BeginsWith v) f [] h (All-nil (BeginsWith v))

first : (v : Verb) → All (BeginsWith v) (forms_of v)
first verb.Open = alone verb.Open form.Opening refl
first verb.Begin =
    All-cons (BeginsWith verb.Begin) form.Payment (form.NewOrder ∷ form.Delivery ∷ form.Deliveries ∷ form.Rename ∷ [])
    refl
    (All-cons (BeginsWith verb.Begin) form.NewOrder (form.Delivery ∷ form.Deliveries ∷ form.Rename ∷ []) refl
    (All-cons (BeginsWith verb.Begin) form.Delivery (form.Deliveries ∷ form.Rename ∷ []) refl
    (All-cons (BeginsWith verb.Begin) form.Deliveries (form.Rename ∷ []) refl
    (alone verb.Begin form.Rename refl))))
first verb.Next = alone verb.Next form.Next refl
first verb.Run = alone verb.Run form.Run refl
first verb.Save = alone verb.Save form.Save refl
first verb.Back = alone verb.Back form.Back refl
first verb.Rollback = alone verb.Rollback form.Rollback refl
first verb.Read =
    All-cons (BeginsWith verb.Read) form.Status (form.Level ∷ []) refl
    (alone verb.Read form.Level refl)
first verb.Audit = alone verb.Audit form.Audit refl
first verb.Purge = alone verb.Purge form.Purge refl
first verb.Rewind = alone verb.Rewind form.Rewind refl
first verb.Dump = alone verb.Dump form.Dump refl
first verb.Waits = alone verb.Waits form.Waits refl
first verb.Locks = alone verb.Locks form.Locks refl

told : (c : Column) → IsTold c
told (column.Verb v) = tt
told (column.Kind k) = tt
told column.Warehouses = (0, omega arith, refl)
told column.Customers = (1, omega arith, refl)
told column.Items = (2, omega arith, refl)
told column.Extents = (3, omega arith, refl)
told column.Layout = (4, omega arith, refl)
told column.Terminal = (5, omega arith, refl)
told column.Warehouse = (6, omega arith, refl)
told column.District = (7, omega arith, refl)
told column.CustomerWarehouse = (8, omega arith, refl)
told column.CustomerDistrict = (9, omega arith, refl)
told column.Customer = (13, omega arith, refl)
told column.Supply = (15, omega arith, refl)
told column.Item = (16, omega arith, refl)
told column.Quantity = (17, omega arith, refl)
told column.Amount = (11, omega arith, refl)
told column.Carrier = (18, omega arith, refl)
told column.Threshold = (22, omega arith, refl)
told column.Condition = (23, omega arith, refl)
told column.Moment = (21, omega arith, refl)
told column.Buyer = (10, omega arith, refl)
told column.LastName = (19, omega arith, refl)
told column.FirstName = (20, omega arith, refl)
told column.Stamp = (12, omega arith, refl)
told column.OrderLine = (14, omega arith, refl)
told column.Table = (24, omega arith, refl)

pub lists_are_whole : Lists_are_whole
lists_are_whole = record { each_form = listed; verb_first = first; each_column = told }
