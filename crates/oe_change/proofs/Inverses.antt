-- The values that stand for changes and records of the model are found again from these.
use Rattle.std.proofs.Common.{◌≡◌, refl, sym, ap, ◌∙◌, Option, None, Some}
use Rattle.oe_model.specs.Changes as model
use Rattle.oe_change.specs.Changes.{change_of}
use Rattle.oe_layout.specs.Records.{record_of_own}
use Rattle.oe_change.specs.Laws.{Changes_are_told_apart, Records_are_told_apart}
use Rattle.oe_change.specs.declared.changes.Change.{Change}
use Rattle.oe_change.specs.declared.changes.Change.TheVariants as change
use Rattle.oe_layout.specs.declared.records.OwnRecord.{OwnRecord}
use Rattle.oe_layout.specs.declared.records.OwnRecord.TheVariants as own

abbrev change_back : model.Change → Change
change_back (model.InsertHistory k x) = change.InsertHistory k x
change_back (model.InsertNewOrder k x) = change.InsertNewOrder k
change_back (model.InsertOrder k x) = change.InsertOrder k x
change_back (model.InsertOrderLine k x) = change.InsertOrderLine k x
change_back (model.UpdateWarehouse k x) = change.UpdateWarehouse k x
change_back (model.UpdateDistrict k x) = change.UpdateDistrict k x
change_back (model.UpdateCustomer k x) = change.UpdateCustomer k x
change_back (model.UpdateOrder k x) = change.UpdateOrder k x
change_back (model.UpdateOrderLine k x) = change.UpdateOrderLine k x
change_back (model.UpdateStock k x) = change.UpdateStock k x
change_back (model.DeleteNewOrder k) = change.DeleteNewOrder k

change_back-of : (c : Change) → change_back (change_of c) ≡ c
change_back-of (change.InsertHistory k x) = refl
change_back-of (change.InsertNewOrder k) = refl
change_back-of (change.InsertOrder k x) = refl
change_back-of (change.InsertOrderLine k x) = refl
change_back-of (change.UpdateWarehouse k x) = refl
change_back-of (change.UpdateDistrict k x) = refl
change_back-of (change.UpdateCustomer k x) = refl
change_back-of (change.UpdateOrder k x) = refl
change_back-of (change.UpdateOrderLine k x) = refl
change_back-of (change.UpdateStock k x) = refl
change_back-of (change.DeleteNewOrder k) = refl

pub changes_are_told_apart : Changes_are_told_apart
changes_are_told_apart c d e = sym (change_back-of c) ∙ ap change_back e ∙ change_back-of d

-- what a record has of the row before an update is found where it is there, or else another record is taken
abbrev or_else : {A B : Type 0} → (A → B) → B → Option A → B
or_else f b None = b
or_else f b (Some x) = f x

abbrev record_back : OwnRecord → model.Record → OwnRecord
record_back d (model.InsertedHistory k v) = own.InsertedHistory k
record_back d (model.InsertedNewOrder k v) = own.InsertedNewOrder k
record_back d (model.InsertedOrder k v) = own.InsertedOrder k
record_back d (model.InsertedOrderLine k v) = own.InsertedOrderLine k
record_back d (model.UpdatedWarehouse k v) = or_else (own.UpdatedWarehouse k) d v
record_back d (model.UpdatedDistrict k v) = or_else (own.UpdatedDistrict k) d v
record_back d (model.UpdatedCustomer k v) = or_else (own.UpdatedCustomer k) d v
record_back d (model.UpdatedOrder k v) = or_else (own.UpdatedOrder k) d v
record_back d (model.UpdatedOrderLine k v) = or_else (own.UpdatedOrderLine k) d v
record_back d (model.UpdatedStock k v) = or_else (own.UpdatedStock k) d v
record_back d (model.DeletedNewOrder k v) = own.DeletedNewOrder k
record_back d (model.ChangedWarehouse k v) = or_else (own.ChangedWarehouse k) d v
record_back d (model.ChangedDistrict k v) = or_else (own.ChangedDistrict k) d v
record_back d (model.ChangedCustomer k v) = or_else (own.ChangedCustomer k) d v
record_back d (model.ChangedOrder k v) = or_else (own.ChangedOrder k) d v
record_back d (model.ChangedOrderLine k v) = or_else (own.ChangedOrderLine k) d v
record_back d (model.ChangedStock k v) = or_else (own.ChangedStock k) d v

record_back-of : (d b : OwnRecord) → record_back d (record_of_own b) ≡ b
record_back-of d (own.InsertedHistory k) = refl
record_back-of d (own.InsertedNewOrder k) = refl
record_back-of d (own.InsertedOrder k) = refl
record_back-of d (own.InsertedOrderLine k) = refl
record_back-of d (own.UpdatedWarehouse k x) = refl
record_back-of d (own.UpdatedDistrict k x) = refl
record_back-of d (own.UpdatedCustomer k x) = refl
record_back-of d (own.UpdatedOrder k x) = refl
record_back-of d (own.UpdatedOrderLine k x) = refl
record_back-of d (own.UpdatedStock k x) = refl
record_back-of d (own.DeletedNewOrder k) = refl
record_back-of d (own.ChangedWarehouse k x) = refl
record_back-of d (own.ChangedDistrict k x) = refl
record_back-of d (own.ChangedCustomer k x) = refl
record_back-of d (own.ChangedOrder k x) = refl
record_back-of d (own.ChangedOrderLine k x) = refl
record_back-of d (own.ChangedStock k x) = refl

pub records_are_told_apart : Records_are_told_apart
records_are_told_apart b d e = sym (record_back-of b b) ∙ ap (record_back b) e ∙ record_back-of b d
