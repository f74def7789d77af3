-- What each accepted change keeps, a program that ends keeps.
use Rattle.std.proofs.Common.{◌≡◌, subst, Option, Some, None}
use Rattle.oe_theory.specs.Machine.{Tx}
use Rattle.oe_theory.specs.Laws.{after, Fit, stops_here, fails_here, ends_here, goes_here}
use Rattle.oe_requests.specs.declared.requests.Request.{Request}
use Rattle.oe_requests.specs.declared.replies.Reply.{Reply}
use Rattle.oe_requests.specs.declared.refusals.Refusal.{Refusal}
use Rattle.oe_rows.proofs.KeyFacts.{warehouse_total, exact_warehouse, stock_total, exact_stock}
use Rattle.oe_model.specs.Keys.{warehouse_of_stock}
use Rattle.oe_model.specs.Rows.{Rows}
use Rattle.oe_model.specs.Changes.{Change, InsertHistory, InsertNewOrder, InsertOrder, InsertOrderLine, UpdateWarehouse}
use Rattle.oe_model.specs.Changes.{UpdateDistrict, UpdateCustomer, UpdateOrder, UpdateOrderLine, UpdateStock}
use Rattle.oe_model.specs.Changes.{DeleteNewOrder, rows_after}
use Rattle.oe_model.specs.Meets.{Accepts}
use Rattle.oe_model.specs.Conditions.{IsStocked}
use Rattle.oe_model.specs.Positions.{Position}
use Rattle.oe_model.specs.System.{system}
use Rattle.oe_model.proofs.PresenceFacts.{present_before, present_insert}
use Rattle.oe_model.proofs.EffectFacts.{made_by}
use Rattle.oe_model.proofs.StepFacts.{EndsSo}

module _ (P : Rows → Type 0) (kept : (c : Change) (r : Rows) → Accepts c r → P r → P (rows_after c r)) where
  after_kept : (c : Option Change) (r : Rows) → Fit system Accepts c r → P r → P (after system c r)
  after_kept None r fit h = h
  after_kept (Some c) r fit h = kept c r fit h

  pub ends_kept : (Only : Refusal → Type 0) (x : Tx Request) (p : Position) (r : Rows) (end : Option (Rows × Reply))
      (s : Rows) (y : Reply) → EndsSo Only x p r end → end ≡ Some (s, y) → P r → P s
  ends_kept Only x _ _ _ s y (stops_here p r e why z) is h = let no : ⊥ = cc in absurd no
  ends_kept Only x _ _ _ s y (fails_here p r e why a b) is h = let no : ⊥ = cc in absurd no
  ends_kept Only x _ _ _ s y (ends_here p r y' a b) is h = subst P (made_by r s y' y is) h
  ends_kept Only x _ _ _ s y (goes_here p r c q end a b fit rest) is h =
      ends_kept Only x q (after system c r) end s y rest is (after_kept c r fit h)

-- STOCK rows stay, and no warehouse or item comes
pub accepted_stocked : (c : Change) (r : Rows) → Accepts c r → IsStocked r → IsStocked (rows_after c r)
accepted_stocked (UpdateWarehouse k x) r a h =
    λ j w i. h j (present_before warehouse_total exact_warehouse r.warehouses k x (warehouse_of_stock j) a w) i
accepted_stocked (UpdateStock k x) r a h = λ j w i. present_insert stock_total exact_stock r.stocks k x j (h j w i)
accepted_stocked (InsertHistory k x) r a h = h
accepted_stocked (InsertNewOrder k x) r a h = h
accepted_stocked (InsertOrder k x) r a h = h
accepted_stocked (InsertOrderLine k x) r a h = h
accepted_stocked (UpdateDistrict k x) r a h = h
accepted_stocked (UpdateCustomer k x) r a h = h
accepted_stocked (UpdateOrder k x) r a h = h
accepted_stocked (UpdateOrderLine k x) r a h = h
accepted_stocked (DeleteNewOrder k) r a h = h
