-- The first warehouse that isn't there.
use Rattle.std.proofs.Common.{◌≡◌, ℕ, Bool, true, false, cond, List, [], ◌∷◌, Some, None, refl, sym}
use Rattle.std.specs.Prelude.{is_some}
use Rattle.oe_rows.specs.declared.keys.Key.TheVariants as key
use Rattle.oe_requests.specs.declared.refusals.Refusal.{Refusal}
use Rattle.oe_requests.specs.declared.refusals.Refusal.TheVariants.{NoSuchRow}
use Rattle.oe_model.specs.Rows.{Rows, row_at}
use Rattle.oe_model.specs.Requests.{warehouse_no, first_absent}

-- a warehouse that isn't there is the first
pub first_of : (w : ℕ) (ws : List ℕ) (r : Rows) (e : Refusal) → Some e ≡ first_absent (w ∷ []) r
    → first_absent (w ∷ ws) r ≡ Some e
first_of w ws r e h = go (is_some (row_at r (key.Warehouse (warehouse_no w)))) h
  where
    go : (b : Bool) → Some e ≡ cond b None (Some (NoSuchRow (key.Warehouse (warehouse_no w))))
        → cond b (first_absent ws r) (Some (NoSuchRow (key.Warehouse (warehouse_no w)))) ≡ Some e
    go true g = let no : ⊥ = cc in absurd no
    go false g = sym g

-- after one that is there the first is that of the others
pub first_after : (w : ℕ) (ws : List ℕ) (r : Rows) → None ≡ first_absent (w ∷ []) r
    → first_absent (w ∷ ws) r ≡ first_absent ws r
first_after w ws r h = go (is_some (row_at r (key.Warehouse (warehouse_no w)))) h
  where
    go : (b : Bool) → None ≡ cond b None (Some (NoSuchRow (key.Warehouse (warehouse_no w))))
        → cond b (first_absent ws r) (Some (NoSuchRow (key.Warehouse (warehouse_no w)))) ≡ first_absent ws r
    go true g = refl
    go false g = let no : ⊥ = cc in absurd no
