-- A change of a row that is there gives no key a new place.
use Rattle.std.proofs.Common.{subst, sym, inl, inr}
use Rattle.oe_rows.specs.declared.keys.Key.{Key}
use Rattle.oe_store.specs.Places.{Places, HasPlace, SamePlaces, AddsPlace}

pub adds_own : (old new : Places) (k : Key) → SamePlaces old new → HasPlace old k → AddsPlace old new k
adds_own old new k same had q = (
  λ h. inl ((same q).0 h),
  λ h. elim h
      [ inl g ↦ (same q).1 g | inr e ↦ (same q).1 (subst (λ (j : Key). HasPlace old j) (sym e) had) ],
)
