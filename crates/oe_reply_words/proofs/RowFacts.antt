-- Whether one of several does, one after another.
use Rattle.std.proofs.Common.{◌≡◌, Bool, true, List, ◌∷◌, refl}
use Rattle.std.specs.List.{list_any}

module _ {A : Type 0} (p : A → Bool) where
  pub any_here : (xs rest : List A) (x : A) → xs ≡ x ∷ rest → p x ≡ true → list_any p xs ≡ true
  any_here xs rest x e h = rw (e, h) refl
