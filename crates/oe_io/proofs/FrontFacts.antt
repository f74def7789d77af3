-- The texts of a list's elements from the front.
use Rattle.std.proofs.Common.{◌≡◌, ℕ, ◌+◌, ◌<◌, ◌≤◌, sym, ◌∙◌, ap, List, [], ◌∷◌, ◌++◌, length, get_or, take, drop}
use Rattle.std.specs.List.{flat_map}
use Rattle.std.proofs.lemmas.List.{append-nil, take_more, take-append-drop, take_all}
use Rattle.std.proofs.lemmas.List.Concat.{flat_map-append}

module _ {X : Type 0} (f : X → List ℕ) (xs : List X) where
  -- one element more
  pub front_more : (i : ℕ) (x : X) → x ≡ get_or xs i x → i < length xs
      → flat_map f (take i xs) ++ f x ≡ flat_map f (take (i + 1) xs)
  front_more i x is within =
      sym (ap (flat_map f) (take_more xs i x within) ∙ flat_map-append f (take i xs) (get_or xs i x ∷ [])
      ∙ ap (λ t. flat_map f (take i xs) ++ t) (append-nil (f (get_or xs i x)) ∙ ap f (sym is)))

  pub front_next : (i : ℕ) (d : X) → i < length xs
      → flat_map f (take i xs) ++ f (get_or xs i d) ≡ flat_map f (take (i + 1) xs)
  front_next i d within =
      sym (ap (flat_map f) (take_more xs i d within) ∙ flat_map-append f (take i xs) (get_or xs i d ∷ [])
      ∙ ap (λ t. flat_map f (take i xs) ++ t) (append-nil (f (get_or xs i d))))

  pub front_and_rest : (i : ℕ) → flat_map f (take i xs) ++ flat_map f (drop i xs) ≡ flat_map f xs
  front_and_rest i = sym (flat_map-append f (take i xs) (drop i xs)) ∙ ap (flat_map f) (take-append-drop i xs)

  pub front_all : (n : ℕ) → length xs ≤ n → flat_map f (take n xs) ≡ flat_map f xs
  front_all n l = ap (flat_map f) (take_all n xs l)
