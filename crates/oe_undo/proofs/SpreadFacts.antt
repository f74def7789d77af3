-- Places with empty ones behind them.
use Rattle.std.proofs.Common.{◌≡◌, refl, ◌∙◌, ap, ℕ, zero, suc, ◌+◌, ◌-◌, ◌≤◌, List, [], ◌∷◌, ◌++◌, length, replicate}
use Rattle.std.proofs.Common.{arith, Option, None}
use Rattle.std.specs.Prelude.{slice_get}
use Rattle.std.proofs.lemmas.List.{append-nil, length-append, length-replicate}
use Rattle.oe_undo.specs.Shelf.{spread, content_in}

module _ {X : Type 0} where
  pub spread_length : (n : ℕ) (xs : List (Option X)) → length (spread n xs) ≡ length xs + (n - length xs)
  spread_length n xs = length-append xs (replicate (n - length xs) None)
      ∙ ap (λ m. length xs + m) (length-replicate (n - length xs) None)

  pub length-spread : (n : ℕ) (xs : List (Option X)) → length xs ≤ n → length (spread n xs) ≡ n
  length-spread n xs h = spread_length n xs ∙ omega (arith, h)

  -- what is in one
  pub padded : (k i : ℕ) (xs : List (Option X)) → content_in (slice_get (xs ++ replicate k None) i) ≡ content_in
      (slice_get xs i)
  padded zero i [] = refl
  padded (suc k) zero [] = refl
  padded (suc k) (suc i) [] = padded k i []
  padded k zero (x ∷ xs) = refl
  padded k (suc i) (x ∷ xs) = padded k i xs

  pub content-spread : (n i : ℕ) (xs : List (Option X))
      → content_in (slice_get (spread n xs) i) ≡ content_in (slice_get xs i)
  content-spread n i xs = padded (n - length xs) i xs

  -- enough are there already
  pub spread-enough : (n : ℕ) (xs : List (Option X)) → n ≤ length xs → spread n xs ≡ xs
  spread-enough n xs h =
      let none : n - length xs ≡ 0 = omega (arith, h) in
      ap (λ k. xs ++ replicate k None) none ∙ append-nil xs
