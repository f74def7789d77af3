-- A list without its first n elements: what is written, put or taken out there is so in the whole list, n elements
-- later.
use Rattle.std.proofs.Common.{◌≡◌, refl, ap, ℕ, suc, zero, ◌<◌, ◌≤◌, ◌+◌, List, [], ◌∷◌, ◌++◌, length, get_or, set}
use Rattle.std.proofs.Common.{take, drop, arith}
use Rattle.std.specs.List.{insert, remove}

module _ {A : Type 0} where
  pub drop-set : (n i j : ℕ) (xs : List A) (x : A) → j ≡ n + i → drop n (set xs j x) ≡ set (drop n xs) i x
  drop-set zero i j xs x is = let same : j ≡ i = omega (arith, is) in ap (λ k. set xs k x) same
  drop-set (suc n) i zero xs x is = absurd (omega (arith, is))
  drop-set (suc n) i (suc j) [] x is = refl
  drop-set (suc n) i (suc j) (y ∷ xs) x is = drop-set n i j xs x (omega (arith, is))

  pub drop-insert : (n i j : ℕ) (xs : List A) (x : A) → j ≡ n + i → n ≤ length xs
      → drop n (insert xs j x) ≡ insert (drop n xs) i x
  drop-insert zero i j xs x is within = let same : j ≡ i = omega (arith, is) in ap (λ k. insert xs k x) same
  drop-insert (suc n) i zero xs x is within = absurd (omega (arith, is))
  drop-insert (suc n) i (suc j) [] x is within = absurd (omega (arith, within))
  drop-insert (suc n) i (suc j) (y ∷ xs) x is within = drop-insert n i j xs x (omega (arith, is))
      (omega (arith, within))

  pub drop-remove : (n i j : ℕ) (xs : List A) → j ≡ n + i → j < length xs → drop n (remove xs j) ≡ remove (drop n xs) i
  drop-remove zero i j xs is within = let same : j ≡ i = omega (arith, is) in ap (λ k. remove xs k) same
  drop-remove (suc n) i zero xs is within = absurd (omega (arith, is))
  drop-remove (suc n) i (suc j) [] is within = absurd (omega (arith, within))
  drop-remove (suc n) i (suc j) (y ∷ xs) is within = drop-remove n i j xs (omega (arith, is)) (omega (arith, within))

  pub drop-next : (n m : ℕ) (xs : List A) → m ≡ n + 1 → n < length xs → drop m xs ≡ remove (drop n xs) 0
  drop-next n m [] is within = absurd (omega (arith, within))
  drop-next zero m (y ∷ xs) is within = let one : m ≡ 1 = omega (arith, is) in ap (λ k. drop k (y ∷ xs)) one
  drop-next (suc n) zero (y ∷ xs) is within = absurd (omega (arith, is))
  drop-next (suc n) (suc m) (y ∷ xs) is within = drop-next n m xs (omega (arith, is)) (omega (arith, within))

  pub get_or-drop : (n i j : ℕ) (xs : List A) (d : A) → j ≡ n + i → j < length xs
      → get_or xs j d ≡ get_or (drop n xs) i d
  get_or-drop zero i j xs d is within = let same : j ≡ i = omega (arith, is) in ap (λ k. get_or xs k d) same
  get_or-drop (suc n) i zero xs d is within = absurd (omega (arith, is))
  get_or-drop (suc n) i (suc j) [] d is within = absurd (omega (arith, within))
  get_or-drop (suc n) i (suc j) (y ∷ xs) d is within = get_or-drop n i j xs d (omega (arith, is))
      (omega (arith, within))

  pub drop-within : (n i : ℕ) (xs : List A) → n ≤ length xs → i < length (drop n xs) → n + i < length xs
  drop-within zero i xs le h = omega (arith, h)
  drop-within (suc n) i [] le h = absurd (omega (arith, le))
  drop-within (suc n) i (y ∷ xs) le h = let rest = drop-within n i xs (omega (arith, le)) h in omega (arith, rest)

  -- how many are left
  pub drop-long : (n k : ℕ) (xs : List A) → k + n ≡ length xs → length (drop n xs) ≡ k
  drop-long zero k xs is = omega (arith, is)
  drop-long (suc n) k [] is = absurd (omega (arith, is))
  drop-long (suc n) k (y ∷ xs) is = drop-long n k xs (omega (arith, is))

  take-before : (k : ℕ) (a b : List A) → length a ≡ k → take k (a ++ b) ≡ a
  take-before zero [] b is = refl
  take-before zero (y ∷ a) b is = absurd (omega (arith, is))
  take-before (suc k) [] b is = absurd (omega (arith, is))
  take-before (suc k) (y ∷ a) b is = ap (λ t. y ∷ t) (take-before k a b (omega (arith, is)))

  -- the list is turned until the first n stand last, and those are cut off
  pub turned : (n k : ℕ) (xs : List A) → k + n ≡ length xs → take k (drop n xs ++ take n xs) ≡ drop n xs
  turned n k xs is = take-before k (drop n xs) (take n xs) (drop-long n k xs is)
