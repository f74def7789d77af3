-- How strings are packed into extents.
use Rattle.std.proofs.Common.{◌≡◌, ℕ, suc, ◌-◌, ◌<◌, ◌≤◌, Bool, true, false, cond, List, [], ◌∷◌, ◌++◌, length, drop}
use Rattle.std.proofs.Common.{get_or, refl, sym, ap, ◌∙◌, arith}
use Rattle.std.specs.Prelude.{nat_le}
use Rattle.std.proofs.lemmas.Bool.{leb-true, le-leb, ne_eqb}
use Rattle.oe_extent.specs.declared.extents.Address.{Address}
use Rattle.oe_extent.specs.Strings.{bytes_of_strings}
use Rattle.oe_extent.specs.Free.{FreeExtents, with_free_at}
use Rattle.oe_extent.specs.Extents.{Contents, numbers_of, newest_strings, rest_of, end_of, with_string, without_newest}
use Rattle.oe_extent.specs.Extents.{LosesString, LosesExtent}
use Rattle.oe_extent.proofs.PackedFacts.{length-joined}
use Rattle.oe_extent.specs.Ring.{Addressed, fill_of, lengths_of, behind, pool_without_newest}
use Rattle.oe_extent.specs.Kept.{addressed_in, addressed_of, Opens, FillsUp, ArePacked}

pub not_le : (l r : ℕ) → r < l → nat_le l r ≡ false
not_le l r h = go (nat_le l r) refl
  where
    go : (b : Bool) → nat_le l r ≡ b → b ≡ false
    go true e = absurd (let le = leb-true l r e in omega (arith, le, h))
    go false e = refl

abbrev step : ℕ → ℕ × ℕ → ℕ × ℕ
step l f = cond (nat_le l f.1) (f.0, f.1 - l) (suc f.0, 4096 - l)

step-new : (l k r : ℕ) (f : ℕ × ℕ) → f ≡ (k, r) → r < l → step l f ≡ (suc k, 4096 - l)
step-new l k r f e h = ap (step l) e ∙ rw (not_le l r h) refl

step-here : (l k r : ℕ) (f : ℕ × ℕ) → f ≡ (k, r) → l ≤ r → step l f ≡ (k, r - l)
step-here l k r f e h = ap (step l) e ∙ rw (le-leb l r h) refl

length-one : (x : List ℕ) → length (bytes_of_strings (x ∷ [])) ≡ length x
unfolding bytes_of_strings
length-one x = let none : length (bytes_of_strings []) ≡ 0 = refl in omega (arith, length-joined x [], none)

-- the strings of one more extent
filled_on : (n : ℕ) (x : List ℕ) (xs : List (List ℕ)) (ps : List Addressed) (k r : ℕ) → fill_of (lengths_of ps) ≡ (k, r)
    → Opens r x xs
    → length (bytes_of_strings (x ∷ xs)) ≤ 4096 → fill_of (lengths_of (addressed_in n (x ∷ xs) ++ ps))
    ≡ (suc k, 4096 - length (bytes_of_strings (x ∷ xs)))
filled_on n x [] ps k r e o small = step-new (length x) k r (fill_of (lengths_of ps)) e o
    ∙ ap (λ (l : ℕ). (suc k, 4096 - l)) (sym (length-one x))
filled_on n x (y ∷ ys) ps k r e o small =
    let size = length-joined x (y ∷ ys) in
    let rest = filled_on n y ys ps k r e o (omega (arith, small, size)) in
    step-here (length x) (suc k) (4096 - length (bytes_of_strings (y ∷ ys)))
    (fill_of (lengths_of (addressed_in n (y ∷ ys) ++ ps)))
    rest (omega (arith, small, size))
    ∙ ap (λ (l : ℕ). (suc k, l)) (omega (arith, small, size))

filled_extent : (n : ℕ) (xs : List (List ℕ)) (ps : List Addressed) (k r : ℕ) → fill_of (lengths_of ps) ≡ (k, r)
    → FillsUp r xs
    → fill_of (lengths_of (addressed_in n xs ++ ps)) ≡ (suc k, 4096 - length (bytes_of_strings xs))
filled_extent n [] ps k r e f = absurd f
filled_extent n (x ∷ xs) ps k r e f = filled_on n x xs ps k r e f.0 f.1

-- as many extents as strings fill in order
pub filled_packed : (ss : List Contents) → ArePacked ss
    → fill_of (lengths_of (addressed_of ss)) ≡ (length ss, rest_of ss)
filled_packed [] h = refl
filled_packed (s ∷ ss) h =
    filled_extent s.number s.strings (addressed_of ss) (length ss) (rest_of ss) (filled_packed ss h.1) h.0

-- the next string of the newest extent goes behind the newest string
pub end_is : (ss : List Contents) → ArePacked ss → end_of ss ≡ behind (addressed_of ss)
end_is [] h = refl
end_is (s ∷ ss) h = go s.strings h.0
  where
    go : (xs : List (List ℕ)) → FillsUp (rest_of ss) xs
        → ◌≡◌ {A = Address} (record { extent = s.number; offset = length (bytes_of_strings xs) })
        (behind (addressed_in s.number xs ++ addressed_of ss))
    go [] f = absurd f
    go (x ∷ xs) f = λ i. record { extent = s.number; offset = length-joined x xs i }

-- ---- a string more

pub record More (ss ts : List Contents) (s : Addressed) : Type 0 where
  pub packed : ArePacked ts
  pub strings : addressed_of ts ≡ s ∷ addressed_of ss
  pub numbers : numbers_of ts ≡ numbers_of ss
  pub size : length ts ≡ length ss

fills-more : (r : ℕ) (x : List ℕ) (xs : List (List ℕ)) → FillsUp r xs → length x ≤ 4096 - length (bytes_of_strings xs)
    → 0 < length x → FillsUp r (x ∷ xs)
fills-more r x [] f h some = absurd f
fills-more r x (y ∷ ys) f h some = (f.0, omega (arith, h, f.1, length-joined x (y ∷ ys)), (some, f.2))

pub more_here : (x : List ℕ) (ss : List Contents) (a : Address) → ArePacked ss → length x ≤ rest_of ss → 0 < length x
    → a ≡ end_of ss
    → More ss (with_string x ss) (record { address = a; bytes = x })
more_here x [] a h room some e = absurd (omega (arith, room, some))
more_here x (s ∷ ss) a h room some e = record {
  packed = (fills-more (rest_of ss) x s.strings h.0 room some, h.1);
  strings = rw e refl;
  numbers = refl;
  size = refl;
}

pub more_new : (x : List ℕ) (ss : List Contents) (n : ℕ) → ArePacked ss → rest_of ss < length x → length x ≤ 4096
    → ArePacked (record { number = n; strings = x ∷ [] } ∷ ss)
    × (addressed_of (record { number = n; strings = x ∷ [] } ∷ ss)
    ≡ record { address = record { extent = n; offset = 0 }; bytes = x } ∷ addressed_of ss)
unfolding bytes_of_strings
more_new x ss n h full small = (((full, omega (arith, small, length-one x), (omega (arith, full), tt)), h), refl)

-- ---- a string less

pub some_newest : (ss : List Contents) → ArePacked ss → 0 < length (addressed_of ss) → 0 < length (newest_strings ss)
some_newest [] h some = absurd (omega arith)
some_newest (s ∷ ss) h some = go s.strings h.0
  where
    go : (xs : List (List ℕ)) → FillsUp (rest_of ss) xs → 0 < length xs
    go [] f = absurd f
    go (x ∷ xs) f = omega arith

-- where there are no strings there is no extent
pub no_extents : (ss : List Contents) → ArePacked ss → addressed_of ss ≡ [] → ss ≡ []
no_extents [] h none = refl
no_extents (s ∷ ss) h none = absurd (go s.strings h.0 none)
  where
    go : (xs : List (List ℕ)) → FillsUp (rest_of ss) xs → addressed_in s.number xs ++ addressed_of ss ≡ [] → ⊥
    go [] f none = f
    go (x ∷ xs) f none = let size = ap length none in omega (arith, size)

pub record Less (ss ts : List Contents) : Type 0 where
  pub packed : ArePacked ts
  pub strings : addressed_of ts ≡ drop 1 (addressed_of ss)

less_of : (n r : ℕ) (xs : List (List ℕ)) (ps : List Addressed) → FillsUp r xs → 1 < length xs
    → FillsUp r (drop 1 xs) × (addressed_in n (drop 1 xs) ++ ps ≡ drop 1 (addressed_in n xs ++ ps))
less_of n r [] ps f h = absurd f
less_of n r (x ∷ []) ps f h = absurd (omega arith)
less_of n r (x ∷ y ∷ ys) ps f h = ((f.0, omega (arith, f.1, length-joined x (y ∷ ys)), f.2.1), refl)

less_without : (ss : List Contents) → ArePacked ss → 1 < length (newest_strings ss)
    → Less ss (without_newest ss) × (numbers_of (without_newest ss) ≡ numbers_of ss)
    × (length (without_newest ss) ≡ length ss)
less_without [] h some = absurd (omega arith)
less_without (s ∷ ss) h some =
    let l = less_of s.number (rest_of ss) s.strings (addressed_of ss) h.0 some in
    (record { packed = (l.0, h.1); strings = l.1 }, refl, refl)

pub less_here : (ss ts : List Contents) → ArePacked ss → LosesString ss ts
    → Less ss ts × (numbers_of ts ≡ numbers_of ss) × (length ts ≡ length ss)
less_here ss ts h l = rw l.left (less_without ss h l.several)

one_of : (n : ℕ) (xs : List (List ℕ)) (ps : List Addressed) → length xs ≡ 1 → ps ≡ drop 1 (addressed_in n xs ++ ps)
one_of n [] ps h = absurd (omega arith)
one_of n (x ∷ []) ps h = refl
one_of n (x ∷ y ∷ ys) ps h = absurd (omega arith)

less_extent : (ss : List Contents) → ArePacked ss → length (newest_strings ss) ≡ 1
    → Less ss (drop 1 ss) × (length ss ≡ suc (length (drop 1 ss)))
less_extent [] h one = absurd (omega arith)
less_extent (s ∷ ss) h one = (record { packed = h.1; strings = one_of s.number s.strings (addressed_of ss) one }, refl)

pub less_own : (ss ts : List Contents) (e : ℕ) → ArePacked ss → length (newest_strings ss) ≡ 1 → LosesExtent ss ts e
    → Less ss ts × (length ss ≡ suc (length ts))
less_own ss ts e h one l = rw l.left (less_extent ss h one)

-- the string before others of its extent is not at the front
pub newest_kept : (ss : List Contents) (p : FreeExtents) → ArePacked ss → 1 < length (newest_strings ss)
    → pool_without_newest (addressed_of ss) p ≡ p
newest_kept [] p h some = absurd (omega arith)
newest_kept (s ∷ ss) p h some = go s.strings h.0 some
  where
    go : (xs : List (List ℕ)) → FillsUp (rest_of ss) xs → 1 < length xs
        → pool_without_newest (addressed_in s.number xs ++ addressed_of ss) p ≡ p
    go [] f some = absurd f
    go (x ∷ []) f some = absurd (omega arith)
    go (x ∷ y ∷ ys) f some =
        ap (λ (b : Bool). cond b (with_free_at p s.number) p)
        (ne_eqb (length (bytes_of_strings (y ∷ ys))) 0 (λ e. omega (arith, e, length-joined y ys, f.2.1.0)))

-- a string alone in its extent is at the front
pub own_freed : (ss ts : List Contents) (e : ℕ) (p : FreeExtents) → length (newest_strings ss) ≡ 1 → LosesExtent ss ts e
    → pool_without_newest (addressed_of ss) p ≡ with_free_at p e
unfolding bytes_of_strings
own_freed [] ts e p one l = absurd (omega (arith, one))
own_freed (s ∷ ss) ts e p one l = go s.strings one ∙ ap (with_free_at p) (ap (λ (ns : List ℕ). get_or ns 0 0) l.numbers)
  where
    go : (xs : List (List ℕ)) → length xs ≡ 1
        → pool_without_newest (addressed_in s.number xs ++ addressed_of ss) p ≡ with_free_at p s.number
    go [] one = absurd (omega (arith, one))
    go (x ∷ []) one = refl
    go (x ∷ y ∷ ys) one = absurd (omega (arith, one))
