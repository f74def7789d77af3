-- Where a line is parted.
use Rattle.std.proofs.Common.{◌≡◌, ℕ, zero, suc, ◌+◌, ◌-◌, ◌<◌, ◌≤◌, List, [], ◌∷◌, length, take, drop, get_or, Bool}
use Rattle.std.proofs.Common.{true, false, cond, Option, Some, None, sym, ap, ◌∙◌, refl, arith, take_all, map}
use Rattle.std.proofs.Common.{length-take, get_or-take, drop-drop, subst, ◌||◌, ◌==◌}
use Rattle.std.proofs.lemmas.Bool.Decides.{nat_tests}
use Rattle.std.specs.Prelude.{slice_get}
use Rattle.std.specs.Option.{option_map}
use Rattle.std.proofs.lemmas.Bool.{eq-eqb}
use Rattle.std.proofs.lemmas.List.{drop_more, take_rest, length-drop}
use Rattle.memchr.specs.Find.{Nowhere, NoneBefore, Passes, IsFirstByte, is_byte2, is_byte3}
use Rattle.oe_fields.specs.declared.fields.Format.{Format}
use Rattle.oe_fields.specs.declared.fields.Format.TheVariants.{Tabs, Commas}
use Rattle.oe_fields.specs.Parting.{separator, mark, held_behind, parts, before_first, parted_from, end_from, left_of}

-- a field that no separator ends
pub ended : (format : Format) (held : Bool) (s : List ℕ) → end_from format held s ≡ length s
    → parted_from format held s ≡ s ∷ []
ended format held [] e = refl
ended format held (b ∷ s) e =
    let next = held_behind format held b in
    (elim (parts format held b) as
    (λ t. cond t 0 (suc (end_from format next s)) ≡ suc (length s)
    → cond t ([] ∷ parted_from format false s) (before_first b (parted_from format next s)) ≡ (b ∷ s) ∷ []) [
      | true ↦ λ h. absurd (omega (arith, h))
      | false ↦ λ h. ap (before_first b) (ended format next s (omega (arith, h)))
    ]) e

-- a field that a separator ends
pub parted : (format : Format) (held : Bool) (s : List ℕ) → end_from format held s < length s
    → parted_from format held s
    ≡ take (end_from format held s) s ∷ parted_from format false (drop (suc (end_from format held s)) s)
parted format held [] h = absurd (omega (arith, h))
parted format held (b ∷ s) h =
    let next = held_behind format held b in
    (elim (parts format held b) as
    (λ t. cond t 0 (suc (end_from format next s)) < suc (length s)
    → cond t ([] ∷ parted_from format false s) (before_first b (parted_from format next s))
    ≡ take (cond t 0 (suc (end_from format next s))) (b ∷ s)
    ∷ parted_from format false (drop (suc (cond t 0 (suc (end_from format next s)))) (b ∷ s))) [
      | true ↦ λ h. refl
      | false ↦ λ h. ap (before_first b) (parted format next s (omega (arith, h)))
    ]) h

pub end_within : (format : Format) (held : Bool) (s : List ℕ) → end_from format held s ≤ length s
end_within format held [] = omega arith
end_within format held (b ∷ s) =
    let next = held_behind format held b in
    let more = end_within format next s in
    elim (parts format held b) as (λ t. cond t 0 (suc (end_from format next s)) ≤ suc (length s)) [
      | true ↦ omega arith
      | false ↦ omega (arith, more)
    ]

-- ---- bytes that are neither a separator nor a mark

plain_parts : (format : Format) (b : ℕ) → is_byte2 (separator format) (mark format) b ≡ false
    → (parts format false b ≡ false) × (held_behind format false b ≡ false)
plain_parts Tabs b h = grind (arith, nat_tests)
plain_parts Commas b h = grind (arith, nat_tests)

abbrev Plain : Format → List ℕ → ℕ → Type 0
Plain format s n = (k : ℕ) → k < n → is_byte2 (separator format) (mark format) (get_or s k 0) ≡ false

-- the field goes on behind them
goes_on : (format : Format) (s : List ℕ) (n : ℕ) → n ≤ length s → Plain format s n
    → end_from format false s ≡ n + end_from format false (drop n s)
goes_on format s zero l plain = omega arith
goes_on format [] (suc n) l plain = absurd (omega (arith, l))
goes_on format (b ∷ s) (suc n) l plain =
    let p = plain_parts format b (plain 0 (omega arith)) in
    let more = goes_on format s n (omega (arith, l)) (λ k h. plain (suc k) (omega (arith, h))) in
    rw (p.0, p.1) (omega (arith, more))

not_true : (b : Bool) → (b ≡ true → ⊥) → b ≡ false
not_true true h = absurd (h refl)
not_true false h = refl

plain_before : (format : Format) (a m : ℕ) (s : List ℕ) (n : ℕ) → a ≡ separator format → m ≡ mark format
    → Nowhere (Passes (is_byte2 a m) s) 0 n → Plain format s n
plain_before format a m s n i j none k h =
    ap (λ x. is_byte2 x (mark format) (get_or s k 0)) (sym i) ∙ ap (λ x. is_byte2 a x (get_or s k 0)) (sym j)
    ∙ not_true _ (none k (omega arith) h)

-- a separator
separates : (format : Format) (b : ℕ) → b ≡ separator format → parts format false b ≡ true
separates Tabs b e = eq-eqb b 9 e
separates Commas b e = eq-eqb b 44 e

or_twice : (p q : Bool) → p || q || q ≡ p || q
or_twice true q = refl
or_twice false true = refl
or_twice false false = refl

-- a search for three bytes of which two are one
pub of_three : (a m : ℕ) (s : List ℕ) (r : Option ℕ) → IsFirstByte (is_byte3 a m m) s r → IsFirstByte (is_byte2 a m) s r
of_three a m s r h = subst (λ test. IsFirstByte test s r) (λ i x. or_twice (x == a) (x == m) i) h

-- how far the field at the front goes on, where it goes on to a place and the bytes behind up to `end` have none of
-- both
pub none_near : (format : Format) (a m : ℕ) (s : List ℕ) (start most end : ℕ) → a ≡ separator format → m ≡ mark format
    → end_from format false s ≡ start + end_from format false (drop start s)
    → Nowhere (Passes (is_byte2 a m) (take most (drop start s))) 0 (length (take most (drop start s)))
    → start + most ≡ end → end ≤ length s → end_from format false s ≡ end + end_from format false (drop end s)
none_near format a m s start most end i j so_far none is h =
    let near = take most (drop start s) in
    let left = length-drop start s in
    let size = length-take most (drop start s) in
    let more = goes_on format (drop start s) most (omega (arith, h, is, left)) (λ k less.
    ap (is_byte2 (separator format) (mark format)) (sym (get_or-take most (drop start s) k 0 less))
    ∙ plain_before format a m near (length near) i j none k (omega (arith, less, h, is, left, size))) in
    let same = ap (end_from format false) (drop-drop most start s ∙ ap (λ n. drop n s) is) in
    omega (arith, so_far, more, same, is)

-- the same up to the first of both
pub first_near : (format : Format) (a m : ℕ) (s : List ℕ) (start most n : ℕ) → a ≡ separator format → m ≡ mark format
    → end_from format false s ≡ start + end_from format false (drop start s)
    → NoneBefore (Passes (is_byte2 a m) (take most (drop start s))) 0 (length (take most (drop start s))) n
    → end_from format false s ≡ (start + n) + end_from format false (drop (start + n) s)
first_near format a m s start most n i j so_far first =
    let near = take most (drop start s) in
    let size = length-take most (drop start s) in
    let more = goes_on format (drop start s) n (omega (arith, first.high, size)) (λ k h.
    ap (is_byte2 (separator format) (mark format))
    (sym (get_or-take most (drop start s) k 0 (omega (arith, h, first.high, size))))
    ∙ plain_before format a m near n i j first.before k h) in
    let same = ap (end_from format false) (drop-drop n start s) in
    omega (arith, so_far, more, same)

pub at_separator : (format : Format) (b : ℕ) (s : List ℕ) (n : ℕ) → n < length s → get_or s n 0 ≡ b
    → b ≡ separator format → n ≡ n + end_from format false (drop n s)
at_separator format b s n h e is =
    let here : end_from format false (drop n s) ≡ 0 =
    ap (end_from format false) (drop_more s n 0 h)
    ∙ ap (λ t. cond t 0 (suc (end_from format (held_behind format false (get_or s n 0)) (drop (n + 1) s))))
    (separates format (get_or s n 0) (e ∙ is)) in
    omega (arith, here)

-- ---- the fields that are left

pub next_left : {A : Type 0} (xs : List A) (n : ℕ) (x : A) (ys : List A) → x ∷ ys ≡ drop n xs
    → (ys ≡ drop (suc n) xs) × (Some x ≡ slice_get xs n)
next_left [] zero x ys e = absurd (cc)
next_left [] (suc n) x ys e = absurd (cc)
next_left (z ∷ xs) zero x ys e = (cc, cc)
next_left (z ∷ xs) (suc n) x ys e = next_left xs n x ys e

pub none_left : {A : Type 0} (xs : List A) (n : ℕ) → [] ≡ drop n xs → None ≡ slice_get xs n
none_left [] zero e = refl
none_left [] (suc n) e = refl
none_left (z ∷ xs) zero e = absurd (cc)
none_left (z ∷ xs) (suc n) e = none_left xs n e

-- the field at the front of these bytes, and what is left behind it
pub record Taken (format : Format) (line : List ℕ) (place : ℕ) (field : List ℕ) (left : Option (List ℕ)) : Type 0 where
  pub value : Some field ≡ slice_get (parted_from format false line) place
  pub from : left_of format left ≡ drop (place + 1) (parted_from format false line)

taken_as : (format : Format) (line : List ℕ) (place : ℕ) (field : List ℕ) (left : Option (List ℕ))
    → field ∷ left_of format left ≡ drop place (parted_from format false line) → Taken format line place field left
taken_as format line place field left e =
    let n = next_left (parted_from format false line) place field (left_of format left) e in
    let next : suc place ≡ place + 1 = omega arith in
    record {
      value = n.1;
      from = n.0 ∙ ap (λ p. drop p (parted_from format false line)) next;
    }

pub taken_last : (format : Format) (line : List ℕ) (place end : ℕ) (rest : List ℕ)
    → parted_from format false rest ≡ drop place (parted_from format false line)
    → end ≡ end_from format false rest → length rest ≤ end
    → Taken format line place (take end rest) None
taken_last format line place end rest e is h =
    let most = end_within format false rest in
    let all : end_from format false rest ≡ length rest = omega (arith, most, is, h) in
    let whole : take end rest ≡ rest = take_all end rest h in
    taken_as format line place (take end rest) None
    (ap (λ f. f ∷ []) whole ∙ sym (ended format false rest all) ∙ e)

pub taken_more : (format : Format) (line : List ℕ) (place end : ℕ) (rest : List ℕ)
    → parted_from format false rest ≡ drop place (parted_from format false line)
    → end ≡ end_from format false rest → end < length rest
    → Taken format line place (take end rest) (Some (take (length rest - (end + 1)) (drop (end + 1) rest)))
taken_more format line place end rest e is h =
    let inner : end_from format false rest < length rest = omega (arith, is, h) in
    let next : suc (end_from format false rest) ≡ end + 1 = omega (arith, is) in
    taken_as format line place (take end rest) (Some (take (length rest - (end + 1)) (drop (end + 1) rest)))
    (ap (λ r. take end rest ∷ parted_from format false r) (take_rest rest (end + 1))
    ∙ ap (λ n. take n rest ∷ parted_from format false (drop (end + 1) rest)) is
    ∙ ap (λ n. take (end_from format false rest) rest ∷ parted_from format false (drop n rest)) (sym next)
    ∙ sym (parted format false rest inner) ∙ e)

pub rest_short : (place end : ℕ) (rest : List ℕ) (n : ℕ) → place + length rest ≤ n → end < length rest
    → (place + 1) + length (take (length rest - (end + 1)) (drop (end + 1) rest)) ≤ n
rest_short place end rest n h l =
    let same = ap length (take_rest rest (end + 1)) in
    omega (arith, same, length-drop (end + 1) rest, h, l)

-- ---- fields by their places

pub none_behind : {A : Type 0} (xs : List A) (n m : ℕ) → n ≤ m → None ≡ slice_get xs n → slice_get xs m ≡ None
none_behind [] n m h e = refl
none_behind (x ∷ xs) zero m h e = absurd (cc)
none_behind (x ∷ xs) (suc n) zero h e = absurd (omega (arith, h))
none_behind (x ∷ xs) (suc n) (suc m) h e = none_behind xs n m (omega (arith, h)) e

pub at_mapped : {A B : Type 0} (f : A → B) (xs : List A) (n : ℕ)
    → slice_get (map f xs) n ≡ option_map f (slice_get xs n)
at_mapped f [] n = refl
at_mapped f (x ∷ xs) zero = refl
at_mapped f (x ∷ xs) (suc n) = at_mapped f xs n

-- none at a place among those as they stand
pub none_at : {A B : Type 0} (f : A → B) (xs : List A) (n : ℕ) → slice_get xs n ≡ None → None ≡ slice_get (map f xs) n
none_at f xs n e = sym (at_mapped f xs n ∙ ap (option_map f) e)
