-- An amount of digits, a point and two decimals, read without a search for its field's end.
use Rattle.std.proofs.Common.{◌≡◌, ◌≢◌, ℕ, ◌+◌, ◌-◌, ◌*◌, ◌^◌, ◌<◌, ◌≤◌, List, [], ◌∷◌, ◌++◌, length}
use Rattle.std.proofs.Common.{Bool, true, false, cond}
use Rattle.std.proofs.Common.{Option, Some, None, eqb, ◌&&◌, sym, ap, ◌∙◌, refl, arith}
use Rattle.std.specs.Prelude.{ℤ, pos, codes, ◌==◌, ◌||◌}
use Rattle.std.specs.Option.{IfSome}
use Rattle.std.specs.Char.{is_ascii_digit}
use Rattle.std.proofs.lemmas.Bool.Decides.{nat_tests}
use Rattle.std.proofs.lemmas.Bool.{lt-ltb, le-leb, eqb-true}
use Rattle.oe_fields.specs.declared.fields.Format.{Format}
use Rattle.oe_fields.specs.declared.fields.Format.TheVariants.{Tabs, Commas}
use Rattle.oe_fields.specs.Front.{BeginsWithAmount}
use Rattle.oe_fields.specs.Parting.{held_behind, parts, before_first, parted_from, left_of}
use Rattle.oe_fields.specs.Spelling.{digits_of, behind_digits, begins_with_digit, sum_of_digits, whole_of}
use Rattle.oe_fields.specs.Spelling.{within_most, is_word, cents_of, sign_of, amount_of, two_decimals_of}
use Rattle.oe_fields.specs.Spelling.{number_of, quantity_of}
use Rattle.oe_fields.specs.Spelling.{◌>>=◌}
use Rattle.oe_fields.proofs.FrontFacts.{digits_whole, digit_plain, ended_by, parted_end, behind_short, was_read}
use Rattle.oe_fields.proofs.FrontFacts.{begins, digits_text}

-- ---- bytes that part no fields

-- these part no fields, and hold nothing
abbrev ArePlain : Format → List ℕ → Type 0
ArePlain format [] = Unit {0}
ArePlain format (b ∷ s) = ((parts format false b ≡ false) × (held_behind format false b ≡ false)) × ArePlain format s

-- they go before the first field of what follows
plain_on : (format : Format) (f t g : List ℕ) (rest : List (List ℕ)) → ArePlain format f
    → parted_from format false t ≡ g ∷ rest → parted_from format false (f ++ t) ≡ (f ++ g) ∷ rest
plain_on format [] t g rest p e = e
plain_on format (b ∷ f) t g rest p e = rw (p.0.0, p.0.1) (ap (before_first b) (plain_on format f t g rest p.1 e))

digits_plain : (format : Format) (s : List ℕ) → ArePlain format (digits_of s)
digits_plain format [] = tt
digits_plain format (b ∷ s) =
    (elim (is_ascii_digit b) as (λ t. is_ascii_digit b ≡ t → ArePlain format (cond t (b ∷ digits_of s) [])) [
      | true ↦ λ h. (digit_plain format b h, digits_plain format s)
      | false ↦ λ h. tt
    ]) refl

point_plain : (format : Format) → (parts format false 46 ≡ false) × (held_behind format false 46 ≡ false)
point_plain Tabs = (refl, refl)
point_plain Commas = (refl, refl)

-- ---- a point and two decimals

record Decimals (r : List ℕ) (h : ℕ) (after : List ℕ) : Type 0 where
  tens : ℕ
  ones : ℕ
  are : r ≡ 46 ∷ tens ∷ ones ∷ after
  tens_digit : is_ascii_digit tens ≡ true
  ones_digit : is_ascii_digit ones ≡ true
  number : h ≡ (tens - 48) * 10 + (ones - 48)

were_decimals : (r : List ℕ) (h : ℕ) (after : List ℕ) → two_decimals_of r ≡ Some (h, after) → Decimals r h after
were_decimals [] h after e = absurd (cc)
were_decimals (p ∷ []) h after e = absurd (cc)
were_decimals (p ∷ a ∷ []) h after e = absurd (cc)
were_decimals (p ∷ a ∷ b ∷ s) h after e =
    by_tests (eqb p 46) refl (is_ascii_digit a) refl (is_ascii_digit b) refl e
  where
    read : Option (ℕ × List ℕ)
    read = Some ((a - 48) * 10 + (b - 48), s)

    by_tests : (x : Bool) → eqb p 46 ≡ x → (y : Bool) → is_ascii_digit a ≡ y → (z : Bool) → is_ascii_digit b ≡ z
        → cond (x && (y && z)) read None ≡ Some (h, after) → Decimals (p ∷ a ∷ b ∷ s) h after
    by_tests true hx true hy true hz f =
        let same : ◌≡◌ {A = ℕ × List ℕ} ((a - 48) * 10 + (b - 48), s) (h, after) = cc in
        record {
          tens = a;
          ones = b;
          are = ap (λ q. q ∷ a ∷ b ∷ s) (eqb-true p 46 hx)
              ∙ ap (λ (q : ℕ × List ℕ). 46 ∷ a ∷ b ∷ q.1) same;
          tens_digit = hy;
          ones_digit = hz;
          number = sym (ap (λ (q : ℕ × List ℕ). q.0) same);
        }
    by_tests true hx true hy false hz f = absurd (cc)
    by_tests true hx false hy z hz f = absurd (cc)
    by_tests false hx y hy z hz f = absurd (cc)

-- ---- digits before a point

digits_before : (s t : List ℕ) → digits_of (digits_of s ++ 46 ∷ t) ≡ digits_of s
digits_before [] t = refl
digits_before (b ∷ s) t =
    (elim (is_ascii_digit b) as
    (λ x. is_ascii_digit b ≡ x
    → digits_of (cond x (b ∷ digits_of s) [] ++ 46 ∷ t) ≡ cond x (b ∷ digits_of s) []) [
      | true ↦ λ h.
          ap (λ x. cond x (b ∷ digits_of (digits_of s ++ 46 ∷ t)) []) h ∙ ap (λ z. b ∷ z) (digits_before s t)
      | false ↦ λ h. refl
    ]) refl

behind_before : (s t : List ℕ) → behind_digits (digits_of s ++ 46 ∷ t) ≡ 46 ∷ t
behind_before [] t = refl
behind_before (b ∷ s) t =
    (elim (is_ascii_digit b) as
    (λ x. is_ascii_digit b ≡ x → behind_digits (cond x (b ∷ digits_of s) [] ++ 46 ∷ t) ≡ 46 ∷ t) [
      | true ↦ λ h.
          ap (λ x. cond x (behind_digits (digits_of s ++ 46 ∷ t)) (b ∷ digits_of s ++ 46 ∷ t)) h ∙ behind_before s t
      | false ↦ λ h. refl
    ]) refl

whole_before : (s t : List ℕ) → sum_of_digits (digits_of s) < 2 ^ 64
    → whole_of (digits_of s ++ 46 ∷ t) ≡ Some (sum_of_digits (digits_of s), 46 ∷ t)
unfolding whole_of
whole_before s t small =
    rw (digits_before s t, behind_before s t, lt-ltb (sum_of_digits (digits_of s)) (2 ^ 64) small) refl

begins_more : (s t : List ℕ) → begins_with_digit s ≡ true → begins_with_digit (s ++ t) ≡ true
begins_more [] t h = absurd (cc)
begins_more (b ∷ s) t h = h

no_sign : (s : List ℕ) → begins_with_digit s ≡ true → sign_of s ≡ (false, s)
no_sign [] h = absurd (cc)
no_sign (b ∷ s) h = by_test (eqb b 45) (grind (arith, nat_tests))
  where
    by_test : (t : Bool) → t ≡ false
        → ◌≡◌ {A = Bool × List ℕ} (cond t (true, s) (false, b ∷ s)) (false, b ∷ s)
    by_test true e = absurd (cc)
    by_test false e = refl

-- neither empty nor a point alone
is_more : (s : List ℕ) → begins_with_digit s ≡ true → (length s == 0 || is_word s (codes ".")) ≡ false
unfolding is_word
is_more [] h = absurd (cc)
is_more (b ∷ s) h =
    let some : (length (b ∷ s) == 0) ≡ false = grind (arith, nat_tests) in
    let other : eqb b 46 ≡ false = grind (arith, nat_tests) in
    rw (some, other) refl

-- ---- the amount

cents_behind : (f : List ℕ) (n h cents tens ones : ℕ) → begins_with_digit f ≡ true
    → whole_of f ≡ Some (n, 46 ∷ tens ∷ ones ∷ []) → is_ascii_digit tens ≡ true → is_ascii_digit ones ≡ true
    → h ≡ (tens - 48) * 10 + (ones - 48) → Some cents ≡ within_most (n * 100 + h) → cents_of f ≡ Some cents
unfolding cents_of
cents_behind f n h cents tens ones b w x y i most =
    rw (is_more f b, w, x, y, ← i) (sym most)

amount_behind : (f : List ℕ) (cents : ℕ) → begins_with_digit f ≡ true → cents_of f ≡ Some cents
    → amount_of f ≡ Some (pos cents)
unfolding amount_of
amount_behind f cents b e = rw (no_sign f b, e) refl

left_short : (format : Format) (left : Option (List ℕ)) (s behind after : List ℕ) (a b : ℕ) → behind ≡ behind_digits s
    → behind ≡ 46 ∷ a ∷ b ∷ after → after ≡ ended_by format left → IfSome left (λ t. length t < length s)
left_short format None s behind after a b e f g = tt
left_short format (Some t) s behind after a b e f g =
    omega (arith, behind_short s, ap length e, ap length f, ap length g)

pub amount_begins : (format : Format) (s : List ℕ) (n : ℕ) (behind : List ℕ) (h : ℕ) (after : List ℕ) (cents : ℕ)
    (left : Option (List ℕ))
    → whole_of s ≡ Some (n, behind) → (length behind ≡ length s → ⊥) → two_decimals_of behind ≡ Some (h, after)
    → Some cents ≡ within_most (n * 100 + h) → after ≡ ended_by format left
    → BeginsWithAmount format s (pos cents) left
amount_begins format s n behind h after cents left w some d most end =
    let r = was_read s n behind w in
    let t = were_decimals behind h after d in
    let tail : List ℕ = 46 ∷ t.tens ∷ t.ones ∷ [] in
    let field : List ℕ = digits_of s ++ tail in
    let more : length (behind_digits s) ≢ length s = λ same. some (ap length r.rest ∙ same) in
    let first : begins_with_digit field ≡ true = begins_more (digits_of s) tail (begins s more) in
    let whole : s ≡ digits_of s ++ (tail ++ ended_by format left) =
    digits_whole s ∙ ap (λ z. digits_of s ++ z) (sym r.rest ∙ t.are ∙ ap (λ z. 46 ∷ t.tens ∷ t.ones ∷ z) end) in
    let plain : ArePlain format tail =
    (point_plain format, (digit_plain format t.tens t.tens_digit, (digit_plain format t.ones t.ones_digit, tt))) in
    let read : whole_of field ≡ Some (n, tail) =
    whole_before s (t.tens ∷ t.ones ∷ []) r.small ∙ ap (λ k. Some (k, tail)) (sym r.number) in
    record {
      field = field;
      parted = ap (parted_from format false) whole
          ∙ plain_on format (digits_of s) (tail ++ ended_by format left) tail (left_of format left)
          (digits_plain format s)
          (plain_on format tail (ended_by format left) [] (left_of format left) plain (parted_end format left));
      spelled = ap amount_of (digits_text format field first)
          ∙ amount_behind field cents first
          (cents_behind field n h cents t.tens t.ones first read t.tens_digit t.ones_digit t.number most);
      short = left_short format left s behind after t.tens t.ones r.rest t.are end;
    }

-- ---- a whole number as a quantity

begins_number : (s : List ℕ) (n : ℕ) → number_of s ≡ Some n → begins_with_digit s ≡ true
unfolding number_of
begins_number s n e = by_test (begins_with_digit s) _ e
  where
    by_test : (t : Bool) (o : Option ℕ) → cond t o None ≡ Some n → t ≡ true
    by_test true o e = refl
    by_test false o e = absurd (cc)

pub number_quantity : (s : List ℕ) (n : ℕ) → number_of s ≡ Some n → n ≤ 10 ^ 15 → quantity_of s ≡ Some (pos n)
unfolding quantity_of
number_quantity s n e small = rw (no_sign s (begins_number s n e), e, le-leb n (10 ^ 15) small) refl
