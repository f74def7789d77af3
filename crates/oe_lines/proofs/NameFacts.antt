-- A last name before a space and a first name are read, and nothing else is read as one.
use Rattle.std.proofs.Common.{◌≡◌, ◌↔◌, ℕ, ◌+◌, ◌≤◌, ◌⊎◌, inl, inr, List, [], ◌∷◌, ◌++◌, length, take, drop, Bool, true}
use Rattle.std.proofs.Common.{false, ◌&&◌, ◌||◌, Option}
use Rattle.std.proofs.Common.{Some, None, IsSome, IfSome, codes, nat_le, eqb, sym, ap, ◌∙◌, refl, arith, le-leb, lt-ltb}
use Rattle.std.proofs.Common.{length-append}
use Rattle.std.specs.Prelude.{◌==◌, position}
use Rattle.std.specs.Char.{is_ascii_digit}
use Rattle.std.specs.List.{All, list_all, position_or_len}
use Rattle.std.proofs.Math.Seq.{take-append_seam, drop-append_seam}
use Rattle.std.proofs.lemmas.Bool.{leb-true, or_left, or_right}
use Rattle.std.proofs.lemmas.Bool.Decides.{nat_tests}
use Rattle.std.proofs.lemmas.List.{take-append-drop}
use Rattle.std.proofs.lemmas.List.Elements.{All-nil, All-cons, All-head, All-tail}
use Rattle.oe_values.specs.Text.{IsCapital, IsCapitalOrDigit, IsPrintable, IsText, IsLastName, IsFirstName}
use Rattle.oe_values.specs.Front.{after_of, decimal_of}
use Rattle.oe_values.proofs.FrontFacts.{bind_some, some_same, guarded, both, after_found}
use Rattle.oe_lines.specs.Words.{number_of, number_then, number_before, last_number, is_capital, last_name_of}
use Rattle.oe_lines.specs.Words.{is_capital_or_digit, first_name_of, name_before}

-- letters

letter : (b : ℕ) → is_capital b ≡ true → IsCapital b
letter b e = let r : (nat_le 65 b ≡ true) × (nat_le b 90 ≡ true) = both _ _ e in (leb-true 65 b r.0, leb-true b 90 r.1)

is_letter : (b : ℕ) → IsCapital b → is_capital b ≡ true
is_letter b h = rw (le-leb 65 b h.0, le-leb b 90 h.1) refl

letters : (s : List ℕ) → list_all is_capital s ≡ true → All IsCapital s
letters [] e = All-nil IsCapital
letters (b ∷ s) e = let r : (is_capital b ≡ true) × (list_all is_capital s ≡ true) = both _ _ e in
    All-cons IsCapital b s (letter b r.0) (letters s r.1)

are_letters : (s : List ℕ) → All IsCapital s → list_all is_capital s ≡ true
are_letters [] h = refl
are_letters (b ∷ s) h = rw (is_letter b (All-head IsCapital b s h), are_letters s (All-tail IsCapital b s h)) refl

are_printable : (s : List ℕ) → All IsCapital s → All IsPrintable s
are_printable [] h = All-nil IsPrintable
are_printable (b ∷ s) h =
    let first : IsCapital b = All-head IsCapital b s h in
    All-cons IsPrintable b s (omega (arith, first.0), omega (arith, first.1))
    (are_printable s (All-tail IsCapital b s h))

-- last names

pub last_name_found : (s n : List ℕ) → last_name_of s ≡ Some n → (s ≡ n) × IsLastName s
unfolding last_name_of
last_name_found s n e =
    let g = guarded ((nat_le 1 (length s) && nat_le (length s) 16) && list_all is_capital s) (Some s) n e in
    let a : ((nat_le 1 (length s) && nat_le (length s) 16) ≡ true) × (list_all is_capital s ≡ true) = both _ _ g.0 in
    let b : (nat_le 1 (length s) ≡ true) × (nat_le (length s) 16 ≡ true) = both _ _ a.0 in (
      some_same s n g.1,
      record {
        at_least = leb-true 1 (length s) b.0;
        at_most = leb-true (length s) 16 b.1;
        capitals = letters s a.1;
      },
    )

pub last_name_only : (s : List ℕ) → IsLastName s → last_name_of s ≡ Some s
unfolding last_name_of
last_name_only s h = rw (le-leb 1 (length s) h.at_least, le-leb (length s) 16 h.at_most, are_letters s h.capitals) refl

none_is : (o : Option (List ℕ)) → ((n : List ℕ) → o ≡ Some n → ⊥) → o ≡ None
none_is None h = refl
none_is (Some n) h = absurd (h n refl)

-- a name's bytes are a text's
pub name_is_text : (s : List ℕ) → IsLastName s → IsText 1 16 s
name_is_text s h = record { at_least = h.at_least; at_most = h.at_most; printable = are_printable s h.capitals }

no_some : (o : Option (List ℕ)) → o ≡ None → IsSome o → ⊥
no_some None e h = cc
no_some (Some n) e h = cc

-- bytes of no text are no name
pub last_name_of-none : (s : List ℕ) → IsSome {T = List ℕ} None ↔ IsText 1 16 s → None ≡ last_name_of s
last_name_of-none s variant =
    sym (none_is (last_name_of s) (λ n e. no_some None refl (variant.1 (name_is_text s (last_name_found s n e).1))))

-- what a reading gives that finds each name and nothing else
pub last_name_of-read : (s : List ℕ) (o : Option (List ℕ)) → IsSome o ↔ IsLastName s → IfSome o (λ n. n ≡ s)
    → o ≡ last_name_of s
last_name_of-read s None variant value = sym
    (none_is (last_name_of s) (λ n e. no_some None refl (variant.1 (last_name_found s n e).1)))
last_name_of-read s (Some n) variant value = ap Some value ∙ sym (last_name_only s (variant.0 refl))

-- first names

either : (a b : Bool) → (a || b) ≡ true → (a ≡ true) ⊎ (b ≡ true)
either true b e = inl refl
either false b e = inr e

letter_or_digit : (b : ℕ) → is_capital_or_digit b ≡ true → IsCapitalOrDigit b
letter_or_digit b e = elim (either _ _ e) [
  | inl h ↦ inl (letter b h)
  | inr h ↦ let r : (nat_le 48 b ≡ true) × (nat_le b 57 ≡ true) = both _ _ h in
      inr (leb-true 48 b r.0, leb-true b 57 r.1)
]

is_letter_or_digit : (b : ℕ) → IsCapitalOrDigit b → is_capital_or_digit b ≡ true
is_letter_or_digit b (inl h) = or_left _ _ (is_letter b h)
is_letter_or_digit b (inr h) = or_right (is_capital b) _ (rw (le-leb 48 b h.0, le-leb b 57 h.1) refl)

letters_or_digits : (s : List ℕ) → list_all is_capital_or_digit s ≡ true → All IsCapitalOrDigit s
letters_or_digits [] e = All-nil IsCapitalOrDigit
letters_or_digits (b ∷ s) e =
    let r : (is_capital_or_digit b ≡ true) × (list_all is_capital_or_digit s ≡ true) = both _ _ e in
    All-cons IsCapitalOrDigit b s (letter_or_digit b r.0) (letters_or_digits s r.1)

are_letters_or_digits : (s : List ℕ) → All IsCapitalOrDigit s → list_all is_capital_or_digit s ≡ true
are_letters_or_digits [] h = refl
are_letters_or_digits (b ∷ s) h = rw (
  is_letter_or_digit b (All-head IsCapitalOrDigit b s h),
  are_letters_or_digits s (All-tail IsCapitalOrDigit b s h),
) refl

printable : (b : ℕ) → IsCapitalOrDigit b → IsPrintable b
printable b (inl h) = (omega (arith, h.0), omega (arith, h.1))
printable b (inr h) = (omega (arith, h.0), omega (arith, h.1))

all_printable : (s : List ℕ) → All IsCapitalOrDigit s → All IsPrintable s
all_printable [] h = All-nil IsPrintable
all_printable (b ∷ s) h =
    All-cons IsPrintable b s (printable b (All-head IsCapitalOrDigit b s h))
    (all_printable s (All-tail IsCapitalOrDigit b s h))

pub first_name_found : (s n : List ℕ) → first_name_of s ≡ Some n → (s ≡ n) × IsFirstName s
unfolding first_name_of
first_name_found s n e =
    let g = guarded ((nat_le 1 (length s) && nat_le (length s) 16) && list_all is_capital_or_digit s) (Some s) n e in
    let a : ((nat_le 1 (length s) && nat_le (length s) 16) ≡ true) × (list_all is_capital_or_digit s ≡ true) =
    both _ _ g.0 in
    let b : (nat_le 1 (length s) ≡ true) × (nat_le (length s) 16 ≡ true) = both _ _ a.0 in (
      some_same s n g.1,
      record {
        at_least = leb-true 1 (length s) b.0;
        at_most = leb-true (length s) 16 b.1;
        capitals_or_digits = letters_or_digits s a.1;
      },
    )

pub first_name_only : (s : List ℕ) → IsFirstName s → first_name_of s ≡ Some s
unfolding first_name_of
first_name_only s h = rw (
  le-leb 1 (length s) h.at_least,
  le-leb (length s) 16 h.at_most,
  are_letters_or_digits s h.capitals_or_digits,
) refl

-- a first name's bytes are a text's
pub first_name_is_text : (s : List ℕ) → IsFirstName s → IsText 1 16 s
first_name_is_text s h =
    record { at_least = h.at_least; at_most = h.at_most; printable = all_printable s h.capitals_or_digits }

-- bytes of no text are no first name
pub first_name_of-none : (s : List ℕ) → IsSome {T = List ℕ} None ↔ IsText 1 16 s → None ≡ first_name_of s
first_name_of-none s variant =
    sym (none_is (first_name_of s)
    (λ n e. no_some None refl (variant.1 (first_name_is_text s (first_name_found s n e).1))))

-- what a reading gives that finds each first name and nothing else
pub first_name_of-read : (s : List ℕ) (o : Option (List ℕ)) → IsSome o ↔ IsFirstName s → IfSome o (λ n. n ≡ s)
    → o ≡ first_name_of s
first_name_of-read s None variant value = sym
    (none_is (first_name_of s) (λ n e. no_some None refl (variant.1 (first_name_found s n e).1)))
first_name_of-read s (Some n) variant value = ap Some value ∙ sym (first_name_only s (variant.0 refl))

-- before a space

pub name_found : (s name r : List ℕ) → name_before s ≡ Some (name, r) → (s ≡ name ++ 32 ∷ r) × IsLastName name
unfolding name_before
name_found s name r e =
    let n = bind_some (position (λ b. b == 32) s) _ (name, r) e in
    let l = bind_some (last_name_of (take n.0 s)) _ (name, r) n.2 in
    let a = bind_some (after_of (codes " ") (drop n.0 s)) _ (name, r) l.2 in
    let f = last_name_found (take n.0 s) l.0 l.1 in
    let pair : ◌≡◌ {A = List ℕ × List ℕ} (l.0, a.0) (name, r) = some_same (l.0, a.0) (name, r) a.2 in
    let own : IsLastName l.0 = rw (← f.0) f.1 in
    let first : l.0 ≡ name = ap (λ (x : List ℕ × List ℕ). x.0) pair in (
      sym (take-append-drop n.0 s) ∙ ap (λ z. z ++ drop n.0 s) f.0 ∙ ap (λ z. l.0 ++ z)
          (after_found (codes " ") (drop n.0 s) a.0 a.1)
          ∙ ap (λ (x : List ℕ × List ℕ). x.0 ++ 32 ∷ x.1) pair,
      rw (← first) own,
    )

no_space : (b : ℕ) → 65 ≤ b → eqb b 32 ≡ false
no_space b h = grind (arith, nat_tests)

before_space : (s r : List ℕ) → All IsCapital s → position_or_len (λ b. b == 32) (s ++ 32 ∷ r) ≡ length s
before_space [] r h = refl
before_space (b ∷ s) r h =
    let first : IsCapital b = All-head IsCapital b s h in
    let rest = before_space s r (All-tail IsCapital b s h) in
    rw (no_space b first.0) (omega (arith, rest))

at_space : (s r : List ℕ) → All IsCapital s → position (λ b. b == 32) (s ++ 32 ∷ r) ≡ Some (length s)
at_space s r h = rw (
  before_space s r h,
  lt-ltb (length s) (length (s ++ 32 ∷ r))
      (omega (arith, length-append s (32 ∷ r))),
) refl

pub name_only : (name r : List ℕ) → IsLastName name → name_before (name ++ 32 ∷ r) ≡ Some (name, r)
unfolding name_before
name_only name r h = rw (
  at_space name r h.capitals,
  take-append_seam name (32 ∷ r),
  drop-append_seam name (32 ∷ r),
  last_name_only name h,
) refl

-- a name is no number

no_zero : (b : ℕ) → 65 ≤ b → eqb b 48 ≡ false
no_zero b h = grind (arith, nat_tests)

high : (b : ℕ) → 65 ≤ b → nat_le b 57 ≡ false
high b h = grind (arith, nat_tests)

no_digit : (b : ℕ) → 65 ≤ b → is_ascii_digit b ≡ false
no_digit b h = rw (le-leb 48 b (omega (arith, h)), high b h) refl

pub name_no_number : (low most : ℕ) (name r : List ℕ) → IsLastName name → number_before low most (name ++ 32 ∷ r) ≡ None
unfolding number_then number_of decimal_of
name_no_number low most [] r h = let least = h.at_least in absurd (omega (arith, least))
name_no_number low most (b ∷ s) r h =
    let first : IsCapital b = All-head IsCapital b s h.capitals in
    rw (no_zero b first.0, no_digit b first.0) refl

pub name_no_last : (low most : ℕ) (name : List ℕ) → IsLastName name → last_number low most name ≡ None
unfolding last_number number_of decimal_of
name_no_last low most [] h = let least = h.at_least in absurd (omega (arith, least))
name_no_last low most (b ∷ s) h =
    let first : IsCapital b = All-head IsCapital b s h.capitals in
    rw (no_zero b first.0, no_digit b first.0) refl
