-- A field of digits alone, read without a search for its end.
use Rattle.std.proofs.Common.{◌≡◌, ◌≢◌, ℕ, suc, ◌+◌, ◌<◌, ◌≤◌, List, [], ◌∷◌, ◌++◌, length, drop, Bool, true, false}
use Rattle.std.proofs.Common.{cond}
use Rattle.std.proofs.Common.{nat_lt, ◌^◌, Option, Some, None, eqb, ◌&&◌, sym, ap, ◌∙◌, refl, arith}
use Rattle.std.specs.Prelude.{slice_get, slice_range, nat_le}
use Rattle.std.specs.Option.{IfSome}
use Rattle.std.proofs.Common.{take, get_or, ◌-◌}
use Rattle.std.proofs.lemmas.List.{take_rest}
use Rattle.oe_fields.specs.Front.{BeginsWith, BeginsWithNumber}
use Rattle.std.specs.Option.{option_map}
use Rattle.std.specs.Char.{is_ascii_digit}
use Rattle.std.proofs.lemmas.Bool.Decides.{nat_tests}
use Rattle.std.proofs.lemmas.Bool.{lt-ltb, ltb-true}
use Rattle.oe_fields.specs.declared.fields.Format.{Format}
use Rattle.oe_fields.specs.declared.fields.Format.TheVariants.{Tabs, Commas}
use Rattle.oe_fields.specs.Parting.{separator, held_behind, parts, before_first, parted_from, left_of, is_quoted}
use Rattle.oe_fields.specs.Parting.{text_of, fields_of}
use Rattle.oe_fields.specs.Spelling.{digits_of, behind_digits, begins_with_digit, sum_of_digits, whole_of}
use Rattle.oe_fields.specs.Spelling.{number_of, value_in}
use Rattle.oe_fields.proofs.PartFacts.{next_left, at_mapped}

-- the digits and what is left behind them
pub digits_whole : (s : List ℕ) → s ≡ digits_of s ++ behind_digits s
digits_whole [] = refl
digits_whole (b ∷ s) =
    elim (is_ascii_digit b) as (λ t. b ∷ s ≡ cond t (b ∷ digits_of s) [] ++ cond t (behind_digits s) (b ∷ s)) [
      | true ↦ ap (λ z. b ∷ z) (digits_whole s)
      | false ↦ refl
    ]

-- a digit parts no fields, and holds nothing
pub digit_plain : (format : Format) (b : ℕ) → is_ascii_digit b ≡ true
    → (parts format false b ≡ false) × (held_behind format false b ≡ false)
digit_plain Tabs b h = grind (arith, nat_tests)
digit_plain Commas b h = grind (arith, nat_tests)

-- what follows a field: the end of the line, or a separator and more
abbrev pub ended_by : Format → Option (List ℕ) → List ℕ
ended_by format None = []
ended_by format (Some s) = separator format ∷ s

pub parted_end : (format : Format) (left : Option (List ℕ))
    → parted_from format false (ended_by format left) ≡ [] ∷ left_of format left
parted_end format None = refl
parted_end Tabs (Some s) = refl
parted_end Commas (Some s) = refl

-- a line whose digits at the front end the field has them as its first field
digits_parted : (format : Format) (s : List ℕ) (left : Option (List ℕ)) → behind_digits s ≡ ended_by format left
    → parted_from format false s ≡ digits_of s ∷ left_of format left
digits_parted format [] None e = refl
digits_parted format [] (Some t) e = absurd (cc)
digits_parted format (b ∷ s) left e = by_digit (is_ascii_digit b) refl e (digits_parted format s left)
  where
    by_digit : (t : Bool) → is_ascii_digit b ≡ t → cond t (behind_digits s) (b ∷ s) ≡ ended_by format left
        → (behind_digits s ≡ ended_by format left → parted_from format false s ≡ digits_of s ∷ left_of format left)
        → parted_from format false (b ∷ s) ≡ cond t (b ∷ digits_of s) [] ∷ left_of format left
    by_digit true h f more =
        let p = digit_plain format b h in
        rw (p.0, p.1) (ap (before_first b) (more f))
    by_digit false h f more = ap (parted_from format false) f ∙ parted_end format left

-- the digits of digits
digits_again : (s : List ℕ) → digits_of (digits_of s) ≡ digits_of s
digits_again [] = refl
digits_again (b ∷ s) =
    (elim (is_ascii_digit b) as
    (λ t. is_ascii_digit b ≡ t → digits_of (cond t (b ∷ digits_of s) []) ≡ cond t (b ∷ digits_of s) []) [
      | true ↦ λ h. ap (λ t. cond t (b ∷ digits_of (digits_of s)) []) h ∙ ap (λ z. b ∷ z) (digits_again s)
      | false ↦ λ h. refl
    ]) refl

none_behind_digits : (s : List ℕ) → behind_digits (digits_of s) ≡ []
none_behind_digits [] = refl
none_behind_digits (b ∷ s) =
    (elim (is_ascii_digit b) as
    (λ t. is_ascii_digit b ≡ t → behind_digits (cond t (b ∷ digits_of s) []) ≡ []) [
      | true ↦ λ h.
          ap (λ t. cond t (behind_digits (digits_of s)) (b ∷ digits_of s)) h ∙ none_behind_digits s
      | false ↦ λ h. refl
    ]) refl

pub begins : (s : List ℕ) → length (behind_digits s) ≢ length s → begins_with_digit (digits_of s) ≡ true
begins [] h = absurd (h refl)
begins (b ∷ s) h =
    (elim (is_ascii_digit b) as
    (λ t. is_ascii_digit b ≡ t → (length (cond t (behind_digits s) (b ∷ s)) ≢ length (b ∷ s))
    → begins_with_digit (cond t (b ∷ digits_of s) []) ≡ true) [
      | true ↦ λ e g. e
      | false ↦ λ e g. absurd (g refl)
    ]) refl h

pub behind_short : (s : List ℕ) → length (behind_digits s) ≤ length s
behind_short [] = omega arith
behind_short (b ∷ s) =
    let more = behind_short s in
    elim (is_ascii_digit b) as (λ t. length (cond t (behind_digits s) (b ∷ s)) ≤ length (b ∷ s)) [
      | true ↦ omega (arith, more)
      | false ↦ omega arith
    ]

-- what was read at the front
pub record Read (s : List ℕ) (n : ℕ) (r : List ℕ) : Type 0 where
  pub small : sum_of_digits (digits_of s) < 2 ^ 64
  pub number : n ≡ sum_of_digits (digits_of s)
  pub rest : r ≡ behind_digits s

pub was_read : (s : List ℕ) (n : ℕ) (r : List ℕ) → whole_of s ≡ Some (n, r) → Read s n r
unfolding whole_of
was_read s n r e = by_size (nat_lt (sum_of_digits (digits_of s)) (2 ^ 64)) refl e
  where
    whole : Option (ℕ × List ℕ)
    whole = Some (sum_of_digits (digits_of s), behind_digits s)

    by_size : (t : Bool) → nat_lt (sum_of_digits (digits_of s)) (2 ^ 64) ≡ t → cond t whole None ≡ Some (n, r)
        → Read s n r
    by_size true h f =
        let same : ◌≡◌ {A = ℕ × List ℕ} (sum_of_digits (digits_of s), behind_digits s) (n, r) = cc in
        record {
          small = ltb-true _ _ h;
          number = sym (ap (λ (p : ℕ × List ℕ). p.0) same);
          rest = sym (ap (λ (p : ℕ × List ℕ). p.1) same);
        }
    by_size false h f = absurd (cc)

digits_number : (s : List ℕ) → length (behind_digits s) ≢ length s → sum_of_digits (digits_of s) < 2 ^ 64
    → number_of (digits_of s) ≡ Some (sum_of_digits (digits_of s))
unfolding number_of whole_of
digits_number s h small =
    rw (begins s h, digits_again s, none_behind_digits s, lt-ltb (sum_of_digits (digits_of s)) (2 ^ 64) small) refl

and_false : (t : Bool) → (t && false) ≡ false
and_false true = refl
and_false false = refl

pub digits_text : (format : Format) (s : List ℕ) → begins_with_digit s ≡ true → text_of format s ≡ s
unfolding text_of
digits_text Tabs s h = refl
digits_text Commas [] h = refl
digits_text Commas (b ∷ s) h =
    let other : eqb b 34 ≡ false = grind (arith, nat_tests) in
    let first : is_quoted (b ∷ s) ≡ (nat_le 2 (length (b ∷ s)) && false) =
    ap (λ t. nat_le 2 (length (b ∷ s)) && (t && eqb (get_or (b ∷ s) (length (b ∷ s) - 1) 0) 34)) other in
    ap (λ t. cond t (slice_range (b ∷ s) 1 (length (b ∷ s) - 1)) (b ∷ s))
    (first ∙ and_false (nat_le 2 (length (b ∷ s))))

left_short : (format : Format) (left : Option (List ℕ)) (s behind : List ℕ) → behind ≡ behind_digits s
    → behind ≡ ended_by format left → IfSome left (λ t. length t < length s)
left_short format None s behind e f = tt
left_short format (Some t) s behind e f = omega (arith, behind_short s, ap length e, ap length f)

pub number_begins : (format : Format) (s : List ℕ) (n : ℕ) (behind : List ℕ) (left : Option (List ℕ))
    → whole_of s ≡ Some (n, behind) → (length behind ≡ length s → ⊥) → behind ≡ ended_by format left
    → BeginsWithNumber format s n left
number_begins format s n behind left w some end =
    let r = was_read s n behind w in
    let more : length (behind_digits s) ≢ length s = λ same. some (ap length r.rest ∙ same) in
    record {
      field = digits_of s;
      parted = digits_parted format s left (sym r.rest ∙ end);
      spelled = ap number_of (digits_text format (digits_of s) (begins s more)) ∙ digits_number s more r.small
          ∙ ap Some (sym r.number);
      short = left_short format left s behind r.rest end;
    }

pub at_end : (s : List ℕ) → length s < 1 → s ≡ []
at_end [] h = refl
at_end (b ∷ s) h = absurd (omega (arith, h))

-- the first byte left is a separator
pub at_separator : (format : Format) (s : List ℕ) (b d : ℕ) → 1 ≤ length s → get_or s 0 d ≡ b → b ≡ separator format
    → s ≡ ended_by format (Some (take (length s - 1) (drop 1 s)))
at_separator format [] b d h e is = absurd (omega (arith, h))
at_separator format (c ∷ s) b d h e is =
    ap (λ x. x ∷ s) (e ∙ is) ∙ ap (λ z. separator format ∷ z) (sym (take_rest (c ∷ s) 1))

pub taken_value : {A : Type 0} (spells : List ℕ → Option A) (format : Format) (line : List ℕ) (place : ℕ) (v : A)
    (s : List ℕ) (left : Option (List ℕ))
    → parted_from format false s ≡ drop place (parted_from format false line) → BeginsWith spells format s v left
    → (Some v ≡ value_in spells (slice_get (fields_of format line) place))
    × (left_of format left ≡ drop (place + 1) (parted_from format false line))
unfolding fields_of
taken_value spells format line place v s left e b =
    let next = next_left (parted_from format false line) place b.field (left_of format left) (sym b.parted ∙ e) in
    let at : suc place ≡ place + 1 = omega arith in (
      sym (ap (value_in spells) (at_mapped (text_of format) (parted_from format false line) place
          ∙ ap (option_map (text_of format)) (sym next.1)) ∙ b.spelled),
      next.0 ∙ ap (λ p. drop p (parted_from format false line)) at,
    )
