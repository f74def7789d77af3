-- Where tabs part the fields of a line.
use Rattle.std.proofs.Common.{◌≡◌, ℕ, zero, suc, ◌+◌, ◌<◌, List, [], ◌∷◌, length, take, drop, get_or, Bool}
use Rattle.std.proofs.Common.{true}
use Rattle.std.proofs.Common.{false, cond, Option, Some, None, Err, eqb, sym, ap, ◌∙◌, refl, arith}
use Rattle.std.specs.Prelude.{◌==◌, count_by, filter}
use Rattle.std.proofs.lemmas.List.Sums.{length-filter}
use Rattle.std.specs.Option.{option_copied}
use Rattle.std.specs.Borrow.{Bor}
use Rattle.std.proofs.lemmas.Bool.Decides.{nat_tests}
use Rattle.memchr.specs.Find.{IsFirstByte, is_byte}
use Rattle.oe_file_rows.specs.declared.forms.LineFault.TheVariants.{ExtraColumn}
use Rattle.oe_file_rows.specs.Line.{Left, left_of, fields_of, before_first, ended_in, first_field, past_first}

-- no byte is a tab up to the n-th
abbrev NoTab : List ℕ → ℕ → Type 0
NoTab s n = (k : ℕ) → k < n → eqb (get_or s k 0) 9 ≡ false

one_field : (s : List ℕ) → NoTab s (length s) → fields_of s ≡ s ∷ []
one_field [] h = refl
one_field (b ∷ s) h =
    rw (h 0 (omega arith), one_field s (λ k l. h (suc k) (omega arith))) refl

field_first : (s : List ℕ) (n : ℕ) → n < length s → NoTab s n → eqb (get_or s n 0) 9 ≡ true
    → fields_of s ≡ take n s ∷ fields_of (drop (suc n) s)
field_first [] n l h e = absurd (omega arith)
field_first (b ∷ s) zero l h e = rw e refl
field_first (b ∷ s) (suc n) l h e =
    rw (h 0 (omega arith), field_first s n (omega arith) (λ k l. h (suc k) (omega arith)) e) refl

not_true : (b : Bool) → (b ≡ true → ⊥) → b ≡ false
not_true true h = absurd (h refl)
not_true false h = refl

pub alone : (s : List ℕ) → IsFirstByte (is_byte 9) s None → fields_of s ≡ s ∷ []
alone s none = one_field s (λ k l. not_true _ (none k (omega arith) l))

pub parted : (s : List ℕ) (n : ℕ) → IsFirstByte (is_byte 9) s (Some n)
    → fields_of s ≡ take n s ∷ fields_of (drop (n + 1) s)
parted s n first =
    let next : suc n ≡ n + 1 = omega arith in
    rw (← next) (field_first s n first.0.high (λ k l. not_true _ (first.0.before k (omega arith) l)) first.1)

-- a line has a field at least
pub not_ended : (s : List ℕ) → ended_in (fields_of s) ≡ Err ExtraColumn
not_ended [] = refl
not_ended (b ∷ s) =
    elim (eqb b 9) as
    (λ t. ended_in (cond t ([] ∷ fields_of s) (before_first b (fields_of s))) ≡ Err ExtraColumn) [
      | true ↦ refl
      | false ↦ behind (fields_of s) (not_ended s)
    ]
  where
    behind : (fs : List (List ℕ)) → ended_in fs ≡ Err ExtraColumn → ended_in (before_first b fs) ≡ Err ExtraColumn
    behind [] e = absurd (cc)
    behind (f ∷ fs) e = refl

-- and one more for each tab
one_more : (t : Bool) (b : ℕ) (tabs : List ℕ) (fs : List (List ℕ)) → length fs ≡ length tabs + 1
    → length (cond t ([] ∷ fs) (before_first b fs)) ≡ length (cond t (b ∷ tabs) tabs) + 1
one_more true b tabs fs e = omega (arith, e)
one_more false b tabs [] e = absurd (omega arith)
one_more false b tabs (f ∷ fs) e = omega (arith, e)

kept_count : (s : List ℕ) → length (fields_of s) ≡ length (filter (λ b. b == 9) s) + 1
kept_count [] = refl
kept_count (b ∷ s) = one_more (eqb b 9) b (filter (λ b. b == 9) s) (fields_of s) (kept_count s)

pub field_count : (s : List ℕ) → length (fields_of s) ≡ count_by (λ b. b == 9) s + 1
field_count s = kept_count s ∙ ap (λ n. n + 1) (length-filter (λ b. b == 9) s)

pub eight : (n m : ℕ) → m ≡ n + 1 → eqb n 7 ≡ eqb m 8
eight n m e = grind (arith, nat_tests)

-- the next field, and what is left behind it

pub taken_value : (l : Left) (column : ℕ) (s f : List ℕ) (rest : List (List ℕ))
    → l ≡ record { column = column; fields = fields_of s } → fields_of s ≡ f ∷ rest → Some f ≡ first_field l.fields
taken_value l column s f rest e h = rw (e, h) refl

pub taken_left : (l : Left) (column : ℕ) (s f : List ℕ) (rest : List (List ℕ))
    → l ≡ record { column = column; fields = fields_of s } → fields_of s ≡ f ∷ rest
    → ◌≡◌ {A = Left} (record { column = column + 1; fields = rest }) (past_first l l.fields)
taken_left l column s f rest e h = rw (e, h) refl

pub held : (l : Left) (column : ℕ) (r : Option (Bor (List ℕ))) (s : Bor (List ℕ))
    → ◌≡◌ {A = Left} (record { column = column; fields = left_of (option_copied r) }) l → r ≡ Some s
    → l ≡ record { column = column; fields = fields_of s.now }
held l column r s view is =
    sym view ∙ ap (λ (r : Option (Bor (List ℕ))). record { column = column; fields = left_of (option_copied r) }) is
