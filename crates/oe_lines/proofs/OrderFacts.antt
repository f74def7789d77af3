-- The lines of an order are read one after another.
use Rattle.std.proofs.Common.{◌≡◌, ℕ, suc, ◌+◌, ◌-◌, ◌<◌, ◌≤◌, List, [], ◌∷◌, ◌++◌, length, Bool, true, false}
use Rattle.std.proofs.Common.{cond, Option, Some, None, IsSome, IfSome, codes, nat_le, sym, ap, ◌∙◌, refl, append_assoc}
use Rattle.std.proofs.Common.{length-append, le-leb, arith}
use Rattle.std.specs.Prelude.{◌↔◌}
use Rattle.std.proofs.lemmas.Bool.{leb-true}
use Rattle.std.specs.Option.{option_map}
use Rattle.oe_requests.specs.declared.requests.RequestLine.{RequestLine}
use Rattle.oe_values.specs.Front.{◌>>=◌, after_of}
use Rattle.oe_lines.specs.Reading.{line_of, lines_within, lines_of}

-- what is read of the text, behind the lines before it
abbrev pub lines_after : List RequestLine → List ℕ → Option (List RequestLine)
lines_after read s = option_map (λ ls. read ++ ls) (lines_within (15 - length read) s)

pub at_start : (s : List ℕ) → lines_within 15 s ≡ lines_after [] s
at_start s = same (lines_within 15 s)
  where
    same : (o : Option (List RequestLine)) → o ≡ option_map (λ ls. [] ++ ls) o
    same None = refl
    same (Some ls) = refl

more : (read : List RequestLine) → length read < 15 → 15 - length read ≡ suc (14 - length read)
more read h = omega (arith, h)

pub stopped : (read : List RequestLine) (s : List ℕ) → length read < 15 → None ≡ line_of s → lines_after read s ≡ None
stopped read s h e = rw (more read h, ← e) refl

pub at_last : (read : List RequestLine) (s rest : List ℕ) (l : RequestLine) → length read < 15
    → Some (l, rest) ≡ line_of s → length rest ≡ 0
    → lines_after read s ≡ Some (read ++ l ∷ [])
at_last read s [] l h e k = rw (more read h, ← e) refl
at_last read s (b ∷ rest) l h e k = absurd (omega (arith, k))

pub parted : (read : List RequestLine) (s rest : List ℕ) (l : RequestLine) → length read < 15
    → Some (l, rest) ≡ line_of s → 0 < length rest → None ≡ after_of (codes " ") rest
    → lines_after read s ≡ None
parted read s [] l h e k f = absurd (omega (arith, k))
parted read s (b ∷ rest) l h e k f = rw (more read h, ← e, ← f) refl

pub went_on : (read : List RequestLine) (s rest r : List ℕ) (l : RequestLine) → length read < 15
    → Some (l, rest) ≡ line_of s → Some r ≡ after_of (codes " ") rest
    → lines_after read s ≡ lines_after (read ++ l ∷ []) r
went_on read s [] r l h e f = cc
went_on read s (b ∷ rest) r l h e f =
    let one : 14 - length read ≡ 15 - length (read ++ l ∷ []) = omega (arith, length-append read (l ∷ [])) in
    rw (more read h, ← e, ← f, one) (moved (lines_within (15 - length (read ++ l ∷ [])) r))
  where
    moved : (o : Option (List RequestLine)) → option_map (λ ls. read ++ ls) (o >>= (λ ls. Some (l ∷ ls))) ≡ option_map
        (λ ls. (read ++ l ∷ []) ++ ls) o
    moved None = refl
    moved (Some ls) = ap (λ z. Some z) (sym (append_assoc read (l ∷ []) ls))

pub at_end : (read : List RequestLine) (s : List ℕ) → 15 ≤ length read → lines_after read s ≡ None
at_end read s h = let none : 15 - length read ≡ 0 = omega (arith, h) in rw none refl

pub none_of : (s : List ℕ) → lines_within 15 s ≡ None → None ≡ lines_of s
unfolding lines_of
none_of s e = rw e refl

-- a list of five or more
abbrev pub five : List RequestLine → Option (List RequestLine)
five ls = cond (nat_le 5 (length ls)) (Some ls) None

pub some_of : (s : List ℕ) (ls : List RequestLine) → lines_within 15 s ≡ Some ls → five ls ≡ lines_of s
unfolding lines_of
some_of s ls e = rw e refl

-- what is answered where a list is read if it has five to fifteen
pub read_five : (o : Option (List RequestLine)) (ls : List RequestLine) → length ls ≤ 15
    → (IsSome o ↔ ((5 ≤ length ls) × (length ls ≤ 15))) → IfSome o (λ l. l ≡ ls) → o ≡ five ls
read_five None ls m v e = none_of_five (nat_le 5 (length ls)) refl
  where
    none_of_five : (b : Bool) → nat_le 5 (length ls) ≡ b → None ≡ cond b (Some ls) None
    none_of_five true h = let has = v.1 (leb-true 5 (length ls) h, m) in let no : ⊥ = cc in absurd no
    none_of_five false h = refl
read_five (Some l) ls m v e = rw (le-leb 5 (length ls) (v.0 refl).0) (ap (λ z. Some z) e)
