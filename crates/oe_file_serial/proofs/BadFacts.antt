-- The lines of a file that have no form, one more at a time.
use Rattle.std.proofs.Common.{◌≡◌, ℕ, ◌+◌, ◌<◌, ◌≤◌, List, [], ◌∷◌, ◌++◌, length, take, sym, ap, subst, ◌∙◌, refl}
use Rattle.std.proofs.Common.{arith, inl, inr}
use Rattle.std.specs.Prelude.{◌≢◌, ◌⊎◌, All}
use Rattle.std.proofs.lemmas.List.{length-append, length-take-le, take_all, take-append-le}
use Rattle.std.proofs.lemmas.List.Elements.{All-nil, All-cons}
use Rattle.std.proofs.lemmas.Bool.{cases_lt}
use Rattle.oe_reply_words.specs.Parts.{IsWithout}
use Rattle.oe_file_serial.specs.Files.{IsTold, IsOpening, Unopened, Untold, last_line_fault, AreBadOf, AreBad}
use Rattle.oe_file_serial.specs.Files.{lines_of, last_of}
use Rattle.oe_file_serial.specs.declared.origins.Opening.{Opening}
use Rattle.oe_file_serial.specs.declared.origins.Opening.TheVariants as opening
use Rattle.oe_file_serial.specs.declared.reasons.BadLine.{BadLine}
use Rattle.oe_file_serial.proofs.LineFacts.{no_line}

-- THE FIRST TWENTY

is_less : (bad : List BadLine) → length (take 20 bad) < 20 → length bad < 20
is_less bad h = go (cases_lt (length bad) 20)
  where
    go : (length bad < 20) ⊎ (20 ≤ length bad) → length bad < 20
    go (inl less) = less
    go (inr more) = let same = length-take-le 20 bad more in absurd (omega (arith, h, same))

is_more : (bad : List BadLine) → 20 ≤ length (take 20 bad) → 20 ≤ length bad
is_more bad h = go (cases_lt (length bad) 20)
  where
    go : (length bad < 20) ⊎ (20 ≤ length bad) → 20 ≤ length bad
    go (inl less) =
        let same = ap length (take_all 20 bad (omega (arith, less))) in
        absurd (omega (arith, h, same, less))
    go (inr more) = more

pub kept_first : (xs ys bad : List BadLine) (n : BadLine) → length xs < 20 → ys ≡ xs ++ n ∷ [] → xs ≡ take 20 bad
    → ys ≡ take 20 (bad ++ n ∷ [])
kept_first xs ys bad n less pushed is =
    let few : length bad < 20 = is_less bad (subst (λ (z : List BadLine). length z < 20) is less) in
    let all : take 20 bad ≡ bad = take_all 20 bad (omega (arith, few)) in
    let one = length-append bad (n ∷ []) in
    pushed ∙ (ap (λ (z : List BadLine). z ++ n ∷ []) (is ∙ all)
    ∙ sym (take_all 20 (bad ++ n ∷ []) (omega (arith, few, one))))

pub kept_full : (xs bad : List BadLine) (n : BadLine) → 20 ≤ length xs → xs ≡ take 20 bad → xs ≡ take 20 (bad ++ n ∷ [])
kept_full xs bad n more is =
    let many : 20 ≤ length bad = is_more bad (subst (λ (z : List BadLine). 20 ≤ length z) is more) in
    is ∙ sym (take-append-le 20 bad (n ∷ []) many)

-- LINES

-- one line, and those behind it
pub untold_then : (n : ℕ) (line : List ℕ) (lines : List (List ℕ)) (one more : List BadLine)
    → Untold n (line ∷ []) one → Untold (n + 1) lines more → Untold n (line ∷ lines) (one ++ more)
untold_then n line lines one more (inl (told, none)) u =
    inl (told, subst (Untold (n + 1) lines) (sym (ap (λ (z : List BadLine). z ++ more) none)) u)
untold_then n line lines one more (inr (untold, (b, rest, number, why, none, is))) u = inr (
  untold,
  (
    b,
    more,
    number,
    why,
    u,
    ap (λ (z : List BadLine). z ++ more) is ∙ ap (λ (z : List BadLine). b ∷ (z ++ more)) none,
  ),
)

all_told : (n : ℕ) (lines : List (List ℕ)) → Untold n lines [] → All IsTold lines
all_told n [] u = All-nil IsTold
all_told n (line ∷ lines) (inl (told, u)) = All-cons IsTold line lines told (all_told (n + 1) lines u)
all_told n (line ∷ lines) (inr (untold, (b, more, number, why, u, is))) = let not : ⊥ = cc in absurd not

no_last : (n : ℕ) (last : List ℕ) → last_line_fault n last ≡ [] → last ≡ []
no_last n [] e = refl
no_last n (b ∷ bs) e = cc

both_empty : (xs ys : List BadLine) → [] ≡ xs ++ ys → (xs ≡ []) × (ys ≡ [])
both_empty [] ys e = (refl, sym e)
both_empty (x ∷ xs) ys e = let not : ⊥ = cc in absurd not

-- a file without such a line
pub record IsFormed (o : Opening) (lines : List (List ℕ)) (last : List ℕ) : Type 0 where
  pub opening : List ℕ
  pub behind : List (List ℕ)
  pub are : lines ≡ opening ∷ behind
  pub opens : IsOpening o opening
  pub told : All IsTold behind
  pub ended : last ≡ []

opened : (o : Opening) (line : List ℕ) → Unopened o line [] → IsOpening o line
opened o line (inl (is, e)) = is
opened o line (inr (never, (b, number, why, e))) = let not : ⊥ = cc in absurd not

-- no empty line opens
empty_opens : (o : Opening) → IsOpening o [] → ⊥
empty_opens opening.OfScale (s, is) =
    let spelled = is.says.spelled in
    cc
empty_opens opening.OfRing is =
    let spelled = is.spelled in
    cc

formed : (o : Opening) (lines : List (List ℕ)) (last : List ℕ) → AreBadOf o lines last [] → IsFormed o lines last
formed o [] [] u = absurd (empty_opens o (opened o [] u))
formed o [] (b ∷ bs) e = let not : ⊥ = cc in absurd not
formed o (line ∷ lines) last (first, more, is, u, e) =
    let one = both_empty (first ++ more) (last_line_fault (length lines + 2) last) e in
    let two = both_empty first more (sym one.0) in
    record {
      opening = line;
      behind = lines;
      are = refl;
      opens = opened o line (subst (Unopened o line) two.0 is);
      told = all_told 2 lines (subst (Untold 2 lines) two.1 u);
      ended = no_last (length lines + 2) last one.1;
    }

empty : (bad : List BadLine) → length bad ≡ 0 → bad ≡ []
empty [] e = refl
empty (b ∷ bad) e = absurd (omega (arith, e))

pub is_formed : (o : Opening) (input : List ℕ) (bad : List BadLine) (n : ℕ) → AreBad o input bad → n ≡ length bad
    → n ≤ 0 → IsFormed o (lines_of input) (last_of input)
is_formed o input bad n h count none =
    let zero : length bad ≡ 0 = omega (arith, count, none) in
    formed o (lines_of input) (last_of input)
    (subst (AreBadOf o (lines_of input) (last_of input)) (empty bad zero) h)

-- A FILE WITHOUT A LINE

pub none_bad : (o : Opening) (input : List ℕ) (first : List BadLine) → length input ≡ 0 → Unopened o input first
    → AreBad o input first
none_bad o [] first none u = u
none_bad o (b ∷ bs) first none u = absurd (omega (arith, none))

last_bad : (o : Opening) (last : List ℕ) → length last ≢ 0 → AreBadOf o [] last (last_line_fault 1 last)
last_bad o [] some = absurd (some refl)
last_bad o (b ∷ bs) some = refl

pub unended_bad : (o : Opening) (input : List ℕ) → IsWithout 10 input → length input ≢ 0
    → AreBad o input (last_line_fault 1 input)
unended_bad o input h some =
    let none = no_line input h in
    subst (λ (ls : List (List ℕ)). AreBadOf o ls (last_of input) (last_line_fault 1 input)) (sym none.0)
    (subst (λ (last : List ℕ). AreBadOf o [] last (last_line_fault 1 input)) (sym none.1) (last_bad o input some))
