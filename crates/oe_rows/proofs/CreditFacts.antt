-- Lemmas on the texts of numbers and money.
use Rattle.std.proofs.Common.{◌≡◌, ℕ, ◌+◌, ◌/◌, ◌%◌, ◌<◌, ◌^◌, List, [], ◌∷◌, ◌++◌, append_assoc, arith, lit≤}
use Rattle.std.specs.Prelude.{decimal}
use Rattle.std.specs.List.{All, join_with_byte}
use Rattle.std.proofs.lemmas.Fmt.{decimal_digit, decimal_by_steps}
use Rattle.std.proofs.lemmas.List.Elements.{All-append, All-push, All-cons, All-nil, All-from_recursion}
use Rattle.oe_rows.specs.Credit.{money_text}
use Rattle.oe_values.specs.Text.{IsPrintable}

-- the units, a point and two digits are an amount of money
pub money_pieces : (old : List ℕ) (c : ℕ) → ((old ++ decimal (c / 100) ++ 46 ∷ []) ++ decimal (c % 100 / 10))
    ++ decimal (c % 10) ≡ old ++ money_text c
money_pieces old c =
    let same : c % 10 ≡ c % 100 % 10 = omega arith in
    let tens : decimal (c % 100 / 10) ≡ (48 + c % 100 / 10) ∷ [] = decimal_digit _ (omega arith) in
    let ones : decimal (c % 10) ≡ (48 + c % 100 % 10) ∷ [] = rw same (decimal_digit _ (omega arith)) in
    rw (tens, ones) (simp append_assoc)

-- a number is written in printable bytes
pub printable_decimal : (n : ℕ) → n < 2 ^ 64 → All IsPrintable (decimal n)
printable_decimal =
    decimal_by_steps (λ _ ds. All IsPrintable ds)
    (λ n small. All-cons IsPrintable _ [] (omega arith, omega arith) (All-nil IsPrintable))
    (λ n ds large so_far. All-push IsPrintable ds _ so_far (omega arith, omega arith))

-- the columns, each with a blank, then the money and a bar are the entry
pub entry_pieces : (a b c d e m : List ℕ)
    → ((a ++ 32 ∷ []) ++ (b ++ 32 ∷ []) ++ (c ++ 32 ∷ []) ++ (d ++ 32 ∷ []) ++ (e ++ 32 ∷ []) ++ m)
    ++ 124 ∷ [] ≡ join_with_byte 32 (a ∷ b ∷ c ∷ d ∷ e ∷ m ∷ []) ++ 124 ∷ []
entry_pieces a b c d e m = simp append_assoc

-- and it is printable
pub printable_money : (c : ℕ) → c < 2 ^ 32 → All IsPrintable (money_text c)
printable_money c small =
    All-append IsPrintable (decimal (c / 100)) _ (printable_decimal (c / 100) (omega arith))
    (All-from_recursion IsPrintable (46 ∷ (48 + c % 100 / 10) ∷ (48 + c % 100 % 10) ∷ [])
    ((lit≤ tt, lit≤ tt), ((omega arith, omega arith), ((omega arith, omega arith), tt))))

pub printable_entry : (a b c d e m : ℕ) → a < 2 ^ 32 → b < 2 ^ 32 → c < 2 ^ 32 → d < 2 ^ 32 → e < 2 ^ 32 → m < 2 ^ 32
    → All IsPrintable (join_with_byte 32 (decimal a ∷ decimal b ∷ decimal c ∷ decimal d ∷ decimal e ∷ money_text m ∷ [])
    ++ 124 ∷ [])
printable_entry a b c d e m p q r s t u =
    All-push IsPrintable _ 124
    (column a _ p (column b _ q (column c _ r (column d _ s (column e _ t (printable_money m u))))))
    (lit≤ tt, lit≤ tt)
  where
    column : (n : ℕ) (rest : List ℕ) → n < 2 ^ 32 → All IsPrintable rest → All IsPrintable (decimal n ++ 32 ∷ rest)
    column n rest small h = All-append IsPrintable (decimal n) (32 ∷ rest) (printable_decimal n (omega arith))
        (All-cons IsPrintable 32 rest (lit≤ tt, lit≤ tt) h)
