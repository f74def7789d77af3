-- The last name of a number is one that a request may give.
use Rattle.std.proofs.Common.{◌≡◌, ℕ, zero, suc, ◌/◌, ◌%◌, ◌<◌, ◌≤◌, refl, Bool, true, List, [], ◌∷◌, ◌++◌, length}
use Rattle.std.proofs.Common.{get_or, arith}
use Rattle.std.specs.Prelude.{◌&&◌, nat_le, All}
use Rattle.std.specs.List.{list_all}
use Rattle.std.proofs.lemmas.Bool.{leb-true, and_parts}
use Rattle.std.proofs.lemmas.List.{length-append}
use Rattle.std.proofs.lemmas.List.Elements.{All-append}
use Rattle.oe_values.specs.Text.{IsCapital, IsLastName}
use Rattle.oe_model.specs.Population.{syllables, syllable, last_name}

abbrev is_capital : ℕ → Bool
is_capital b = nat_le 65 b && nat_le b 90

abbrev is_syllable : List ℕ → Bool
is_syllable xs = nat_le 1 (length xs) && nat_le (length xs) 5 && list_all is_capital xs

-- 1 to 5 letters
record IsSyllable (xs : List ℕ) : Type 0 where
  at_least : 1 ≤ length xs
  at_most : length xs ≤ 5
  capitals : All IsCapital xs

all_capital : (xs : List ℕ) → list_all is_capital xs ≡ true → All IsCapital xs
all_capital [] e k d l = absurd (let no : ⊥ = omega arith in no)
all_capital (x ∷ xs) e zero d l = let t = and_parts (nat_le 65 x) (nat_le x 90) (and_parts (is_capital x) _ e).0 in
    (leb-true 65 x t.0, leb-true x 90 t.1)
all_capital (x ∷ xs) e (suc k) d l = all_capital xs (and_parts (is_capital x) _ e).1 k d (omega arith)

literal : (xs : List ℕ) → is_syllable xs ≡ true → IsSyllable xs
literal xs e =
    let t = and_parts (nat_le 1 (length xs) && nat_le (length xs) 5) _ e in
    let u = and_parts (nat_le 1 (length xs)) _ t.0 in
    record {
      at_least = leb-true 1 (length xs) u.0;
      at_most = leb-true (length xs) 5 u.1;
      capitals = all_capital xs t.1;
    }

-- each of a list that is written out
one_of : (xss : List (List ℕ)) → list_all is_syllable xss ≡ true → (i : ℕ) → i < length xss
    → IsSyllable (get_or xss i [])
one_of [] e i l = absurd (let no : ⊥ = omega arith in no)
one_of (xs ∷ xss) e zero l = literal xs (and_parts (is_syllable xs) _ e).0
one_of (xs ∷ xss) e (suc i) l = one_of xss (and_parts (is_syllable xs) _ e).1 i (omega arith)

syllable_of_digit : (d : ℕ) → d < 10 → IsSyllable (syllable d)
unfolding syllable
syllable_of_digit d l = one_of syllables refl d l

three : (a b c : List ℕ) → IsSyllable a → IsSyllable b → IsSyllable c → IsLastName (a ++ b ++ c)
three a b c x y z =
    let front = length-append a b in
    let whole = length-append (a ++ b) c in
    let p = x.at_least in
    let q = x.at_most in
    let r = y.at_most in
    let s = z.at_most in
    record {
      at_least = omega arith;
      at_most = omega arith;
      capitals = All-append IsCapital (a ++ b) c (All-append IsCapital a b x.capitals y.capitals) z.capitals;
    }

pub last_name_is : (n : ℕ) → n < 1_000 → IsLastName (last_name n)
last_name_is n l = three (syllable (n / 100)) (syllable (n / 10 % 10)) (syllable (n % 10))
    (syllable_of_digit (n / 100) (omega arith)) (syllable_of_digit (n / 10 % 10) (omega arith))
    (syllable_of_digit (n % 10) (omega arith))
