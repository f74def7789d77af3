-- The texts of the population by formula: their lengths, and that they are printable.
use Rattle.std.proofs.Common.{◌≡◌, ℕ, zero, suc, ◌+◌, ◌/◌, ◌%◌, ◌≤◌, refl, sym, subst, Bool, true, List, [], ◌∷◌, ◌++◌}
use Rattle.std.proofs.Common.{length, get_or, codes, arith}
use Rattle.std.specs.Prelude.{◌&&◌, nat_le, All}
use Rattle.std.specs.List.{list_all}
use Rattle.std.proofs.lemmas.Bool.{leb-true, and_parts}
use Rattle.std.proofs.lemmas.List.{length-append}
use Rattle.std.proofs.lemmas.List.Elements.{All-append}
use Rattle.std.proofs.lemmas.List.FromFn.{length-map-range_with_len, get_or-map-range_with_len}
use Rattle.oe_values.specs.Text.{IsPrintable, IsText}
use Rattle.oe_model.specs.Population.{dec, letters, syllables, syllable, last_name, dist_text}

abbrev is_printable : ℕ → Bool
is_printable b = nat_le 32 b && nat_le b 126

abbrev is_text : ℕ → ℕ → List ℕ → Bool
is_text low high xs = nat_le low (length xs) && nat_le (length xs) high && list_all is_printable xs

all_printable : (xs : List ℕ) → list_all is_printable xs ≡ true → All IsPrintable xs
all_printable [] e k d l = absurd (let no : ⊥ = omega arith in no)
all_printable (x ∷ xs) e zero d l = let t = and_parts (nat_le 32 x) (nat_le x 126) (and_parts (is_printable x) _ e).0 in
    (leb-true 32 x t.0, leb-true x 126 t.1)
all_printable (x ∷ xs) e (suc k) d l = all_printable xs (and_parts (is_printable x) _ e).1 k d (omega arith)

-- a text that is written out is tested
pub literal : (low high : ℕ) (xs : List ℕ) → is_text low high xs ≡ true → IsText low high xs
literal low high xs e =
    let t = and_parts (nat_le low (length xs) && nat_le (length xs) high) _ e in
    let u = and_parts (nat_le low (length xs)) _ t.0 in
    record {
      at_least = leb-true low (length xs) u.0;
      at_most = leb-true (length xs) high u.1;
      printable = all_printable xs t.1;
    }

pub wider : {low high : ℕ} {xs : List ℕ} (a b : ℕ) → a ≤ low → high ≤ b → IsText low high xs → IsText a b xs
wider a b l h t = let x = t.at_least in let y = t.at_most in
    record { at_least = omega arith; at_most = omega arith; printable = t.printable }

pub joined : {a b c d : ℕ} (xs ys : List ℕ) → IsText a b xs → IsText c d ys → IsText (a + c) (b + d) (xs ++ ys)
joined xs ys s t =
    let l = length-append xs ys in
    let p = s.at_least in
    let q = s.at_most in
    let u = t.at_least in
    let v = t.at_most in
    record {
      at_least = omega arith;
      at_most = omega arith;
      printable = All-append IsPrintable xs ys s.printable
          t.printable;
    }

one : (b : ℕ) → IsPrintable b → IsText 1 1 (b ∷ [])
one b p = record { at_least = omega arith; at_most = omega arith; printable = at }
  where
    at : All IsPrintable (b ∷ [])
    at zero d l = p
    at (suc k) d l = absurd (let no : ⊥ = omega arith in no)

pub dec_text : (n k : ℕ) → IsText k k (dec n k)
unfolding dec
dec_text n zero = literal 0 0 [] refl
dec_text n (suc k) = wider (suc k) (suc k) (omega arith) (omega arith)
    (joined (dec (n / 10) k) ((48 + n % 10) ∷ []) (dec_text (n / 10) k) (one (48 + n % 10) (omega arith, omega arith)))

pub letters_text : (n i : ℕ) → IsText n n (letters n i)
unfolding letters
letters_text n i =
    let l = length-map-range_with_len (λ j. 65 + (i + j) % 26) 0 n in
    record {
      at_least = omega arith;
      at_most = omega arith;
      printable = λ k d h. subst IsPrintable
          (sym (get_or-map-range_with_len (λ j. 65 + (i + j) % 26) 0 n k k d (omega arith) (omega arith)))
          (omega arith, omega arith);
    }

pub dist_text_text : (w d i : ℕ) → IsText 24 24 (dist_text w d i)
unfolding dist_text
dist_text_text w d i =
    joined _ _ (joined _ _
    (joined _ _ (joined _ _ (joined _ _ (literal 11 11 (codes "STOCK-DIST-") refl) (dec_text w 2))
    (literal 1 1 (codes "-") refl)) (dec_text d 2)) (literal 1 1 (codes "-") refl)) (dec_text i 7)

-- each text of a list that is written out, and none
one_of : (low high : ℕ) (xss : List (List ℕ)) → list_all (is_text low high) xss ≡ true → IsText low high [] → (i : ℕ)
    → IsText low high (get_or xss i [])
one_of low high [] e none i = none
one_of low high (xs ∷ xss) e none zero = literal low high xs (and_parts (is_text low high xs) _ e).0
one_of low high (xs ∷ xss) e none (suc i) = one_of low high xss (and_parts (is_text low high xs) _ e).1 none i

syllable_text : (d : ℕ) → IsText 0 5 (syllable d)
unfolding syllable
syllable_text d = one_of 0 5 syllables refl (literal 0 5 [] refl) d

pub last_name_text : (n : ℕ) → IsText 0 15 (last_name n)
last_name_text n = joined _ _ (joined _ _ (syllable_text (n / 100)) (syllable_text (n / 10 % 10)))
    (syllable_text (n % 10))
