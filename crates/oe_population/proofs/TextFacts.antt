-- Texts of the population: their digits, one by one, and their letters.
use Rattle.std.proofs.Common.{◌≡◌, ℕ, ◌+◌, ◌-◌, ◌/◌, ◌%◌, true, ◌<◌, ◌≤◌, List, [], ◌∷◌, ◌++◌, length, take, drop, set}
use Rattle.std.proofs.Common.{refl, sym, ap, ◌∙◌, arith, length-append, append_assoc, add-one}
use Rattle.std.specs.Prelude.{map, codes}
use Rattle.std.specs.Int.{IsInRange}
use Rattle.std.specs.List.{All, list_all, range_with_len}
use Rattle.std.proofs.lemmas.Grind.{common_steps}
use Rattle.std.proofs.lemmas.List.{take_at, drop-set, get_or-take, get_or-drop, same_lists, length-take, length-drop}
use Rattle.std.proofs.lemmas.List.Elements.{All-append}
use Rattle.std.proofs.lemmas.List.FromFn.{length-map-range_with_len, get_or-map-range_with_len}
use Rattle.std.proofs.lemmas.Slice.{take-put_mid}
use borrow.Rule.Slice.PartMut.{put_mid}
use Rattle.oe_values.specs.Text.{IsPrintable, IsText}
use Rattle.oe_model.specs.Population.{dec, letters, dist_text}
use Rattle.oe_model.proofs.PopulationTextFacts.{dec_text}
use Rattle.oe_population.specs.Printable.{is_printable}
use Rattle.oe_population.specs.declared.texts.TheConstants.{ALPHABETS}

dec_more : (n k : ℕ) → dec n (k + 1) ≡ dec (n / 10) k ++ (48 + n % 10) ∷ []
unfolding dec
dec_more n k = rw add-one

-- one more digit is written, from the right
pub digit_more : (n k j : ℕ) (xs : List ℕ) → k + 1 ≡ j → k < length xs
    → dec (n / 10) k ++ drop k (set xs k (48 + n % 10)) ≡ dec n j ++ drop j xs
digit_more n k j xs e l =
    rw (← e)
    (ap (λ ys. dec (n / 10) k ++ ys) (drop-set xs k (48 + n % 10) l)
    ∙ sym (append_assoc (dec (n / 10) k) ((48 + n % 10) ∷ []) (drop (k + 1) xs))
    ∙ ap (λ ys. ys ++ drop (k + 1) xs) (sym (dec_more n k)))

pub digits_all : (n : ℕ) (xs : List ℕ) → dec n 0 ++ drop 0 xs ≡ xs
unfolding dec
digits_all n xs = refl

-- the front of a buffer, once a label and the digits after it are written
pub written : (n digits k : ℕ) (label xs ys zs : List ℕ) → xs ≡ label → ys ≡ dec n digits
    → take (length label + digits) (put_mid (length label) k (xs ++ zs) ys) ≡ label ++ dec n digits
written n digits k label xs ys zs e f =
    let t = dec_text n digits in
    let low = t.at_least in
    let high = t.at_most in
    rw (e, f)
    (take-put_mid (length label) k (label ++ zs) (dec n digits) _ (omega arith) (simp length-append (omega arith))
    ∙ ap (λ l. l ++ dec n digits) (take_at label zs _ refl))

-- a label and what follows it
pub labelled : (least most k : ℕ) (label xs : List ℕ) → IsInRange least most (length label + k)
    → list_all is_printable label ≡ true → IsText k k xs → IsText least most (label ++ xs)
labelled least most k label xs fits e t =
    let l : All IsPrintable label = grind (arith, common_steps) in
    let long = length-append label xs in
    let low = t.at_least in
    let high = t.at_most in
    record { at_least = omega arith; at_most = omega arith; printable = All-append IsPrintable label xs l t.printable }

pub same_text : (least most : ℕ) (xs ys : List ℕ) → xs ≡ ys → IsText least most ys → IsText least most xs
same_text least most xs ys e t = rw e t

-- the parts of a district's information, as they are written
pub dist_parts : (w d i : ℕ) (ws ds is : List ℕ) → ws ≡ dec w 2 → ds ≡ dec d 2 → is ≡ dec i 7
    → codes "STOCK-DIST-" ++ (ws ++ 45 ∷ (ds ++ 45 ∷ (is ++ []))) ≡ dist_text w d i
unfolding dec dist_text
dist_parts w d i ws ds is e f g = rw (e, f, g) refl

-- letters from any on stand in a row of alphabets
letters_part : (n i most : ℕ) → n + 26 ≤ most → take n (drop (i % 26) (letters most 0)) ≡ letters n i
unfolding letters
letters_part n i most fits =
    let row = map (λ j. 65 + (0 + j) % 26) (range_with_len 0 most) in
    let long : length (take n (drop (i % 26) row)) ≡ n = simp (length-take, length-drop, length-map-range_with_len)
    (omega arith) in
    same_lists _ _ (long ∙ sym (length-map-range_with_len (λ j. 65 + (i + j) % 26) 0 n))
    (λ k d h.
    let small : k < n = omega arith in
    get_or-take n (drop (i % 26) row) k d small
    ∙ get_or-drop (i % 26) row k d
    ∙ get_or-map-range_with_len (λ j. 65 + (0 + j) % 26) 0 most (i % 26 + k) (i % 26 + k) d (omega arith) (omega arith)
    ∙ (let e : 65 + (0 + (i % 26 + k)) % 26 ≡ 65 + (i + k) % 26 = omega arith in e)
    ∙ sym (get_or-map-range_with_len (λ j. 65 + (i + j) % 26) 0 n k k d small (omega arith)))

alphabets : ALPHABETS ≡ letters 546 0
unfolding letters
alphabets = refl

pub alphabets_part : (n i : ℕ) → n ≤ 500 → take (i % 26 + n - i % 26) (drop (i % 26) ALPHABETS) ≡ letters n i
alphabets_part n i fits =
    let same : i % 26 + n - i % 26 ≡ n = omega arith in
    rw (same, alphabets) (letters_part n i 546 (omega arith))
