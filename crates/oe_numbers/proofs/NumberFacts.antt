-- Numbers as words, and seven words.
use Rattle.std.proofs.Common.{◌≡◌, ◌↔◌, ℕ, ◌≤◌, ◌<◌, ◌^◌, List, [], ◌∷◌, length, Result, Ok, Err, Option, Some, None}
use Rattle.std.proofs.Common.{IsSome, IfNone, slice_get, sym, ◌∙◌, rules, arith}
use Rattle.std.specs.Fmt.{decimal}
use Rattle.std.specs.Str.Parse.{ParsesUnsigned}
use Rattle.std.proofs.lemmas.Fmt.{parse-decimal}

-- a word that a number prints as is read as that number
pub parses : {E : Type 0} (word : List ℕ) (n : ℕ) (r : Result ℕ E) → n < 2 ^ 32 → word ≡ decimal n
    → ParsesUnsigned 32 10 word r → r ≡ Ok n
parses word n r small is h = parse-decimal 32 n word r small (omega (arith, small)) is h

pub is_read : {E : Type 0} (word : List ℕ) (n : ℕ) (r : Result ℕ E) (e : E) → n < 2 ^ 32 → word ≡ decimal n
    → ParsesUnsigned 32 10 word r → r ≡ Err e → ⊥
is_read word n r e small is h failed =
    let bad : Ok n ≡ Err e = sym (parses word n r small is h) ∙ failed in cc

pub is_that : {E : Type 0} (word : List ℕ) (n m : ℕ) (r : Result ℕ E) → n < 2 ^ 32 → word ≡ decimal n
    → ParsesUnsigned 32 10 word r → r ≡ Ok m → m ≡ n
is_that word n m r small is h read =
    let same : Ok n ≡ Ok m = sym (parses word n r small is h) ∙ read in cc

-- where the number that a word is read as is in no range, no number of the range prints as the word
pub out_of_range : (low high m : ℕ) (word : List ℕ) (r : Option ℕ) → (IsSome r ↔ ((low ≤ m) × (m ≤ high)))
    → ((n : ℕ) → n ≤ high → word ≡ decimal n → m ≡ n)
    → IfNone r ((n : ℕ) → low ≤ n → n ≤ high → word ≡ decimal n → ⊥)
out_of_range low high m word (Some x) within same = tt
out_of_range low high m word None within same = λ n l h is. let e : m ≡ n = same n h is in
    let bad : IsSome {T = ℕ} None = within.1 (omega (arith, e, l), omega (arith, e, h)) in search (rules, bad)

-- seven words, each by its place
pub seven : (ws : List (List ℕ)) (a b c d e f g : List ℕ) → length ws ≡ 7 → slice_get ws 0 ≡ Some a
    → slice_get ws 1 ≡ Some b → slice_get ws 2 ≡ Some c → slice_get ws 3 ≡ Some d
    → slice_get ws 4 ≡ Some e → slice_get ws 5 ≡ Some f → slice_get ws 6 ≡ Some g → ws ≡ a ∷ b ∷ c ∷ d ∷ e ∷ f ∷ g ∷ []
seven [] a b c d e f g long pa pb pc pd pe pf pg = absurd (omega (arith, long))
seven (p ∷ []) a b c d e f g long pa pb pc pd pe pf pg = absurd (omega (arith, long))
seven (p ∷ q ∷ []) a b c d e f g long pa pb pc pd pe pf pg = absurd (omega (arith, long))
seven (p ∷ q ∷ r ∷ []) a b c d e f g long pa pb pc pd pe pf pg = absurd (omega (arith, long))
seven (p ∷ q ∷ r ∷ s ∷ []) a b c d e f g long pa pb pc pd pe pf pg = absurd (omega (arith, long))
seven (p ∷ q ∷ r ∷ s ∷ t ∷ []) a b c d e f g long pa pb pc pd pe pf pg = absurd (omega (arith, long))
seven (p ∷ q ∷ r ∷ s ∷ t ∷ u ∷ []) a b c d e f g long pa pb pc pd pe pf pg = absurd (omega (arith, long))
seven (p ∷ q ∷ r ∷ s ∷ t ∷ u ∷ v ∷ []) a b c d e f g long pa pb pc pd pe pf pg = cc
seven (p ∷ q ∷ r ∷ s ∷ t ∷ u ∷ v ∷ w ∷ ws) a b c d e f g long pa pb pc pd pe pf pg = absurd (omega (arith, long))

-- four words
pub four : (ws : List (List ℕ)) (a b c d : List ℕ) → length ws ≡ 4 → slice_get ws 0 ≡ Some a → slice_get ws 1 ≡ Some b
    → slice_get ws 2 ≡ Some c → slice_get ws 3 ≡ Some d → ws ≡ a ∷ b ∷ c ∷ d ∷ []
four [] a b c d long pa pb pc pd = absurd (omega (arith, long))
four (p ∷ []) a b c d long pa pb pc pd = absurd (omega (arith, long))
four (p ∷ q ∷ []) a b c d long pa pb pc pd = absurd (omega (arith, long))
four (p ∷ q ∷ r ∷ []) a b c d long pa pb pc pd = absurd (omega (arith, long))
four (p ∷ q ∷ r ∷ s ∷ []) a b c d long pa pb pc pd = cc
four (p ∷ q ∷ r ∷ s ∷ t ∷ ws) a b c d long pa pb pc pd = absurd (omega (arith, long))
