-- The strings of a list of extents, without their addresses.
use Rattle.std.proofs.Common.{◌≡◌, ◌<◌, ℕ, List, [], ◌∷◌, ◌++◌, length, map, get_or, refl, sym, ap, ◌∙◌, arith}
use Rattle.std.proofs.lemmas.List.{length-map}
use Rattle.oe_extent.specs.Extents.{Contents, all_strings}
use Rattle.oe_extent.specs.Ring.{Addressed, strings_of}
use Rattle.oe_extent.specs.Kept.{addressed_in, addressed_of}
use Rattle.oe_extent.proofs.ChangeFacts.{at_slot, strings_at_slot}

strings_in : (n : ℕ) (xs : List (List ℕ)) (rest : List Addressed) → strings_of (addressed_in n xs ++ rest) ≡ xs
    ++ strings_of rest
strings_in n [] rest = refl
strings_in n (x ∷ xs) rest = ap (λ (l : List (List ℕ)). x ∷ l) (strings_in n xs rest)

all_of : (cs : List Contents) → strings_of (addressed_of cs) ≡ all_strings cs
all_of [] = refl
all_of (c ∷ cs) = strings_in c.number c.strings (addressed_of cs) ∙ ap (λ (l : List (List ℕ)). c.strings ++ l)
    (all_of cs)

-- those of one of several lists
pub strings_here : (xs : List (List Contents)) (i : ℕ) (x : List Contents) → i < length (map addressed_of xs)
    → x ≡ get_or xs i x
    → all_strings x ≡ strings_of (get_or (map addressed_of xs) i [])
strings_here xs i x lt e =
    let within : i < length xs = omega (arith, lt, length-map xs addressed_of) in
    ap all_strings (at_slot xs i lt x e) ∙ sym (all_of (get_or xs i []))
    ∙ ap strings_of (sym (strings_at_slot xs i within))
