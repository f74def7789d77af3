-- Which extent of a list has a number, and with it the string at an address.
use Rattle.std.proofs.Common.{◌≡◌, ℕ, Bool, cond, List, [], ◌∷◌, ◌++◌, None, refl, ap, ◌∙◌, subst}
use Rattle.std.proofs.lemmas.Bool.{eq-eqb, ne_eqb}
use Rattle.oe_extent.specs.declared.extents.Extent.{Extent, Extent', None', Some', out-Extent}
use Rattle.oe_extent.specs.Strings.{HasOffset}
use Rattle.oe_extent.specs.Extents.{contents_in, contents_of, strings_at}

no_string : (newer : List (List ℕ)) (s : List ℕ) (older : List (List ℕ)) → [] ≡ newer ++ s ∷ older → ⊥
no_string [] s older e = absurd cc
no_string (x ∷ newer) s older e = absurd cc

pub none_there : (o : ℕ) → HasOffset [] o → ⊥
none_there o h = no_string h.begins.newer h.string h.begins.older h.begins.parts

-- an extent, and those before it
parts_of : (e : Extent) → contents_in e ≡ record { number = (out-Extent e).number; strings = (out-Extent e).strings }
    ∷ contents_of (out-Extent e).older
unfolding out-Extent denote.Hole.Carrier.out
parts_of (Extent' number strings None') = refl
parts_of (Extent' number strings (Some' p x)) = refl

pub strings_here : (e : Extent) (n : ℕ) → (out-Extent e).number ≡ n
    → strings_at n (contents_in e) ≡ (out-Extent e).strings
strings_here e n same =
    ap (strings_at n) (parts_of e)
    ∙ ap (λ (b : Bool). cond b (out-Extent e).strings (strings_at n (contents_of (out-Extent e).older)))
    (eq-eqb (out-Extent e).number n same)

pub strings_before : (e : Extent) (n : ℕ) → ((out-Extent e).number ≡ n → ⊥)
    → strings_at n (contents_in e) ≡ strings_at n (contents_of (out-Extent e).older)
strings_before e n other =
    ap (strings_at n) (parts_of e)
    ∙ ap (λ (b : Bool). cond b (out-Extent e).strings (strings_at n (contents_of (out-Extent e).older)))
    (ne_eqb (out-Extent e).number n other)

pub none_before : (e : Extent) (n o : ℕ) → (out-Extent e).older ≡ None → ((out-Extent e).number ≡ n → ⊥)
    → HasOffset (strings_at n (contents_in e)) o → ⊥
none_before e n o none other h =
    none_there o (subst (λ (ss : List (List ℕ)). HasOffset ss o)
    (strings_before e n other ∙ ap (λ x. strings_at n (contents_of x)) none) h)
