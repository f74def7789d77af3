-- An item without a mark is not listed.
use Rattle.std.proofs.Common.{◌≡◌, ℕ, refl, sym, ap, ◌∙◌, Bool, true, false, List, get_or}
use Rattle.std.specs.Prelude.{◌%◌}
use Rattle.oe_enquiry.specs.Level.{is_listed, AreMarked}

pub is_unmarked : (marks : List Bool) (items : List ℕ) (i at : ℕ) → AreMarked marks items → at ≡ i % 512
    → get_or marks at false ≡ false → false ≡ is_listed items i
is_unmarked marks items i at marked is none = by (is_listed items i) refl
  where
    by : (b : Bool) → is_listed items i ≡ b → false ≡ is_listed items i
    by true e =
        let no_mark : false ≡ true = sym none ∙ ap (λ n. get_or marks n false) is ∙ marked i e in
        let no : ⊥ = cc in absurd no
    by false e = sym e
