-- Lemmas on rows of columns.
use Rattle.std.proofs.Common.{◌≡◌, ℕ, List, [], ◌∷◌, ◌++◌, refl, ap, append_assoc, sym, ◌∙◌}
use Rattle.oe_texts.specs.Column.{line_of, with_tabs}

line_of-between : (x : List ℕ) (xs : List (List ℕ)) (y : List ℕ) (ys : List (List ℕ))
    → line_of (x ∷ (xs ++ y ∷ ys)) ≡ x ++ 9 ∷ (with_tabs xs ++ line_of (y ∷ ys))
line_of-between x [] y ys = refl
line_of-between x (z ∷ zs) y ys =
    ap (λ t. x ++ 9 ∷ t) (line_of-between z zs y ys ∙ sym (append_assoc z (9 ∷ with_tabs zs) (line_of (y ∷ ys))))

-- columns in the midst of a row, after three others
pub line_of-midst : (new out w i x : List ℕ) (xs : List (List ℕ)) (y : List ℕ) (ys : List (List ℕ))
    → new ≡ out ++ with_tabs (w ∷ i ∷ []) ++ (x ++ 9 ∷ []) ++ with_tabs xs ++ line_of (y ∷ ys)
    → new ≡ out ++ line_of (w ∷ i ∷ x ∷ (xs ++ y ∷ ys))
line_of-midst new out w i x xs y ys e = rw (line_of-between x xs y ys) (e ∙ simp append_assoc)
