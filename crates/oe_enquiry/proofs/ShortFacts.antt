-- Whether one item more is listed.
use Rattle.std.proofs.Common.{◌≡◌, ℕ, ◌+◌, ◌≤◌, sym, ap, ◌∙◌, Bool, true, false, cond, List, [], ◌∷◌, ◌++◌}
use Rattle.std.proofs.Common.{length, length-append, arith}
use Rattle.std.specs.Prelude.{not, ◌&&◌}
use Rattle.oe_enquiry.specs.Level.{is_listed, list_with}

module _ (p : ℕ → Bool) (items : List ℕ) (i : ℕ) (there : Bool) (short : Bool) where
  -- it is listed already
  pub stays_listed : there ≡ is_listed items i → there ≡ true → items ≡ list_with p items (i ∷ [])
  stays_listed e t = ap (λ b. cond (not b && p i) (items ++ i ∷ []) items) (sym (sym e ∙ t))

  -- it is short
  pub comes_in : (items' : List ℕ) (j : ℕ) → items' ≡ items ++ j ∷ [] → j ≡ i → there ≡ is_listed items i
      → there ≡ false → short ≡ p i → short ≡ true → items' ≡ list_with p items (i ∷ [])
  comes_in items' j is same e f s t = is ∙ ap (λ z. items ++ z ∷ []) same
      ∙ (λ k. cond (not (sym (sym e ∙ f) k) && sym (sym s ∙ t) k) (items ++ i ∷ []) items)

  -- there is enough of it
  pub is_enough : there ≡ is_listed items i → there ≡ false → short ≡ p i → short ≡ false
      → items ≡ list_with p items (i ∷ [])
  is_enough e f s t = λ j. cond (not (sym (sym e ∙ f) j) && sym (sym s ∙ t) j) (items ++ i ∷ []) items

pub one_more : (items items' : List ℕ) (j : ℕ) → items' ≡ items ++ j ∷ [] → length items' ≤ length items + 1
one_more items items' j is =
    let l : length (items ++ j ∷ []) ≡ length items + length (j ∷ []) = length-append items (j ∷ []) in
    let e : length items' ≡ length (items ++ j ∷ []) = ap length is in omega (arith, l, e)
