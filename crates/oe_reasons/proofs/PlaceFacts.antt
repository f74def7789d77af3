-- What stands behind some blanks of a line.
use Rattle.std.proofs.Common.{◌≡◌, ℕ, zero, suc, ◌≤◌, List, Option, Some, None, sym, ap, ◌∙◌, inl, inr, arith}
use Rattle.std.proofs.lemmas.Bool.{cases_eq}
use Rattle.oe_values.specs.Front.{◌>>=◌}
use Rattle.oe_reasons.specs.Columns.{behind, text_from}

-- one blank more
pub one_more : (line rest : List ℕ) (o : Option (List ℕ)) (n m : ℕ) → m ≡ suc n → Some rest ≡ text_from line n
    → o ≡ behind rest → o ≡ text_from line m
one_more line rest o n m one e f = f ∙ (ap (λ s. s >>= behind) e ∙ ap (text_from line) (sym one))

-- where a blank is missing, none is found further on
none_on : (line : List ℕ) (m n : ℕ) → m ≤ n → text_from line m ≡ None → text_from line n ≡ None
none_on line m zero h e = let same : m ≡ zero = omega (arith, h) in ap (text_from line) (sym same) ∙ e
none_on line m (suc n) h e = elim (cases_eq m (suc n)) [
  | inl same ↦ ap (text_from line) (sym same) ∙ e
  | inr other ↦ ap (λ o. o >>= behind) (none_on line m n (omega (arith, h, other)) e)
]

pub none_here : (line rest : List ℕ) (n k : ℕ) → suc n ≤ k → Some rest ≡ text_from line n → behind rest ≡ None
    → None ≡ text_from line k
none_here line rest n k h e f = sym (none_on line (suc n) k h (sym (ap (λ s. s >>= behind) e) ∙ f))
