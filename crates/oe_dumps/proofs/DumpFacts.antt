-- The rows of a dump, one after another.
use Rattle.std.proofs.Common.{◌≡◌, ℕ, suc, ◌+◌, ◌^◌, ◌-◌, ◌≤◌, List, ◌∷◌, ◌++◌, append_assoc, sym, ap, ◌∙◌, arith}
use Rattle.oe_texts.specs.Column.{line_of}
use Rattle.oe_dumps.specs.Dump.{row_lines, in_64_bits}

pub shown_start : (a b : ℕ) → a ≡ b → in_64_bits a ≡ in_64_bits (b + 0)
shown_start a b e = omega (arith, e)

pub shown_step : (a b c : ℕ) → c ≡ in_64_bits (b + 1) → in_64_bits (suc a + b) ≡ in_64_bits (a + c)
shown_step a b c e = omega (arith, e)

pub shown_end : (a n : ℕ) → a ≡ 0 → n ≤ 2 ^ 64 - 1 → in_64_bits (a + n) ≡ n
shown_end a n e h = omega (arith, e, h)

module _ {K X : Type 0} (columns : K → X → List (List ℕ)) where
  -- one row is taken off what is left
  pub lines_step : (text : List ℕ) (k : K) (x : X) (es rest : List (K × X)) → es ≡ (k, x) ∷ rest →
      text ++ row_lines columns es ≡ (text ++ line_of (columns k x)) ++ row_lines columns rest
  lines_step text k x es rest e = ap (λ z. text ++ row_lines columns z) e
      ∙ sym (append_assoc text (line_of (columns k x)) (row_lines columns rest))
