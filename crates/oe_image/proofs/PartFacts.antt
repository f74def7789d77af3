-- What is written of a part whose last columns do not change.
use Rattle.std.proofs.Common.{ℕ, List, [], ◌++◌, sym, subst}
use Rattle.std.proofs.lemmas.List.{append-nil}
use Rattle.oe_extent.specs.Images.{Writes}

-- columns that are not there have no bytes behind those that are
pub Writes-last : (old new : List ℕ) (start end : ℕ) (s : List ℕ) → Writes old start s new end
    → Writes old start (s ++ []) new end
Writes-last old new start end s w = subst (λ (l : List ℕ). Writes old start l new end) (sym (append-nil s)) w
