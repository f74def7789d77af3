-- The greatest of numbers that are looked at one after another.
use Rattle.std.proofs.Common.{◌≡◌, ℕ, refl, ◌∙◌, List, [], ◌∷◌, Option, Some, None, max}
use Rattle.std.specs.List.{fold}
use Rattle.oe_model.specs.Audits.{greatest}
use Rattle.oe_audit.specs.Walks.{greater_of}
use Rattle.oe_audit.proofs.NumberFacts.{greatest_reduced}

abbrev pub highest_from : Option ℕ → List ℕ → Option ℕ
highest_from b [] = b
highest_from b (n ∷ ns) = highest_from (Some (greater_of b n)) ns

highest_some : (n : ℕ) (ns : List ℕ) → highest_from (Some n) ns ≡ Some (fold max n ns)
highest_some n [] = refl
highest_some n (m ∷ ms) = highest_some (max n m) ms

pub highest_is : (ns : List ℕ) → highest_from None ns ≡ greatest ns
highest_is [] = refl
highest_is (n ∷ ns) = highest_some n ns ∙ greatest_reduced (n ∷ ns)
