-- The first column at which two lines differ, one column after another.
use Rattle.std.proofs.Common.{◌≡◌, ℕ, ◌+◌, true, List, [], ◌∷◌, Option, None, Some, refl}
use Rattle.std.proofs.Common.{Bor}
use Rattle.std.specs.Prelude.{nat_eq}
use Rattle.std.specs.Option.{option_copied}
use Rattle.std.proofs.lemmas.Bool.{eq-eqb}
use Rattle.oe_file_rows.specs.Line.{left_of}
use Rattle.oe_comparison.specs.Columns.{is_same, first_other}

-- a column that is the same
pub same_column : (n : ℕ) (ts os ts' os' : List (List ℕ)) (t o : List ℕ) → ts ≡ t ∷ ts' → os ≡ o ∷ os'
    → is_same t o ≡ true → first_other (n + 1) ts' os' ≡ first_other n ts os
same_column n ts os ts' os' t o e f same = rw (e, f, same) refl

-- no column is left on our side
none_there : (n : ℕ) (ts : List (List ℕ)) → first_other n ts [] ≡ None
none_there n [] = refl
none_there n (t ∷ ts) = refl

pub none_right : (n : ℕ) (ts os : List (List ℕ)) → os ≡ [] → first_other n ts os ≡ None
none_right n ts os e = rw e (none_there n ts)

pub no_field : (rest : Option (Bor (List ℕ))) → ((r : Bor (List ℕ)) → rest ≡ Some r → ⊥)
    → left_of (option_copied rest) ≡ []
no_field None not = refl
no_field (Some r) not = absurd (not r refl)

-- a row is no other than itself
same_text : (t : List ℕ) → is_same t t ≡ true
same_text [] = refl
same_text (b ∷ t) = rw (nat_itself b) (same_text t)
  where
    nat_itself : (b : ℕ) → nat_eq b b ≡ true
    nat_itself b = eq-eqb b b refl

pub none_itself : (n : ℕ) (ts : List (List ℕ)) → first_other n ts ts ≡ None
none_itself n [] = refl
none_itself n (t ∷ ts) = rw (same_text t) (none_itself (n + 1) ts)
