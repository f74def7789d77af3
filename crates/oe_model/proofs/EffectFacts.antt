-- How a whole effect is taken apart, the columns that may leave their ranges, and counts of commits.
use Rattle.std.proofs.Common.{◌≡◌, ℕ, suc, ◌≤◌, refl, ◌∙◌, ap, Bool, true, false, cond, List, [], ◌∷◌, Option}
use Rattle.std.proofs.Common.{Some, None, arith}
use Rattle.std.specs.Prelude.{◌==◌}
use Rattle.std.proofs.lemmas.Bool.{eqb-true, eq-eqb}
use Rattle.oe_theory.specs.World.{bump}
use Rattle.oe_requests.specs.declared.refusals.Column.{Column}
use Rattle.oe_model.specs.Effects.{◌>>=◌, first_out, in_range}
use Rattle.oe_model.proofs.EntryFacts.{EachOf}

-- an effect that there is has each of its values, and each row within its ranges
pub there : {A B : Type 0} (P : Type 0) (o : Option A) (g : A → Option B) (y : B) → (o >>= g) ≡ Some y
    → ((a : A) → o ≡ Some a → g a ≡ Some y → P) → P
there P None g y e h = let no : ⊥ = cc in absurd no
there P (Some a) g y e h = h a refl e

-- values that are looked for one after another may be looked for in two parts
pub bind_in : {A B C : Type 0} (o : Option A) (f : A → Option B) (g : B → Option C)
    → ((o >>= f) >>= g) ≡ (o >>= λ a. f a >>= g)
bind_in None f g = refl
bind_in (Some a) f g = refl

pub there_in_range : {A B : Type 0} (P : Type 0) (out : A → Option Column) (x : A) (g : A → Option B) (y : B)
    → (in_range out x >>= g) ≡ Some y → (out x ≡ None → g x ≡ Some y → P) → P
there_in_range {A = A} P out x g y e h = by_out (out x) refl e
  where
    by_out : (o : Option Column) → out x ≡ o
        → ((let v : Option A = elim o [ None ↦ Some x | Some c ↦ None ] in v) >>= g) ≡ Some y → P
    by_out None t e = h t e
    by_out (Some c) t e = let no : ⊥ = cc in absurd no

-- the tables of an effect
pub made_by : {A B : Type 0} (a c : A) (b d : B) → ◌≡◌ {A = Option (A × B)} (Some (a, b)) (Some (c, d)) → a ≡ c
made_by {A = A} {B = B} a c b d e = ap (λ (o : Option (A × B)). let v : A = elim o [ None ↦ a | Some p ↦ p.0 ] in v) e

-- the column that is out of its range is one of those that were tested
pub out_among : (P : Column → Type 0) (es : List (Column × Bool)) → EachOf (λ e. P e.0) es → (c : Column)
    → first_out es ≡ Some c → P c
out_among P [] h c e = let no : ⊥ = cc in absurd no
out_among P (d ∷ es) h c e = by_test d.1 e (out_among P es h.1 c)
  where
    by_test : (b : Bool) → cond b (first_out es) (Some d.0) ≡ Some c → (first_out es ≡ Some c → P c) → P c
    by_test true t rest = rest t
    by_test false t rest = let same : d.0 ≡ c = cc in Rattle.std.proofs.Common.subst P same h.0

-- counts of commits
pub bump_own : (t : ℕ) (f : ℕ → ℕ) → bump t f t ≡ suc (f t)
bump_own t f = ap (λ b. cond b (suc (f t)) (f t)) (eq-eqb t t refl)

pub bump_below : (t : ℕ) (f : ℕ → ℕ) (u : ℕ) → f u ≤ bump t f u
bump_below t f u = by_test (u == t) refl
  where
    by_test : (b : Bool) → (u == t) ≡ b → f u ≤ cond b (suc (f t)) (f u)
    by_test true e = let s : u ≡ t = eqb-true u t e in let h : f u ≡ f t = ap f s in omega arith
    by_test false e = omega arith
