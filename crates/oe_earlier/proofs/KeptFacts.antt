-- One row more, and the check over what is kept of it.
use Rattle.std.proofs.Common.{◌≡◌, refl, sym, subst, ap, ◌∙◌, Bool, cond, List, [], ◌∷◌, ◌++◌, Option, Some, None}
use Rattle.std.specs.Prelude.{OnSome}
use Rattle.std.specs.Option.{option_and}
use Rattle.std.specs.Cmp.{IsEquivalence}
use Rattle.oe_tally.specs.Tallies.{Adds, SameTotals, together, total}
use Rattle.oe_tally.proofs.TotalFacts.{added-more, together-assoc}

module _ {K V : Type 0} {same : K → K → Bool} (equal : IsEquivalence same) (join : V → V → V)
    (assoc : (a b c : V) → join (join a b) c ≡ join a (join b c)) (comm : (a b : V) → join a b ≡ join b a) where
  pub one_more : (es old new : List (K × V)) (key : K) (value brought : V) → value ≡ brought
      → SameTotals same join es old → Adds same join old new key value
      → SameTotals same join (es ++ (key, brought) ∷ []) new
  one_more es old new key value brought is h added =
      added-more equal join assoc comm es old new (key, brought) h (subst (Adds same join old new key) is added)

  total_both : (es fs : List (K × V)) (k : K)
      → total same join (es ++ fs) k ≡ together join (total same join es k) (total same join fs k)
  total_both [] fs k = refl
  total_both (e ∷ es) fs k =
      ap (together join (cond (same e.0 k) (Some e.1) None)) (total_both es fs k)
      ∙ sym (together-assoc join assoc comm (cond (same e.0 k) (Some e.1) None) (total same join es k)
      (total same join fs k))

  -- two lists that have the sums of others, one behind the other
  pub same_both : (es fs old other new : List (K × V)) → new ≡ old ++ other → SameTotals same join es old
      → SameTotals same join fs other → SameTotals same join (es ++ fs) new
  same_both es fs old other new is h g k =
      ap (λ xs. total same join xs k) is ∙ total_both old other k
      ∙ ap (λ x. together join x (total same join other k)) (h k)
      ∙ ap (λ y. together join (total same join es k) y) (g k) ∙ sym (total_both es fs k)

-- where both are there, what holds then of each holds of both
on_pair : {T U : Type 0} (P Q : Type 0) (p : Option T) (q : Option U) → OnSome p P → OnSome q Q
    → OnSome (option_and p q) (P × Q)
on_pair P Q None q h g = tt
on_pair P Q (Some x) None h g = tt
on_pair P Q (Some x) (Some y) h g = (h, g)

pub on_both : {T U : Type 0} (P Q : Type 0) (p : Option T) (q r : Option U) → r ≡ option_and p q → OnSome p P
    → OnSome q Q → OnSome r (P × Q)
on_both {T} {U} P Q p q r is h g = subst (λ (x : Option U). OnSome x (P × Q)) (sym is) (on_pair P Q p q h g)

pub on_some : {T P Q : Type 0} (p : Option T) → (P → Q) → OnSome p P → OnSome p Q
on_some None f h = tt
on_some (Some x) f h = f h

-- a judgement over what is kept is the one over what was brought
pub alike : {K A B F : Type 0} (same : K → K → Bool) (join : A → A → A) (joins : B → B → B)
    (judge : Option A → Option B → Option F) (es kept : List (K × A)) (fs held : List (K × B))
    → SameTotals same join es kept → SameTotals same joins fs held → (k : K)
    → judge (total same join kept k) (total same joins held k) ≡ judge (total same join es k) (total same joins fs k)
alike same join joins judge es kept fs held h g k =
    ap (λ a. judge a (total same joins held k)) (h k) ∙ ap (judge (total same join es k)) (g k)
