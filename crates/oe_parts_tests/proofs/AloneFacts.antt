-- Whose segments are open, by how many are.
use Rattle.std.proofs.Common.{◌≡◌, ◌≢◌, ℕ, zero, suc, ◌+◌, refl, sym, ap, ◌∙◌, subst, arith, cond, List, [], ◌∷◌}
use Rattle.std.proofs.Common.{get_or, Option, None, Some, is_some, IsSome, inl, inr}
use Rattle.std.specs.Prelude.{◌⊎◌}
use Rattle.std.specs.List.{sum_by}
use Rattle.std.proofs.lemmas.List.Sums.{sum_by-cons}
use Rattle.oe_rows.specs.declared.keys.Key.{Key}
use Rattle.oe_log.specs.Log.{SegmentLog, Open, TerminalState, idle, active_at, records_in, open_total}
use Rattle.oe_log.specs.Stands.{model_records}
use Rattle.oe_undo.specs.Chains.{HaveNone, IsAlone}

-- how many it adds to the count of those that are open
abbrev one : Option Open → ℕ
one a = cond (is_some a) 1 0

abbrev open_among : List TerminalState → ℕ
open_among ss = sum_by (λ s. one s.active) ss

cons : (s : TerminalState) (ss : List TerminalState) → one s.active + open_among ss ≡ open_among (s ∷ ss)
cons s ss = sym (sum_by-cons (λ s. one s.active) s ss)

closed : (a : Option Open) (n : ℕ) → one a + n ≡ 0 → a ≡ None
closed None n e = refl
closed (Some o) n e = let no : ⊥ = omega arith in absurd no

rest_of_none : (a : Option Open) (n : ℕ) → one a + n ≡ 0 → n ≡ 0
rest_of_none a n e = omega arith

none_among : (ss : List TerminalState) → open_among ss ≡ 0 → (t : ℕ) → (get_or ss t idle).active ≡ None
none_among [] e t = refl
none_among (s ∷ ss) e zero = closed s.active (open_among ss) (cons s ss ∙ e)
none_among (s ∷ ss) e (suc t) = none_among ss (rest_of_none s.active (open_among ss) (cons s ss ∙ e)) t

-- where none is counted, none is open
pub none_open : (u : SegmentLog) → open_total u ≡ 0 → (t : ℕ) → active_at u t ≡ None
none_open u = none_among u.terminals

rest_of_some : (a : Option Open) (n : ℕ) → IsSome a → one a + n ≡ 1 → n ≡ 0
rest_of_some None n some e = let no : ⊥ = cc in absurd no
rest_of_some (Some o) n some e = omega arith

-- the first is the only one, or the rest has it
rest_of_one : (a : Option Open) (n : ℕ) → one a + n ≡ 1 → (n ≡ 0) ⊎ ((a ≡ None) × (n ≡ 1))
rest_of_one None n e = inr (refl, omega arith)
rest_of_one (Some o) n e = inl (omega arith)

only_among : (ss : List TerminalState) (t s : ℕ) → open_among ss ≡ 1 → IsSome (get_or ss t idle).active → s ≢ t
    → (get_or ss s idle).active ≡ None
only_among [] t s e some other = refl
only_among (x ∷ ss) zero zero e some other = absurd (other refl)
only_among (x ∷ ss) zero (suc s) e some other =
    none_among ss (rest_of_some x.active (open_among ss) some (cons x ss ∙ e)) s
only_among (x ∷ ss) (suc t) zero e some other =
    elim (rest_of_one x.active (open_among ss) (cons x ss ∙ e)) [
      | inl none ↦
          let closed : IsSome {T = Open} None = subst IsSome (none_among ss none t) some in
          let no : ⊥ = cc in absurd no
      | inr rest ↦ rest.0
    ]
only_among (x ∷ ss) (suc t) (suc s) e some other =
    elim (rest_of_one x.active (open_among ss) (cons x ss ∙ e)) [
      | inl none ↦ none_among ss none s
      | inr rest ↦ only_among ss t s rest.1 some (λ same. other (ap suc same))
    ]

-- where one is counted, the terminal whose it is is alone with each key
pub only_one_is_alone : (u : SegmentLog) (t : ℕ) → open_total u ≡ 1 → IsSome (active_at u t) → (key : Key)
    → IsAlone u t key
only_one_is_alone u t e some key s other =
    subst (λ a. HaveNone key (model_records (records_in a))) (sym (only_among u.terminals t s e some other)) tt
