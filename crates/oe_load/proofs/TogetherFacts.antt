-- The terminals begin, one after another.
use Rattle.std.proofs.Common.{◌≡◌, ℕ, suc, ◌+◌, ◌≤◌, ◌<◌, List, [], ◌∷◌, ◌++◌, refl, sym, ap, subst, ◌∙◌}
use Rattle.std.proofs.Common.{inl, inr, arith}
use Rattle.std.specs.Prelude.{◌⊎◌, ◌≢◌}
use Rattle.std.proofs.lemmas.Bool.{cases_eq, cases_lt}
use Rattle.std.proofs.lemmas.List.{append-nil, append_assoc}
use Rattle.oe_theory.specs.World.{bump}
use Rattle.oe_theory.proofs.Sets.{set_same, set_other}
use Rattle.oe_requests.specs.declared.requests.Query.{Query}
use Rattle.oe_lines.specs.declared.commands.Command.{Command}
use Rattle.oe_lines.specs.declared.commands.Command.TheVariants as command
use Rattle.oe_lines.specs.declared.commands.MomentChoice.TheVariants as moment
use Rattle.oe_busy.specs.declared.happenings.Happening.{Happening}
use Rattle.oe_terms.specs.declared.plans.Plan.{Plan}
use Rattle.oe_terms.specs.declared.plans.Asked.{Asked}
use Rattle.oe_terms.specs.declared.plans.Asked.TheVariants as asked
use Rattle.oe_terms.specs.Plans.{asked_of}
use Rattle.oe_load.specs.Loads.{AreServed, none_served}
use Rattle.oe_load.specs.Together.{IsTransaction, HasTransactions, first_begun, numbers_to, BeginTogether, Opens}
use Rattle.oe_load.specs.Together.{begins, reads, reads_last}
use Rattle.oe_load.specs.Scripts.{State, IsEarlyTurn, IsDrawnTurn}

-- ---- lines that begin or read

abbrev pub IsEarly : Command → Type 0
IsEarly (command.Begin t q) = Unit {0}
IsEarly (command.Read m q) = Unit {0}
IsEarly c = ⊥

abbrev pub AreEarly : List Command → Type 0
AreEarly [] = Unit {0}
AreEarly (c ∷ cs) = IsEarly c × AreEarly cs

early_more : (cs : List Command) (c : Command) → AreEarly cs → IsEarly c → AreEarly (cs ++ c ∷ [])
early_more [] c h e = (e, tt)
early_more (d ∷ cs) c h e = (h.0, early_more cs c h.1 e)

-- what stands behind adds to what they begin
first_append : (cs ds : List Command) → AreEarly cs → first_begun (cs ++ ds) ≡ first_begun cs ++ first_begun ds
first_append [] ds h = refl
first_append (command.Begin t q ∷ cs) ds h = ap (λ z. t ∷ z) (first_append cs ds h.1)
first_append (command.Read m q ∷ cs) ds h = first_append cs ds h.1
first_append (command.Open s l ∷ cs) ds h = absurd h.0
first_append (command.Next t ∷ cs) ds h = absurd h.0
first_append (command.Run t ∷ cs) ds h = absurd h.0
first_append (command.Save t ∷ cs) ds h = absurd h.0
first_append (command.Back t ∷ cs) ds h = absurd h.0
first_append (command.Rollback t ∷ cs) ds h = absurd h.0
first_append (command.Show x ∷ cs) ds h = absurd h.0
first_append (command.Audit x m ∷ cs) ds h = absurd h.0
first_append (command.Purge m ∷ cs) ds h = absurd h.0
first_append (command.Rewind m ∷ cs) ds h = absurd h.0

-- a line behind others takes nothing away
first_more : (cs : List Command) (c : Command) → (rest : List ℕ) × (first_begun (cs ++ c ∷ []) ≡ first_begun cs ++ rest)
first_more [] c = (first_begun (c ∷ []), refl)
first_more (command.Begin t q ∷ cs) c = let h = first_more cs c in (h.0, ap (λ z. t ∷ z) h.1)
first_more (command.Read m q ∷ cs) c = first_more cs c
first_more (command.Open s l ∷ cs) c = ([], refl)
first_more (command.Next t ∷ cs) c = ([], refl)
first_more (command.Run t ∷ cs) c = ([], refl)
first_more (command.Save t ∷ cs) c = ([], refl)
first_more (command.Back t ∷ cs) c = ([], refl)
first_more (command.Rollback t ∷ cs) c = ([], refl)
first_more (command.Show x ∷ cs) c = ([], refl)
first_more (command.Audit x m ∷ cs) c = ([], refl)
first_more (command.Purge m ∷ cs) c = ([], refl)
first_more (command.Rewind m ∷ cs) c = ([], refl)

-- ---- how many have begun

-- The first `begun` have begun, and nothing went on; what the others have had served are queries.
pub record AreBeginning (p : Plan) (begun : ℕ) (cs : List Command) (served : ℕ → ℕ) : Type 0 where
  pub few : begun < p.numbers.terminals
  pub early : AreEarly cs
  pub first : HasTransactions p → first_begun cs ≡ numbers_to begun
  pub queries : (u : ℕ) → begun < u → (i : ℕ) → i < served u → IsTransaction (asked_of p u (p.first + i)) → ⊥

-- or all have begun
abbrev pub Phase : Plan → ℕ → List Command → (ℕ → ℕ) → Type 0
Phase p begun cs served =
    AreBeginning p begun cs served ⊎ ((p.numbers.terminals ≤ begun) × (HasTransactions p → BeginTogether p cs))

no_more : (xs : List ℕ) → xs ≡ xs ++ []
no_more xs = sym (append-nil xs)

-- after the terminals up to `begun`, either more are to begin or all have
settle : (p : Plan) (begun : ℕ) (cs : List Command) (served : ℕ → ℕ) → begun ≤ p.numbers.terminals → AreEarly cs
    → (HasTransactions p → first_begun cs ≡ numbers_to begun)
    → ((u : ℕ) → begun < u → (i : ℕ) → i < served u → IsTransaction (asked_of p u (p.first + i)) → ⊥)
    → Phase p begun cs served
settle p begun cs served high early first queries = by (cases_lt begun p.numbers.terminals)
  where
    by : (begun < p.numbers.terminals) ⊎ (p.numbers.terminals ≤ begun) → Phase p begun cs served
    by (inl few) = inl (record { few = few; early = early; first = first; queries = queries })
    by (inr all) =
        let same : begun ≡ p.numbers.terminals = omega (arith, all, high) in
        inr (all, λ h. ([], first h ∙ (ap numbers_to same ∙ no_more (numbers_to p.numbers.terminals))))

pub phase_at_first : (p : Plan) (served : ℕ → ℕ) → served ≡ none_served → Phase p 0 [] served
phase_at_first p served none = settle p 0 [] served (omega arith) tt (λ h. refl)
    (λ u later i below. let e = ap (λ (f : ℕ → ℕ). f u) none in absurd (omega (arith, below, e)))

below_other : (i n : ℕ) → i < suc n → i ≢ n → i < n
below_other i n h other = omega (arith, h, other)

is_query : (a : Asked) (q : Query) → a ≡ asked.Query q → IsTransaction a → ⊥
is_query a q e h = subst IsTransaction e h

module _ (p : Plan) (begun : ℕ) (cs : List Command) (served : ℕ → ℕ) where
  -- what the others have had served are queries still, where the next terminal was served one
  still_queries : (q : Query) (now : ℕ) → asked_of p (suc begun) (p.first + served (suc begun)) ≡ asked.Query q
      → ((u : ℕ) → begun < u → (i : ℕ) → i < served u → IsTransaction (asked_of p u (p.first + i)) → ⊥)
      → begun ≤ now → (u : ℕ) → now < u → (i : ℕ) → i < bump (suc begun) served u
      → IsTransaction (asked_of p u (p.first + i)) → ⊥
  still_queries q now e queries le u later i below = by (cases_eq u (suc begun)) (cases_eq i (served (suc begun)))
    where
      by : (u ≡ suc begun) ⊎ (u ≢ suc begun) → (i ≡ served (suc begun)) ⊎ (i ≢ served (suc begun))
          → IsTransaction (asked_of p u (p.first + i)) → ⊥
      by (inl same) (inl last) =
          is_query (asked_of p u (p.first + i)) q
          (ap (λ z. asked_of p z (p.first + i)) same ∙ ap (λ z. asked_of p (suc begun) (p.first + z)) last ∙ e)
      by (inl same) (inr other) =
          let count = set_same (suc begun) (suc (served (suc begun))) served u same in
          queries u (omega (arith, le, later)) i
          (subst (λ z. i < served z) (sym same) (below_other i (served (suc begun))
          (subst (λ z. i < z) count below) other))
      by (inr other) last =
          let count = set_other (suc begun) (suc (served (suc begun))) served u other in
          queries u (omega (arith, le, later)) i (subst (λ z. i < z) count below)

module _ (p : Plan) (begun : ℕ) (cs : List Command) (served : ℕ → ℕ) where
  begin_more : (c : Command) → AreBeginning p begun cs served → IsEarly c
      → first_begun (c ∷ []) ≡ suc begun ∷ [] → Phase p (suc begun) (cs ++ c ∷ []) served
  begin_more c e early first = settle p (suc begun) (cs ++ c ∷ []) served e.few (early_more cs c e.early early)
      (λ h. first_append cs (c ∷ []) e.early ∙ (ap (λ z. first_begun cs ++ z) first
      ∙ ap (λ z. z ++ suc begun ∷ []) (e.first h)))
      (λ u later. e.queries u (omega (arith, later)))

  read_more : (q : Query) → AreBeginning p begun cs served
      → asked_of p (suc begun) (p.first + served (suc begun)) ≡ asked.Query q
      → Phase p begun (cs ++ command.Read moment.Now q ∷ []) (bump (suc begun) served)
  read_more q e is = settle p begun (cs ++ command.Read moment.Now q ∷ []) (bump (suc begun) served)
      (omega (arith, e.few)) (early_more cs (command.Read moment.Now q) e.early tt)
      (λ h. first_append cs (command.Read moment.Now q ∷ []) e.early ∙ (append-nil (first_begun cs) ∙ e.first h))
      (still_queries p begun cs served q begun is e.queries (omega arith))

  last_more : (q : Query) → AreBeginning p begun cs served
      → asked_of p (suc begun) (p.first + served (suc begun)) ≡ asked.Query q
      → suc (served (suc begun)) ≡ p.numbers.requests
      → Phase p (suc begun) (cs ++ command.Read moment.Now q ∷ []) (bump (suc begun) served)
  last_more q e is all = settle p (suc begun) (cs ++ command.Read moment.Now q ∷ []) (bump (suc begun) served)
      e.few (early_more cs (command.Read moment.Now q) e.early tt)
      (λ h. absurd (none (h (suc begun) (omega arith) e.few)))
      (still_queries p begun cs served q (suc begun) is e.queries (omega arith))
    where
      none : (i : ℕ) × (i < p.numbers.requests) × IsTransaction (asked_of p (suc begun) (p.first + i)) → ⊥
      none (i, below, one) =
          let count = set_same (suc begun) (suc (served (suc begun))) served (suc begun) refl in
          still_queries p begun cs served q begun is e.queries (omega arith) (suc begun) (omega arith) i
          (omega (arith, below, all, count)) one

-- one line more
phase_early : (p : Plan) (begun now : ℕ) (cs : List Command) (c : Command) (served after : ℕ → ℕ)
    → Phase p begun cs served → Opens p begun served c after now → Phase p now (cs ++ c ∷ []) after
phase_early p begun _ cs _ served _ (inl e) (begins q few) =
    begin_more p begun cs served (command.Begin (suc begun) q) e tt refl
phase_early p begun _ cs _ served _ (inl e) (reads q few is more) = read_more p begun cs served q e is
phase_early p begun _ cs _ served _ (inl e) (reads_last q few is all) = last_more p begun cs served q e is all
phase_early p begun _ cs _ served _ (inr h) (begins q few) = absurd (omega (arith, few, h.0))
phase_early p begun _ cs _ served _ (inr h) (reads q few is more) = absurd (omega (arith, few, h.0))
phase_early p begun _ cs _ served _ (inr h) (reads_last q few is all) = absurd (omega (arith, few, h.0))

phase_late : (p : Plan) (begun : ℕ) (cs : List Command) (c : Command) (served after : ℕ → ℕ)
    → Phase p begun cs served → p.numbers.terminals ≤ begun → Phase p begun (cs ++ c ∷ []) after
phase_late p begun cs c served after (inl e) all = absurd (omega (arith, all, e.few))
phase_late p begun cs c served after (inr h) all = inr (h.0, λ k. more (h.1 k))
  where
    more : BeginTogether p cs → BeginTogether p (cs ++ c ∷ [])
    more (rest, e) =
        let next = first_more cs c in (
          rest ++ next.0,
          next.1 ∙ (ap (λ z. z ++ next.0) e ∙ append_assoc (numbers_to p.numbers.terminals) rest next.0),
        )

pub phase_more : (p : Plan) (s t : State) (cs : List Command) (c : Command) (h : Happening)
    → Phase p s.begun cs s.served → IsEarlyTurn p s c t ⊎ IsDrawnTurn p s c h t
    → Phase p t.begun (cs ++ c ∷ []) t.served
phase_more p s t cs c h phase (inl e) = phase_early p s.begun t.begun cs c s.served t.served phase e.opens
phase_more p s t cs c h phase (inr d) =
    subst (λ (n : ℕ). Phase p n (cs ++ c ∷ []) t.served) (sym d.begun_stay)
    (phase_late p s.begun cs c s.served t.served phase d.all)

-- at the end all have begun
pub phase_done : (p : Plan) (begun : ℕ) (cs : List Command) (served : ℕ → ℕ) → Phase p begun cs served
    → AreServed p served → HasTransactions p → BeginTogether p cs
phase_done p begun cs served (inr h) all k = h.1 k
phase_done p begun cs served (inl e) all k = absurd (none (k (suc begun) (omega arith) e.few))
  where
    none : (i : ℕ) × (i < p.numbers.requests) × IsTransaction (asked_of p (suc begun) (p.first + i)) → ⊥
    none (i, below, one) =
        e.queries (suc begun) (omega arith) i
        (omega (arith, below, all (suc begun) (omega arith) e.few)) one
