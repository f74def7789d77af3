-- Terminals' states in the log, where one is replaced, and what that makes of records.
use Rattle.std.proofs.Common.{◌≡◌, ℕ, zero, suc, ◌<◌, ◌==◌, true, refl, sym, ap, ◌∙◌, inl, inr, cond, List, [], ◌∷◌}
use Rattle.std.proofs.Common.{length, get_or, set, drop, Option, None, Some, is_some}
use Rattle.std.specs.Prelude.{option_map}
use mathlib.Core.Path.{fun_ext}
use Rattle.std.proofs.lemmas.Bool.{cases_eq, cases_lt, cond-true, cond-false, eq-eqb, ne_eqb}
use Rattle.std.proofs.lemmas.List.{get_or-set_same, get_or-set_other, get_or_past, set_past, set-get_or, length-set}
use Rattle.oe_model.specs.Changes.{Record}
use Rattle.oe_log.specs.Records.{Logged}
use Rattle.oe_log.specs.Log.{SegmentLog, Open, TerminalState, idle, records_in, active_at, records_at, count_at}
use Rattle.oe_log.specs.Log.{with_records, with_record, without_newest}
use Rattle.oe_log.specs.Stands.{model_records, undo_of}
use Rattle.oe_log.specs.Laws.{StandsWith}

pub some_of : {A : Type 0} (o : Option A) → is_some o ≡ true → (x : A) × (o ≡ Some x)
some_of None e = cc
some_of (Some x) e = (x, refl)

pub set_twice : {A : Type 0} (xs : List A) (i : ℕ) (a b : A) → set (set xs i a) i b ≡ set xs i b
set_twice [] i a b = refl
set_twice (x ∷ xs) zero a b = refl
set_twice (x ∷ xs) (suc i) a b = ap (λ z. x ∷ z) (set_twice xs i a b)

-- a terminal whose segment is open is one of the log's
pub known : (v : SegmentLog) (t : ℕ) (o : Open) → active_at v t ≡ Some o → t < length v.terminals
known v t o e =
    elim (cases_lt t (length v.terminals)) [
      | inl within ↦ within
      | inr past ↦ let none : ◌≡◌ {A = Option Open} None (Some o) = ap (λ z. z.active)
          (sym (get_or_past v.terminals t idle past)) ∙ e in cc
    ]

-- what is seen of the terminals' states where one is replaced
pub seen_set : {A : Type 0} (see : TerminalState → A) (ts : List TerminalState) (t : ℕ) (s : TerminalState)
    → t < length ts
    → (u : ℕ) → see (get_or (set ts t s) u idle) ≡ cond (u == t) (see s) (see (get_or ts u idle))
seen_set see ts t s within u =
    elim (cases_eq u t) [
      | inl e ↦ ap (λ v. see (get_or (set ts t s) v idle)) e ∙ ap see (get_or-set_same ts t s idle within)
          ∙ sym (cond-true (u == t) (see s) (see (get_or ts u idle)) (eq-eqb u t e))
      | inr ne ↦ ap see (get_or-set_other ts t u s idle ne)
          ∙ sym (cond-false (u == t) (see s) (see (get_or ts u idle)) (ne_eqb u t ne))
    ]

-- by a state that looks the same
pub seen_same : {A : Type 0} (see : TerminalState → A) (ts : List TerminalState) (t : ℕ) (s : TerminalState)
    → see s ≡ see (get_or ts t idle)
    → (u : ℕ) → see (get_or (set ts t s) u idle) ≡ see (get_or ts u idle)
seen_same see ts t s same u =
    elim (cases_lt t (length ts)) [
      | inl within ↦ elim (cases_eq u t) [
        | inl e ↦ ap (λ v. see (get_or (set ts t s) v idle)) e ∙ ap see (get_or-set_same ts t s idle within) ∙ same
            ∙ ap (λ v. see (get_or ts v idle)) (sym e)
        | inr ne ↦ ap see (get_or-set_other ts t u s idle ne)
      ]
      | inr past ↦ ap (λ z. see (get_or z u idle)) (set_past ts t s past)
    ]

-- ---- a terminal with other records

-- its open segment, where it has one
abbrev with_those : List Logged → Option Open → Option Open
with_those rs a = option_map {T = Open} (λ o. record o { records = rs }) a

same_open : (rs : List Logged) (a : Option Open) → is_some (with_those rs a) ≡ is_some a
same_open rs None = refl
same_open rs (Some o) = refl

those_are : (rs : List Logged) (a : Option Open) (o : Open) → a ≡ Some o → records_in (with_those rs a) ≡ rs
those_are rs None o e = cc
those_are rs (Some a) o e = refl

own_are : (a : Option Open) → with_those (records_in a) a ≡ a
own_are None = refl
own_are (Some o) = refl

one_less : (rs : List Logged) (a : Option Open)
    → with_those (drop 1 (records_in (with_those rs a))) (with_those rs a) ≡ with_those (drop 1 rs) a
one_less rs None = refl
one_less rs (Some o) = refl

pub records_open : (v : SegmentLog) (t : ℕ) (rs : List Logged) (x : ℕ)
    → is_some (active_at (with_records v t rs) x) ≡ is_some (active_at v x)
records_open v t rs = seen_same (λ s. is_some s.active) v.terminals t _ (same_open rs (active_at v t))

pub records_size : (v : SegmentLog) (t : ℕ) (rs : List Logged)
    → length (with_records v t rs).terminals ≡ length v.terminals
records_size v t rs = length-set v.terminals t _

-- it has them
pub records_are : (v : SegmentLog) (t : ℕ) (o : Open) (rs : List Logged) → active_at v t ≡ Some o
    → records_at (with_records v t rs) t ≡ rs
records_are v t o rs e = ap (λ s. records_in s.active) (get_or-set_same v.terminals t _ idle (known v t o e))
    ∙ those_are rs (active_at v t) o e

-- with its own the log is as it was
pub own_records : (v : SegmentLog) (t : ℕ) → with_records v t (records_at v t) ≡ v
own_records v t =
    let states : set v.terminals t
    (record { count = count_at v t; active = with_those (records_at v t) (active_at v t) }) ≡ v.terminals =
    ap (λ a. set v.terminals t (record { count = count_at v t; active = a })) (own_are (active_at v t))
    ∙ set-get_or v.terminals t idle in
    λ i. record v { terminals = states i }

-- without the newest of them
pub one_popped : (v : SegmentLog) (t : ℕ) (o : Open) (rs : List Logged) → active_at v t ≡ Some o
    → without_newest (with_records v t rs) t ≡ with_records v t (drop 1 rs)
one_popped v t o rs e =
    let s : TerminalState = record { count = count_at v t; active = with_those rs (active_at v t) } in
    let less : TerminalState → TerminalState =
    λ z. record { count = z.count; active = with_those (drop 1 (records_in z.active)) z.active } in
    let states : set (set v.terminals t s) t (less (get_or (set v.terminals t s) t idle)) ≡ set v.terminals t
    (record { count = count_at v t; active = with_those (drop 1 rs) (active_at v t) }) =
    set_twice v.terminals t s (less (get_or (set v.terminals t s) t idle))
    ∙ ap (λ z. set v.terminals t (less z)) (get_or-set_same v.terminals t s idle (known v t o e))
    ∙ ap (λ a. set v.terminals t (record { count = count_at v t; active = a })) (one_less rs (active_at v t)) in
    λ i. record v { terminals = states i }

-- a record that is pushed and popped leaves the log as it was
pub pushed_popped : (v : SegmentLog) (t : ℕ) (o : Open) (r : Logged) → active_at v t ≡ Some o
    → without_newest (with_record v t r) t ≡ v
pushed_popped v t o r e = one_popped v t o (r ∷ records_at v t) e ∙ own_records v t

-- without a record there is none to be taken off
pub none_popped : (v : SegmentLog) (t : ℕ) → records_at v t ≡ [] → without_newest v t ≡ v
none_popped v t e = ap (λ rs. with_records v t (drop 1 rs)) e ∙ ap (with_records v t) (sym e) ∙ own_records v t

-- in the theory's words
pub records_stand : (v : SegmentLog) (t : ℕ) (o : Open) (rs : List Logged) → active_at v t ≡ Some o
    → StandsWith (with_records v t rs) v t (model_records rs)
records_stand v t o rs e =
    let see : TerminalState → List Record = λ s. model_records (records_in s.active) in
    let s : TerminalState = record { count = count_at v t; active = with_those rs (active_at v t) } in
    let active : (u : ℕ) → see (get_or (set v.terminals t s) u idle) ≡ cond (u == t) (model_records rs)
    (see (get_or v.terminals u idle)) =
    λ u. seen_set see v.terminals t s (known v t o e) u
    ∙ ap (λ z. cond (u == t) (model_records z) (see (get_or v.terminals u idle)))
    (those_are rs (active_at v t) o e) in
    record {
      undo = λ i. record { active = λ u. active u i; history = (undo_of v).history };
      seals = refl;
      counts = fun_ext (seen_same (λ z. z.count) v.terminals t s refl);
      layout = refl;
    }
