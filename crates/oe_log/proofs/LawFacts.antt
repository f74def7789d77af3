-- What each call makes of the segments, in the words of the theory of transactions.
use Rattle.std.proofs.Common.{◌≡◌, ℕ, suc, ◌-◌, ◌<◌, ◌≤◌, ◌==◌, refl, sym, ap, ◌∙◌, subst, inl, inr, arith, cond, List}
use Rattle.std.proofs.Common.{[], ◌∷◌, length, map, get_or, set, take, drop, replicate, Option, None, Some}
use mathlib.Core.Path.{fun_ext}
use Rattle.std.proofs.lemmas.Bool.{cases_eq, cases_lt, eq-eqb, ne_eqb, cond-true, cond-false}
use Rattle.std.proofs.lemmas.List.{get_or-set_same, get_or-set_other, get_or_past, get_or-replicate, length-replicate}
use Rattle.std.proofs.lemmas.List.{set_past, take-map}
use Rattle.oe_rows.specs.declared.layouts.Layout.{Layout}
use Rattle.oe_requests.specs.declared.requests.Request.{Request}
use Rattle.oe_requests.specs.declared.replies.Reply.{Reply}
use Rattle.oe_model.specs.Changes.{Record}
use Rattle.oe_model.specs.System.{system}
use Rattle.oe_theory.specs.Undo.{no_records}
use Rattle.oe_theory.specs.Store.{commit_count}
use Rattle.oe_log.specs.Records.{Logged}
use Rattle.oe_log.specs.Log.{SegmentLog, Open, TerminalState, Committed, idle, state_at, records_in, active_at}
use Rattle.oe_log.specs.Log.{records_at, count_at, idle_terminals, no_segments, with_segment, with_record}
use Rattle.oe_log.specs.Log.{without_newest, after_seal, without_segment}
use Rattle.oe_log.specs.Log.{with_newest, with_reopening}
use Rattle.oe_log.specs.Stands.{model_records, undo_of, seal_of, seals_of, counts_of}
use Rattle.oe_log.specs.Laws.{StandAlike, StandsWith, StandsSealed, StandsCut, StandsReopened}
use Rattle.oe_log.proofs.StateFacts.{known, seen_set, seen_same, records_stand}

abbrev see_records : TerminalState → List Record
see_records s = model_records (records_in s.active)

abbrev see_count : TerminalState → ℕ
see_count s = s.count

-- a terminal's state is replaced by one with the same records and the same count
alike : (v : SegmentLog) (t : ℕ) (s : TerminalState) → see_records s ≡ see_records (state_at v t)
    → s.count ≡ count_at v t
    → StandAlike (record v { terminals = set v.terminals t s }) v
alike v t s records counts =
    let active = seen_same see_records v.terminals t s records in
    record {
      undo = λ i. record { active = λ u. active u i; history = (undo_of v).history };
      seals = refl;
      counts = fun_ext (seen_same see_count v.terminals t s counts);
      layout = refl;
    }

pub opens : (v : SegmentLog) (t : ℕ) → active_at v t ≡ None → StandAlike (with_segment v t) v
opens v t closed = alike v t _ (sym (ap (λ a. model_records (records_in a)) closed)) refl

pub pushes : (v : SegmentLog) (t : ℕ) (o : Open) (r : Logged) → active_at v t ≡ Some o
    → StandsWith (with_record v t r) v t (r.before ∷ (undo_of v).active t)
pushes v t o r is = records_stand v t o (r ∷ records_at v t) is

drop_records : (rs : List Logged) → model_records (drop 1 rs) ≡ drop 1 (model_records rs)
drop_records [] = refl
drop_records (r ∷ rs) = refl

pub pops : (v : SegmentLog) (t : ℕ) (o : Open) → active_at v t ≡ Some o
    → StandsWith (without_newest v t) v t (drop 1 ((undo_of v).active t))
pops v t o is = subst (λ bs. StandsWith (without_newest v t) v t bs) (drop_records (records_at v t))
    (records_stand v t o (drop 1 (records_at v t)) is)

pub seals : (v : SegmentLog) (t : ℕ) (o : Open) (q : Request) (y : Reply) → active_at v t ≡ Some o
    → StandsSealed (after_seal v t q y) v t q y
seals v t o q y is =
    let s : TerminalState = record { count = suc (count_at v t); active = None } in
    let active = seen_set see_records v.terminals t s (known v t o is) in
    record {
      undo = λ i. record { active = λ u. active u i; history = (undo_of v).active t ∷ (undo_of v).history };
      seals = refl;
      counts = fun_ext (seen_set see_count v.terminals t s (known v t o is));
      layout = refl;
    }

pub drops : (v : SegmentLog) (t : ℕ) → records_at v t ≡ [] → StandAlike (without_segment v t) v
drops v t empty = alike v t _ (sym (ap model_records empty)) refl

-- the newest commits alone
pub cuts : (v : SegmentLog) (n : ℕ) → StandsCut (with_newest n v) v n
cuts v n =
    let history = sym (take-map (λ (c : Committed). model_records c.records) n v.committed) in
    record {
      undo = λ i. record { active = (undo_of v).active; history = history i };
      seals = sym (take-map seal_of n v.committed);
      counts = refl;
      layout = refl;
    }

minus_none : (n : ℕ) → n ≡ n - 0
minus_none n = omega arith

none_less : (n k : ℕ) → n ≡ 0 → n ≡ n - k
none_less n k e = omega arith

-- a terminal's count, where a commit is no longer counted
pub less_counted : (v : SegmentLog) (c : Committed) (a : Option Open) (u : ℕ)
    → (get_or (set v.terminals c.terminal (record { count = count_at v c.terminal - 1; active = a })) u idle).count
    ≡ count_at v u - cond (u == c.terminal) 1 0
less_counted v c a u =
    elim (cases_eq u c.terminal) [
      | inl e ↦ elim (cases_lt c.terminal (length v.terminals)) [
        | inl within ↦
            ap (λ z. (get_or (set v.terminals c.terminal s) z idle).count) e
            ∙ ap see_count (get_or-set_same v.terminals c.terminal s idle within)
            ∙ ap (λ z. count_at v z - 1) (sym e) ∙ ap (λ z. count_at v u - z)
            (sym (cond-true (u == c.terminal) 1 0 (eq-eqb u c.terminal e)))
        | inr past ↦
            let none : count_at v u ≡ 0 = ap (λ z. count_at v z) e ∙ ap see_count
            (get_or_past v.terminals c.terminal idle past) in
            ap (λ z. (get_or z u idle).count) (set_past v.terminals c.terminal s past)
            ∙ none_less (count_at v u) (cond (u == c.terminal) 1 0) none
      ]
      | inr ne ↦ ap see_count (get_or-set_other v.terminals c.terminal u s idle ne) ∙ minus_none (count_at v u)
          ∙ ap (λ z. count_at v u - z) (sym (cond-false (u == c.terminal) 1 0 (ne_eqb u c.terminal ne)))
    ]
  where
    s : TerminalState
    s = record { count = count_at v c.terminal - 1; active = a }

-- the newest commit opened again
pub reopens : (v : SegmentLog) (c : Committed) (cs : List Committed) → v.committed ≡ c ∷ cs
    → c.terminal < length v.terminals → StandsReopened (with_reopening v v.committed) v c
reopens v c cs e within =
    subst (λ z. StandsReopened (with_reopening v z) v c) (sym e)
    (let a : Option Open = Some (record { terminal = c.terminal; number = c.number; records = c.records }) in
    let s : TerminalState = record { count = count_at v c.terminal - 1; active = a } in
    let active = seen_set see_records v.terminals c.terminal s within in
    let history : map (λ (c : Committed). model_records c.records) cs ≡ drop 1 (undo_of v).history =
    ap (λ z. drop 1 (map (λ (c : Committed). model_records c.records) z)) (sym e) in
    record {
      undo = λ i. record { active = λ u. active u i; history = history i };
      seals = ap (λ z. drop 1 (map seal_of z)) (sym e);
      counts = fun_ext (λ u. less_counted v c a u
          ∙ ap (λ z. count_at v u - commit_count system u (take 1 (map seal_of z))) (sym e));
      layout = refl;
    })

pub idle_at : (n t : ℕ) → get_or (replicate n idle) t idle ≡ idle
idle_at n t = elim (cases_lt t n) [
  | inl h ↦ get_or-replicate n t idle idle h
  | inr h ↦ get_or_past (replicate n idle) t idle (subst (λ z. z ≤ t) (sym (length-replicate n idle)) h)
]

pub begun : (e : ℕ) (l : Layout) → (undo_of (no_segments e l) ≡ no_records system) × (seals_of (no_segments e l) ≡ [])
    × (counts_of (no_segments e l) ≡ (λ t. 0))
unfolding idle_terminals
begun e l = (
  λ i. record { active = λ t. see_records (idle_at 65 t i); history = [] },
  refl,
  fun_ext
      (λ t. ap see_count (idle_at 65 t)),
)
