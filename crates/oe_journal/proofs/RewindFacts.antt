-- The newest commits gone, one after another, and no longer counted.
use Rattle.std.proofs.Common.{◌≡◌, ℕ, zero, suc, ◌+◌, ◌-◌, ◌<◌, ◌≤◌, ◌==◌, Bool, true, false, refl, sym, ap, ◌∙◌, subst}
use Rattle.std.proofs.Common.{inl, inr, arith, cond, List, [], ◌∷◌, length, map, get_or, set, take, drop, Option, None}
use Rattle.std.proofs.Common.{Some, is_some}
use Rattle.std.specs.Prelude.{slice_get, option_map}
use mathlib.Core.Path.{fun_ext}
use Rattle.std.proofs.lemmas.Bool.{cases_eq, cases_lt}
use Rattle.std.proofs.lemmas.List.{get_or-set_same, get_or-set_other, get_or_past, set_past, drop_all, length-set}
use Rattle.std.proofs.Math.Seq.{drop-nil, take-nil}
use Rattle.std.proofs.lemmas.List.Sums.{get_or-le-sum_by}
use Rattle.oe_theory.proofs.Sets.{some_inj}
use Rattle.oe_theory.specs.Store.{Seal, counts_before, commit_count}
use Rattle.oe_model.specs.Changes.{Record}
use Rattle.oe_model.specs.System.{system}
use Rattle.oe_log.specs.Log.{SegmentLog, Open, TerminalState, Committed, idle, records_in, active_at, records_at}
use Rattle.oe_log.specs.Log.{count_at, open_total, with_records, without_segment, with_reopening}
use Rattle.oe_log.specs.Stands.{model_records, undo_of, seal_of, seals_of, counts_of}
use Rattle.oe_journal.specs.Rewinds.{without_first_commit, without_newest, StandsRewound}
use Rattle.oe_log.proofs.StateFacts.{set_twice, seen_same, records_are}
use Rattle.oe_log.proofs.LawFacts.{less_counted}

abbrev see_records : TerminalState → List Record
see_records s = model_records (records_in s.active)

abbrev see_count : TerminalState → ℕ
see_count s = s.count

minus_none : (n : ℕ) → n ≡ n - 0
minus_none n = omega arith

none_plus : (n : ℕ) → 0 + n ≡ n
none_plus n = omega arith

one_plus : (n : ℕ) → 1 + n ≡ suc n
one_plus n = omega arith

-- the newest commit gone
one_less : (v : SegmentLog) (cs : List Committed) → v.committed ≡ cs → StandsRewound (without_first_commit v cs) v 1
one_less v [] e = record {
  undo = λ i. record {
    active = (undo_of v).active;
    history = (ap (map (λ (c : Committed). model_records c.records)) e
        ∙ ap (λ z. drop 1 (map (λ (c : Committed). model_records c.records) z)) (sym e)) i;
  };
  seals = ap (map seal_of) e ∙ ap (λ z. drop 1 (map seal_of z)) (sym e);
  counts = fun_ext (λ u. minus_none (count_at v u)
      ∙ ap (λ z. count_at v u - commit_count system u (take 1 (map seal_of z))) (sym e));
}
one_less v (c ∷ cs) e =
    let s : TerminalState = record { count = count_at v c.terminal - 1; active = active_at v c.terminal } in
    let active = seen_same see_records v.terminals c.terminal s refl in
    let history : map (λ (c : Committed). model_records c.records) cs ≡ drop 1 (undo_of v).history =
    ap (λ z. drop 1 (map (λ (c : Committed). model_records c.records) z)) (sym e) in
    record {
      undo = λ i. record { active = λ u. active u i; history = history i };
      seals = ap (λ z. drop 1 (map seal_of z)) (sym e);
      counts = fun_ext (λ u. less_counted v c (active_at v c.terminal) u
          ∙ ap (λ z. count_at v u - commit_count system u (take 1 (map seal_of z))) (sym e));
    }

drop_more : {A : Type 0} (n : ℕ) (xs : List A) → drop n (drop 1 xs) ≡ drop (suc n) xs
drop_more n [] = drop-nil n
drop_more n (x ∷ xs) = refl

count_more : (u n : ℕ) (cs : List (Seal system))
    → commit_count system u (take 1 cs) + commit_count system u (take n (drop 1 cs)) ≡ commit_count system u
    (take (suc n) cs)
count_more u n [] = none_plus (commit_count system u (take n [])) ∙ ap (commit_count system u) (take-nil n)
count_more u n (c ∷ cs) = go (u == c.tx.terminal)
  where
    go : (b : Bool) → cond b 1 0 + commit_count system u (take n cs) ≡ cond b (suc (commit_count system u (take n cs)))
        (commit_count system u (take n cs))
    go true = one_plus (commit_count system u (take n cs))
    go false = none_plus (commit_count system u (take n cs))

-- the newest commits gone, one after another
pub rewinds : (v : SegmentLog) (n : ℕ) → StandsRewound (without_newest n v) v n
rewinds v zero = record { undo = refl; seals = refl; counts = fun_ext (λ u. minus_none (counts_of v u)) }
rewinds v (suc n) =
    let w : SegmentLog = without_first_commit v v.committed in
    let one = one_less v v.committed refl in
    let rest = rewinds w n in
    record {
      undo = rest.undo ∙ (λ i. record { active = (one.undo i).active; history = drop n (one.undo i).history })
          ∙ (λ i. record { active = (undo_of v).active; history = drop_more n (undo_of v).history i });
      seals = rest.seals ∙ (λ i. drop n (one.seals i)) ∙ drop_more n (seals_of v);
      counts = rest.counts ∙ (λ i. counts_before system (one.counts i) (take n (one.seals i)))
          ∙ fun_ext (λ u. minus_minus (counts_of v u) (commit_count system u (take 1 (seals_of v)))
          (commit_count system u (take n (drop 1 (seals_of v))))
          ∙ ap (λ z. counts_of v u - z) (count_more u n (seals_of v)));
    }
  where
    minus_minus : (a b c : ℕ) → a - b - c ≡ a - (b + c)
    minus_minus a b c = omega arith

-- no segment is open where none is counted
pub none_open : (v : SegmentLog) → open_total v ≡ 0 → (t : ℕ) → active_at v t ≡ None
none_open v none t =
    elim (cases_lt t (length v.terminals)) [
      | inl within ↦
          let less = get_or-le-sum_by (λ (s : TerminalState). cond (is_some s.active) 1 0) v.terminals t idle within in
          closed (active_at v t) (subst (λ n. cond (is_some (active_at v t)) 1 0 ≤ n) none less)
      | inr past ↦ ap (λ (z : TerminalState). z.active) (get_or_past v.terminals t idle past)
    ]
  where
    closed : (a : Option Open) → cond (is_some a) 1 0 ≤ 0 → a ≡ None
    closed None h = refl
    closed (Some o) h = let some : 1 ≤ 0 = h in let no : ⊥ = omega arith in absurd no

-- none is open then
pub quiet_still : (v : SegmentLog) (cs : List Committed) → ((t : ℕ) → active_at v t ≡ None) → (t : ℕ)
    → active_at (without_first_commit v cs) t ≡ None
quiet_still v [] h t = h t
quiet_still v (c ∷ cs) h t =
    elim (cases_eq t c.terminal) [
      | inl e ↦ elim (cases_lt c.terminal (length v.terminals)) [
        | inl within ↦ ap (λ u. (get_or (set v.terminals c.terminal s) u idle).active) e
            ∙ ap (λ (z : TerminalState). z.active) (get_or-set_same v.terminals c.terminal s idle within) ∙ h c.terminal
        | inr past ↦ ap (λ z. (get_or z t idle).active) (set_past v.terminals c.terminal s past) ∙ h t
      ]
      | inr ne ↦ ap (λ (z : TerminalState). z.active) (get_or-set_other v.terminals c.terminal t s idle ne) ∙ h t
    ]
  where
    s : TerminalState
    s = record { count = count_at v c.terminal - 1; active = active_at v c.terminal }

pub left_over : (v : SegmentLog) (cs : List Committed) (n : ℕ) → v.committed ≡ cs → suc n ≤ length cs
    → n ≤ length (without_first_commit v cs).committed
left_over v [] n e h = let no : ⊥ = omega arith in absurd no
left_over v (c ∷ cs) n e h = omega arith

-- ---- how the newest commit goes: opened again, its records taken off, and its segment given up

-- the newest commit of a log, which is a terminal's of the log's
pub record IsNewest (v : SegmentLog) (t : ℕ) : Type 0 where
  pub newest : Committed
  pub older : List Committed
  pub are : v.committed ≡ newest ∷ older
  pub own : newest.terminal ≡ t
  pub within : t < length v.terminals

-- the commit that is opened again
pub newest_found : (v : SegmentLog) (cs : List Committed) (t : ℕ) → v.committed ≡ cs
    → Some t ≡ option_map {T = Committed} (λ c. c.terminal) (slice_get cs 0)
    → t < length v.terminals → IsNewest v t
newest_found v [] t e own within = cc
newest_found v (c ∷ cs) t e own within =
    record { newest = c; older = cs; are = e; own = sym (some_inj _ _ own); within = within }

abbrev open_again : Committed → Open
open_again c = record { terminal = c.terminal; number = c.number; records = c.records }

-- it is its terminal's open segment then
pub active_reopened : (v : SegmentLog) (c : Committed) (cs : List Committed) → c.terminal < length v.terminals
    → active_at (with_reopening v (c ∷ cs)) c.terminal ≡ Some (open_again c)
active_reopened v c cs within =
    ap (λ (s : TerminalState). s.active)
    (get_or-set_same v.terminals c.terminal
    (record { count = count_at v c.terminal - 1; active = Some (open_again c) }) idle within)

-- and it goes without a trace but the count
dropped_reopened : (v : SegmentLog) (c : Committed) (cs : List Committed) → c.terminal < length v.terminals
    → active_at v c.terminal ≡ None
    → without_segment (with_records (with_reopening v (c ∷ cs)) c.terminal []) c.terminal
    ≡ without_first_commit v (c ∷ cs)
dropped_reopened v c cs within quiet =
    let t : ℕ = c.terminal in
    let again : TerminalState = record { count = count_at v t - 1; active = Some (open_again c) } in
    let once : List TerminalState = set v.terminals t again in
    let here : get_or once t idle ≡ again = get_or-set_same v.terminals t again idle within in
    let empty : TerminalState =
    record {
      count = (get_or once t idle).count;
      active = option_map {T = Open} (λ o. record o { records = [] })
          (get_or once t idle).active;
    } in
    let inside : t < length once = subst (λ n. t < n) (sym (length-set v.terminals t again)) within in
    let last : TerminalState → TerminalState = λ s. record { count = s.count; active = None } in
    let states : set (set once t empty) t (last (get_or (set once t empty) t idle)) ≡ set v.terminals t
    (record { count = count_at v t - 1; active = active_at v t }) =
    set_twice once t empty (last (get_or (set once t empty) t idle))
    ∙ set_twice v.terminals t again (last (get_or (set once t empty) t idle))
    ∙ ap (λ s. set v.terminals t (last s)) (get_or-set_same once t empty idle inside)
    ∙ ap (λ s. set v.terminals t (last s)) here
    ∙ ap (λ a. set v.terminals t (record { count = count_at v t - 1; active = a })) (sym quiet) in
    λ i. record { terminals = states i; committed = cs; extents = v.extents; layout = v.layout }

-- of the newest commit of a log in which no segment is open
module _ (v u : SegmentLog) (t : ℕ) (n : IsNewest v t) (is : u ≡ with_reopening v v.committed) where
  again : u ≡ with_reopening v (n.newest ∷ n.older)
  again = is ∙ ap (with_reopening v) n.are

  inside : n.newest.terminal < length v.terminals
  inside = subst (λ k. k < length v.terminals) (sym n.own) n.within

  pub newest_open : active_at u t ≡ Some (open_again n.newest)
  newest_open = ap (λ z. active_at z t) again ∙ ap (active_at (with_reopening v (n.newest ∷ n.older))) (sym n.own)
      ∙ active_reopened v n.newest n.older inside

  pub newest_records : records_at u t ≡ n.newest.records
  newest_records = ap records_in newest_open

  pub newest_gone : ((k : ℕ) → active_at v k ≡ None) → (w : SegmentLog)
      → w ≡ with_records u t (drop (length (records_at u t)) (records_at u t))
      → without_segment w t ≡ without_newest 1 v
  newest_gone quiet w e =
      let none : drop (length (records_at u t)) (records_at u t) ≡ [] =
      drop_all (length (records_at u t)) (records_at u t) (omega arith) in
      let all : w ≡ with_records u t [] = e ∙ ap (with_records u t) none in
      ap (λ z. without_segment z t) all ∙ ap (λ z. without_segment (with_records z t []) t) again
      ∙ ap (λ k. without_segment (with_records (with_reopening v (n.newest ∷ n.older)) k []) k) (sym n.own)
      ∙ dropped_reopened v n.newest n.older inside (quiet n.newest.terminal)
      ∙ ap (without_first_commit v) (sym n.are)

  pub none_recorded : (w : SegmentLog) → w ≡ with_records u t (drop (length (records_at u t)) (records_at u t))
      → records_at w t ≡ []
  none_recorded w e =
      let none : drop (length (records_at u t)) (records_at u t) ≡ [] =
      drop_all (length (records_at u t)) (records_at u t) (omega arith) in
      ap (λ z. records_at z t) (e ∙ ap (with_records u t) none) ∙ records_are u t (open_again n.newest) [] newest_open
