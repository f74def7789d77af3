-- The row of a moment is what the key's later records leave of the row that stands, and that moment's commits are kept.
use Rattle.std.proofs.Common.{◌≡◌, ℕ, suc, zero, ◌+◌, ◌-◌, ◌<◌, ◌≤◌, Bool, true, false, cond, Option, None, Some, List}
use Rattle.std.proofs.Common.{[], ◌∷◌, ◌++◌, take, map, length, refl, sym, ap, ◌∙◌, arith}
use Rattle.std.proofs.lemmas.Bool.{ltb-true, ltb-false}
use Rattle.std.proofs.lemmas.List.{length-map, append_assoc}
use Rattle.std.proofs.lemmas.List.Sums.{sum_by-cons}
use Rattle.std.specs.Prelude.{◌≢◌, get_or, is_some, nat_lt, ◌==◌}
use Rattle.std.specs.List.{sum_by}
use Rattle.oe_rows.specs.declared.keys.Key.{Key}
use Rattle.oe_rows.specs.declared.rows.Row.{Row}
use Rattle.oe_theory.specs.World.{set}
use Rattle.oe_theory.specs.Undo as theory
use Rattle.oe_theory.specs.Undo.{unwind, unwind_open, unwind_commits}
use Rattle.oe_theory.specs.Store.{all_below, newest_version, version_of}
use Rattle.oe_theory.proofs.Sets.{set_other}
use Rattle.oe_theory.proofs.Records.{at_restored_open, at_restored_commits}
use Rattle.oe_model.specs.Rows.{Rows, is_key, row_at}
use Rattle.oe_model.specs.Changes.{Record, record_key, restore}
use Rattle.oe_model.specs.System.{system, terminal_limit}
use Rattle.oe_model.proofs.SystemLaws.{laws}
use Rattle.oe_store.specs.Places.{rows}
use Rattle.oe_store.specs.Places as tables
use Rattle.oe_log.specs.Records.{Logged}
use Rattle.oe_log.specs.Stands.{undo_of, seals_of, seal_of, model_records}
use Rattle.oe_log.specs.Log.{Open, TerminalState, SegmentLog, Committed as CommitSegment, idle, open_total, records_in}
use Rattle.oe_log.specs.Log.{records_at, total_count}
use Rattle.oe_log.proofs.StandsFacts.{totals}
use Rattle.oe_undo.specs.declared.holders.Holder.{Holder}
use Rattle.oe_undo.specs.declared.holders.Holder.TheVariants as holder
use Rattle.oe_undo.specs.Held.{Held, held_by, held_open, held_commits, all_held, of_key, horizon, is_later}
use Rattle.oe_undo.specs.Restored.{later_of, has_later, row_before}
use Rattle.oe_undo.specs.Laws.{IsWhole}
use Rattle.oe_undo.proofs.ChainWalkFacts.{of_key-append, none_later, has_none}
use Rattle.oe_log.specs.Moments.{newest, IsKeptMoment}
use Rattle.oe_versions.specs.Versions.{version, without_slots, IsVersion}

abbrev history : List CommitSegment → List (List Record)
history cs = map (λ c. model_records c.records) cs

-- the records of one terminal's open transaction after another's
abbrev opens_restored : Key → (ℕ → List Record) → List ℕ → Option Row → Option Row
opens_restored k f [] v = v
opens_restored k f (t ∷ ts) v = opens_restored k f ts (theory.row_before system k (f t) v)

module _ (k : Key) (m : ℕ) where
  -- what a later holder has is put back
  held_restored : (h : Holder) (rs : List Logged) (rest : List Held) (v : Option Row) → is_later m h ≡ true
      → row_before (later_of m (of_key k (held_by h rs) ++ rest)) v
      ≡ row_before (later_of m rest) (theory.row_before system k (model_records rs) v)
  held_restored h [] rest v e = refl
  held_restored h (r ∷ rs) rest v e = go (is_key k (record_key r.before)) (λ x. held_restored h rs rest x e)
    where
      go : (c : Bool)
          → ((x : Option Row) → row_before (later_of m (of_key k (held_by h rs) ++ rest)) x
          ≡ row_before (later_of m rest) (theory.row_before system k (model_records rs) x))
          → row_before (later_of m (cond c (record { logged = r; holder = h } ∷ of_key k (held_by h rs))
          (of_key k (held_by h rs)) ++ rest)) v
          ≡ row_before (later_of m rest) (theory.row_before system k (model_records rs) (cond c (restore r.before v) v))
      go true i = rw e (i (restore r.before v))
      go false i = i v

  commits_restored : (n : ℕ) (cs : List CommitSegment) (v : Option Row) → length cs ≤ n
      → row_before (later_of m (of_key k (held_commits n cs))) v
      ≡ theory.row_before_commits system k (take (n - m) (history cs)) v
  commits_restored n [] v h = at (n - m)
    where
      at : (j : ℕ) → v ≡ theory.row_before_commits system k (take {A = List Record} j []) v
      at zero = refl
      at (suc j) = refl
  commits_restored n (c ∷ cs) v h =
      go (nat_lt m n) refl (λ x. commits_restored (n - 1) cs x (omega (arith, h)))
    where
      rest : List Held
      rest = of_key k (held_commits (n - 1) cs)

      go : (b : Bool) → nat_lt m n ≡ b
          → ((x : Option Row) → row_before (later_of m (of_key k (held_commits (n - 1) cs))) x
          ≡ theory.row_before_commits system k (take (n - 1 - m) (history cs)) x)
          → row_before (later_of m (of_key k (held_commits n (c ∷ cs)))) v
          ≡ theory.row_before_commits system k (take (n - m) (history (c ∷ cs))) v
      go true e i =
          let lt = ltb-true m n e in
          let one : n - m ≡ suc (n - 1 - m) = omega (arith, lt) in
          ap (λ xs. row_before (later_of m xs) v)
          (of_key-append k (held_by (holder.At n) c.records) (held_commits (n - 1) cs))
          ∙ held_restored (holder.At n) c.records (of_key k (held_commits (n - 1) cs)) v e
          ∙ i (theory.row_before system k (model_records c.records) v)
          ∙ ap (λ j. theory.row_before_commits system k (take j (history (c ∷ cs))) v) (sym one)
      go false e i =
          let le = ltb-false m n e in
          let none : n - m ≡ 0 = omega (arith, le) in
          ap (λ bs. row_before bs v) (none_later m k n (c ∷ cs) le)
          ∙ ap (λ j. theory.row_before_commits system k (take j (history (c ∷ cs))) v) (sym none)

  open_restored : (f : ℕ → List Logged) (ts : List ℕ) (rest : List Held) (v : Option Row)
      → row_before (later_of m (of_key k (held_open f ts ++ rest))) v
      ≡ row_before (later_of m (of_key k rest)) (opens_restored k (λ t. model_records (f t)) ts v)
  open_restored f [] rest v = refl
  open_restored f (t ∷ ts) rest v =
      ap (λ xs. row_before (later_of m (of_key k xs)) v)
      (append_assoc (held_by (holder.Open t) (f t)) (held_open f ts) rest)
      ∙ ap (λ xs. row_before (later_of m xs) v)
      (of_key-append k (held_by (holder.Open t) (f t)) (held_open f ts ++ rest))
      ∙ held_restored (holder.Open t) (f t) (of_key k (held_open f ts ++ rest)) v refl
      ∙ open_restored f ts rest (theory.row_before system k (model_records (f t)) v)

-- open transactions of terminals below n: those of others do not matter
same_open : (n : ℕ) (f g : ℕ → List Record) (k : Key) (v : Option Row) → ((t : ℕ) → t < n → f t ≡ g t)
    → theory.row_before_open system k f (all_below system n) v
    ≡ theory.row_before_open system k g (all_below system n) v
same_open zero f g k v same = refl
same_open (suc n) f g k v same =
    same_open n (set n [] f) (set n [] g) k (theory.row_before system k (f n) v) (λ t below.
    let ne : t ≢ n = λ e. omega (arith, e, below) in
    let up : t < suc n = omega (arith, below) in
    set_other n [] f t ne ∙ same t up ∙ sym (set_other n [] g t ne))
    ∙ ap (λ bs. theory.row_before_open system k (set n [] g) (all_below system n) (theory.row_before system k bs v))
    (same n (omega arith))

opens_are : (n : ℕ) (f : ℕ → List Record) (k : Key) (v : Option Row)
    → theory.row_before_open system k f (all_below system n) v ≡ opens_restored k f (all_below system n) v
opens_are zero f k v = refl
opens_are (suc n) f k v =
    same_open n (set n [] f) f k (theory.row_before system k (f n) v) (λ t below.
    let ne : t ≢ n = λ e. omega (arith, e, below) in
    set_other n [] f t ne)
    ∙ opens_are n f k (theory.row_before system k (f n) v)

row_is : (u : SegmentLog) (m : ℕ) (k : Key) (r : Rows) → length u.committed ≤ total_count u → newest u ≡ total_count u
    → row_at (version_of system (without_slots r u) m) k ≡ row_before (later_of m (of_key k (all_held u))) (row_at r k)
row_is u m k r few all =
    let back : List (List Record) = take (newest u - m) (undo_of u).history in
    let opens : Option Row = opens_restored k (undo_of u).active (all_below system terminal_limit) (row_at r k) in
    at_restored_commits system laws back (newest_version system (without_slots r u)) k
    ∙ ap (theory.row_before_commits system k back)
    (at_restored_open system laws (undo_of u).active (all_below system terminal_limit) r k
    ∙ opens_are terminal_limit (undo_of u).active k (row_at r k))
    ∙ ap (λ n. theory.row_before_commits system k (take (n - m) (undo_of u).history) opens) all
    ∙ sym (commits_restored k m (total_count u) u.committed opens few)
    ∙ sym (open_restored k m (records_at u) (all_below system terminal_limit)
    (held_commits (total_count u) u.committed) (row_at r k))

-- a moment that can be read is kept, as the log counts
module _ (u : SegmentLog) (m : ℕ) (whole : IsWhole u) where
  newest_is : newest u ≡ total_count u
  unfolding terminal_limit
  newest_is = totals u whole.terminals

  pub is_kept : IsKeptMoment u m → horizon u ≤ m
  is_kept readable =
      let old : newest u - length (seals_of u) ≤ m = readable.old in
      omega (arith, old, newest_is, length-map u.committed seal_of)

  -- what a walk along the key's records leaves of the row that stands
  pub row_found : (ts : tables.Places) (k : Key) (now v : Option Row)
      → v ≡ row_before (later_of m (of_key k (all_held u))) now → now ≡ row_at (rows ts) k → v
      ≡ row_at (version ts u m) k
  row_found ts k now v walked stands =
      walked ∙ ap (λ x. row_before (later_of m (of_key k (all_held u))) x) stands
      ∙ sym (row_is u m k (rows ts) whole.commits newest_is)

  -- a key without a later record has the row that stands
  pub unchanged : (ts : tables.Places) (k : Key) → has_later m (of_key k (all_held u)) ≡ false
      → row_at (version ts u m) k ≡ row_at (rows ts) k
  unchanged ts k none =
      row_is u m k (rows ts) whole.commits newest_is
      ∙ ap (λ bs. row_before bs (row_at (rows ts) k)) (has_none m (of_key k (all_held u)) none)

-- WHERE NOTHING IS PUT BACK

none_open : (v : Option Open) (n : ℕ) → cond (is_some v) 1 0 + n ≡ 0 → (v ≡ None) × (n ≡ 0)
none_open None n e = (refl, omega (arith, e))
none_open (Some o) n e = absurd (omega (arith, e))

-- none of these terminals has a segment open
pub shut : (ss : List TerminalState) → sum_by (λ (s : TerminalState). cond (is_some s.active) 1 0) ss ≡ 0 → (t : ℕ)
    → (get_or ss t idle).active ≡ None
shut [] e zero = refl
shut [] e (suc t) = refl
shut (s ∷ ss) e zero =
    (none_open s.active (sum_by (λ (s : TerminalState). cond (is_some s.active) 1 0) ss)
    (sym (sum_by-cons (λ (s : TerminalState). cond (is_some s.active) 1 0) s ss) ∙ e)).0
shut (s ∷ ss) e (suc t) =
    shut ss (none_open s.active (sum_by (λ (s : TerminalState). cond (is_some s.active) 1 0) ss)
    (sym (sum_by-cons (λ (s : TerminalState). cond (is_some s.active) 1 0) s ss) ∙ e)).1 t

pub none_put_back : (f : ℕ → List Record) → ((t : ℕ) → f t ≡ []) → (ts : List ℕ) (r : Rows)
    → unwind_open system f ts r ≡ r
none_put_back f none [] r = refl
none_put_back f none (t ∷ ts) r =
    (λ i. unwind_open system (set t [] f) ts (unwind system (none t i) r))
    ∙ none_put_back (set t [] f) (λ u. still u (u == t)) ts r
  where
    still : (u : ℕ) (b : Bool) → cond b [] (f u) ≡ []
    still u true = refl
    still u false = none u

none_taken : {A : Type 0} (xs : List A) → take 0 xs ≡ []
none_taken [] = refl
none_taken (x ∷ xs) = refl

rows_stand : (u : SegmentLog) (m : ℕ) (r : Rows) → newest u ≡ m → open_total u ≡ 0
    → version_of system (without_slots r u) m ≡ r
rows_stand u m r last quiet =
    let none : newest u - m ≡ 0 = omega (arith, last) in
    ap (λ k. unwind_commits system (take k (undo_of u).history)
    (unwind_open system (undo_of u).active (all_below system terminal_limit) r)) none
    ∙ ap (λ ss. unwind_commits system ss
    (unwind_open system (undo_of u).active (all_below system terminal_limit) r)) (none_taken (undo_of u).history)
    ∙ none_put_back (undo_of u).active (λ t. ap (λ o. model_records (records_in o)) (shut u.terminals quiet t))
    (all_below system terminal_limit) r

-- so each row stands
pub all_stand : (ts : tables.Places) (u : SegmentLog) (m : ℕ) (settled named : Bool) (k : Key)
    → IsVersion ts u m settled named → settled ≡ true → row_at (version ts u m) k ≡ row_at (rows ts) k
all_stand ts u m settled named k v is = ap (λ z. row_at z k)
    (rows_stand u m (rows ts) (v.settled.0 is).0 (v.settled.0 is).1)
