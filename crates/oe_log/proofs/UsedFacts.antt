-- How many extents the records fill, in the words of the theory of transactions.
use Rattle.std.proofs.Common.{◌≡◌, ℕ, zero, suc, add-one, ◌+◌, ◌-◌, ◌<◌, ◌≤◌, refl, sym, ap, ◌∙◌, subst, arith, cond}
use Rattle.std.proofs.Common.{List, [], ◌∷◌, length, map, get_or, take}
use Rattle.std.specs.Prelude.{nat_le}
use Rattle.std.specs.List.{sum_by}
use Rattle.std.proofs.lemmas.List.{take_all}
use Rattle.std.proofs.lemmas.List.Sums.{sum_by_more, sum_by-cons}
use Rattle.oe_model.specs.Lengths.{record_length}
use Rattle.oe_model.specs.System.{system, size_of, terminal_limit}
use Rattle.oe_theory.specs.Next as theory
use Rattle.oe_theory.specs.Undo.{lengths_of, used_open, used_commits}
use Rattle.oe_extent.specs.Ring as ring
use Rattle.oe_log.specs.Records.{Logged, lengths}
use Rattle.oe_log.specs.Log.{SegmentLog, TerminalState, Committed, idle, records_in, records_at, IsFull}
use Rattle.oe_log.specs.Stands.{model_records, undo_of}
use Rattle.oe_log.specs.Laws.{IsFullIn}

-- strings fill extents as the theory's records do
same_filled : (ls : List ℕ) → theory.fill_of system ls ≡ ring.fill_of ls
same_filled [] = refl
same_filled (l ∷ ls) = ap (λ (f : ℕ × ℕ). cond {A = ℕ × ℕ} (nat_le l f.1) (f.0, f.1 - l) (suc f.0, 4096 - l))
    (same_filled ls)

-- the machine's lengths are the log's
same_lengths : (rs : List Logged) → lengths_of system (model_records rs) ≡ lengths rs
unfolding size_of
same_lengths [] = refl
same_lengths (r ∷ rs) = ap (λ ls. record_length r.before ∷ ls) (same_lengths rs)

pub same_room : (rs : List Logged) → theory.fill_of system
    (lengths_of system (model_records rs)) ≡ ring.fill_of (lengths rs)
same_room rs = same_filled (lengths_of system (model_records rs))
    ∙ ap (λ (ls : List ℕ). ring.fill_of ls) (same_lengths rs)

abbrev extents_of : List Logged → ℕ
extents_of rs = (ring.fill_of (lengths rs)).0

abbrev recs : TerminalState → List Logged
recs s = records_in s.active

-- of the open segments of the terminals below n
used_below : (ts : List TerminalState) (n : ℕ) → n ≤ length ts
    → used_open system (λ t. model_records (recs (get_or ts t idle))) n ≡ sum_by (λ s. extents_of (recs s))
    (take n ts)
used_below ts zero h = refl
used_below ts (suc n) h =
    let below : n < length ts = omega arith in
    let rest = used_below ts n (omega arith) in
    let more = sum_by_more (λ (s : TerminalState). extents_of (recs s)) ts n idle below in
    let same : sum_by (λ (s : TerminalState). extents_of (recs s)) (take (n + 1) ts) ≡ sum_by
    (λ (s : TerminalState). extents_of (recs s)) (take (suc n) ts) =
    ap (λ k. sum_by (λ (s : TerminalState). extents_of (recs s)) (take k ts)) (add-one n) in
    let own = ap (λ (f : ℕ × ℕ). f.0) (same_room (recs (get_or ts n idle))) in
    omega (arith, rest, more, same, own)

used_opens : (v : SegmentLog) → length v.terminals ≡ terminal_limit
    → used_open system ((undo_of v).active) terminal_limit ≡ sum_by (λ s. extents_of (recs s))
    v.terminals
used_opens v size =
    subst (λ n. used_open system ((undo_of v).active) n ≡ sum_by
    (λ (s : TerminalState). extents_of (recs s)) v.terminals) size
    (used_below v.terminals (length v.terminals) (omega arith)
    ∙ ap (λ ts. sum_by (λ (s : TerminalState). extents_of (recs s)) ts)
    (take_all (length v.terminals) v.terminals (omega arith)))

used_committed : (cs : List Committed) → used_commits system
    (map (λ c. model_records c.records) cs) ≡ sum_by (λ c. extents_of c.records) cs
used_committed [] = refl
used_committed (c ∷ cs) =
    let own = ap (λ (f : ℕ × ℕ). f.0) (same_room c.records) in
    omega (arith, own, used_committed cs, sum_by-cons (λ (d : Committed). extents_of d.records) c cs)

module _ (v : SegmentLog) (t n : ℕ) (size : length v.terminals ≡ terminal_limit) where
  same_rest : (ring.fill_of (lengths (records_at v t))).1
      ≡ (theory.fill_of system (lengths_of system ((undo_of v).active t))).1
  same_rest = sym (ap (λ (f : ℕ × ℕ). f.1) (same_room (recs (get_or v.terminals t idle))))

  pub full_here : IsFull v t n → IsFullIn (undo_of v) v.extents t n
  full_here f = (omega (arith, f.0, same_rest), omega (arith, f.1, used_opens v size, used_committed v.committed))

  pub full_there : IsFullIn (undo_of v) v.extents t n → IsFull v t n
  full_there f = (omega (arith, f.0, same_rest), omega (arith, f.1, used_opens v size, used_committed v.committed))
