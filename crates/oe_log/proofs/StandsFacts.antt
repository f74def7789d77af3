-- The counts and the open segments, in the words of the theory of transactions.
use Rattle.std.proofs.Common.{◌≡◌, ℕ, suc, zero, add-one, add-zero, ◌+◌, ◌-◌, ◌<◌, ◌≤◌, refl, sym, ap, ◌∙◌, subst}
use Rattle.std.proofs.Common.{arith, cond, List, length, get_or, take, Option, None, Some, is_some}
use Rattle.std.specs.List.{sum_by, count_by}
use Rattle.std.proofs.lemmas.List.{take_all, length-map}
use Rattle.std.proofs.lemmas.List.Sums.{sum_by_more}
use Rattle.oe_model.specs.System.{system, terminal_limit}
use Rattle.oe_theory.specs.World.{total}
use Rattle.oe_theory.specs.Store.{Slot, count_slots}
use Rattle.oe_log.specs.Log.{SegmentLog, TerminalState, idle, active_at, total_count, open_total}
use Rattle.oe_log.specs.Stands.{seal_of, seals_of, counts_of}

-- the total of the terminals below n
total_below : (ts : List TerminalState) (n : ℕ) → n ≤ length ts
    → total n (λ t. (get_or ts t idle).count) ≡ sum_by (λ s. s.count) (take n ts)
total_below ts zero h = refl
total_below ts (suc n) h =
    let below : n < length ts = omega arith in
    let rest = total_below ts n (omega arith) in
    let more = sum_by_more (λ (s : TerminalState). s.count) ts n idle below in
    let same : sum_by (λ (s : TerminalState). s.count) (take (n + 1) ts) ≡ sum_by (λ (s : TerminalState). s.count)
    (take (suc n) ts) = ap (λ k. sum_by (λ (s : TerminalState). s.count) (take k ts)) (add-one n) in
    omega arith

-- the sum of the counts is the theory's
pub totals : (v : SegmentLog) → length v.terminals ≡ 65 → total terminal_limit (counts_of v) ≡ total_count v
unfolding terminal_limit
totals v size =
    subst (λ n. total n (counts_of v) ≡ total_count v) size
    (total_below v.terminals (length v.terminals) (omega arith) ∙ ap (λ ts. sum_by (λ (s : TerminalState). s.count) ts)
    (take_all (length v.terminals) v.terminals (omega arith)))

-- so is the horizon
pub horizon_is : (v : SegmentLog) (h : ℕ) → length v.terminals ≡ 65 → h + length v.committed ≡ total_count v
    → h ≡ total terminal_limit (counts_of v) - length (seals_of v)
horizon_is v h size value = omega (arith, totals v size, length-map v.committed seal_of)

-- how many slots below n are taken
one_more : {A : Type 0} (o : Option A) (k : ℕ) → elim o [ None ↦ k | Some p ↦ suc k ] ≡ k + cond (is_some o) 1 0
one_more None k = sym (add-zero k)
one_more (Some p) k = sym (add-one k)

slots_below : (ts : List TerminalState) (slots : ℕ → Option (Slot system))
    → ((t : ℕ) → is_some (slots t) ≡ is_some (get_or ts t idle).active)
    → (n : ℕ) → n ≤ length ts → count_slots system slots n ≡ count_by (λ s. is_some s.active) (take n ts)
slots_below ts slots same zero h = refl
slots_below ts slots same (suc n) h =
    let below : n < length ts = omega arith in
    let rest = slots_below ts slots same n (omega arith) in
    let more = sum_by_more (λ (s : TerminalState). cond (is_some s.active) 1 0) ts n idle below in
    let is : cond (is_some (slots n)) 1 0 ≡ cond (is_some (get_or ts n idle).active) 1 0 =
    ap (λ b. cond b 1 0) (same n) in
    let step = one_more (slots n) (count_slots system slots n) in
    step ∙ ap (λ k. k + cond (is_some (slots n)) 1 0) rest
    ∙ ap (λ k. count_by (λ (s : TerminalState). is_some s.active) (take n ts) + k) is
    ∙ sym more ∙ ap (λ k. count_by (λ (s : TerminalState). is_some s.active) (take k ts)) (add-one n)

-- the count of open segments is that of the theory's slots
pub slots_counted : (v : SegmentLog) (slots : ℕ → Option (Slot system)) → length v.terminals ≡ 65
    → ((t : ℕ) → is_some (slots t) ≡ is_some (active_at v t))
    → count_slots system slots terminal_limit ≡ open_total v
unfolding terminal_limit
slots_counted v slots size same =
    subst (λ n. count_slots system slots n ≡ open_total v) size
    (slots_below v.terminals slots same (length v.terminals) (omega arith)
    ∙ ap (λ ts. count_by (λ (s : TerminalState). is_some s.active) ts)
    (take_all (length v.terminals) v.terminals (omega arith)))
