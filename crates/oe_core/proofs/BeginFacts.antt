-- Why a transaction can't begin.
use Rattle.std.proofs.Common.{◌≡◌, ℕ, suc, ◌<◌, ◌≤◌, cond, Bool, true, false, List, [], ◌∷◌, Some, None, sym, ap, subst}
use Rattle.std.proofs.Common.{refl}
use Rattle.std.specs.Prelude.{is_some, nat_le}
use Rattle.oe_theory.specs.Next.{Begin, Answer, Rejected, Already_open, No_memory}
use Rattle.oe_requests.specs.declared.requests.Request.{Request}
use Rattle.oe_requests.specs.declared.refusals.Column.TheVariants as column
use Rattle.oe_requests.specs.declared.refusals.Refusal.{Refusal}
use Rattle.oe_requests.specs.declared.refusals.Refusal.TheVariants.{NoSuchRow, RowExists, Overflow, Reference}
use Rattle.oe_requests.specs.declared.refusals.Refusal.TheVariants.{KeyColumn, Busy, UndoFull, NoMemory, NotOpen}
use Rattle.oe_requests.specs.declared.refusals.Refusal.TheVariants.{AlreadyOpen, InvalidItem, NoCustomer, TooOld}
use Rattle.oe_requests.specs.declared.refusals.Refusal.TheVariants.{Future, NotQuiet, NotPinned}
use Rattle.oe_rows.specs.declared.keys.Key.TheVariants as key
use Rattle.oe_requests.specs.declared.steps.Step.TheVariants as step
use Rattle.oe_model.specs.Rows.{Rows, row_at}
use Rattle.oe_model.specs.Requests.{IsRequest, warehouses_of, warehouse_no, first_absent, rejection, number_rejection}
use Rattle.oe_model.specs.System.{system}
use Rattle.oe_engine.specs.View.{view_of}
use Rattle.oe_engine.specs.Calls.{CantBegin}
use Rattle.oe_core.specs.Core.{CoreState, in_slot, slot_of, open_at, store_of, IsOrderly, Moves}
use Rattle.oe_machine.specs.Steps.{refusal_in}
use Rattle.oe_core.proofs.MoveFacts.{standing, stays, the_steps, has_work, is_shut, below_limit}

-- a request that is turned away
only_absent : (t : ℕ) (q : Request) (e : Refusal) (ws : List ℕ) (r : Rows) → first_absent ws r ≡ Some e
    → refusal_in (step.Begin t q) e ≡ Rejected e
only_absent t q e [] r h = let no : ⊥ = cc in absurd no
only_absent t q e (w ∷ ws) r h = go (is_some (row_at r (key.Warehouse (warehouse_no w)))) (only_absent t q e ws r) h
  where
    go : (b : Bool) → (first_absent ws r ≡ Some e → refusal_in (step.Begin t q) e ≡ Rejected e)
        → cond b (first_absent ws r) (Some (NoSuchRow (key.Warehouse (warehouse_no w)))) ≡ Some e
        → refusal_in (step.Begin t q) e ≡ Rejected e
    go true f g = f g
    go false f g =
        let it : NoSuchRow (key.Warehouse (warehouse_no w)) ≡ e = cc in
        subst (λ (z : Refusal). refusal_in (step.Begin t q) z ≡ Rejected z) it refl

pub rejected_here : (s : CoreState) → IsOrderly s → (t : ℕ) (q : Request) (e : Refusal)
    → rejection q (view_of s.engine).rows ≡ Some e
    → Moves s (Begin t q) (refusal_in (step.Begin t q) e) s
rejected_here s o t q e h =
    subst (λ (a : Answer system). Moves s (Begin t q) a s)
    (sym (only_absent t q e (warehouses_of q) (view_of s.engine).rows h))
    (stays s o (Begin t q) (Rejected e) (the_steps.is_rejected (store_of s) t q e (standing s o) h))

-- the terminal has had all its numbers
only_overflow : (n : ℕ) (e : Refusal) → number_rejection n ≡ Some e → Overflow column.HistoryNumber ≡ e
only_overflow n e h = go (nat_le n 4294967295) h
  where
    go : (b : Bool) → cond b None (Some (Overflow column.HistoryNumber)) ≡ Some e → Overflow column.HistoryNumber ≡ e
    go true g = let no : ⊥ = cc in absurd no
    go false g = cc

outnumbered : (s : CoreState) → IsOrderly s → (t : ℕ) (q : Request) (e : Refusal)
    → rejection q (view_of s.engine).rows ≡ None
    → ((view_of s.engine).is_open t ≡ false) × (number_rejection (suc ((view_of s.engine).counts t)) ≡ Some e)
    → Moves s (Begin t q) (Rejected e) s
outnumbered s o t q e k h =
    stays s o (Begin t q) (Rejected e)
    (the_steps.number_is_rejected (store_of s) t q e (standing s o) k
    (is_shut s o t h.0) h.1)

pub not_begun : (s : CoreState) → IsOrderly s → (t : ℕ) → 1 ≤ t → t < 65 → (q : Request) → IsRequest q
    → rejection q (view_of s.engine).rows ≡ None → (e : Refusal)
    → CantBegin (view_of s.engine) t e → Moves s (Begin t q) (refusal_in (step.Begin t q) e) s
not_begun s o t l b q g kn (NoSuchRow k) h = outnumbered s o t q (NoSuchRow k) kn h
not_begun s o t l b q g kn (RowExists k) h = outnumbered s o t q (RowExists k) kn h
not_begun s o t l b q g kn (Overflow c) h = outnumbered s o t q (Overflow c) kn h
not_begun s o t l b q g kn (Reference k) h = outnumbered s o t q (Reference k) kn h
not_begun s o t l b q g kn KeyColumn h = outnumbered s o t q KeyColumn kn h
not_begun s o t l b q g kn (Busy n u) h =
    let it : Overflow column.HistoryNumber ≡ Busy n u = only_overflow _ _ h.1 in
    let no : ⊥ = cc in
    absurd no
not_begun s o t l b q g kn UndoFull h =
    let it : Overflow column.HistoryNumber ≡ UndoFull = only_overflow _ _ h.1 in
    let no : ⊥ = cc in
    absurd no
not_begun s o t l b q g kn NoMemory h =
    stays s o (Begin t q) No_memory
    (the_steps.lacks_memory_at_begin (store_of s) t q (standing s o)
    (record {
      terminal = (l, below_limit t b);
      valid = g;
      known = kn;
      closed = is_shut s o t h.0;
      counted = h.1;
    }))
not_begun s o t l b q g kn NotOpen h =
    let it : Overflow column.HistoryNumber ≡ NotOpen = only_overflow _ _ h.1 in
    let no : ⊥ = cc in
    absurd no
not_begun s o t l b q g kn AlreadyOpen h =
    let v = view_of s.engine in
    let found = has_work s.engine t (in_slot s.txs t) (in_slot s.works t) (o.works t) h in
    stays s o (Begin t q) Already_open
    (the_steps.is_open (store_of s) t q (slot_of v t found.0) (standing s o) kn (ap (open_at v t) found.1))
not_begun s o t l b q g kn InvalidItem h = outnumbered s o t q InvalidItem kn h
not_begun s o t l b q g kn NoCustomer h = outnumbered s o t q NoCustomer kn h
not_begun s o t l b q g kn (TooOld m) h =
    let it : Overflow column.HistoryNumber ≡ TooOld m = only_overflow _ _ h.1 in
    let no : ⊥ = cc in
    absurd no
not_begun s o t l b q g kn (Future m) h =
    let it : Overflow column.HistoryNumber ≡ Future m = only_overflow _ _ h.1 in
    let no : ⊥ = cc in
    absurd no
not_begun s o t l b q g kn (NotQuiet n) h =
    let it : Overflow column.HistoryNumber ≡ NotQuiet n = only_overflow _ _ h.1 in
    let no : ⊥ = cc in
    absurd no
not_begun s o t l b q g kn (NotPinned n) h = outnumbered s o t q (NotPinned n) kn h
