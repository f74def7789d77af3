-- A row of a transaction, and its commit.
use Rattle.std.proofs.Common.{◌≡◌, ℕ, suc, inl, inr, true, false, cond, List, Option, Some, None, length, slice_get}
use Rattle.std.proofs.Common.{slice_set, sym, ap, ◌∙◌, subst, refl}
use Rattle.std.specs.Prelude.{◌⊎◌, option_map, option_and_then}
use Rattle.std.specs.FinMap.{get}
use Rattle.std.proofs.lemmas.Bool.{cases_lt}
use Rattle.oe_theory.specs.Machine.{Mode, Shared, Ask, Stop, Plain, Take, Fail, Go, Tx}
use Rattle.oe_theory.specs.World.{Open, World, total, go_together, latest, overlay}
use Rattle.oe_theory.specs.Next.{Next, Advance, More, Committed, Aborted, IsNew, GivesWay, held_after, fill_of}
use Rattle.oe_theory.specs.Next.{record_on}
use Rattle.oe_theory.specs.Undo.{lengths_of, used_of}
use Rattle.oe_theory.specs.Store.{Slot, Store, tx_in, open_in_slot, slot_after, without_slot, IsGrantedIn, IsInTheWayIn}
use Rattle.oe_theory.specs.Store.{HasRoomIn, MayLackMemoryIn}
use Rattle.oe_theory.specs.Store as theory
use Rattle.oe_theory.specs.StoreTheorems.{Leads}
use Rattle.oe_theory.specs.Laws.{Holds, held_of, Alike}
use Rattle.oe_theory.proofs.Tables.{alike_tables}
use Rattle.oe_theory.proofs.Steps.{to_alone}
use Rattle.oe_theory.proofs.Replay.{taken_held}
use Rattle.oe_theory.proofs.Sets.{set_same, set_other, set_idle}
use Rattle.oe_theory.proofs.StoreSteps.{tables_here, is_open_in, granted_here, acts_here}
use Rattle.oe_theory.proofs.Theorems.{reached_sound, changes_are_accepted, abort_is_its_own}
use Rattle.oe_requests.specs.declared.requests.Request.{Request}
use Rattle.oe_requests.specs.declared.requests.Request.TheVariants as request
use Rattle.oe_requests.specs.declared.replies.Reply.{Reply}
use Rattle.oe_rows.specs.declared.customers.Customer.{Customer}
use Rattle.oe_rows.specs.declared.keys.Key.TheVariants as key
use Rattle.oe_rows.specs.declared.locks.Name.{Name}
use Rattle.oe_rows.specs.declared.locks.Name.TheVariants as name
use Rattle.oe_rows.specs.declared.rows.Row.TheVariants as row
use Rattle.oe_requests.specs.declared.refusals.Refusal.{Refusal}
use Rattle.oe_requests.specs.declared.refusals.Refusal.TheVariants.{NoSuchRow, RowExists, Overflow, Reference}
use Rattle.oe_requests.specs.declared.refusals.Refusal.TheVariants.{KeyColumn, Busy, UndoFull, NoMemory, NotOpen}
use Rattle.oe_requests.specs.declared.refusals.Refusal.TheVariants.{AlreadyOpen, InvalidItem, NoCustomer, TooOld}
use Rattle.oe_requests.specs.declared.refusals.Refusal.TheVariants.{Future, NotQuiet, NotPinned}
use Rattle.oe_requests.specs.declared.steps.Step.TheVariants as step
use Rattle.oe_requests.specs.declared.answers.Answer.TheVariants as answer
use Rattle.oe_model.specs.Changes.{Change}
use Rattle.oe_model.specs.Meets.{Accepts}
use Rattle.oe_model.specs.Positions as model
use Rattle.oe_model.specs.Requests.{MayRefuse}
use Rattle.oe_model.specs.Rows.{Rows, as_customer}
use Rattle.oe_model.specs.System.{system, ask, act, locks_before, yields, marks, may_allocate, terminal_limit}
use Rattle.oe_model.proofs.ChangeFacts.{not_both}
use Rattle.oe_model.proofs.LawFacts as law
use Rattle.oe_model.proofs.SystemLaws.{laws, recalls_alone}
use Rattle.oe_engine.specs.View.{View, view_of, Handle, IsOpen}
use Rattle.oe_engine.specs.View as engine
use Rattle.oe_engine.specs.Calls.{IsFree, IsInTheWay, IsFullFor, IsFullForAny, after_stage, after_commit}
use Rattle.oe_engine.specs.Calls.{after_rollback}
use Rattle.oe_engine.specs.Programs.{reply_at, tx_of, ask_here, act_here, IsFreeHere, GoesOn, IsReady, Ends}
use Rattle.oe_engine.specs.Programs.{WantsMemory, IsStageRefusal}
use Rattle.oe_engine.proofs.ReplyFacts.{ready_at}
use Rattle.oe_core.specs.Core.{CoreState, in_slot, reply_left, last_reply, work_at, slot_of, open_at, store_with}
use Rattle.oe_core.specs.Core.{store_of, world_of, IsOrderly, Moves, keeps_open}
use Rattle.oe_machine.specs.Steps.{refusal_in, Carries}
use Rattle.oe_core.specs.Works.{WorkState, HoldsTaken, Recalls, work_after_stage}
use Rattle.oe_model.specs.Positions.{Position}
use Rattle.oe_core.proofs.KeepFacts.{unchanged}
use Rattle.oe_core.proofs.WantFacts.{wants_in, allocates}
use Rattle.oe_core.proofs.SlotFacts.{get_slot, get_set_same}
use Rattle.oe_core.proofs.MoveFacts.{within, works_within, standing, carries, the_steps, has_work, HasOpen, slot_here}
use Rattle.oe_core.proofs.MoveFacts.{own_work, worked, emptied, open_still, tx_still, dropped_here}

-- a record that has room has it in the theory's words
has_room : (v : View) (f : ℕ → Option WorkState) (t : ℕ) (c : Option Change) → (IsFullForAny v t c → ⊥)
    → HasRoomIn system (store_with v f) t c
has_room v f t None room = tt
has_room v f t (Some c) room =
    let filled_to = (fill_of system (lengths_of system (v.undo.active t))).1 in
    elim (cases_lt filled_to (system.size_of (record_on system v.layout c v.rows))) [
      | inl over ↦ elim (cases_lt (used_of system v.undo) v.extents) [
        | inl free ↦ inr free
        | inr all ↦ absurd (room (over, all))
      ]
      | inr fits ↦ inl fits
    ]

-- what stands in the way of another lock
slot_held : (v : View) (u : ℕ) (x : Option WorkState) (p : Slot system) → open_at v u x ≡ Some p → p.held ≡ v.held u
slot_held v u None p e = let no : ⊥ = cc in absurd no
slot_held v u (Some w) p e = let it : slot_of v u w ≡ p = cc in sym (ap (λ (z : Slot system). z.held) it)

granted : (v : View) (f : ℕ → Option WorkState) (t : ℕ) (a : Ask Name Refusal) → IsFree v t a
    → IsGrantedIn system (λ u. open_at v u (f u)) t a
granted v f t (Stop e) h = h
granted v f t Plain h = h
granted v f t (Take n m) h = λ u p ne e. ap (λ z. go_together m (z n)) (slot_held v u (f u) p e) ∙ h u ne

in_the_way : (s : CoreState) → IsOrderly s → (t : ℕ) (n : Name) (m : Mode) (u : ℕ)
    → IsInTheWay (view_of s.engine) t n m u
    → IsInTheWayIn system (store_of s).slots t n m u
in_the_way s o t n m u h =
    let v = view_of s.engine in
    let found = has_work s.engine u (in_slot s.txs u) (in_slot s.works u) (o.works u) h.is_open in
    record {
      other = h.other;
      who = slot_of v u found.0;
      is_open = ap (open_at v u) found.1;
      conflicts = h.conflicts;
      least = λ k p b ne e. ap (λ z. go_together m (z n)) (slot_held v k (work_at s k) p e) ∙ h.least k b ne;
    }

-- an open transaction: what its row asks for, what it does, and whether its lock is free
module _ (s : CoreState) (t : ℕ) (x : Handle) (w : WorkState) (h : HasOpen s t x w) where
  abbrev pub here : Slot system
  here = slot_of (view_of s.engine) t w

  -- by its handle it is the same as by its slot
  same_tx : tx_of s.engine x w.request ≡ tx_in system t here
  same_tx =
      let own = own_work h in
      λ i. record {
        terminal = own.terminal i;
        number = suc ((view_of s.engine).counts (own.terminal i));
        request = w.request;
      }

  pub asked_here : ask_here s.engine x w.request w.position ≡ ask (tx_in system t here) w.position
      (view_of s.engine).rows
  asked_here = ap (λ z. ask z w.position (view_of s.engine).rows) same_tx

  pub acted_here : act_here s.engine x w.request w.position ≡ act (tx_in system t here) w.position
      (view_of s.engine).rows
  acted_here = ap (λ z. act z w.position (view_of s.engine).rows) same_tx

  pub free_here : IsFreeHere s.engine x w.request w.position
      → IsFree (view_of s.engine) t (ask (tx_in system t here) w.position (view_of s.engine).rows)
  free_here f =
      subst (λ (k : ℕ). IsFree (view_of s.engine) k (ask (tx_in system t here) w.position (view_of s.engine).rows))
      (own_work h).terminal
      (subst (λ (a : Ask Name Refusal). IsFree (view_of s.engine) x.terminal a) asked_here f)

  pub granted_in : IsFreeHere s.engine x w.request w.position
      → IsGrantedIn system (store_of s).slots t (ask (tx_in system t here) w.position (view_of s.engine).rows)
  granted_in f = granted (view_of s.engine) (work_at s) t _ (free_here f)

  -- a row that ends its transaction
  leads_stop : (e : Refusal) → ask (tx_in system t here) w.position (view_of s.engine).rows ≡ Stop e
      → Leads system (store_of s) (Advance t) (Aborted e) (without_slot system t (store_of s))
  leads_stop e q = the_steps.stops (store_of s) t here e (standing s h.orderly) (slot_here h) q

  leads_fail : (e : Refusal) → IsFreeHere s.engine x w.request w.position
      → act (tx_in system t here) w.position (view_of s.engine).rows ≡ Fail e
      → Leads system (store_of s) (Advance t) (Aborted e) (without_slot system t (store_of s))
  leads_fail e f q = the_steps.fails (store_of s) t here e (standing s h.orderly) (slot_here h) (granted_in f) q

  -- the tables accept each change of a row
  accepted : (c : Change) (p : model.Position) → IsFreeHere s.engine x w.request w.position
      → act (tx_in system t here) w.position (view_of s.engine).rows ≡ Go (Some c) p → Accepts c (view_of s.engine).rows
  accepted c p f q =
      subst (Accepts c) (tables_here system laws (store_of s) (standing s h.orderly))
      (changes_are_accepted system laws (theory.world_of system (store_of s)) t
      (open_in_slot system ((store_of s).undo.active t) (store_of s).tables here) c p (standing s h.orderly).reached
      (is_open_in system laws (store_of s) t here (slot_here h))
      (granted_here system laws (store_of s) (standing s h.orderly) t here (granted_in f))
      (acts_here system laws (store_of s) (standing s h.orderly) t here ∙ q))

  pub leads_end : (e : Refusal) → Ends s.engine x w.request w.position e
      → Leads system (store_of s) (Advance t) (Aborted e) (without_slot system t (store_of s))
  leads_end e (inl q) = leads_stop e (sym asked_here ∙ q)
  leads_end e (inr (inl d)) = leads_fail e d.0 (sym acted_here ∙ d.1)
  leads_end e (inr (inr d)) =
      absurd (not_both d.1 (view_of s.engine).rows e (accepted d.1 d.2 d.0 (sym acted_here ∙ d.3)) d.4)

  -- and the refusals that may end it
  pub may_end : (e : Refusal) → Ends s.engine x w.request w.position e → (q : Request) × MayRefuse q e
  may_end e d =
      let it = abort_is_its_own system laws (theory.world_of system (store_of s)) _ t e (standing s h.orderly).reached
      (leads_end e d).next in
      (it.was.request, it.cause)

-- the names that are taken on the way to its row are held
pub holds_taken : {s : CoreState} {t : ℕ} {x : Handle} {w : WorkState} → HasOpen s t x w
    → HoldsTaken s.engine x w.request w.position
holds_taken {s} {t} {x} {w} h n m g =
    let p : Slot system = here s t x w h in
    let o : Open system = open_in_slot system ((store_of s).undo.active t) (store_of s).tables p in
    let w' : World system = theory.world_of system (store_of s) in
    let course = (reached_sound system laws w' (standing s h.orderly).reached).each t o
    (is_open_in system laws (store_of s) t p (slot_here h)) in
    subst (λ (k : ℕ). held_of system ((view_of s.engine).held k) n m) (sym (own_work h).terminal)
    (taken_held system laws ((view_of s.engine).held t) (tx_in system t p) (latest system w') o.now course.now n m
    (subst (λ (z : Tx Request). Holds system (locks_before z w.position) n m) (same_tx s t x w h) g))

-- and what a rename has read still stands
same_row : (a b : Option Customer) → option_map row.Customer a ≡ option_map row.Customer b → a ≡ b
same_row a b e = sym (back a) ∙ ap (option_and_then as_customer) e ∙ back b
  where
    back : (o : Option Customer) → option_and_then as_customer (option_map row.Customer o) ≡ o
    back None = refl
    back (Some x) = refl

recalls_at : (s : engine.EngineState) (t : ℕ) (z : Tx Request) (r : Rows) (p : Position)
    → Alike system (held_of system ((view_of s).held t)) z (view_of s).rows r
    → ((n : Name) (m : Mode) → Holds system (locks_before z p) n m → held_of system ((view_of s).held t) n m)
    → law.Recalls p r → Recalls s p
recalls_at s t z r (model.InRename q (model.RenameNew last)) alike held h = (
  h.0,
  same_row (get (view_of s).rows.customers q.customer) (get r.customers q.customer)
      (alike.rows (key.Customer q.customer) (held (name.Customer q.customer) Shared (inr (inl (refl, tt))))) ∙ h.1,
  h.2,
)
recalls_at s t z r (model.InRename q model.RenameCustomer) alike held h = tt
recalls_at s t z r (model.InRename q (model.RenameOld last)) alike held h = tt
recalls_at s t z r (model.InRename q (model.RenameEnd last)) alike held h = tt
recalls_at s t z r (model.InPayment q p) alike held h = tt
recalls_at s t z r (model.InNewOrder q p) alike held h = tt
recalls_at s t z r (model.InDelivery q p) alike held h = tt
recalls_at s t z r (model.InDeliveries q done p) alike held h = tt
recalls_at s t z r (model.DeliveriesEnd done) alike held h = tt

pub recalls_here : {s : CoreState} {t : ℕ} {x : Handle} {w : WorkState} → HasOpen s t x w → Recalls s.engine w.position
recalls_here {s} {t} {x} {w} h =
    let p : Slot system = here s t x w h in
    let o : Open system = open_in_slot system ((store_of s).undo.active t) (store_of s).tables p in
    let w' : World system = theory.world_of system (store_of s) in
    let sound = reached_sound system laws w' (standing s h.orderly).reached in
    let i = is_open_in system laws (store_of s) t p (slot_here h) in
    let course = sound.each t o i in
    recalls_at s.engine t (tx_in system t p) (overlay system o.now.changes (latest system w')) w.position
    (subst (λ (r : Rows). Alike system (held_of system ((view_of s.engine).held t)) (tx_in system t p) r
    (overlay system o.now.changes (latest system w'))) (tables_here system laws (store_of s) (standing s h.orderly))
    (alike_tables system laws w' sound t o i o.held (λ u z ne g. sound.apart t u o z ne i g)))
    (λ n m g. taken_held system laws ((view_of s.engine).held t) (tx_in system t p) (latest system w') o.now course.now
    n m g)
    (recalls_alone (tx_in system t p) (latest system w') o.now (to_alone system laws w' sound t o i))

-- what no program ends with

never_AlreadyOpen : (q : Request) → MayRefuse q AlreadyOpen → ⊥
never_AlreadyOpen (request.Payment q) h = h
never_AlreadyOpen (request.NewOrder q) h = h
never_AlreadyOpen (request.Delivery q) h = h
never_AlreadyOpen (request.Deliveries q) h = h
never_AlreadyOpen (request.Rename q) h = h

never_TooOld : (m : ℕ) (q : Request) → MayRefuse q (TooOld m) → ⊥
never_TooOld m (request.Payment q) h = h
never_TooOld m (request.NewOrder q) h = h
never_TooOld m (request.Delivery q) h = h
never_TooOld m (request.Deliveries q) h = h
never_TooOld m (request.Rename q) h = h

never_Future : (m : ℕ) (q : Request) → MayRefuse q (Future m) → ⊥
never_Future m (request.Payment q) h = h
never_Future m (request.NewOrder q) h = h
never_Future m (request.Delivery q) h = h
never_Future m (request.Deliveries q) h = h
never_Future m (request.Rename q) h = h

never_NotQuiet : (n : ℕ) (q : Request) → MayRefuse q (NotQuiet n) → ⊥
never_NotQuiet n (request.Payment q) h = h
never_NotQuiet n (request.NewOrder q) h = h
never_NotQuiet n (request.Delivery q) h = h
never_NotQuiet n (request.Deliveries q) h = h
never_NotQuiet n (request.Rename q) h = h

lacks : (s : Store system) (t : ℕ) (p : Slot system) (a : Ask Name Refusal) → IsGrantedIn system s.slots t a
    → (IsNew system p.held a ⊎ (may_allocate p.position ≡ true))
    → GivesWay system (yields p.position) (act (tx_in system t p) p.position s.tables) → MayLackMemoryIn system s t p a
lacks s t p (Stop e) g n y = absurd g
lacks s t p Plain g n y = (g, n, y)
lacks s t p (Take k m) g n y = (g, n, y)

-- the row went on
pub went_on_here : {s : CoreState} {t : ℕ} {x : Handle} {w : WorkState} → HasOpen s t x w
    → (w' : WorkState) (e' : engine.EngineState) (ws : List (Option WorkState))
    → GoesOn s.engine x w.request w.position e' w'.position
    → w' ≡ work_after_stage (length ((view_of s.engine).undo.active x.terminal)) w w'.position
    → ws ≡ slice_set s.works t (Some w')
    → Moves s (Advance t) More (record { engine = e'; txs = s.txs; works = ws })
went_on_here {s} {t} {x} {w} h w' e' ws g same q =
    let v = view_of s.engine in
    let own = own_work h in
    let p = w'.position in
    let n : ℕ = length (v.undo.active t) in
    let a = ask (tx_in system t (slot_of v t w)) w.position v.rows in
    let now : view_of e' ≡ after_stage t a g.change v =
    g.done
    ∙ (ap (λ (z : Ask Name Refusal). after_stage x.terminal z g.change v) (asked_here s t x w h)
    ∙ ap (λ (z : ℕ). after_stage z a g.change v) own.terminal) in
    worked h (Advance t) More (work_after_stage n w p)
    (Some (slot_after system (slot_of v t w) (length (v.undo.active t)) a p))
    e' (after_stage t a g.change v)
    (the_steps.goes_on (store_of s) t (slot_of v t w) g.change p (standing s h.orderly) (slot_here h)
    (granted_in s t x w h g.free)
    (sym (acted_here s t x w h) ∙ g.does)
    (has_room v (work_at s) t g.change (subst (λ (z : ℕ). IsFullForAny v z g.change → ⊥) own.terminal g.room)))
    now g.name (record { counts = λ u n. refl; held = λ u n. set_other t _ v.held u n; is_open = λ u n. refl })
    (λ i. Some (record {
      number = suc (v.counts t);
      request = w.request;
      position = p;
      mark_position = cond (marks w.position) w.position w.mark;
      mark_count = cond (marks w.position) n w.mark_records;
      held = set_same t (held_after system a (v.held t)) v.held t refl i;
    }))
    (tx_still s.engine e' t x own (ap (λ (z : View). z.is_open) now) g.name)
    ws (q ∙ ap (λ (z : WorkState). slice_set s.works t (Some z))
    (same ∙ ap (λ (k : ℕ). work_after_stage (length (v.undo.active k)) w p) own.terminal))

-- what is taken out of a slot is the transaction that stood there
pub taken_is : {s : CoreState} {t : ℕ} {x : Handle} {w : WorkState} → HasOpen s t x w → (out : Handle)
    → slice_get s.txs t ≡ Some (Some out) → out ≡ x
taken_is {s} {t} {x} h out e =
    let it : Some out ≡ Some x = sym (get_slot s.txs t (Some out) None e) ∙ h.tx in
    cc

-- it is open still, where the engine stands for the same
pub taken_is_open : {s : CoreState} {t : ℕ} {x : Handle} {w : WorkState} → HasOpen s t x w → (out : Handle)
    → slice_get s.txs t ≡ Some (Some out) → (e' : engine.EngineState)
    → view_of e' ≡ view_of s.engine → e'.name ≡ s.engine.name → IsOpen e' out
taken_is_open {s} {t} {x} h out e e' b name =
    subst (λ (z : Handle). IsOpen e' z) (sym (taken_is h out e))
    (open_still s.engine e' x (ap (λ (z : View). z.is_open) b) name (own_work h).is_open)

-- a program that is ready has its reply
pub has_reply : {s : CoreState} {t : ℕ} {x : Handle} {w : WorkState} → HasOpen s t x w → (w' : WorkState)
    → w'.position ≡ w.position
    → (y : Reply) → IsReady s.engine x w.request w.position y → reply_at w'.position ≡ Some y
has_reply {s} {t} {x} {w} h w' same y g = ap reply_at same ∙ ready_at (tx_of s.engine x w.request) w.position
    (view_of s.engine).rows y g.does

-- it was ready, and its transaction committed
pub committed_here : {s : CoreState} {t : ℕ} {x : Handle} {w : WorkState} → HasOpen s t x w → (out : Handle) → out ≡ x
    → (y : Reply) (n : ℕ) (e₀ e' : engine.EngineState) (xs : List (Option Handle)) (ws : List (Option WorkState))
    (z : Option WorkState)
    → IsReady s.engine x w.request w.position y → e₀ ≡ s.engine → n ≡ suc (total terminal_limit (view_of e₀).counts)
    → view_of e' ≡ after_commit out.terminal w.request y (view_of e₀) → e'.name ≡ e₀.name → xs ≡ slice_set s.txs t None
    → ws ≡ slice_set s.works t z
    → Moves s (Advance t) (Committed n y) (record { engine = e'; txs = xs; works = ws })
committed_here {s} {t} {x} {w} h out own y n e₀ e' xs ws z g same c b name p q =
    let v = view_of s.engine in
    let now : view_of e' ≡ after_commit t w.request y v =
    b ∙ (ap (λ (k : engine.EngineState). after_commit out.terminal w.request y (view_of k)) same
    ∙ ap (λ (k : ℕ). after_commit k w.request y v) (ap (λ (k : Handle). k.terminal) own ∙ (own_work h).terminal)) in
    let moment : n ≡ suc (total terminal_limit v.counts) = c
    ∙ ap (λ (k : engine.EngineState). suc (total terminal_limit (view_of k).counts)) same in
    subst (λ (k : ℕ). Moves s (Advance t) (Committed k y) (record { engine = e'; txs = xs; works = ws })) (sym moment)
    (emptied h (Advance t) (Committed (suc (total terminal_limit v.counts)) y) e' (after_commit t w.request y v)
    (the_steps.commits (store_of s) t (slot_of v t w) y (standing s h.orderly) (slot_here h)
    (granted_in s t x w h g.free) (sym (acted_here s t x w h) ∙ g.does))
    now (name ∙ ap (λ (k : engine.EngineState). k.name) same)
    (record {
      counts = λ u n. set_other t _ v.counts u n;
      held = λ u n. set_other t _ v.held u n;
      is_open = λ u n. set_other t false v.is_open u n;
    })
    (set_same t false v.is_open t refl)
    xs ws z p q)

-- what it carried out lies in its slot, with the reply
pub left_here : {s : CoreState} {t : ℕ} {x : Handle} {w : WorkState} → HasOpen s t x w
    → (z : WorkState) (y : Reply) (e' : engine.EngineState) (xs : List (Option Handle)) (ws : List (Option WorkState))
    → xs ≡ slice_set s.txs t None → ws ≡ slice_set s.works t (Some z) → reply_at z.position ≡ Some y
    → last_reply (record { engine = e'; txs = xs; works = ws }) t ≡ Some y
left_here {s} {t} h z y e' xs ws p q is =
    let tx : in_slot xs t ≡ None = get_slot xs t None None
    (ap (λ (k : List (Option Handle)). slice_get k t) p ∙ get_set_same s.txs t None (within s h.orderly t h.low)) in
    let work : in_slot ws t ≡ Some z = get_slot ws t (Some z) None
    (ap (λ (k : List (Option WorkState)). slice_get k t) q ∙ get_set_same s.works t (Some z)
    (works_within s h.orderly t h.low)) in
    (λ i. reply_left (tx i) (work i)) ∙ is

-- what is told of a slot, by what lies in it
pub told_of : (s : CoreState) (t : ℕ) {x : Option Handle} {w : Option WorkState} → in_slot s.txs t ≡ x
    → in_slot s.works t ≡ w → last_reply s t ≡ reply_left x w
told_of s t p q = λ i. reply_left (p i) (q i)

pub told_last : {s : CoreState} {t m : ℕ} {y : Reply} {s' : CoreState} → Moves s (Advance t) (Committed m y) s'
    → last_reply s' t ≡ Some y
    → (z : Reply) × (last_reply s' t ≡ Some z) × Carries (world_of s) (step.Advance t) (answer.Committed m z)
    (world_of s')
told_last {s} {t} {m} {y} {s'} k e = (y, e, carries k)

-- the refusals after which it stays open
kept_lead : (s : CoreState) (t : ℕ) (y : Handle) (w : WorkState) → HasOpen s t y w → (x : Refusal) → keeps_open x ≡ true
    → IsStageRefusal s.engine y w.request w.position x
    → Leads system (store_of s) (Advance t) (refusal_in (step.Advance t) x) (store_of s)
kept_lead s t y w o (NoSuchRow k) kp h = let no : ⊥ = cc in absurd no
kept_lead s t y w o (RowExists k) kp h = let no : ⊥ = cc in absurd no
kept_lead s t y w o (Overflow c) kp h = let no : ⊥ = cc in absurd no
kept_lead s t y w o (Reference k) kp h = let no : ⊥ = cc in absurd no
kept_lead s t y w o KeyColumn kp h = let no : ⊥ = cc in absurd no
kept_lead s t y w o (Busy n u) kp h =
    the_steps.is_busy (store_of s) t (here s t y w o) n h.1.0 u (standing s o.orderly) (slot_here o)
    (sym (asked_here s t y w o) ∙ h.1.1)
    (in_the_way s o.orderly t n h.1.0 u
    (subst (λ (z : ℕ). IsInTheWay (view_of s.engine) z n h.1.0 u) (own_work o).terminal h.1.2))
kept_lead s t y w o UndoFull kp h =
    the_steps.is_full (store_of s) t (here s t y w o) h.2.0 h.2.1 (standing s o.orderly) (slot_here o)
    (granted_in s t y w o h.1)
    (sym (acted_here s t y w o) ∙ h.2.2)
    (subst (λ (z : ℕ). IsFullFor (view_of s.engine) z h.2.0) (own_work o).terminal h.2.3)
kept_lead s t y w o NoMemory kp h =
    the_steps.lacks_memory (store_of s) t (here s t y w o) (standing s o.orderly) (slot_here o)
    (lacks (store_of s) t (here s t y w o) _ (granted_in s t y w o h.1) (new h.2)
    (subst (GivesWay system (yields w.position)) (acted_here s t y w o) h.3))
  where
    own : (view_of s.engine).held y.terminal ≡ (view_of s.engine).held t
    own = ap (view_of s.engine).held (own_work o).terminal

    new : IsNew system ((view_of s.engine).held y.terminal) (ask_here s.engine y w.request w.position)
        ⊎ WantsMemory s.engine y w.request w.position
        → IsNew system ((view_of s.engine).held t)
        (ask (tx_in system t (here s t y w o)) w.position (view_of s.engine).rows) ⊎ (may_allocate w.position ≡ true)
    new (inl a) = inl (subst
        (λ z. IsNew system z (ask (tx_in system t (here s t y w o)) w.position (view_of s.engine).rows)) own
        (subst (IsNew system ((view_of s.engine).held y.terminal)) (asked_here s t y w o) a))
    new (inr a) = inr (allocates (tx_of s.engine y w.request) w.position (view_of s.engine).rows a.0 a.1 a.2
        (wants_in s.engine a.0 a.3))
kept_lead s t y w o NotOpen kp h = let no : ⊥ = cc in absurd no
kept_lead s t y w o AlreadyOpen kp h = let no : ⊥ = cc in absurd no
kept_lead s t y w o InvalidItem kp h = let no : ⊥ = cc in absurd no
kept_lead s t y w o NoCustomer kp h = let no : ⊥ = cc in absurd no
kept_lead s t y w o (TooOld m) kp h = let no : ⊥ = cc in absurd no
kept_lead s t y w o (Future m) kp h = let no : ⊥ = cc in absurd no
kept_lead s t y w o (NotQuiet n) kp h = let no : ⊥ = cc in absurd no
kept_lead s t y w o (NotPinned n) kp h = let no : ⊥ = cc in absurd no

-- those after which it is gone
ended_lead : (s : CoreState) (t : ℕ) (y : Handle) (w : WorkState) → HasOpen s t y w → (x : Refusal)
    → keeps_open x ≡ false
    → IsStageRefusal s.engine y w.request w.position x
    → Leads system (store_of s) (Advance t) (refusal_in (step.Advance t) x) (without_slot system t (store_of s))
ended_lead s t y w o (NoSuchRow k) kp h = leads_end s t y w o (NoSuchRow k) h.1
ended_lead s t y w o (RowExists k) kp h = leads_end s t y w o (RowExists k) h.1
ended_lead s t y w o (Overflow c) kp h = leads_end s t y w o (Overflow c) h.1
ended_lead s t y w o (Reference k) kp h = leads_end s t y w o (Reference k) h.1
ended_lead s t y w o KeyColumn kp h = leads_end s t y w o KeyColumn h.1
ended_lead s t y w o (Busy n u) kp h = let no : ⊥ = cc in absurd no
ended_lead s t y w o UndoFull kp h = let no : ⊥ = cc in absurd no
ended_lead s t y w o NoMemory kp h = let no : ⊥ = cc in absurd no
ended_lead s t y w o NotOpen kp h = absurd (h (own_work o).is_open)
ended_lead s t y w o AlreadyOpen kp h = let it = may_end s t y w o AlreadyOpen h.1 in
    absurd (never_AlreadyOpen it.0 it.1)
ended_lead s t y w o InvalidItem kp h = leads_end s t y w o InvalidItem h.1
ended_lead s t y w o NoCustomer kp h = leads_end s t y w o NoCustomer h.1
ended_lead s t y w o (TooOld m) kp h = let it = may_end s t y w o (TooOld m) h.1 in absurd (never_TooOld m it.0 it.1)
ended_lead s t y w o (Future m) kp h = let it = may_end s t y w o (Future m) h.1 in absurd (never_Future m it.0 it.1)
ended_lead s t y w o (NotQuiet n) kp h = let it = may_end s t y w o (NotQuiet n) h.1 in
    absurd (never_NotQuiet n it.0 it.1)
ended_lead s t y w o (NotPinned n) kp h = leads_end s t y w o (NotPinned n) h.1

-- such a refusal is the machine's end of a transaction
pub is_abort : (s : CoreState) (t : ℕ) (y : Handle) (w : WorkState) → HasOpen s t y w → (x : Refusal)
    → keeps_open x ≡ false → IsStageRefusal s.engine y w.request w.position x
    → refusal_in (step.Advance t) x ≡ Aborted x
is_abort s t y w o (NoSuchRow k) kp h = refl
is_abort s t y w o (RowExists k) kp h = refl
is_abort s t y w o (Overflow c) kp h = refl
is_abort s t y w o (Reference k) kp h = refl
is_abort s t y w o KeyColumn kp h = refl
is_abort s t y w o (Busy n u) kp h = let no : ⊥ = cc in absurd no
is_abort s t y w o UndoFull kp h = let no : ⊥ = cc in absurd no
is_abort s t y w o NoMemory kp h = let no : ⊥ = cc in absurd no
is_abort s t y w o NotOpen kp h = absurd (h (own_work o).is_open)
is_abort s t y w o AlreadyOpen kp h = let it = may_end s t y w o AlreadyOpen h.1 in
    absurd (never_AlreadyOpen it.0 it.1)
is_abort s t y w o InvalidItem kp h = refl
is_abort s t y w o NoCustomer kp h = refl
is_abort s t y w o (TooOld m) kp h = let it = may_end s t y w o (TooOld m) h.1 in absurd (never_TooOld m it.0 it.1)
is_abort s t y w o (Future m) kp h = let it = may_end s t y w o (Future m) h.1 in absurd (never_Future m it.0 it.1)
is_abort s t y w o (NotQuiet n) kp h = let it = may_end s t y w o (NotQuiet n) h.1 in
    absurd (never_NotQuiet n it.0 it.1)
is_abort s t y w o (NotPinned n) kp h = refl

-- and after the others the world is as it was
pub kept_world : (w v : World system) (t : ℕ) (x : Refusal) → keeps_open x ≡ true
    → Next system w (Advance t) (refusal_in (step.Advance t) x) v → v ≡ w
kept_world w v t (NoSuchRow k) kp n = let no : ⊥ = cc in absurd no
kept_world w v t (RowExists k) kp n = let no : ⊥ = cc in absurd no
kept_world w v t (Overflow c) kp n = let no : ⊥ = cc in absurd no
kept_world w v t (Reference k) kp n = let no : ⊥ = cc in absurd no
kept_world w v t KeyColumn kp n = let no : ⊥ = cc in absurd no
kept_world w v t (Busy n u) kp next = unchanged w v _ _ next tt
kept_world w v t UndoFull kp next = unchanged w v _ _ next tt
kept_world w v t NoMemory kp next = unchanged w v _ _ next tt
kept_world w v t NotOpen kp n = let no : ⊥ = cc in absurd no
kept_world w v t AlreadyOpen kp n = let no : ⊥ = cc in absurd no
kept_world w v t InvalidItem kp n = let no : ⊥ = cc in absurd no
kept_world w v t NoCustomer kp n = let no : ⊥ = cc in absurd no
kept_world w v t (TooOld m) kp n = let no : ⊥ = cc in absurd no
kept_world w v t (Future m) kp n = let no : ⊥ = cc in absurd no
kept_world w v t (NotQuiet n) kp next = let no : ⊥ = cc in absurd no
kept_world w v t (NotPinned n) kp next = let no : ⊥ = cc in absurd no

-- it was refused, and stays open where it stands
pub kept_here : {s : CoreState} {t : ℕ} {y : Handle} {w : WorkState} → HasOpen s t y w
    → (w' : WorkState) (e' : engine.EngineState) (ws : List (Option WorkState)) (x : Refusal)
    → keeps_open x ≡ true → IsStageRefusal s.engine y w.request w.position x
    → view_of e' ≡ view_of s.engine → e'.name ≡ s.engine.name → w' ≡ w
    → ws ≡ slice_set s.works t (Some w')
    → Moves s (Advance t) (refusal_in (step.Advance t) x) (record { engine = e'; txs = s.txs; works = ws })
kept_here {s} {t} {y} {w} h w' e' ws x kept why b name same q =
    let v = view_of s.engine in
    let own = own_work h in
    worked h (Advance t) (refusal_in (step.Advance t) x) w (Some (slot_of v t w)) e' v
    (subst (λ (f : ℕ → Option (Slot system)). Leads system (store_of s) (Advance t) (refusal_in (step.Advance t) x)
    (record {
      tables = v.rows;
      undo = v.undo;
      slots = f;
      seals = v.seals;
      counts = v.counts;
      extents = v.extents;
      layout = v.layout;
    }))
    (sym (set_idle t (Some (slot_of v t w)) (store_of s).slots (slot_here h))) (kept_lead s t y w h x kept why))
    b name (record { counts = λ u n. refl; held = λ u n. refl; is_open = λ u n. refl })
    refl
    (tx_still s.engine e' t y own (ap (λ (z : View). z.is_open) b) name)
    ws (q ∙ ap (λ (z : WorkState). slice_set s.works t (Some z)) same)

-- it was refused, and rolled back
pub given_up_here : {s : CoreState} {t : ℕ} {y : Handle} {w : WorkState} → HasOpen s t y w → (out : Handle) → out ≡ y
    → (e' e'' : engine.EngineState) (xs : List (Option Handle)) (ws : List (Option WorkState)) (z : Option WorkState)
    (x : Refusal)
    → keeps_open x ≡ false → IsStageRefusal s.engine y w.request w.position x
    → view_of e' ≡ view_of s.engine → e'.name ≡ s.engine.name → view_of e'' ≡ after_rollback out.terminal (view_of e')
    → e''.name ≡ e'.name
    → xs ≡ slice_set s.txs t None → ws ≡ slice_set s.works t z
    → Moves s (Advance t) (refusal_in (step.Advance t) x) (record { engine = e''; txs = xs; works = ws })
given_up_here {s} {t} {y} {w} h out own e' e'' xs ws z x ended why same same_name b name p q =
    dropped_here h (Advance t) (refusal_in (step.Advance t) x) e'' xs ws z (ended_lead s t y w h x ended why)
    (b ∙ (ap (λ (k : View). after_rollback out.terminal k) same
    ∙ ap (λ (k : Handle). after_rollback k.terminal (view_of s.engine)) own))
    (name ∙ same_name) p q
