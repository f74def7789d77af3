-- What a core does to what it stores is a step of its world.
use Rattle.std.proofs.Common.{◌≡◌, ◌≢◌, ℕ, suc, ◌<◌, ◌≤◌, inl, inr, Bool, true, false, List, Option, Some, None, length}
use Rattle.std.proofs.Common.{get_or, slice_get, slice_set, sym, ap, ◌∙◌, subst, refl, arith}
use Rattle.std.specs.Prelude.{◌⊎◌}
use Rattle.std.proofs.lemmas.Bool.{cases_eq}
use Rattle.std.proofs.lemmas.List.{length-set}
use mathlib.Core.Path.{fun_ext}
use Rattle.oe_theory.specs.World.{set}
use Rattle.oe_theory.specs.Next.{Next, Step, Begin, Save, Back, Rollback, Answer, Begun, Saved, Gone_back, Rolled_back}
use Rattle.oe_theory.specs.Next.{Not_open, works_on}
use Rattle.oe_theory.specs.Undo.{Undo}
use Rattle.oe_theory.specs.Store.{Slot, Seal, Store, first_slot, without_slot}
use Rattle.oe_theory.specs.Theorems.{IsReached}
use Rattle.oe_theory.specs.StoreTheorems.{IsStanding, Leads, Steps_of_the_store}
use Rattle.oe_theory.proofs.Sets.{set_same, set_other}
use Rattle.oe_theory.proofs.StoreTheorems.{steps_of_the_store}
use Rattle.oe_theory.proofs.StoreClosing.{store_is_orderly}
use Rattle.oe_requests.specs.declared.requests.Request.{Request}
use Rattle.oe_model.specs.Rows.{Rows}
use Rattle.oe_rows.specs.declared.layouts.Layout.{Layout}
use Rattle.oe_model.specs.Requests.{IsRequest, rejection, number_rejection}
use Rattle.oe_model.specs.System.{system, start_of, terminal_limit}
use Rattle.oe_model.proofs.SystemLaws.{laws}
use Rattle.oe_engine.specs.View.{View, view_of, Handle, IsOpen}
use Rattle.oe_engine.specs.View as engine
use Rattle.oe_engine.specs.Calls.{after_begin, back_at, after_rollback}
use Rattle.oe_core.specs.Core.{CoreState, in_slot, work_of, work_at, slot_of, open_at, store_with, store_of, world_of}
use Rattle.oe_core.specs.Core.{IsSound, IsTx, Works, IsOrderly, Moves}
use Rattle.oe_core.specs.Works.{WorkState, work_at_begin as begun_work}
use Rattle.oe_core.proofs.SlotFacts.{slot_set, kept_slot, get_slot, lent_slot, set_idle_slot}

pub standing : (s : CoreState) → IsOrderly s → IsStanding system (store_of s)
unfolding IsSound
standing s o = o.sound

pub reached_here : (s : CoreState) → IsOrderly s → IsReached system (world_of s)
unfolding IsSound world_of
reached_here s o = o.sound.reached

pub closed : (s s' : CoreState) (i : Step system) (a : Answer system) (t : Store system)
    → Leads system (store_of s) i a t → store_of s' ≡ t
    → length s'.txs ≡ 65 → length s'.works ≡ 65 → ((u : ℕ) → Works s'.engine u (in_slot s'.txs u) (in_slot s'.works u))
    → Moves s i a s'
unfolding IsSound world_of
closed s s' i a t l e h k g =
    let l' : Leads system (store_of s) i a (store_of s') = subst (λ (z : Store system). Leads system (store_of s) i a z)
    (sym e) l in
    record { next = l'.next; orderly = record { tx_slots = h; work_slots = k; works = g; sound = l'.stands } }

-- what is said of it
pub carries : {s : CoreState} {i : Step system} {a : Answer system} {s' : CoreState} → Moves s i a s'
    → Next system (world_of s) i a (world_of s') × IsReached system (world_of s')
carries m = (m.next, reached_here _ m.orderly)

-- a step that leaves what is stored
pub stays : (s : CoreState) → IsOrderly s → (i : Step system) (a : Answer system)
    → Leads system (store_of s) i a (store_of s) → Moves s i a s
stays s o i a l = closed s s i a (store_of s) l refl o.tx_slots o.work_slots o.works

pub the_steps : Steps_of_the_store system
the_steps = steps_of_the_store system laws

pub within : (s : CoreState) → IsOrderly s → (t : ℕ) → t < 65 → t < length s.txs
within s o t h = omega (arith, h, o.tx_slots)

pub works_within : (s : CoreState) → IsOrderly s → (t : ℕ) → t < 65 → t < length s.works
works_within s o t h = omega (arith, h, o.work_slots)

pub below_limit : (t : ℕ) → t < 65 → t < terminal_limit
unfolding terminal_limit
below_limit t h = h

-- two stores are the same where their parts are
pub same_parts : (r r' : Rows) (u u' : Undo system) (f f' : ℕ → Option (Slot system)) (d d' : List (Seal system))
    (c c' : ℕ → ℕ) (n n' : ℕ) (l l' : Layout)
    → r ≡ r' → u ≡ u' → f ≡ f' → d ≡ d' → c ≡ c' → n ≡ n' → l ≡ l'
    → ◌≡◌ {A = Store system} (record {
      tables = r;
      undo = u;
      slots = f;
      seals = d;
      counts = c;
      extents = n;
      layout = l;
    })
    (record {
      tables = r';
      undo = u';
      slots = f';
      seals = d';
      counts = c';
      extents = n';
      layout = l';
    })
same_parts r r' u u' f f' d d' c c' n n' l l' p q e g x y z =
    λ i. record { tables = p i; undo = q i; slots = e i; seals = g i; counts = x i; extents = y i; layout = z i }

-- the slots, where one terminal's has changed
pub slots_set : (v v' : View) (f g : ℕ → Option WorkState) (t : ℕ) (x : Option WorkState) (y : Option (Slot system))
    → g ≡ set t x f
    → ((u : ℕ) → u ≢ t → v'.counts u ≡ v.counts u) → ((u : ℕ) → u ≢ t → v'.held u ≡ v.held u) → open_at v' t x ≡ y
    → (λ u. open_at v' u (g u)) ≡ set t y (λ u. open_at v u (f u))
slots_set v v' f g t x y e c h q = fun_ext (λ u. go u (cases_eq u t))
  where
    same : (u : ℕ) (w : Option WorkState) → v'.counts u ≡ v.counts u → v'.held u ≡ v.held u
        → open_at v' u w ≡ open_at v u w
    same u None a b = refl
    same u (Some w) a b =
        λ i. Some (record {
          number = suc (a i);
          request = w.request;
          position = w.position;
          mark_position = w.mark;
          mark_count = w.mark_records;
          held = b i;
        })

    go : (u : ℕ) → (u ≡ t) ⊎ (u ≢ t) → open_at v' u (g u) ≡ set t y (λ k. open_at v k (f k)) u
    go u (inl p) =
        ap (λ z. open_at v' u (z u)) e
        ∙ (ap (open_at v' u) (set_same t x f u p)
        ∙ (ap (λ k. open_at v' k x) p ∙ (q ∙ sym (set_same t y (λ k. open_at v k (f k)) u p))))
    go u (inr n) =
        ap (λ z. open_at v' u (z u)) e
        ∙ (ap (open_at v' u) (set_other t x f u n)
        ∙ (same u (f u) (c u n) (h u n) ∙ sym (set_other t y (λ k. open_at v k (f k)) u n)))

-- what is carried out, where one slot has changed
pub work_set : (a b : ℕ → Option Handle) (f g : ℕ → Option WorkState) (t : ℕ) (x : Option Handle) (w : Option WorkState)
    → b ≡ set t x a → g ≡ set t w f
    → (λ u. work_of (b u) (g u)) ≡ set t (work_of x w) (λ u. work_of (a u) (f u))
work_set a b f g t x w p q = fun_ext (λ u. go u (cases_eq u t))
  where
    go : (u : ℕ) → (u ≡ t) ⊎ (u ≢ t) → work_of (b u) (g u) ≡ set t (work_of x w) (λ k. work_of (a k) (f k)) u
    go u (inl e) =
        let tx : b u ≡ x = ap (λ z. z u) p ∙ set_same t x a u e in
        let work : g u ≡ w = ap (λ z. z u) q ∙ set_same t w f u e in
        (λ i. work_of (tx i) (work i)) ∙ sym (set_same t (work_of x w) (λ k. work_of (a k) (f k)) u e)
    go u (inr n) =
        let tx : b u ≡ a u = ap (λ z. z u) p ∙ set_other t x a u n in
        let work : g u ≡ f u = ap (λ z. z u) q ∙ set_other t w f u n in
        (λ i. work_of (tx i) (work i)) ∙ sym (set_other t (work_of x w) (λ k. work_of (a k) (f k)) u n)

-- and the work behind them
pub works_set : (e e' : engine.EngineState) (a b : ℕ → Option Handle) (f g : ℕ → Option WorkState) (t : ℕ)
    (x : Option Handle) (w : Option WorkState)
    → b ≡ set t x a → g ≡ set t w f → e'.name ≡ e.name
    → ((u : ℕ) → u ≢ t → (view_of e').is_open u ≡ (view_of e).is_open u) → ((u : ℕ) → Works e u (a u) (f u))
    → Works e' t x w → (u : ℕ) → Works e' u (b u) (g u)
works_set e e' a b f g t x w p q name o all here u = go (cases_eq u t)
  where
    move : (y : Option Handle) (z : Option WorkState) → (view_of e').is_open u ≡ (view_of e).is_open u → Works e u y z
        → Works e' u y z
    move None z r h = r ∙ h
    move (Some y) None r h = absurd h
    move (Some y) (Some z) r h =
        record {
          is_open = record {
            engine = h.is_open.engine ∙ sym name;
            terminal = ap (view_of e').is_open h.terminal
                ∙ (r ∙ (sym (ap (view_of e).is_open h.terminal) ∙ h.is_open.terminal));
          };
          terminal = h.terminal;
        }

    go : (u ≡ t) ⊎ (u ≢ t) → Works e' u (b u) (g u)
    go (inl r) =
        subst (λ (y : Option Handle). Works e' u y (g u)) (sym (ap (λ z. z u) p ∙ set_same t x a u r))
        (subst (λ (z : Option WorkState). Works e' u x z) (sym (ap (λ z. z u) q ∙ set_same t w f u r))
        (subst (λ (k : ℕ). Works e' k x w) (sym r) here))
    go (inr n) =
        subst (λ (y : Option Handle). Works e' u y (g u)) (sym (ap (λ z. z u) p ∙ set_other t x a u n))
        (subst (λ (z : Option WorkState). Works e' u (a u) z) (sym (ap (λ z. z u) q ∙ set_other t w f u n))
        (move (a u) (f u) (o u n) (all u)))

-- the work of a terminal that has a transaction open
pub has_work : (e : engine.EngineState) (t : ℕ) (x : Option Handle) (y : Option WorkState) → Works e t x y
    → (view_of e).is_open t ≡ true → (w : WorkState) × (work_of x y ≡ Some w)
has_work e t None y h o = let no : true ≡ false = sym o ∙ h in absurd (cc)
has_work e t (Some x) None h o = absurd h
has_work e t (Some x) (Some w) h o = (w, refl)

-- and its slot, where it has none
pub no_tx : (e : engine.EngineState) (t : ℕ) (x : Option Handle) (y : Option WorkState) → Works e t x y
    → (view_of e).is_open t ≡ false → x ≡ None
no_tx e t None y h o = refl
no_tx e t (Some x) None h o = absurd h
no_tx e t (Some x) (Some w) h o =
    let no : true ≡ false = sym h.is_open.terminal ∙ (ap (view_of e).is_open h.terminal ∙ o) in absurd (cc)

pub no_slot : (s : CoreState) (t : ℕ) → in_slot s.txs t ≡ None → (store_of s).slots t ≡ None
no_slot s t e = ap (λ z. open_at (view_of s.engine) t (work_of z (in_slot s.works t))) e

pub is_shut : (s : CoreState) → IsOrderly s → (t : ℕ) → (view_of s.engine).is_open t ≡ false
    → (store_of s).slots t ≡ None
is_shut s o t h = no_slot s t (no_tx s.engine t (in_slot s.txs t) (in_slot s.works t) (o.works t) h)

-- terminal t of an orderly core has this transaction open
pub record HasOpen (s : CoreState) (t : ℕ) (x : Handle) (w : WorkState) : Type 0 where
  pub orderly : IsOrderly s
  pub low : t < 65
  pub tx : in_slot s.txs t ≡ Some x
  pub work : in_slot s.works t ≡ Some w

-- so has its slot
pub slot_here : {s : CoreState} {t : ℕ} {x : Handle} {w : WorkState} → HasOpen s t x w
    → (store_of s).slots t ≡ Some (slot_of (view_of s.engine) t w)
slot_here {s} {t} h = λ i. open_at (view_of s.engine) t (work_of (h.tx i) (h.work i))

-- it is open in the engine, and the terminal's
pub own_work : {s : CoreState} {t : ℕ} {x : Handle} {w : WorkState} → HasOpen s t x w → IsTx s.engine t x
own_work {s} {t} {x} h =
    subst (λ (z : Option WorkState). Works s.engine t (Some x) z) h.work
    (subst (λ (y : Option Handle). Works s.engine t y (in_slot s.works t)) h.tx (h.orderly.works t))

-- what a slot lends is what stands there
pub lent_tx : {s : CoreState} {i t : ℕ} {x y : Option Handle} → IsOrderly s → i ≡ t → i ≤ 64 → x ≡ get_or s.txs i x
    → x ≡ y → in_slot s.txs t ≡ y
lent_tx {s} {i} {t} {x} {y} o p h g e = lent_slot s.txs i t x y p (within s o t (omega (arith, p, h))) g e

pub lent_work : {s : CoreState} {i t : ℕ} {x y : Option WorkState} → IsOrderly s → i ≡ t → i ≤ 64
    → x ≡ get_or s.works i x → x ≡ y → in_slot s.works t ≡ y
lent_work {s} {i} {t} {x} {y} o p h g e = lent_slot s.works i t x y p (works_within s o t (omega (arith, p, h))) g e

-- a transaction and its work that their slots lend
pub lent_here : {s : CoreState} {i j t : ℕ} {x : Option Handle} {y : Handle} {v : Option WorkState} {w : WorkState}
    → IsOrderly s
    → i ≡ t → i ≤ 64 → x ≡ get_or s.txs i x → x ≡ Some y → j ≡ t → j ≤ 64 → v ≡ get_or s.works j v → v ≡ Some w
    → HasOpen s t y w
lent_here {s} {i} {j} {t} {x} {y} {v} {w} o p h g e q k f d =
    record { orderly = o; low = omega (arith, p, h); tx = lent_tx o p h g e; work = lent_work o q k f d }

-- nothing is open there
pub nothing_open : (s : CoreState) → IsOrderly s → (i : Step system) (t : ℕ) → works_on system i ≡ Some t
    → in_slot s.txs t ≡ None → Moves s i Not_open s
nothing_open s o i t w e = stays s o i Not_open
    (the_steps.is_not_open (store_of s) i t (standing s o) w (no_slot s t e))

-- also once it was taken out
pub nothing_taken : (s : CoreState) → IsOrderly s → (i : Step system) (t : ℕ) → works_on system i ≡ Some t
    → slice_get s.txs t ≡ Some None → (xs : List (Option Handle)) → xs ≡ slice_set s.txs t None
    → Moves s i Not_open (record { engine = s.engine; txs = xs; works = s.works })
nothing_taken s o i t w e xs q =
    subst (λ (z : List (Option Handle)). Moves s i Not_open (record { engine = s.engine; txs = z; works = s.works }))
    (sym (q ∙ set_idle_slot s.txs t None e))
    (nothing_open s o i t w (get_slot s.txs t None None e))

-- the mark is not past the records
pub mark_within : {s : CoreState} {t : ℕ} {x : Handle} {w : WorkState} → HasOpen s t x w
    → w.mark_records ≤ length ((view_of s.engine).undo.active x.terminal)
mark_within {s} {t} {x} {w} h =
    subst (λ (k : ℕ). w.mark_records ≤ length ((view_of s.engine).undo.active k)) (sym (own_work h).terminal)
    ((store_is_orderly system laws (store_of s) (standing s h.orderly)).mark t (slot_of (view_of s.engine) t w)
    (slot_here h))

-- nothing has changed for terminals other than t
pub record LeavesOthers (t : ℕ) (v v' : View) : Type 0 where
  pub counts : (u : ℕ) → u ≢ t → v'.counts u ≡ v.counts u
  pub held : (u : ℕ) → u ≢ t → v'.held u ≡ v.held u
  pub is_open : (u : ℕ) → u ≢ t → v'.is_open u ≡ v.is_open u

-- a step after which a terminal's slot has another transaction and other work, or none, and the engine stands for what
-- the step
-- leads to
pub replaced : (s : CoreState) → IsOrderly s → (i : Step system) (a : Answer system) (t : ℕ) → t < 65
    → (x : Option Handle) (w : Option WorkState) (y : Option (Slot system)) (e' : engine.EngineState) (v' : View)
    → Leads system (store_of s) i a
    (record {
      tables = v'.rows;
      undo = v'.undo;
      slots = set t y (store_of s).slots;
      seals = v'.seals;
      counts = v'.counts;
      extents = v'.extents;
      layout = v'.layout;
    })
    → view_of e' ≡ v' → e'.name ≡ s.engine.name → LeavesOthers t (view_of s.engine) v' → open_at v' t (work_of x w) ≡ y
    → Works e' t x w
    → (xs : List (Option Handle)) (ws : List (Option WorkState)) → xs ≡ slice_set s.txs t x → ws ≡ slice_set s.works t w
    → Moves s i a (record { engine = e'; txs = xs; works = ws })
replaced s o i a t h x w y e' v' lead now name left slot works xs ws p q =
    let s' : CoreState = record { engine = e'; txs = xs; works = ws } in
    let txs : in_slot xs ≡ set t x (in_slot s.txs) = ap (λ (z : List (Option Handle)). in_slot z) p
    ∙ slot_set s.txs t x None (within s o t h) in
    let work : in_slot ws ≡ set t w (in_slot s.works) = ap (λ (z : List (Option WorkState)). in_slot z) q
    ∙ slot_set s.works t w None (works_within s o t h) in
    let at : work_at s' ≡ set t (work_of x w) (work_at s) = work_set (in_slot s.txs) (in_slot xs) (in_slot s.works)
    (in_slot ws) t x w txs work in
    closed s s' i a _ lead
    (ap (λ (z : View). store_with z (work_at s')) now
    ∙ same_parts _ _ _ _ _ _ _ _ _ _ _ _ _ _ refl refl
    (slots_set (view_of s.engine) v' (work_at s) (work_at s') t (work_of x w) y at left.counts left.held slot) refl refl
    refl refl)
    (ap (λ (z : List (Option Handle)). length z) p ∙ (length-set s.txs t x ∙ o.tx_slots))
    (ap (λ (z : List (Option WorkState)). length z) q ∙ (length-set s.works t w ∙ o.work_slots))
    (works_set s.engine e' (in_slot s.txs) (in_slot xs) (in_slot s.works) (in_slot ws) t x w txs work name
    (λ u n. ap (λ (z : View). z.is_open u) now ∙ left.is_open u n) o.works works)

-- a step that leaves the transaction in its slot, and changes its work
pub worked : {s : CoreState} {t : ℕ} {x : Handle} {w : WorkState} → HasOpen s t x w
    → (i : Step system) (a : Answer system) (w' : WorkState) (y : Option (Slot system)) (e' : engine.EngineState)
    (v' : View)
    → Leads system (store_of s) i a
    (record {
      tables = v'.rows;
      undo = v'.undo;
      slots = set t y (store_of s).slots;
      seals = v'.seals;
      counts = v'.counts;
      extents = v'.extents;
      layout = v'.layout;
    })
    → view_of e' ≡ v' → e'.name ≡ s.engine.name → LeavesOthers t (view_of s.engine) v' → Some (slot_of v' t w') ≡ y
    → IsTx e' t x
    → (ws : List (Option WorkState)) → ws ≡ slice_set s.works t (Some w')
    → Moves s i a (record { engine = e'; txs = s.txs; works = ws })
worked {s} {t} {x} h i a w' y e' v' lead now name left slot own ws q =
    replaced s h.orderly i a t h.low (Some x) (Some w') y e' v' lead now name left slot own s.txs ws
    (kept_slot s.txs t None ∙ ap (λ (z : Option Handle). slice_set s.txs t z) h.tx) q

-- a step that takes it out of its slot; what lies there is nobody's then
pub emptied : {s : CoreState} {t : ℕ} {x : Handle} {w : WorkState} → HasOpen s t x w
    → (i : Step system) (a : Answer system) (e' : engine.EngineState) (v' : View)
    → Leads system (store_of s) i a
    (record {
      tables = v'.rows;
      undo = v'.undo;
      slots = set t None (store_of s).slots;
      seals = v'.seals;
      counts = v'.counts;
      extents = v'.extents;
      layout = v'.layout;
    })
    → view_of e' ≡ v' → e'.name ≡ s.engine.name → LeavesOthers t (view_of s.engine) v' → v'.is_open t ≡ false
    → (xs : List (Option Handle)) (ws : List (Option WorkState)) (z : Option WorkState) → xs ≡ slice_set s.txs t None
    → ws ≡ slice_set s.works t z
    → Moves s i a (record { engine = e'; txs = xs; works = ws })
emptied {s} {t} h i a e' v' lead now name left shut xs ws z p q =
    replaced s h.orderly i a t h.low None z None e' v' lead now name left refl
    (ap (λ (v : View). v.is_open t) now ∙ shut) xs ws p q

-- a transaction is still open where the same ones are
pub open_still : (e e' : engine.EngineState) (x : Handle) → (view_of e').is_open ≡ (view_of e).is_open
    → e'.name ≡ e.name → IsOpen e x → IsOpen e' x
open_still e e' x b name h =
    record { engine = h.engine ∙ sym name; terminal = ap (λ (z : ℕ → Bool). z x.terminal) b ∙ h.terminal }

pub tx_still : (e e' : engine.EngineState) (t : ℕ) (x : Handle) → IsTx e t x
    → (view_of e').is_open ≡ (view_of e).is_open → e'.name ≡ e.name → IsTx e' t x
tx_still e e' t x own b name = record { is_open = open_still e e' x b name own.is_open; terminal = own.terminal }

pub saved : {s : CoreState} {t : ℕ} {x : Handle} {w : WorkState} → HasOpen s t x w
    → (w' : WorkState) (k : ℕ) (ws : List (Option WorkState)) → w' ≡ record w { mark = w.position; mark_records = k }
    → (IsOpen s.engine x → k ≡ length ((view_of s.engine).undo.active x.terminal)) → ws ≡ slice_set s.works t (Some w')
    → Moves s (Save t) Saved (record { engine = s.engine; txs = s.txs; works = ws })
saved {s} {t} {x} {w} h w' k ws same count q =
    let v = view_of s.engine in
    let own = own_work h in
    let records : k ≡ length (v.undo.active t) = count own.is_open ∙ ap (λ (z : ℕ). length (v.undo.active z))
    own.terminal in
    worked h (Save t) Saved (record w { mark = w.position; mark_records = k }) _ s.engine v
    (the_steps.saves (store_of s) t (slot_of v t w) (standing s h.orderly) (slot_here h))
    refl refl (record { counts = λ u n. refl; held = λ u n. refl; is_open = λ u n. refl })
    (λ i. Some (record {
      number = suc (v.counts t);
      request = w.request;
      position = w.position;
      mark_position = w.position;
      mark_count = records i;
      held = v.held t;
    }))
    own ws (q ∙ ap (λ (z : WorkState). slice_set s.works t (Some z)) same)

pub gone_back_here : {s : CoreState} {t : ℕ} {x : Handle} {w : WorkState} → HasOpen s t x w
    → (w' : WorkState) (e' : engine.EngineState) (ws : List (Option WorkState)) → w' ≡ record w { position = w.mark }
    → view_of e' ≡ back_at x.terminal w.mark_records (view_of s.engine) → e'.name ≡ s.engine.name
    → ws ≡ slice_set s.works t (Some w')
    → Moves s (Back t) Gone_back (record { engine = e'; txs = s.txs; works = ws })
gone_back_here {s} {t} {x} {w} h w' e' ws same b name q =
    let v = view_of s.engine in
    let own = own_work h in
    let now : view_of e' ≡ back_at t w.mark_records v = b ∙ ap (λ (z : ℕ). back_at z w.mark_records v) own.terminal in
    worked h (Back t) Gone_back (record w { position = w.mark }) _ e' (back_at t w.mark_records v)
    (the_steps.goes_back (store_of s) t (slot_of v t w) (standing s h.orderly) (slot_here h))
    now name (record { counts = λ u n. refl; held = λ u n. refl; is_open = λ u n. refl })
    refl
    (tx_still s.engine e' t x own (ap (λ (z : View). z.is_open) now) name)
    ws (q ∙ ap (λ (z : WorkState). slice_set s.works t (Some z)) same)

-- a step by which a terminal's transaction is rolled back
pub dropped_here : {s : CoreState} {t : ℕ} {x : Handle} {w : WorkState} → HasOpen s t x w
    → (i : Step system) (a : Answer system) (e' : engine.EngineState) (xs : List (Option Handle))
    (ws : List (Option WorkState)) (z : Option WorkState)
    → Leads system (store_of s) i a (without_slot system t (store_of s))
    → view_of e' ≡ after_rollback x.terminal (view_of s.engine) → e'.name ≡ s.engine.name → xs ≡ slice_set s.txs t None
    → ws ≡ slice_set s.works t z
    → Moves s i a (record { engine = e'; txs = xs; works = ws })
dropped_here {s} {t} h i a e' xs ws z lead b name p q =
    let v = view_of s.engine in
    let now : view_of e' ≡ after_rollback t v = b ∙ ap (λ (k : ℕ). after_rollback k v) (own_work h).terminal in
    emptied h i a e' (after_rollback t v) lead now name
    (record {
      counts = λ u n. refl;
      held = λ u n. set_other t _ v.held u n;
      is_open = λ u n. set_other t false v.is_open u n;
    })
    (set_same t false v.is_open t refl)
    xs ws z p q

-- where what it carried out is not there any more, none is open
pub rolled_back_here : {s : CoreState} {t : ℕ} {x : Handle} {w : WorkState} → HasOpen s t x w
    → (e' : engine.EngineState) (xs : List (Option Handle)) (ws : List (Option WorkState))
    → view_of e' ≡ after_rollback x.terminal (view_of s.engine) → e'.name ≡ s.engine.name → xs ≡ slice_set s.txs t None
    → ws ≡ slice_set s.works t None
    → Moves s (Rollback t) Rolled_back (record { engine = e'; txs = xs; works = ws })
rolled_back_here {s} {t} {x} {w} h e' xs ws b name p q =
    dropped_here h (Rollback t) Rolled_back e' xs ws None
    (the_steps.rolls_back (store_of s) t (slot_of (view_of s.engine) t w) (standing s h.orderly) (slot_here h)) b name p
    q

-- a transaction that stands in its slot, and its work
work_of_tx : (e : engine.EngineState) (t : ℕ) (x : Handle) (y : Option WorkState) → Works e t (Some x) y
    → (w : WorkState) × (y ≡ Some w)
work_of_tx e t x None h = absurd h
work_of_tx e t x (Some w) h = (w, refl)

pub taken_here : {s : CoreState} {t : ℕ} {x : Handle} → IsOrderly s → t ≤ 64 → slice_get s.txs t ≡ Some (Some x)
    → (w : WorkState) × HasOpen s t x w
taken_here {s} {t} {x} o h e =
    let tx : in_slot s.txs t ≡ Some x = get_slot s.txs t (Some x) None e in
    let found = work_of_tx s.engine t x (in_slot s.works t)
    (subst (λ (y : Option Handle). Works s.engine t y (in_slot s.works t)) tx (o.works t)) in
    (found.0, record { orderly = o; low = omega (arith, h); tx = tx; work = found.1 })

-- begin
pub begun_here : (s : CoreState) → IsOrderly s → (t : ℕ) → 1 ≤ t → t ≤ 64 → (q : Request) → IsRequest q
    → (x : Handle) (e' : engine.EngineState) (xs : List (Option Handle)) (ws : List (Option WorkState))
    → rejection q (view_of s.engine).rows ≡ None → number_rejection (suc ((view_of s.engine).counts t)) ≡ None
    → (view_of s.engine).is_open t ≡ false
    → ((view_of s.engine).is_open t ≡ false → (view_of s.engine).held t ≡ (λ _. None))
    → view_of e' ≡ after_begin t (view_of s.engine) → e'.name ≡ s.engine.name
    → x ≡ record { engine = s.engine.name; terminal = t }
    → xs ≡ slice_set s.txs t (Some x) → ws ≡ slice_set s.works t (Some (begun_work q))
    → Moves s (Begin t q) Begun (record { engine = e'; txs = xs; works = ws })
begun_here s o t l h q g x e' xs ws known counted shut idle b name tx txs works =
    let v = view_of s.engine in
    let low : t < 65 = omega (arith, h) in
    let free : v.held t ≡ (λ _. None) = idle shut in
    replaced s o (Begin t q) Begun t low (Some x) (Some (begun_work q)) (Some (first_slot system (store_of s) t q)) e'
    (after_begin t v)
    (the_steps.begins (store_of s) t q (standing s o)
    (record {
      terminal = (l, below_limit t low);
      valid = g;
      known = known;
      closed = is_shut s o t shut;
      counted = counted;
    }))
    b name (record { counts = λ u n. refl; held = λ u n. refl; is_open = λ u n. set_other t true v.is_open u n })
    (λ i. Some (record {
      number = suc (v.counts t);
      request = q;
      position = start_of q;
      mark_position = start_of q;
      mark_count = 0;
      held = free i;
    }))
    (record {
      is_open = record {
        engine = ap (λ (z : Handle). z.engine) tx ∙ sym name;
        terminal = ap (λ (z : View). z.is_open x.terminal) b ∙ set_same t true v.is_open x.terminal
            (ap (λ (z : Handle). z.terminal) tx);
      };
      terminal = ap (λ (z : Handle). z.terminal) tx;
    })
    xs ws txs works
