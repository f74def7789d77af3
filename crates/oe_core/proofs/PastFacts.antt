-- Commits that are forgotten or undone.
use Rattle.std.proofs.Common.{◌≡◌, ℕ, zero, suc, ◌<◌, Bool, refl, sym, ap, ◌∙◌, subst, arith}
use Rattle.std.specs.Prelude.{Option, None, Some, is_some}
use mathlib.Core.Path.{fun_ext}
use Rattle.oe_requests.specs.declared.refusals.Refusal.{Refusal}
use Rattle.oe_requests.specs.declared.refusals.Refusal.TheVariants.{TooOld, Future, NotQuiet}
use Rattle.oe_requests.specs.declared.steps.Step.TheVariants as step
use Rattle.oe_theory.specs.Next.{Purge, Rewind, Purged, Rewound}
use Rattle.oe_theory.specs.Next as theory
use Rattle.oe_theory.specs.Store.{horizon_of, newest_of, count_slots}
use Rattle.oe_theory.specs.Store as stored
use Rattle.oe_model.specs.System.{system, terminal_limit}
use Rattle.oe_log.specs.Moments.{IsBetween, IsOutside}
use Rattle.oe_engine.specs.View.{View, view_of, Handle}
use Rattle.oe_engine.specs.View as engine
use Rattle.oe_engine.specs.Calls.{newest, horizon, IsQuiet, CantRewind, after_purge, after_rewind}
use Rattle.oe_core.specs.Core.{CoreState, in_slot, work_of, work_at, open_at, store_with, store_of, Works, IsOrderly}
use Rattle.oe_core.specs.Core.{Moves}
use Rattle.oe_machine.specs.Steps.{refusal_in}
use Rattle.oe_core.specs.Works.{WorkState}
use Rattle.oe_core.proofs.MoveFacts.{standing, closed, stays, the_steps, same_parts, no_tx, is_shut, tx_still}

-- a slot stands for the same where its terminal's count and its names are the same
same_slot : (v v' : View) (u : ℕ) (w : Option WorkState) → v'.counts u ≡ v.counts u → v'.held u ≡ v.held u
    → open_at v' u w ≡ open_at v u w
same_slot v v' u None a b = refl
same_slot v v' u (Some w) a b =
    λ i. Some (record {
      number = suc (a i);
      request = w.request;
      position = w.position;
      mark_position = w.mark;
      mark_count = w.mark_records;
      held = b i;
    })

-- where the same transactions are open, their work is what it was
works_still : (e e' : engine.EngineState) → (view_of e').is_open ≡ (view_of e).is_open → e'.name ≡ e.name
    → (u : ℕ) (y : Option Handle) (z : Option WorkState) → Works e u y z → Works e' u y z
works_still e e' b name u None z h = ap (λ (f : ℕ → Bool). f u) b ∙ h
works_still e e' b name u (Some y) None h = absurd h
works_still e e' b name u (Some y) (Some z) h =
    tx_still e e' u y h b name

-- a step that was refused has left the engine as it was
pub unchanged : {s : CoreState} {i : theory.Step system} {a : theory.Answer system} → (e' : engine.EngineState)
    → e' ≡ s.engine → Moves s i a s → Moves s i a (record { engine = e'; txs = s.txs; works = s.works })
unchanged {s} {i} {a} e' same m =
    subst (λ (z : engine.EngineState). Moves s i a (record { engine = z; txs = s.txs; works = s.works })) (sym same) m

-- a purge
pub purged_here : (s : CoreState) → IsOrderly s → (e' : engine.EngineState) (m : ℕ)
    → IsBetween (horizon (view_of s.engine)) (newest (view_of s.engine)) m
    → view_of e' ≡ after_purge m (view_of s.engine) → e'.name ≡ s.engine.name
    → Moves s (Purge m) (Purged m) (record { engine = e'; txs = s.txs; works = s.works })
purged_here s o e' m kept now name =
    let v = view_of s.engine in
    closed s (record { engine = e'; txs = s.txs; works = s.works }) (Purge m) (Purged m)
    (stored.after_purge system m (store_of s))
    (the_steps.purges (store_of s) m (standing s o) kept.old kept.new)
    (ap (λ (z : View). store_with z (work_at s)) now
    ∙ same_parts _ _ _ _ _ _ _ _ _ _ _ _ _ _ refl refl
    (fun_ext (λ u. same_slot v (after_purge m v) u (work_at s u) refl refl)) refl refl refl refl)
    o.tx_slots o.work_slots
    (λ u. works_still s.engine e' (ap (λ (z : View). z.is_open) now) name u (in_slot s.txs u) (in_slot s.works u)
    (o.works u))

pub purge_refused : (s : CoreState) → IsOrderly s → (m : ℕ) (e : Refusal)
    → IsOutside (horizon (view_of s.engine)) (newest (view_of s.engine)) m e
    → Moves s (Purge m) (refusal_in (step.Purge m) e) s
purge_refused s o m (TooOld k) i =
    subst (λ (z : ℕ). Moves s (Purge m) (theory.Too_old z) s) (sym i.0)
    (stays s o (Purge m) (theory.Too_old (horizon_of system (store_of s)))
    (the_steps.is_too_old (store_of s) (Purge m) m (standing s o) refl tt (subst (λ (z : ℕ). m < z) i.0 i.1)))
purge_refused s o m (Future k) i =
    subst (λ (z : ℕ). Moves s (Purge m) (theory.Future z) s) (sym i.0)
    (stays s o (Purge m) (theory.Future (newest_of system (store_of s)))
    (the_steps.is_future (store_of s) (Purge m) m (standing s o) refl tt (subst (λ (z : ℕ). z < m) i.0 i.1)))
purge_refused s o m _ i = absurd i

-- where nothing is open no slot has work
none_at : (s : CoreState) → IsOrderly s → IsQuiet (view_of s.engine) → (t : ℕ) → work_at s t ≡ None
none_at s o quiet t = ap (λ (z : Option Handle). work_of z (in_slot s.works t))
    (no_tx s.engine t (in_slot s.txs t) (in_slot s.works t) (o.works t) (quiet t))

-- a rewind
pub rewound_here : (s : CoreState) → IsOrderly s → (e' : engine.EngineState) (m : ℕ) → IsQuiet (view_of s.engine)
    → IsBetween (horizon (view_of s.engine)) (newest (view_of s.engine)) m
    → view_of e' ≡ after_rewind m (view_of s.engine) → e'.name ≡ s.engine.name
    → Moves s (Rewind m) (Rewound m) (record { engine = e'; txs = s.txs; works = s.works })
rewound_here s o e' m quiet kept now name =
    let v = view_of s.engine in
    let none : (t : ℕ) → work_at s t ≡ None = none_at s o quiet in
    closed s (record { engine = e'; txs = s.txs; works = s.works }) (Rewind m) (Rewound m)
    (stored.after_rewind system m (store_of s))
    (the_steps.rewinds (store_of s) m (standing s o) (λ t. is_shut s o t (quiet t)) kept.old kept.new)
    (ap (λ (z : View). store_with z (work_at s)) now
    ∙ same_parts _ _ _ _ _ _ _ _ _ _ _ _ _ _ refl refl
    (fun_ext (λ u. ap (open_at (after_rewind m v) u) (none u) ∙ sym (ap (open_at v u) (none u)))) refl refl refl refl)
    o.tx_slots o.work_slots
    (λ u. works_still s.engine e' (ap (λ (z : View). z.is_open) now) name u (in_slot s.txs u) (in_slot s.works u)
    (o.works u))

-- a slot is taken exactly where its terminal has a transaction open
pub taken_is : (e : engine.EngineState) (v : View) (t : ℕ) (x : Option Handle) (y : Option WorkState) → view_of e ≡ v
    → Works e t x y → is_some (open_at v t (work_of x y)) ≡ v.is_open t
taken_is e v t None y is h = sym h ∙ ap (λ (z : View). z.is_open t) is
taken_is e v t (Some x) None is h = absurd h
taken_is e v t (Some x) (Some w) is h = sym (ap (view_of e).is_open (sym h.terminal) ∙ h.is_open.terminal)
    ∙ ap (λ (z : View). z.is_open t) is

pub rewind_refused : (s : CoreState) → IsOrderly s → (m : ℕ) (e : Refusal) → CantRewind (view_of s.engine) m e
    → Moves s (Rewind m) (refusal_in (step.Rewind m) e) s
rewind_refused s o m (NotQuiet n) i =
    many n (i.0 (store_of s).slots
    (λ t. taken_is s.engine (view_of s.engine) t (in_slot s.txs t) (in_slot s.works t) refl (o.works t))) i.1
  where
    many : (k : ℕ) → count_slots system (store_of s).slots terminal_limit ≡ k → 0 < k
        → Moves s (Rewind m) (theory.Not_quiet k) s
    many zero c h = let no : ⊥ = omega arith in absurd no
    many (suc k) c h = stays s o (Rewind m) (theory.Not_quiet (suc k))
        (the_steps.is_not_quiet (store_of s) m k (standing s o) c)
rewind_refused s o m (TooOld k) i =
    let cause = i.1 in
    subst (λ (z : ℕ). Moves s (Rewind m) (theory.Too_old z) s) (sym cause.0)
    (stays s o (Rewind m) (theory.Too_old (horizon_of system (store_of s)))
    (the_steps.is_too_old (store_of s) (Rewind m) m (standing s o) refl (λ t. is_shut s o t (i.0 t))
    (subst (λ (z : ℕ). m < z) cause.0 cause.1)))
rewind_refused s o m (Future k) i =
    let cause = i.1 in
    subst (λ (z : ℕ). Moves s (Rewind m) (theory.Future z) s) (sym cause.0)
    (stays s o (Rewind m) (theory.Future (newest_of system (store_of s)))
    (the_steps.is_future (store_of s) (Rewind m) m (standing s o) refl (λ t. is_shut s o t (i.0 t))
    (subst (λ (z : ℕ). z < m) cause.0 cause.1)))
rewind_refused s o m _ i = absurd i.1
