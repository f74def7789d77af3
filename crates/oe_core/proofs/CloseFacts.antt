-- What is left of a core whose slots are taken away one after another.
use Rattle.std.proofs.Common.{◌≡◌, ◌≢◌, ℕ, zero, suc, inl, inr, false, List, [], ◌∷◌, ◌++◌, Option, Some, None, length}
use Rattle.std.proofs.Common.{get_or, sym, ap, ◌∙◌, subst, refl}
use Rattle.std.specs.Prelude.{◌⊎◌}
use Rattle.std.proofs.lemmas.Bool.{cases_eq}
use mathlib.Core.Path.{fun_ext}
use Rattle.oe_theory.specs.World.{set, latest}
use Rattle.oe_theory.specs.Store.{Store, newest_version, without_slot}
use Rattle.oe_theory.specs.StoreTheorems.{IsStanding}
use Rattle.oe_theory.proofs.Sets.{set_same, set_other, set_idle}
use Rattle.oe_theory.proofs.StoreTheorems.{latest_here}
use Rattle.oe_theory.proofs.StoreClosing.{store_is_orderly, rollback_leaves_versions}
use Rattle.oe_model.specs.Rows.{Rows}
use Rattle.oe_model.specs.System.{system}
use Rattle.oe_model.proofs.SystemLaws.{laws}
use Rattle.oe_engine.specs.View.{View, view_of, Handle}
use Rattle.oe_engine.specs.View as engine
use Rattle.oe_engine.specs.Calls.{after_rollback}
use Rattle.oe_core.specs.Core.{CoreState, in_slot, work_of, work_at, store_with, store_of, world_of, IsTx, Works}
use Rattle.oe_core.specs.Core.{IsOrderly, IsEndable, IsEnded}
use Rattle.oe_core.specs.Works.{WorkState}
use Rattle.oe_core.proofs.MoveFacts.{standing, same_parts, slots_set, work_set, works_set}

-- the newest version is still this one
pub record IsClosing (s : CoreState) (r : Rows) : Type 0 where
  pub works : (t : ℕ) → Works s.engine t (in_slot s.txs t) (in_slot s.works t)
  pub stands : IsStanding system (store_of s)
  pub newest : newest_version system (store_of s) ≡ r

pub before_closing : (s : CoreState) → IsOrderly s → IsClosing s (newest_version system (store_of s))
before_closing s o = record { works = o.works; stands = standing s o; newest = refl }

-- which is that of the world
pub newest_is_latest : (s : CoreState) → IsOrderly s → newest_version system (store_of s) ≡ latest system (world_of s)
unfolding world_of
newest_is_latest s o = sym (latest_here system laws (store_of s) (standing s o))

at_end : (ys : List (Option Handle)) → get_or ys (length ys) None ≡ None
at_end [] = refl
at_end (y ∷ ys) = at_end ys

at_front : (ys : List (Option Handle)) (x : Option Handle) (u : ℕ) → u ≢ length ys
    → get_or ys u None ≡ get_or (ys ++ x ∷ []) u None
at_front [] x zero n = absurd (n refl)
at_front [] x (suc u) n = refl
at_front (y ∷ ys) x zero n = refl
at_front (y ∷ ys) x (suc u) n = at_front ys x u (λ e. n (ap suc e))

last_taken : (ys : List (Option Handle)) (x : Option Handle)
    → in_slot ys ≡ set (length ys) None (in_slot (ys ++ x ∷ []))
last_taken ys x = fun_ext (λ u. go u (cases_eq u (length ys)))
  where
    go : (u : ℕ) → (u ≡ length ys) ⊎ (u ≢ length ys) → in_slot ys u ≡ set (length ys) None (in_slot (ys ++ x ∷ [])) u
    go u (inl e) = ap (in_slot ys) e ∙ (at_end ys ∙ sym (set_same (length ys) None (in_slot (ys ++ x ∷ [])) u e))
    go u (inr n) = at_front ys x u n ∙ sym (set_other (length ys) None (in_slot (ys ++ x ∷ [])) u n)

at_last : (ys : List (Option Handle)) (x : Option Handle) → in_slot (ys ++ x ∷ []) (length ys) ≡ x
at_last [] x = refl
at_last (y ∷ ys) x = at_last ys x

-- a transaction and its work
its_work : (e : engine.EngineState) (t : ℕ) (x : Handle) (y : Option WorkState) → Works e t (Some x) y
    → (w : WorkState) × IsTx e t x
its_work e t x None h = absurd h
its_work e t x (Some w) h = (w, h)

last_endable : (e : engine.EngineState) (ws : List (Option WorkState)) (ys : List (Option Handle)) (x : Option Handle)
    (r : Rows) → IsClosing (record { engine = e; txs = ys ++ x ∷ []; works = ws }) r → IsEndable e x
last_endable e ws ys None r h = tt
last_endable e ws ys (Some x) r h =
    let own = its_work e (length ys) x (in_slot ws (length ys))
    (subst (λ (z : Option Handle). Works e (length ys) z (in_slot ws (length ys))) (at_last ys (Some x))
    (h.works (length ys))) in
    own.1.is_open

-- what was in the last slot can be ended
pub endable : {e : engine.EngineState} {xs : List (Option Handle)} {ws : List (Option WorkState)} {r : Rows}
    → IsClosing (record { engine = e; txs = xs; works = ws }) r → (ys : List (Option Handle)) (x : Option Handle)
    → xs ≡ ys ++ x ∷ [] → IsEndable e x
endable {e} {xs} {ws} {r} h ys x q = last_endable e ws ys x r
    (subst (λ (z : List (Option Handle)). IsClosing (record { engine = e; txs = z; works = ws }) r) q h)

last_popped : (e e' : engine.EngineState) (ws : List (Option WorkState)) (ys : List (Option Handle)) (x : Option Handle)
    (r : Rows) → IsEnded e x e' → IsClosing (record { engine = e; txs = ys ++ x ∷ []; works = ws }) r
    → IsClosing (record { engine = e'; txs = ys; works = ws }) r
last_popped e e' ws ys None r h k =
    let same : in_slot (ys ++ None ∷ []) ≡ in_slot ys =
    sym (last_taken ys None ∙ set_idle (length ys) None (in_slot (ys ++ None ∷ [])) (at_last ys None)) in
    subst (λ (z : engine.EngineState). IsClosing (record { engine = z; txs = ys; works = ws }) r) (sym h)
    (record {
      works = λ t. subst (λ (z : ℕ → Option Handle). Works e t (z t) (in_slot ws t)) same (k.works t);
      stands = subst (λ (z : ℕ → Option Handle). IsStanding system
          (store_with (view_of e) (λ t. work_of (z t) (in_slot ws t)))) same k.stands;
      newest = subst (λ (z : ℕ → Option Handle). newest_version system
          (store_with (view_of e) (λ t. work_of (z t) (in_slot ws t))) ≡ r) same k.newest;
    })
last_popped e e' ws ys (Some x) r h k =
    let t = length ys in
    let v = view_of e in
    let before : CoreState = record { engine = e; txs = ys ++ Some x ∷ []; works = ws } in
    let after : CoreState = record { engine = e'; txs = ys; works = ws } in
    let own = its_work e t x (in_slot ws t)
    (subst (λ (z : Option Handle). Works e t z (in_slot ws t)) (at_last ys (Some x)) (k.works t)) in
    let now : view_of e' ≡ after_rollback t v = h.0 ∙ ap (λ (z : ℕ). after_rollback z v) own.1.terminal in
    let d = rollback_leaves_versions system laws (store_of before) t k.stands in
    let kept : in_slot ws ≡ set t (in_slot ws t) (in_slot ws) = sym (set_idle t (in_slot ws t) (in_slot ws) refl) in
    let left : work_at after ≡ set t None (work_at before) = work_set (in_slot before.txs) (in_slot ys) (in_slot ws)
    (in_slot ws) t None (in_slot ws t) (last_taken ys (Some x)) kept in
    let same : without_slot system t (store_of before) ≡ store_of after =
    sym (ap (λ (z : View). store_with z (work_at after)) now
    ∙ same_parts _ _ _ _ _ _ _ _ _ _ _ _ _ _ refl refl
    (slots_set v (after_rollback t v) (work_at before) (work_at after) t None None left (λ u n. refl)
    (λ u n. set_other t _ v.held u n) refl)
    refl refl refl refl) in
    record {
      works = works_set e e' (in_slot before.txs) (in_slot ys) (in_slot ws) (in_slot ws) t None (in_slot ws t)
          (last_taken ys (Some x)) kept h.1
          (λ u n. ap (λ (z : View). z.is_open u) now ∙ set_other t false v.is_open u n) k.works
          (ap (λ (z : View). z.is_open t) now ∙ set_same t false v.is_open t refl);
      stands = subst (λ (z : Store system). IsStanding system z) same d.stands;
      newest = subst (λ (z : Store system). newest_version system z ≡ r) same (d.newest ∙ k.newest);
    }

-- and once it was ended the newest version is still the same
pub popped : {e : engine.EngineState} {xs : List (Option Handle)} {ws : List (Option WorkState)} {r : Rows}
    → IsClosing (record { engine = e; txs = xs; works = ws }) r
    → (e' : engine.EngineState) (ys : List (Option Handle)) (x : Option Handle) → xs ≡ ys ++ x ∷ [] → IsEnded e x e'
    → IsClosing (record { engine = e'; txs = ys; works = ws }) r
popped {e} {xs} {ws} {r} h e' ys x q n = last_popped e e' ws ys x r n
    (subst (λ (z : List (Option Handle)). IsClosing (record { engine = e; txs = z; works = ws }) r) q h)

-- where no slot is left none is open, and the tables are that version
pub none_open : {e : engine.EngineState} {xs : List (Option Handle)} {ws : List (Option WorkState)} {r : Rows}
    → IsClosing (record { engine = e; txs = xs; works = ws }) r → xs ≡ [] → (t : ℕ) → (view_of e).is_open t ≡ false
none_open {e} {xs} {ws} {r} h q =
    (subst (λ (z : List (Option Handle)). IsClosing (record { engine = e; txs = z; works = ws }) r) q h).works

pub closed_rows : {e : engine.EngineState} {xs : List (Option Handle)} {ws : List (Option WorkState)} {r : Rows}
    → IsClosing (record { engine = e; txs = xs; works = ws }) r → xs ≡ [] → (view_of e).rows ≡ r
closed_rows {e} {xs} {ws} {r} h q =
    let k = subst (λ (z : List (Option Handle)). IsClosing (record { engine = e; txs = z; works = ws }) r) q h in
    (store_is_orderly system laws (store_of (record { engine = e; txs = []; works = ws })) k.stands).quiet_tables
    (λ t. refl) ∙ k.newest
