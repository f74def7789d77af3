-- A core that was just opened.
use Rattle.std.proofs.Common.{◌≡◌, ℕ, zero, suc, List, Option, None, length, replicate, sym, ap, ◌∙◌, subst, refl}
use mathlib.Core.Path.{fun_ext}
use Rattle.oe_theory.specs.Store as theory
use Rattle.oe_theory.specs.Store.{opened_store}
use Rattle.oe_theory.specs.Theorems.{world_at_opening}
use Rattle.oe_theory.specs.StoreTheorems.{IsStanding}
use Rattle.oe_theory.proofs.StoreSteps.{opening_stands}
use Rattle.oe_model.specs.Rows.{Rows}
use Rattle.oe_rows.specs.declared.layouts.Layout.{Layout}
use Rattle.oe_model.specs.Conditions.{IsPopulation}
use Rattle.oe_model.specs.System.{system}
use Rattle.oe_model.proofs.SystemLaws.{laws, population_is_good}
use Rattle.oe_engine.specs.View.{View, view_of, Handle, opened_view}
use Rattle.oe_engine.specs.View as engine
use Rattle.oe_core.specs.Core.{in_slot, work_of, store_with, store_of, world_of, IsSound, Works, IsOrderly}
use Rattle.oe_core.specs.Works.{WorkState}
use Rattle.oe_core.proofs.SlotFacts.{all_same}

nobody : {X : Type 0} (n : ℕ) → in_slot {X = X} (replicate n None) ≡ (λ _. None)
nobody n = fun_ext (λ t. all_same n t None)

store_opened : (e : engine.EngineState) (ws : List (Option WorkState)) (r : Rows) (n k : ℕ)
    (l : Layout) → view_of e ≡ opened_view r n l
    → store_of (record { engine = e; txs = replicate k None; works = ws }) ≡ opened_store system r n l
store_opened e ws r n k l h =
    ap (λ (z : View). store_with z (λ t. work_of (in_slot (replicate k None) t) (in_slot ws t))) h
    ∙ ap (λ (z : ℕ → Option Handle). store_with (opened_view r n l) (λ t. work_of (z t) (in_slot ws t))) (nobody k)

length-replicate : {X : Type 0} (n : ℕ) (x : X) → length (replicate n x) ≡ n
length-replicate zero x = refl
length-replicate (suc n) x = ap suc (length-replicate n x)

pub orderly_opened : (e : engine.EngineState) (r : Rows) (n : ℕ) (l : Layout) (xs : List (Option Handle))
    (ws : List (Option WorkState)) → xs ≡ replicate 65 None → ws ≡ replicate 65 None → IsPopulation r
    → view_of e ≡ opened_view r n l
    → IsOrderly (record { engine = e; txs = xs; works = ws })
unfolding IsSound
orderly_opened e r n l xs ws p q g h =
    subst (λ (z : List (Option Handle)). IsOrderly (record { engine = e; txs = z; works = ws })) (sym p)
    (record {
      tx_slots = length-replicate {X = Option Handle} 65 None;
      work_slots = ap (λ (z : List (Option WorkState)). length z) q ∙ length-replicate {X = Option WorkState} 65 None;
      works = λ t. subst (λ (z : Option Handle). Works e t z (in_slot ws t))
          (sym (all_same {X = Option Handle} 65 t None)) (ap (λ (z : View). z.is_open t) h);
      sound = subst (IsStanding system) (sym (store_opened e ws r n 65 l h))
          (opening_stands system laws r n l (population_is_good r g)).0;
    })

pub world_opened : (e : engine.EngineState) (r : Rows) (n : ℕ) (l : Layout) (xs : List (Option Handle))
    (ws : List (Option WorkState)) → xs ≡ replicate 65 None → IsPopulation r → view_of e ≡ opened_view r n l
    → world_of (record { engine = e; txs = xs; works = ws }) ≡ world_at_opening system r n l
unfolding world_of
world_opened e r n l xs ws p g h =
    ap (λ (z : List (Option Handle)). theory.world_of system (store_of (record { engine = e; txs = z; works = ws }))) p
    ∙ (ap (theory.world_of system) (store_opened e ws r n 65 l h)
    ∙ (opening_stands system laws r n l (population_is_good r g)).1)
