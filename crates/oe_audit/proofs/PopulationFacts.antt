-- The tests of a population, put together.
use Rattle.std.proofs.Common.{◌≡◌, ◌↔◌, refl, sym, ◌∙◌, Bool, true, false, [], ◌∷◌}
use Rattle.std.specs.Prelude.{◌&&◌, ◌==◌, IsTrue}
use Rattle.std.specs.FinMap.{get}
use Rattle.std.proofs.lemmas.Bool.{eq-eqb, eqb-true, and_parts, and_from}
use Rattle.oe_rows.proofs.KeyFacts.{warehouse_total, exact_warehouse, history_total, exact_history, item_total}
use Rattle.oe_rows.proofs.KeyFacts.{exact_item}
use Rattle.oe_requests.specs.declared.audits.Verdict.{Verdict}
use Rattle.oe_requests.specs.declared.audits.Verdict.TheVariants as told
use Rattle.oe_model.specs.Keys.{warehouse_of_stock, item_of_stock}
use Rattle.oe_model.specs.Rows.{Rows}
use Rattle.oe_model.specs.Meets.{Meets}
use Rattle.oe_model.specs.Conditions.{IsStocked, IsPopulation}
use Rattle.oe_model.specs.Audits as model
use Rattle.oe_model.specs.PopulationTest.{each_row, has_stocks}
use Rattle.oe_model.specs.Verdicts.{IsMet}
use Rattle.oe_model.proofs.PresenceFacts.{some_present, present_some}
use Rattle.oe_model.proofs.PopulationTestFacts.{rows_pass}
use Rattle.oe_model.proofs.VerdictFacts.{verdicts_are_exact}
use Rattle.oe_machine.specs.Verdict.{verdict_of}
use Rattle.oe_audit.specs.Verdict.{AreMet}

-- a verdict that is the model's says whether the condition holds
abbrev pub is_holds : Verdict → Bool
is_holds told.Holds = true
is_holds (told.Fails k) = false

pub holds_is : (c : model.Condition) (r : Rows) (v : Verdict) → verdict_of v ≡ model.verdict c r
    → IsTrue (is_holds v) ↔ IsMet c r
holds_is c r told.Holds e = (λ t. (verdicts_are_exact.holds c r).0 (sym e), λ h. refl)
holds_is c r (told.Fails k) e = (
  λ t. let no : ⊥ = cc in
      absurd no,
  λ h. let z : model.Fails k ≡ model.Holds = e ∙ (verdicts_are_exact.holds c r).1 h in
      let no : ⊥ = cc in absurd no,
)

module _ (r : Rows) where
  stocks : (has_stocks r ≡ true) ↔ IsStocked r
  stocks = (
    λ e k w i.
        let warehouse = present_some (get r.warehouses (warehouse_of_stock k)) w in
        let item = present_some (get r.items (item_of_stock k)) i in
        (rows_pass item_total exact_item _ r.items).0
        ((rows_pass warehouse_total exact_warehouse _ r.warehouses).0 e (warehouse_of_stock k) warehouse.0
        warehouse.1) (item_of_stock k) item.0 item.1,
    λ h.
        (rows_pass warehouse_total exact_warehouse _ r.warehouses).1 (λ w x row.
        (rows_pass item_total exact_item _ r.items).1
        (λ i y item. h (record { warehouse = w.warehouse; item = i.item }) (some_present _ x row)
        (some_present _ y item))),
  )

  abbrev pub of_population : Bool
  of_population = each_row (λ k x. k.terminal == 0) r.histories

  -- the three tests, beside the schema, are those of a population
  pub population_is : (b : Bool) → Meets r → IsTrue b ↔ AreMet r
      → IsTrue (b && has_stocks r && of_population) ↔ IsPopulation r
  population_is b schema met = (
    λ e.
        let t = and_parts (b && has_stocks r) of_population e in
        let u = and_parts b (has_stocks r) t.0 in
        let c = met.0 u.0 in
        record {
          meets = schema;
          condition_1 = c.first;
          condition_2 = c.second;
          condition_3 = c.third;
          condition_4 = c.fourth;
          stocked = stocks.0 u.1;
          histories = λ k x row. eqb-true k.terminal 0
              ((rows_pass history_total exact_history _ r.histories).0 t.1 k x row);
        },
    λ p.
        let c : AreMet r = record {
          first = p.condition_1;
          second = p.condition_2;
          third = p.condition_3;
          fourth = p.condition_4;
        } in
        and_from (b && has_stocks r) of_population (and_from b (has_stocks r) (met.1 c) (stocks.1 p.stocked))
        ((rows_pass history_total exact_history _ r.histories).1
        (λ k x row. eq-eqb k.terminal 0 (p.histories k x row))),
  )
