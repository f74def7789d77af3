use Rattle.std.proofs.Common.{◌≡◌, ◌↔◌, sym, ◌∙◌, ap, Bool, false}
use Rattle.std.specs.Prelude.{◌&&◌, IsTrue}
use Rattle.oe_model.specs.PopulationTest.{has_stocks}
use Rattle.oe_store.specs.Places.{rows}
use Rattle.oe_audit.proofs.PopulationFacts.{of_population, population_is}
use Rattle.oe_audit.proofs.populations.is_population.Goals as goal

same_answer : {P : Type 0} (a b : Bool) → a ≡ b → IsTrue b ↔ P → IsTrue a ↔ P
same_answer a b e t = (λ h. t.0 (sym e ∙ h), λ p. e ∙ t.1 p)

pub returns-then-not-are_met : goal.returns-then-not-are_met
returns-then-not-are_met c =
    let r = rows c.args.tables.now in
    same_answer false (c.are_met.result && has_stocks r && of_population r)
    (sym (ap (λ b. b && has_stocks r && of_population r) c.if-not-are_met.true))
    (population_is r c.are_met.result c.schema_holds.ensures c.are_met.ensures)

pub returns-then-not-are_stocked : goal.returns-then-not-are_stocked
returns-then-not-are_stocked c =
    let r = rows c.args.tables.now in
    same_answer false (c.are_met.result && has_stocks r && of_population r)
    (sym (λ i. c.if-not-are_met.false i && (sym c.are_stocked.ensures ∙ c.if-not-are_stocked.true) i && of_population
    r))
    (population_is r c.are_met.result c.schema_holds.ensures c.are_met.ensures)

pub returns : goal.returns
returns c =
    let r = rows c.args.tables.now in
    same_answer c.are_of_population.result (c.are_met.result && has_stocks r && of_population r)
    (c.are_of_population.ensures
    ∙ sym (λ i. c.if-not-are_met.false i && (sym c.are_stocked.ensures ∙ c.if-not-are_stocked.false) i &&
    of_population r))
    (population_is r c.are_met.result c.schema_holds.ensures c.are_met.ensures)
