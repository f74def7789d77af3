use Rattle.std.proofs.Common.{refl, sym, subst, ◌∙◌}
use Rattle.std.proofs.lemmas.Result.{on_ok_weaker}
use Rattle.oe_file_tables.specs.Fault as fault
use Rattle.oe_file_tables.specs.declared.faults.TableFault.{TableFault}
use Rattle.oe_file_loading.specs.Loading.{nine_of}
use Rattle.oe_store.specs.Places.{rows}
use Rattle.oe_comparison.specs.Texts.{Told}
use Rattle.oe_comparison.specs.Tables.{HomesCompared}
use Rattle.oe_comparison.proofs.TableFacts.{homes_of, deeds_of, goods_of}
use Rattle.oe_comparison.proofs.tables.compare_tables.Goals as goal

pub returns : goal.returns
returns g c =
    let nine = nine_of g.S.Intake.source in
    let first = nine c.args.from.now in
    let second = nine c.compare_homes.new.from in
    let third = nine c.compare_deeds.new.from in
    let last = nine c.compare_goods.new.from in
    let r = rows c.args.tables.now in
    let by_homes = c.compare_homes.ensures.others in
    let by_deeds = c.compare_deeds.ensures.others in
    let by_goods = c.compare_goods.ensures.others in
    let homes = subst
    (λ (f : fault.Told TableFault). HomesCompared c.args.format first second r f c.compare_homes.new.faults
    c.args.report.now
    c.compare_homes.new.report) c.requires.faults c.in_default.ensures.compared in
    on_ok_weaker c.compare_goods.result
    (λ goods. record {
      home_faults = c.compare_homes.new.faults;
      deed_faults = c.compare_deeds.new.faults;
      home_told = c.compare_homes.new.report;
      deed_told = c.compare_deeds.new.report;
      homes = homes_of first first second last r _ _ _ _ (refl, refl, refl) (
        by_goods.0.0 ∙ by_deeds.0.0,
        by_goods.0.1 ∙ by_deeds.0.1,
        by_goods.0.2 ∙ by_deeds.0.2,
      )
          (subst (λ (t : Told). HomesCompared c.args.format first second r fault.no_faults c.compare_homes.new.faults t
          c.compare_homes.new.report) c.requires.report homes);
      deeds = deeds_of second first third last r _ _ _ _
          (sym by_homes.0.0, sym by_homes.0.1, sym by_homes.0.2)
          (by_goods.1.0, by_goods.1.1, by_goods.1.2) c.in_default-compare_deeds.ensures.compared;
      goods = goods_of third first last last r _ _ _ _ (
        sym (by_deeds.1.0 ∙ by_homes.1.0),
        sym (by_deeds.1.1 ∙ by_homes.1.1),
        sym (by_deeds.1.2 ∙ by_homes.1.2),
      )
          (refl, refl, refl) goods;
    })
    c.compare_goods.ensures.compared
