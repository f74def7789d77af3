use Rattle.std.proofs.Common.{◌∙◌}
use Rattle.oe_checks.specs.Comparing.{orphans_apart}
use Rattle.oe_ledgers.proofs.HistoriesFigures.{payments_in_district-kept}
use Rattle.oe_ledgers.proofs.DistrictsFigures.{district_rows-kept}
use Rattle.oe_checks.proofs.FindingFacts.{if_ok, alike_of_two}
use Rattle.oe_checks.proofs.references.histories_refer_to_districts.Goals as goal

pub returns : goal.returns
returns c of_histories of_districts kept_of_histories few_of_histories kept_of_districts few_of_districts =
    if_ok c.findings.result c.findings.ensures (λ found all. record {
      ordered = all.ordered;
      exact = λ k. all.exact k ∙ alike_of_two orphans_apart
          (payments_in_district-kept of_histories c.args.histories.now kept_of_histories few_of_histories k)
          (district_rows-kept of_districts c.args.districts.now kept_of_districts few_of_districts k);
    })
