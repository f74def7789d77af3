use Rattle.std.proofs.Common.{◌∙◌}
use Rattle.oe_checks.specs.Comparing.{orphans_apart}
use Rattle.oe_ledgers.proofs.CustomersFigures.{customers_of_district-kept}
use Rattle.oe_ledgers.proofs.DistrictsFigures.{district_rows-kept}
use Rattle.oe_checks.proofs.FindingFacts.{if_ok, alike_of_two}
use Rattle.oe_checks.proofs.references.customers_refer.Goals as goal

pub returns : goal.returns
returns c of_customers of_districts kept_of_customers few_of_customers kept_of_districts few_of_districts =
    if_ok c.findings.result c.findings.ensures (λ found all. record {
      ordered = all.ordered;
      exact = λ k. all.exact k ∙ alike_of_two orphans_apart
          (customers_of_district-kept of_customers c.args.customers.now kept_of_customers few_of_customers k)
          (district_rows-kept of_districts c.args.districts.now kept_of_districts few_of_districts k);
    })
