use Rattle.std.proofs.Common.{◌∙◌, ap}
use Rattle.std.specs.Prelude.{pos, ℤ}
use Rattle.std.specs.Option.{option_map}
use Rattle.oe_tally.specs.Tallies.{total}
use Rattle.oe_ledgers.specs.Keys.{same_district}
use Rattle.oe_ledgers.specs.Sums.{districts_joined}
use Rattle.oe_ledgers.proofs.DistrictsFigures.{district_rows-kept}
use Rattle.oe_ledgers.proofs.CustomersFigures.{customers_of_district-kept}
use Rattle.oe_checks.specs.Comparing.{against}
use Rattle.oe_checks.proofs.FindingFacts.{if_ok, alike_of_two}
use Rattle.oe_checks.proofs.SizeFacts.{mapped-twice}
use Rattle.oe_checks.proofs.sizes.customers_each.Goals as goal

pub returns : goal.returns
returns c ds cs kept_districts few_districts kept_customers few_customers =
    if_ok c.findings.result c.findings.ensures (λ found all. record {
      ordered = all.ordered;
      exact = λ k. all.exact k ∙ alike_of_two against
          (mapped-twice (λ s. pos s.rows) (λ n. pos c.args.each)
          (total same_district districts_joined c.args.districts.now.by_district k)
          ∙ ap (option_map (λ (n : ℤ). pos c.args.each))
          (district_rows-kept ds c.args.districts.now kept_districts few_districts k))
          (customers_of_district-kept cs c.args.customers.now kept_customers few_customers k);
    })
