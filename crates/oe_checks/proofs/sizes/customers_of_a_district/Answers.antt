use Rattle.std.proofs.Common.{◌∙◌, sym, ap}
use Rattle.std.specs.Prelude.{pos}
use Rattle.std.specs.Option.{option_map}
use Rattle.oe_tally.specs.Tallies.{total}
use Rattle.oe_tally.specs.Counting.{counts_joined}
use Rattle.oe_tally.specs.declared.count.Count.{Count}
use Rattle.oe_ledgers.specs.Keys.{same_district}
use Rattle.oe_ledgers.proofs.CustomersFigures.{customers_of_district-kept}
use Rattle.oe_checks.proofs.SizeFacts.{first-total, none-before, none-there}
use Rattle.oe_checks.proofs.sizes.customers_of_a_district.Goals as goal

pub returns : goal.returns
returns c cs kept few =
    let rows = option_map (λ (s : Count). pos s.rows) in
    let first = c.in-Some.first.now in
    let entries = c.args.customers.now.by_district in
    let parted = sym c.entries.ensures.value ∙ c.in-Some.ensures.cases.0 in (
      first.0,
      sym (customers_of_district-kept cs c.args.customers.now kept few first.0)
          ∙ ap rows (first-total same_district counts_joined entries first c.in-Some._others.now parted
          (c.entries.ensures.sums c.requires.by_district)),
      λ d before. sym (customers_of_district-kept cs c.args.customers.now kept few d)
          ∙ ap rows (none-before counts_joined entries first c.in-Some._others.now parted c.requires.by_district d
          before),
    )

pub returns-in_default : goal.returns-in_default
returns-in_default c cs kept few d =
    sym (customers_of_district-kept cs c.args.customers.now kept few d)
    ∙ ap (λ es. option_map (λ (s : Count). pos s.rows) (total same_district counts_joined es d))
    (sym c.entries.ensures.value ∙ none-there c.entries.result.now c.in_default.ensures.cases)
