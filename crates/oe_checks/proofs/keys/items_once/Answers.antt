use Rattle.std.proofs.Common.{◌∙◌}
use Rattle.oe_checks.specs.Comparing.{repeats_apart}
use Rattle.oe_ledgers.proofs.ItemsFigures.{item_rows-kept}
use Rattle.oe_checks.proofs.FindingFacts.{if_ok, alike_of_one}
use Rattle.std.proofs.Common.{subst, sym}
use Rattle.std.specs.List.Sorted.{IsStrictlySortedBy}
use Rattle.oe_tally.specs.Tallies.{IsSettled}
use Rattle.std.specs.Ordering.{nat_cmp}
use Rattle.oe_checks.proofs.keys.items_once.Goals as goal

pub findings-requires-clause-right : goal.findings-requires-clause-right
unfolding IsStrictlySortedBy
findings-requires-clause-right c = subst (IsSettled nat_cmp) (sym c.new-nothing.ensures) tt

pub returns : goal.returns
returns c of_items kept_of_items few_of_items =
    if_ok c.findings.result c.findings.ensures (λ found all. record {
      ordered = all.ordered;
      exact = λ k. all.exact k ∙ alike_of_one repeats_apart
          (item_rows-kept of_items c.args.items.now kept_of_items few_of_items k);
    })
