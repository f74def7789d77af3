use Rattle.std.proofs.Common.{◌∙◌, sym, ap, subst, refl, arith}
use Rattle.std.specs.Prelude.{ℕ, pos, count_ones, bit_or}
use Rattle.std.specs.Option.{option_map}
use Rattle.std.specs.List.Sorted.{IsStrictlySortedBy}
use Rattle.oe_tally.specs.Tallies.{total, IsSettled}
use Rattle.oe_ledgers.proofs.SumFacts.{projected, counted}
use Rattle.oe_checks.specs.Comparing.{single}
use Rattle.oe_checks.proofs.FindingFacts.{if_ok, alike_of_two}
use Rattle.oe_line_numbers.specs.declared.numbers.Numbers.{Numbers}
use Rattle.oe_line_numbers.specs.Numbers.{numbers_joined, same_block, block_cmp}
use Rattle.oe_line_numbers.specs.Blocks.{block_entry}
use Rattle.oe_line_numbers.proofs.BlockFacts.{mapped-twice}
use Rattle.oe_line_numbers.proofs.numbers.lines_once.Goals as goal

pub findings-requires-clause-right : goal.findings-requires-clause-right
unfolding IsStrictlySortedBy
findings-requires-clause-right c = subst (IsSettled block_cmp) (sym c.new-nothing.ensures) tt

pub returns : goal.returns
returns c lines kept few =
    if_ok c.findings.result c.findings.ensures (λ found all. record {
      ordered = all.ordered;
      exact = λ k. all.exact k ∙ alike_of_two single
          (ap (option_map (λ (s : Numbers). pos s.rows)) (kept.by_block k)
          ∙ counted same_block numbers_joined block_entry (λ (s : Numbers). s.rows) (λ a b. refl) (λ f. omega arith)
          lines few k)
          (mapped-twice (λ (s : Numbers). s.seen) (λ (n : ℕ). pos (count_ones n))
          (total same_block numbers_joined c.args.numbers.now.by_block k)
          ∙ ap (option_map (λ (n : ℕ). pos (count_ones n)))
          (ap (option_map (λ (s : Numbers). s.seen)) (kept.by_block k)
          ∙ projected same_block numbers_joined bit_or block_entry (λ (s : Numbers). s.seen) (λ a b. refl) lines k));
    })
