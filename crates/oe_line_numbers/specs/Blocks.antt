-- What is kept of ORDER-LINE rows' numbers, and that none stands twice.
use Rattle.std.specs.Prelude.{ℕ, ℤ, pos, ◌+ℤ◌, bit_or, count_ones, List, Option}
use Rattle.std.specs.Option.{option_map}
use Rattle.oe_tally.specs.Tallies.{IsSettled}
use Rattle.oe_facts.specs.declared.facts.OrderLineFact.{OrderLineFact}
use Rattle.oe_ledgers.specs.Columns.{of_key}
use Rattle.oe_ledgers.specs.Figures.{sum_of}
use Rattle.oe_ledgers.specs.Keeping.{Keeps}
use Rattle.oe_checks.specs.declared.figures.Apart.{Apart}
use Rattle.oe_checks.specs.Comparing.{single}
use Rattle.oe_line_numbers.specs.declared.numbers.LineBlock.{LineBlock}
use Rattle.oe_line_numbers.specs.declared.numbers.LineNumbers.{LineNumbers}
use Rattle.oe_line_numbers.specs.declared.numbers.Numbers.{Numbers}
use Rattle.oe_line_numbers.specs.Numbers.{bit_of, block_of, same_block, block_cmp, numbers_joined, numbers_of}

-- what an ORDER-LINE row brings to its order and block
abbrev pub block_entry : OrderLineFact → LineBlock × Numbers
block_entry f = (block_of f, numbers_of f)

pub record KeepsLineNumbers (facts : List OrderLineFact) (kept : LineNumbers) : Type 0 where
  pub by_block : Keeps same_block numbers_joined block_entry facts kept.by_block

pub record AreSettledLineNumbers (kept : LineNumbers) : Type 0 where
  pub by_block : IsSettled block_cmp kept.by_block

-- the number of a block's rows, and the set of their OL_NUMBERs
abbrev pub block_rows : List OrderLineFact → LineBlock → Option ℤ
block_rows lines k = sum_of same_block block_of (λ f. pos 1) lines k

abbrev pub block_numbers : List OrderLineFact → LineBlock → Option ℕ
block_numbers lines k = of_key same_block block_of bit_or (λ f. bit_of f.number) lines k

-- clause 1.3.1: an order's lines have as many numbers as there are rows
abbrev pub lines_once : List OrderLineFact → LineBlock → Option Apart
lines_once lines k =
    single (block_rows lines k) (option_map (λ n. pos (count_ones n)) (block_numbers lines k))
