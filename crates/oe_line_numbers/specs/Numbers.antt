-- The numbers of an order's lines, in blocks of 64, a bit each.
use Rattle.std.specs.Prelude.{ℕ, ◌/◌, ◌%◌, ◌^◌, Bool, ◌&&◌, nat_eq, bit_or}
use Rattle.std.specs.declared.cmp.Ordering.{Ordering}
use Rattle.std.specs.Ordering.{nat_cmp, ordering_then}
use Rattle.oe_facts.specs.declared.facts.OrderLineFact.{OrderLineFact}
use Rattle.oe_ledgers.specs.Columns.{sum_up_to}
use Rattle.oe_ledgers.specs.Keys.{same_order, order_cmp}
use Rattle.oe_ledgers.specs.Sums.{most}
use Rattle.oe_line_numbers.specs.declared.numbers.LineBlock.{LineBlock}
use Rattle.oe_line_numbers.specs.declared.numbers.Numbers.{Numbers}

-- the bit of a number within its block
abbrev pub bit_of : ℕ → ℕ
bit_of n = 2 ^ (n % 64)

abbrev pub block_of : OrderLineFact → LineBlock
block_of f = record { order = f.order; block = f.number / 64 }

abbrev pub same_block : LineBlock → LineBlock → Bool
same_block a b = same_order a.order b.order && nat_eq a.block b.block

abbrev pub block_cmp : LineBlock → LineBlock → Ordering
block_cmp a b = ordering_then (order_cmp a.order b.order) (nat_cmp a.block b.block)

-- the numbers and the rows of both
abbrev pub numbers_joined : Numbers → Numbers → Numbers
numbers_joined a b = record { seen = bit_or a.seen b.seen; rows = sum_up_to most a.rows b.rows }

-- what a row brings
abbrev pub numbers_of : OrderLineFact → Numbers
numbers_of f = record { seen = bit_of f.number; rows = 1 }
