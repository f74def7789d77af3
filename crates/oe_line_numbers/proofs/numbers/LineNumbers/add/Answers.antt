use Rattle.oe_line_numbers.specs.Numbers.{numbers_joined}
use Rattle.oe_line_numbers.specs.NumberLaws.{numbers_associative, numbers_commutative}
use Rattle.oe_line_numbers.specs.Blocks.{block_entry}
use Rattle.oe_ledgers.proofs.KeptFacts.{kept_more, on_ok}
use Rattle.oe_line_numbers.proofs.BlockFacts.{blocks_equal}
use Rattle.oe_line_numbers.proofs.numbers.LineNumbers.add.Goals as goal

pub returns : goal.returns
returns c =
    on_ok c.add.result (λ added facts kept. record {
      by_block = kept_more blocks_equal numbers_joined numbers_associative numbers_commutative block_entry facts
          c.args.fact.now c.args.self.now.by_block c.add.new.self _ c.of.ensures kept.by_block added;
    }) c.add.ensures.ok
