use Rattle.std.proofs.Common.{rules, refl}
use Rattle.oe_file_tables.proofs.ReadFacts.{stands_start}
use Rattle.oe_file_tables.proofs.lines.Lot.new.Goals as goal

pub returns : goal.returns
returns g c = λ format start.
    stands_start g.R.RowLine.spells g.R.RowLine.own_table format start _ _ _ _ (search rules) refl refl refl
