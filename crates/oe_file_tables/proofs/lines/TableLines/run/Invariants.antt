use Rattle.std.proofs.Common.{◌≡◌, ℕ, List, length}
use Rattle.oe_filelines.specs.Lines.{Standing}
use Rattle.oe_file_tables.specs.Reading.{TableTaken}
use Rattle.oe_file_tables.proofs.ReadFacts.{ReadSoFar}
use Rattle.oe_file_tables.proofs.lines.TableLines.run.Given as goal

-- what was read so far is taken
abbrev pub invariant-loop : goal.invariant-loop
invariant-loop g l = record {
  room : length l.buf ≡ 65536;
  read : (read : List ℕ) × ReadSoFar (g.S.Intake.source l.initial.source) (g.S.Intake.source l.source) read
      × Standing 4_096 (TableTaken g.R.RowLine.spells g.R.RowLine.own_table l.initial.self) read l.held l.self;
}
