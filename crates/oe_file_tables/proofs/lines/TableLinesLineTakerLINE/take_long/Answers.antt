use Rattle.oe_file_tables.proofs.lines.TableLinesLineTakerLINE.take_long.Goals as goal

pub returns : goal.returns
returns g c = λ start ls line long s.
    (s.0, s.1, s.2, c.take_long.ensures start.format start.faults.now ls line long s.3)
