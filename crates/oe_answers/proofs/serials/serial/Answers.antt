use Rattle.oe_answers.proofs.serials.serial.Goals as goal

-- without a population's files, beside the tables' files
pub returns-in-Some-tables : goal.returns-in-Some-tables
returns-in-Some-tables g c =
    rw (c.in-Ok.is, c.in-None.is, c.in-Some-tables.is)
    (rw (c.as_slice-bytes.ensures.value, c.row_format-format.ensures) at c.compare.ensures)
