use Rattle.oe_values.proofs.stamps.Stamp.read.Goals as goal

pub returns-clause-reads : goal.returns-clause-reads
returns-clause-reads c n r = c.read_bytes.ensures.reads n (rw c.as_bytes.ensures.value r)
