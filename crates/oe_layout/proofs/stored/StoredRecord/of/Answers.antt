-- An image tells its record.
use Rattle.oe_layout.proofs.StoredFacts.{told_by}
use Rattle.oe_layout.proofs.stored.StoredRecord.of.Goals as goal

pub returns-clause-record : goal.returns-clause-record
returns-clause-record c p b hp hb e = told_by c.args.bytes.now p b hp hb e
