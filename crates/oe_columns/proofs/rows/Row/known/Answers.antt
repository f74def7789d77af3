use Rattle.oe_fields.specs.Parting.{fields_of}
use Rattle.oe_columns.proofs.RowFacts.{first_at}
use Rattle.oe_columns.proofs.rows.Row.known.Goals as goal

pub returns-in-Some : goal.returns-in-Some
returns-in-Some c =
    let r = c.self.inside in
    let found = rw c.as_slice.ensures.value at c.in-Some.ensures.lookup in
    rw (← c.self.view_is)
    (first_at (fields_of r.fields.format r.fields.text) r.places.now r.ahead.items c.args.at c.in-Some.n.now
    0 c.self.invariant found.3.0 (found.3.1 0))
