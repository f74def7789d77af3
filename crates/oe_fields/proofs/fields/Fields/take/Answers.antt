use Rattle.std.proofs.Common.{length}
use Rattle.oe_fields.proofs.PartFacts.{none_left, taken_last, taken_more, rest_short}
use Rattle.oe_fields.proofs.fields.Fields.take.Goals as goal
use Rattle.oe_fields.proofs.fields.Fields.take.Goals.{then-end-rest, else-end-rest}

pub returns-in_err-rest-clause-value : goal.returns-in_err-rest-clause-value
returns-in_err-rest-clause-value c =
    rw (← c.self.view_is, c.from_residual.ensures)
    (none_left _ c.self.inside.place (rw c.in_err-rest.was at c.self.invariant.from))

pub invariant_of-self : goal.invariant_of-self
invariant_of-self c =
    let i = c.self.invariant in
    record {
      from = (taken_more c.self.inside.format c.self.inside.line.now c.self.inside.place c.field_end-end.result
          c.in_ok-rest.rest.now (rw c.in_ok-rest.was at i.from) c.field_end-end.ensures.value c.if-end-rest.true).from;
      short = rest_short c.self.inside.place c.field_end-end.result c.in_ok-rest.rest.now
          (length c.self.inside.line.now) (rw c.in_ok-rest.was at i.short) c.if-end-rest.true;
    }

pub invariant_of-self-else-end-rest : goal.invariant_of-self-else-end-rest
invariant_of-self-else-end-rest c =
    let i = c.self.invariant in
    record {
      from = (taken_last c.self.inside.format c.self.inside.line.now c.self.inside.place c.field_end-end.result
          c.in_ok-rest.rest.now (rw c.in_ok-rest.was at i.from) c.field_end-end.ensures.value c.if-end-rest.false).from;
      short = tt;
    }

pub returns-clause-value : goal.returns-clause-value
returns-clause-value c =
    let i = c.self.invariant in
    let from = rw c.in_ok-rest.was at i.from in
    rw (← c.self.view_is)
    (elim c.if-end-rest.branch [
      | then-end-rest w ↦ (taken_more c.self.inside.format c.self.inside.line.now c.self.inside.place
          c.field_end-end.result c.in_ok-rest.rest.now from c.field_end-end.ensures.value w.if-end-rest.true).value
      | else-end-rest w ↦ (taken_last c.self.inside.format c.self.inside.line.now c.self.inside.place
          c.field_end-end.result c.in_ok-rest.rest.now from c.field_end-end.ensures.value w.if-end-rest.false).value
    ])
