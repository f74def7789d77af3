use Rattle.std.proofs.Common.{None, sym}
use Rattle.oe_fields.proofs.FrontFacts.{number_begins, at_end, at_separator}
use Rattle.oe_fields.proofs.fields.number_front.Goals as goal

pub returns-in_default : goal.returns-in_default
returns-in_default c =
    number_begins c.args.format c.args.rest.now c.in_ok-n.n c.in_ok-n.behind.now None (sym c.in_ok-n.ensures)
    c.if-behind-rest.false (at_end c.in_ok-n.behind.now c.in_default.len_below)

pub returns : goal.returns
returns c =
    number_begins c.args.format c.args.rest.now c.in_ok-n.n c.in_ok-n.behind.now _ (sym c.in_ok-n.ensures)
    c.if-behind-rest.false
    (at_separator c.args.format c.in_ok-n.behind.now c.separator.result 0 c.in-len1-up.len_at_least
    c.if-first-separator.false c.separator.ensures)
