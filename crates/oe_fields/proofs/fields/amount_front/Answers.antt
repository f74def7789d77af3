use Rattle.std.proofs.Common.{None, sym}
use Rattle.oe_fields.proofs.FrontFacts.{at_end, at_separator}
use Rattle.oe_fields.proofs.AmountFacts.{amount_begins}
use Rattle.oe_fields.proofs.fields.amount_front.Goals as goal

pub returns-in_default-clause-value : goal.returns-in_default-clause-value
returns-in_default-clause-value c =
    amount_begins c.args.format c.args.rest.now c.in_ok-n.n c.in_ok-n.behind.now c.in_ok-hundredths.hundredths
    c.in_ok-hundredths.after.now c.in_ok-cents.cents None (sym c.in_ok-n.ensures) c.if-behind-rest.false
    (sym c.in_ok-hundredths.ensures.value) c.in_ok-cents.ensures.value
    (at_end c.in_ok-hundredths.after.now c.in_default.len_below)

pub returns-clause-value : goal.returns-clause-value
returns-clause-value c =
    amount_begins c.args.format c.args.rest.now c.in_ok-n.n c.in_ok-n.behind.now c.in_ok-hundredths.hundredths
    c.in_ok-hundredths.after.now c.in_ok-cents.cents _ (sym c.in_ok-n.ensures) c.if-behind-rest.false
    (sym c.in_ok-hundredths.ensures.value) c.in_ok-cents.ensures.value
    (at_separator c.args.format c.in_ok-hundredths.after.now c.separator.result 0 c.in-len1-up.len_at_least
    c.if-first-separator.false c.separator.ensures)
