use Rattle.std.proofs.Common.{None, sym, rules}
use Rattle.oe_file_rows.proofs.StartFacts.{money_begins, at_end, at_tab}
use Rattle.oe_file_rows.proofs.fronts.money_front.Goals as goal

pub returns-in_default : goal.returns-in_default
returns-in_default g c =
    money_begins g.row.MOST c.args.rest.now c.in_ok-whole.whole c.in_ok-whole.behind.now c.in_ok-after.field-0.now
    c.in_ok-cents.cents c.in_ok-amount.amount c.in_ok-cents.behind.now None (sym c.in_ok-whole.ensures.value)
    (sym c.in_ok-after.ensures) (sym c.in_ok-cents.ensures) (search rules) (search rules)
    (at_end c.in_ok-cents.behind.now c.in_default.len_below)

pub returns : goal.returns
returns g c =
    money_begins g.row.MOST c.args.rest.now c.in_ok-whole.whole c.in_ok-whole.behind.now c.in_ok-after.field-0.now
    c.in_ok-cents.cents c.in_ok-amount.amount c.in_ok-cents.behind.now _ (sym c.in_ok-whole.ensures.value)
    (sym c.in_ok-after.ensures) (sym c.in_ok-cents.ensures) (search rules) (search rules)
    (at_tab c.in_ok-cents.behind.now 0 c.in-len1-up.len_at_least (search rules))
