use Rattle.std.proofs.Common.{None, sym, rules}
use Rattle.oe_file_rows.proofs.StartFacts.{number_begins, at_end, at_tab}
use Rattle.oe_file_rows.proofs.fronts.number_front.Goals as goal

pub returns-in_default : goal.returns-in_default
returns-in_default g c =
    number_begins g.row.LOW g.row.HIGH c.args.rest.now c.in_ok-n.n c.in_ok-number.number c.in_ok-n.behind.now None
    (sym c.in_ok-n.ensures.value) c.in_ok-number.ensures (at_end c.in_ok-n.behind.now c.in_default.len_below)

pub returns : goal.returns
returns g c =
    number_begins g.row.LOW g.row.HIGH c.args.rest.now c.in_ok-n.n c.in_ok-number.number c.in_ok-n.behind.now _
    (sym c.in_ok-n.ensures.value) c.in_ok-number.ensures
    (at_tab c.in_ok-n.behind.now 0 c.in-len1-up.len_at_least (search rules))
