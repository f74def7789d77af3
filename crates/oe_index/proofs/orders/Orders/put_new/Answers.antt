use Rattle.oe_rows.specs.Key.{order_cmp}
use Rattle.oe_rows.proofs.KeyFacts.{order_total, exact_order}
use Rattle.oe_table.specs.Table.{rows_of}
use Rattle.oe_index.specs.Numbers.{list_of_owner}
use Rattle.std.proofs.Common.{◌∙◌}
use Rattle.oe_index.proofs.FoundFacts.{listed-more, listed-less, listed-put, always_ok}
use Rattle.oe_index.proofs.OwnerFacts.{no-place, kept-place}
use Rattle.oe_index.proofs.orders.Orders.put_new.Goals as goal

pub returns-in-Err-clause-no_place : goal.returns-in-Err-clause-no_place
returns-in-Err-clause-no_place c =
    rw (← c.self.view_is)
    (no-place c.self.inside.rows c.args.key (rw (← c.self.view_is) at c.requires) c.in-Err.ensures.refused)

pub invariant_of-self-2 : goal.invariant_of-self-2
invariant_of-self-2 c =
    let listed = c.in_default.ensures in
    let ls = c.list.new.lists in
    listed-put order_total exact_order list_of_owner c.put_new.result c.list.new.is_listed ls c.self.inside.rows
    c.put_new.new.self c.args.key c.args.row
    listed.listed
    (listed-less list_of_owner c.self.inside.is_listed c.list.new.is_listed ls (rows_of order_cmp c.self.inside.rows)
    listed.only_less
    (listed-more list_of_owner c.self.inside.is_listed _ ls _ listed.lists.kept c.self.invariant))
    c.put_new.ensures.rows
    c.put_new.ensures.err

pub returns-clause-ok : goal.returns-clause-ok
returns-clause-ok c = rw (← c.self.view_is) c.put_new.ensures.ok

pub returns-in-Err-clause-lists : goal.returns-in-Err-clause-lists
returns-in-Err-clause-lists c = rw (← c.self.view_is) c.in-Err.ensures.lists

pub returns-in-Err-clause-err_stand : goal.returns-in-Err-clause-err_stand
returns-in-Err-clause-err_stand c = rw (← c.self.view_is) (c.in-Err.ensures.given_up c.in-Err.ensures.refused)

pub returns-clause-lists : goal.returns-clause-lists
returns-clause-lists c = rw (← c.self.view_is) c.in_default.ensures.lists

pub returns-clause-stand : goal.returns-clause-stand
returns-clause-stand c =
    let listed = c.in_default.ensures in
    rw (← c.self.view_is)
    (always_ok c.put_new.result
    ((λ h. (listed.only_less h, listed.listed h)), (λ h. listed.stand h.1 ∙ h.0)))

pub returns-clause-err_stand : goal.returns-clause-err_stand
returns-clause-err_stand c = rw (← c.self.view_is) (kept-place c.put_new.result _ c.self.inside.rows c.args.key
    c.put_new.ensures.no_place c.in_default.ensures.given_up)
