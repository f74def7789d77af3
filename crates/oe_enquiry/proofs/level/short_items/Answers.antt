use Rattle.std.proofs.Common.{◌+◌, ◌≤◌, sym, ap, ◌∙◌, subst, List, [], map, length}
use Rattle.oe_model.specs.Queries.{recent_lines}
use Rattle.oe_model.specs.Rows.{Rows}
use Rattle.oe_store.specs.Numbered.{AreNumbered}
use Rattle.oe_store.specs.Places.{rows}
use Rattle.oe_enquiry.specs.declared.items.Sold.{Sold}
use Rattle.oe_enquiry.specs.Level.{is_short, items_sold, list_with, HaveQuantities}
use Rattle.oe_enquiry.proofs.RecentFacts.{lists_all, numbers_past}
use Rattle.oe_enquiry.proofs.SoldFacts.{Lists, all_listed, lists_part, taken_have}
use Rattle.oe_enquiry.proofs.LevelFacts.{are_low, none_low}
use Rattle.oe_enquiry.proofs.level.short_items.Goals as goal

pub returns-then-get-eq1 : goal.returns-then-get-eq1
returns-then-get-eq1 g c =
    let now : Rows = rows (g.R.RowsOf.tables_of c.args.then.now) in
    let past : Rows = g.R.RowsOf.rows_of c.args.then.now in
    none_low c.args.query.now past c.args.next c.new-items.result (sym c.get.ensures.value ∙ c.if-get-eq1.true)
    (numbers_past now past c.are_passed.ensures (subst (λ ts. AreNumbered
    (rows ts)) c.tables.ensures c.numbers_hold.ensures))
    c.new-items.ensures

pub loop-init : goal.loop-init
loop-init g c =
    let now : Rows = rows (g.R.RowsOf.tables_of c.args.then.now) in
    let past : Rows = g.R.RowsOf.rows_of c.args.then.now in
    let q = c.args.query.now in
    let p = is_short q past in
    let all = list_with p [] (items_sold q.district c.args.next past.order_lines) in
    subst (λ is. Lists now past q.district.warehouse p all is c.recent_lines-walk.result 0) (sym c.new-items.ensures)
    (subst (λ es. Lists now past q.district.warehouse p all [] es 0)
    (sym (c.recent_lines-walk.ensures
    ∙ ap (λ ts. recent_lines q.district c.args.next (rows ts).order_lines) c.tables-2.ensures))
    (lists_all now past p q.district c.args.next q.district.warehouse c.are_passed.ensures
    (subst (λ ts. AreNumbered (rows ts)) c.tables.ensures c.numbers_hold.ensures)))

pub list_short-requires-clause-quantities : goal.list_short-requires-clause-quantities
list_short-requires-clause-quantities g c =
    let now : Rows = rows (g.R.RowsOf.tables_of c.args.then.now) in
    let w = c.args.query.now.district.warehouse in
    subst (HaveQuantities now w) (sym c.as_slice.ensures.value)
    (taken_have now (g.R.RowsOf.rows_of c.args.then.now) w c.take_sold-sold.result c.loop.walk
    c.take_sold-sold.new.walk c.take_sold-sold.ensures.sold)

pub loop-preserved : goal.loop-preserved
loop-preserved g c =
    let now : Rows = rows (g.R.RowsOf.tables_of c.args.then.now) in
    let past : Rows = g.R.RowsOf.rows_of c.args.then.now in
    let q = c.args.query.now in
    let p = is_short q past in
    lists_part now past q.district.warehouse p
    (list_with p [] (items_sold q.district c.args.next past.order_lines)) c.loop.items c.list_short.new.items
    c.loop.walk c.take_sold-sold.new.walk c.take_sold-sold.result c.loop.counter c.loop.invariant
    c.take_sold-sold.ensures.sold c.take_sold-sold.ensures.standing c.take_sold-sold.ensures.taken
    c.take_sold-sold.ensures.most
    (c.list_short.ensures.items ∙ ap (λ (ss : List Sold). list_with p c.loop.items (map (λ s. s.item) ss))
    c.as_slice.ensures.value)
    (subst (λ (ss : List Sold). length c.list_short.new.items ≤ length c.loop.items + length ss)
    c.as_slice.ensures.value c.list_short.ensures.few)

pub returns : goal.returns
returns g c =
    let now : Rows = rows (g.R.RowsOf.tables_of c.args.then.now) in
    let past : Rows = g.R.RowsOf.rows_of c.args.then.now in
    let q = c.args.query.now in
    let p = is_short q past in
    are_low q past c.args.next c.loop.items
    (all_listed now past q.district.warehouse p (list_with p [] (items_sold q.district c.args.next past.order_lines))
    c.loop.items c.loop.walk c.loop.counter c.loop.invariant c.loop-test.false)
