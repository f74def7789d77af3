use Rattle.std.proofs.Common.{◌≡◌, Some}
use Rattle.std.proofs.lemmas.Result.{on_ok_weaker}
use Rattle.std.specs.FinMap.{get}
use Rattle.oe_rows.specs.Key.{customer_cmp}
use Rattle.oe_rows.specs.declared.customers.Customer.{Customer}
use Rattle.oe_table.specs.Table.{RewritesRow}
use Rattle.oe_model.specs.Changes.{UpdateCustomer}
use Rattle.oe_model.specs.Rename.{with_names}
use Rattle.oe_store.specs.Places.{rows}
use Rattle.oe_store.specs.contracts.tables.Tables.{the_view}
use Rattle.oe_store.proofs.ColumnFacts.{IsLeft, customer_left, some_row}
use Rattle.oe_store.proofs.SoundFacts.{by_result}
use Rattle.oe_store.proofs.tables.Tables.set_customer_names.Goals as goal

abbrev set : goal.After-set_names → Customer → Customer
set c x = with_names c.args.last.now c.args.first.now x

-- the row is set
abbrev Sets : goal.After-set_names → Type 0
Sets c = (x : Customer) → get (rows (the_view c.self.inside)).customers c.args.key.now ≡ Some x
    → RewritesRow customer_cmp c.self.inside.customers.places c.set_names.new.self.places c.args.key.now (set c x)

left : (c : goal.After-set_names) (x : Customer) → Sets c
    → get (rows (the_view c.self.inside)).customers c.args.key.now ≡ Some x
    → IsLeft (UpdateCustomer c.args.key.now (set c x)) (the_view c.self.inside)
    (record (the_view c.self.inside) { customers = c.set_names.new.self.places })
left c x sets was = customer_left (the_view c.self.inside) c.set_names.new.self.places c.args.key.now (set c x) x
    (sets x was) was c.self.invariant

pub invariant_of-self : goal.invariant_of-self
invariant_of-self c =
    let there = some_row _ (rw (← c.self.view_is) at c.requires) in
    by_result c.set_names.result (λ (e : Sets c). (left c there.0 e there.1).sound) (λ e. rw e c.self.invariant)
    c.set_names.ensures.ok c.set_names.ensures.err

pub returns-clause-rows : goal.returns-clause-rows
returns-clause-rows c =
    rw (← c.self.view_is)
    (on_ok_weaker c.set_names.result (λ (e : Sets c) x found. (left c x e found).rows) c.set_names.ensures.ok)

pub returns-clause-places : goal.returns-clause-places
returns-clause-places c =
    let there = some_row _ (rw (← c.self.view_is) at c.requires) in
    rw (← c.self.view_is)
    (by_result c.set_names.result (λ (e : Sets c). (left c there.0 e there.1).places)
    (λ e. rw e (λ k. (λ h. h, λ h. h))) c.set_names.ensures.ok c.set_names.ensures.err)
