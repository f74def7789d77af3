use Rattle.std.proofs.Common.{Some}
use Rattle.oe_rows.proofs.KeyFacts.{customer_total, exact_customer}
use Rattle.oe_model.specs.Changes.{UpdateCustomer}
use Rattle.oe_store.specs.contracts.tables.Tables.{the_view}
use Rattle.oe_store.proofs.PlaceFacts.{place_of_row, same_customers}
use Rattle.oe_store.proofs.SoundFacts.{sound_changed, by_result, customer_numbered}
use Rattle.oe_store.proofs.tables.Tables.update_customer.Goals as goal

pub invariant_of-self : goal.invariant_of-self
invariant_of-self c =
    let accepts = rw (← c.self.view_is) at c.requires in
    by_result c.replace.result
    (λ e. rw e (sound_changed (UpdateCustomer c.args.key c.args.row) _ accepts
    (customer_numbered _ c.args.key c.self.invariant accepts) c.self.invariant)) (λ e. rw e
    c.self.invariant) c.replace.ensures.rows c.replace.ensures.err

pub returns-clause-places : goal.returns-clause-places
returns-clause-places c =
    rw (← c.self.view_is)
    (by_result c.replace.result
    (λ e. same_customers (the_view c.self.inside) _ c.args.key (Some c.args.row) e
    (place_of_row customer_total exact_customer _ c.args.key (rw (← c.self.view_is) at c.requires)))
    (λ e. rw e (λ k. (λ h. h, λ h. h))) c.replace.ensures.places c.replace.ensures.err)
