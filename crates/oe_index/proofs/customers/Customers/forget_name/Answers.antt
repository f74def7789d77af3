use Rattle.std.proofs.Common.{◌≡◌, sym, ap, ◌∙◌}
use Rattle.oe_model.specs.Keys.{district_of_customer}
use Rattle.oe_index.specs.Numbers.{list_number}
use Rattle.oe_index.proofs.NameFacts.{listed-forgotten, forgets-none, forgets-it}
use Rattle.oe_index.proofs.customers.Customers.forget_name.Goals as goal

pub invariant_of-self : goal.invariant_of-self
invariant_of-self c =
    listed-forgotten c.self.inside.is_listed c.self.inside.lists c.remove.new.self _ c.list_number-number.result
    c.args.key.now c.remove.ensures (sym c.if-is_own_list.ensures) c.self.invariant

pub returns-then-is_own_list-clause-lists : goal.returns-then-is_own_list-clause-lists
returns-then-is_own_list-clause-lists c =
    let number : c.list_number-number.result ≡ list_number (district_of_customer c.args.key.now) c.args.last.now =
    c.list_number-number.ensures.value ∙ ap (λ h. list_number h c.args.last.now) c.district_key.ensures in
    rw (← c.self.view_is)
    (forgets-none _ c.self.inside.lists c.list_number-number.result _ c.args.key.now number c.if-is_own_list.ensures)

pub returns-clause-lists : goal.returns-clause-lists
returns-clause-lists c =
    let number : c.list_number-number.result ≡ list_number (district_of_customer c.args.key.now) c.args.last.now =
    c.list_number-number.ensures.value ∙ ap (λ h. list_number h c.args.last.now) c.district_key.ensures in
    rw (← c.self.view_is)
    (forgets-it _ c.self.inside.lists c.remove.new.self c.list_number-number.result _ c.args.key.now number
    c.remove.ensures c.if-is_own_list.ensures)
