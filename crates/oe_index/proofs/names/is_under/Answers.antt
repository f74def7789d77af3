use Rattle.std.proofs.Common.{◌≡◌, ◌∙◌, ap}
use Rattle.oe_model.specs.Keys.{district_of_customer}
use Rattle.oe_index.specs.Numbers.{list_number}
use Rattle.oe_index.proofs.NameFacts.{told-under}
use Rattle.oe_index.proofs.names.is_under.Goals as goal

pub returns : goal.returns
returns c =
    let number : c.list_number.result ≡ list_number (district_of_customer c.args.key.now) c.args.last.now =
    c.list_number.ensures.value ∙ ap (λ h. list_number h c.args.last.now) c.district_key.ensures in
    told-under c.args.lists.now c.args.key.now _ c.has.result c.list_number.result _ number c.if-has_name.ensures
    c.has.ensures
