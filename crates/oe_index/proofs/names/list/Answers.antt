use Rattle.std.proofs.Common.{◌≡◌, ◌∙◌, ap, subst}
use Rattle.oe_rows.specs.Key.{customer_cmp}
use Rattle.oe_model.specs.Keys.{district_of_customer}
use Rattle.oe_index.specs.Listed.{ListsAtMost}
use Rattle.oe_index.specs.Numbers.{list_number}
use Rattle.oe_index.proofs.names.list.Goals as goal

pub returns-clause-lists : goal.returns-clause-lists
returns-clause-lists c =
    let number : c.list_number-number.result ≡ list_number (district_of_customer c.args.key.now) c.args.last.now =
    c.list_number-number.ensures.value ∙ ap (λ h. list_number h c.args.last.now) c.district_key.ensures in
    subst (λ n. ListsAtMost customer_cmp c.args.lists.now c.add.new.self n c.args.key.now) number c.add.ensures.lists
