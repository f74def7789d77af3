use Rattle.std.proofs.Common.{◌≡◌, ◌∙◌, ap, subst}
use Rattle.std.specs.Prelude.{◌↔◌, IsTrue}
use Rattle.oe_rows.specs.Key.{customer_cmp}
use Rattle.oe_model.specs.Keys.{district_of_customer}
use Rattle.oe_index.specs.Listed.{IsListed}
use Rattle.oe_index.specs.Numbers.{list_number}
use Rattle.oe_index.proofs.names.is_under_before.Goals as goal

pub returns-in-Some : goal.returns-in-Some
returns-in-Some c =
    let number : c.list_number.result ≡ list_number (district_of_customer c.args.key.now) c.in-Some.last =
    c.list_number.ensures.value ∙ ap (λ h. list_number h c.in-Some.last) c.district_key.ensures in
    rw c.in-Some.is
    (subst (λ n. IsTrue c.has.result ↔ IsListed customer_cmp c.args.lists.now n c.args.key.now) number c.has.ensures)
