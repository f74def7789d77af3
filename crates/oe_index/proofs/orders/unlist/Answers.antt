use Rattle.std.proofs.Common.{◌≡◌, subst, rules}
use Rattle.oe_rows.specs.Key.{order_cmp}
use Rattle.oe_index.specs.Listed.{Unlists}
use Rattle.oe_index.specs.Numbers.{list_of_owner}
use Rattle.oe_index.proofs.orders.unlist.Goals as goal

pub returns : goal.returns
returns c =
    let number : c.owner_number.result ≡ list_of_owner c.args.key.now c.args.row.now = search rules in
    subst (λ n. Unlists order_cmp c.args.lists.now c.remove.new.self n c.args.key.now) number c.remove.ensures
