use Rattle.std.proofs.Common.{◌≡◌, subst, rules}
use Rattle.oe_rows.specs.Key.{order_cmp}
use Rattle.oe_index.specs.Listed.{ListsAtMost}
use Rattle.oe_index.specs.Numbers.{list_of_owner}
use Rattle.oe_index.proofs.orders.list.Goals as goal

pub returns-in_default-clause-lists : goal.returns-in_default-clause-lists
returns-in_default-clause-lists c =
    let number : c.owner_number.result ≡ list_of_owner c.args.key.now c.args.row.now = search rules in
    subst (λ n. ListsAtMost order_cmp c.args.lists.now c.add.new.self n c.args.key.now) number c.add.ensures.lists

pub returns-then-not-is_blanked-clause-lists : goal.returns-then-not-is_blanked-clause-lists
returns-then-not-is_blanked-clause-lists c =
    let number : c.owner_number.result ≡ list_of_owner c.args.key.now c.args.row.now = search rules in
    subst (λ n. ListsAtMost order_cmp c.args.lists.now c.add.new.self n c.args.key.now) number c.add.ensures.lists

pub returns-clause-lists : goal.returns-clause-lists
returns-clause-lists c =
    let number : c.owner_number.result ≡ list_of_owner c.args.key.now c.args.row.now = search rules in
    subst (λ n. ListsAtMost order_cmp c.args.lists.now c.add.new.self n c.args.key.now) number c.add.ensures.lists
