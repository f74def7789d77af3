use Rattle.std.proofs.Common.{List, ◌++◌, ℕ, sym, ap, ◌∙◌, append_assoc}
use Rattle.std.specs.Prelude.{codes}
use Rattle.std.specs.List.{flat_map}
use Rattle.oe_lines.specs.Texts.{head_text, item_text}
use Rattle.oe_lines.proofs.TextFacts.{order_joined}
use Rattle.oe_lines.proofs.requests.order.Goals as goal

pub returns-clause-items : goal.returns-clause-items
returns-clause-items c =
    let q = c.args.order.now in
    let word = codes "neworder " in
    let items = flat_map item_text q.lines in
    c.items.ensures.items
    ∙ (ap (λ (z : List ℕ). z ++ flat_map item_text c.as_slice.result.now) (c.head.ensures.items
    ∙ ap (λ (z : List ℕ). z ++ head_text q) c.text.ensures.items)
    ∙ (ap (λ ls. c.args.out.now.items ++ word ++ head_text q ++ flat_map item_text ls) c.as_slice.ensures.value
    ∙ (append_assoc (c.args.out.now.items ++ word) (head_text q) items
    ∙ (append_assoc c.args.out.now.items word (head_text q ++ items)
    ∙ ap (λ (z : List ℕ). c.args.out.now.items ++ z) (sym (order_joined q))))))
