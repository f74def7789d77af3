use Rattle.std.proofs.Common.{◌≡◌, ◌<◌, None, IsSome, ap, ◌∙◌, rules}
use Rattle.oe_model.specs.Choice.{namesakes, middle}
use Rattle.oe_store.specs.Places.{rows}
use Rattle.oe_from.proofs.ScaleFacts.{is_named, is_nobodys, one_name, nobodys}
use Rattle.oe_from.proofs.scales.unnamed.Goals as goal

pub returns-then-is_none : goal.returns-then-is_none
returns-then-is_none c =
    let found = c.middle.ensures ∙ ap (λ t. middle (namesakes c.args.district.now t (rows c.args.tables.now).customers))
    (c.as_text.ensures ∙ c.name_of.ensures) in
    let none : c.middle.result ≡ None = search rules in
    let few : c.loop-number.number < c.args.customers = search rules in
    let small : c.loop-number.number < 1_000 = search rules in
    let some : IsSome c.new.result = search rules in
    nobodys (rows c.args.tables.now) c.args.district.now c.loop-number.number c.args.customers c.new.result some
    c.new.ensures.value few small
    (is_nobodys (rows c.args.tables.now) c.args.district.now c.loop-number.number c.middle.result found none)

pub loop-number-preserved : goal.loop-number-preserved
loop-number-preserved c =
    let found = c.middle.ensures ∙ ap (λ t. middle (namesakes c.args.district.now t (rows c.args.tables.now).customers))
    (c.as_text.ensures ∙ c.name_of.ensures) in
    let some : IsSome c.middle.result = search rules in
    one_name (rows c.args.tables.now) c.args.district.now c.loop-number.number
    (is_named (rows c.args.tables.now) c.args.district.now c.loop-number.number c.middle.result found some)
    c.loop-number.invariant
