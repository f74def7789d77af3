use Rattle.std.proofs.Common.{◌≡◌, ◌≤◌, None, Some, refl, sym, ap, ◌∙◌, subst}
use Rattle.std.specs.FinMap.{get}
use Rattle.oe_rows.specs.declared.keys.StockKey.{StockKey}
use Rattle.oe_store.specs.Places.{rows}
use Rattle.oe_neworder.proofs.LookFacts.{none_used, none_there, none_stocked, too_much, filled_so}
use Rattle.oe_neworder.proofs.looks.supply_of.Goals.{After-item}
use Rattle.oe_neworder.proofs.looks.supply_of.Goals as goal

pub returns-in_default : goal.returns-in_default
returns-in_default c =
    none_used c.args.request.now (rows c.args.tables.now) c.args.line.now c.args.number
    (λ low. let no : ⊥ = let there = c.in_default.ensures.variant.1 low in cc in no)

-- the item's key, as the line has it
key_is : (c : After-item) → c.item_key.result ≡ record { item = c.args.line.now.item }
key_is c = c.item_key.ensures ∙ ap (λ (k : StockKey). record { item = k.item }) c.in-Some.ensures.value

low : (c : After-item) → c.args.line.now.item ≤ 100000
low c = c.in-Some.ensures.variant.0 refl

pub returns-in_default-item : goal.returns-in_default-item
returns-in_default-item c =
    none_there c.args.request.now (rows c.args.tables.now) c.args.line.now c.args.number
    (low (goal.at.returns-in_default-item c).After-item)
    (subst (λ k. get (rows c.args.tables.now).items k ≡ None) (key_is (goal.at.returns-in_default-item c).After-item)
    (sym c.in_default-item.ensures))

pub returns-in_default-stock : goal.returns-in_default-stock
returns-in_default-stock c =
    let here = (goal.at.returns-in_default-stock c).After-item in
    none_stocked c.args.request.now (rows c.args.tables.now) c.args.line.now c.args.number c.in-Some-item.item.now
    (low here)
    (subst (λ k. get (rows c.args.tables.now).items k ≡ Some c.in-Some-item.item.now) (key_is here)
    (sym c.in-Some-item.ensures))
    c.in-Some.key c.in-Some.ensures.value (sym c.in_default-stock.ensures)

pub returns-in-Err : goal.returns-in-Err
returns-in-Err c =
    let here = (goal.at.returns-in-Err c).After-item in
    too_much c.args.request.now (rows c.args.tables.now) c.args.line.now c.args.number c.in-Some-item.item.now
    (low here)
    (subst (λ k. get (rows c.args.tables.now).items k ≡ Some c.in-Some-item.item.now) (key_is here)
    (sym c.in-Some-item.ensures))
    c.in-Some.key c.in-Some.ensures.value c.in-Some-stock.stock.now c.in-Err.column (sym c.in-Some-stock.ensures)
    c.in-Err.ensures

pub returns-in-Ok : goal.returns-in-Ok
returns-in-Ok c =
    let here = (goal.at.returns-in-Ok c).After-item in
    filled_so c.args.request.now (rows c.args.tables.now) c.args.line.now c.args.number c.in-Some-item.item.now
    (low here)
    (subst (λ k. get (rows c.args.tables.now).items k ≡ Some c.in-Some-item.item.now) (key_is here)
    (sym c.in-Some-item.ensures))
    c.in-Some.key c.in-Some.ensures.value c.in-Some-stock.stock.now c.in-Ok.counters
    (record { number = c.args.number; row = c.order_line.result; reply = c.reply_with_quantity.result })
    (sym c.in-Some-stock.ensures) c.in-Ok.ensures refl (c.order_line.ensures c.args.number)
    (c.reply_with_quantity.ensures c.args.request.now c.args.number)
