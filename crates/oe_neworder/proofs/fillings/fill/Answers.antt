use Rattle.std.proofs.Common.{◌∷◌, refl, inl, subst}
use Rattle.oe_requests.specs.declared.requests.Request.TheVariants as request
use Rattle.oe_model.specs.Positions.{NewOrderStock, NewOrderLine, InNewOrder}
use Rattle.oe_neworder.specs.Looks.{IsSupply}
use Rattle.oe_neworder.specs.Program.{filled_by}
use Rattle.oe_neworder.specs.declared.looks.Supply.TheVariants as supply
use Rattle.oe_neworder.proofs.fillings.fill.Goals as goal

pub returns-in-Unused : goal.returns-in-Unused
returns-in-Unused c = (
  λ y before done ls count. (
    c.requires.open,
    inl (subst (λ r. IsSupply c.args.request.now r c.args.line.now c.args.number supply.Unused)
        c.tables.ensures c.in-Unused.ensures y before done ls),
  ),
  refl,
  refl,
  c.requires.none,
)

pub returns-in-Fails : goal.returns-in-Fails
returns-in-Fails c = (
  λ y before done ls count.
      let here = (subst (λ r. IsSupply c.args.request.now r c.args.line.now c.args.number
      (supply.Fails c.in-Fails.key c.in-Fails.refusal)) c.tables.ensures c.in-Fails.ensures).1 y before done ls in
      c.failed.ensures.fails (request.NewOrder c.args.request.now)
      (InNewOrder c.args.request.now (NewOrderStock y before done (c.args.line.now ∷ ls))) here.0 here.1,
  refl,
  refl,
  c.requires.none,
)

pub returns-in-Ok : goal.returns-in-Ok
returns-in-Ok c = λ y before done ls count.
    let here = subst (λ r. IsSupply c.args.request.now r c.args.line.now c.args.number
    (supply.Fills c.in-Fills.key c.in-Fills.counters c.in-Fills.filled)) c.tables.ensures c.in-Fills.ensures y
    before done ls count in
    c.in-Ok.ensures.does here.1.0 here.1.1 (request.NewOrder c.args.request.now)
    (InNewOrder c.args.request.now (NewOrderStock y before done (c.args.line.now ∷ ls)))
    (InNewOrder c.args.request.now (NewOrderLine y before done c.args.line.now (filled_by c.in-Fills.filled) ls)) here.0
    here.1.2

pub returns-in-Err : goal.returns-in-Err
returns-in-Err c = (
  λ y before done ls count.
      let here = subst (λ r. IsSupply c.args.request.now r c.args.line.now c.args.number
      (supply.Fills c.in-Fills.key c.in-Fills.counters c.in-Fills.filled)) c.tables.ensures c.in-Fills.ensures y
      before done ls count in
      c.in-Err.ensures.does here.1.0 here.1.1 (request.NewOrder c.args.request.now)
      (InNewOrder c.args.request.now (NewOrderStock y before done (c.args.line.now ∷ ls)))
      (InNewOrder c.args.request.now (NewOrderLine y before done c.args.line.now (filled_by c.in-Fills.filled) ls))
      here.0 here.1.2,
  c.in-Err.ensures.err,
  c.in-Err.ensures.name,
  refl,
)
