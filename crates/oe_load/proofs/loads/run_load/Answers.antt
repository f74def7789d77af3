use Rattle.oe_load.proofs.loads.run_load.Goals as goal

pub returns : goal.returns
returns g c = c.closed.ensures c.args.plan.now c.args.origin c.args.form (g.W.Outlet.sink c.args.writer.now)
    c.written-ending.ensures
