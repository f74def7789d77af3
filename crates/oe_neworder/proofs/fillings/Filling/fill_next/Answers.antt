use Rattle.oe_neworder.proofs.LineFacts.{fill_advances}
use Rattle.oe_neworder.proofs.fillings.Filling.fill_next.Goals as goal

pub returns : goal.returns
returns c =
    fill_advances c.args.request.now c.args.self.now c.args.line.now c.requires.next c.args.engine.now c.args.tx.now
    c.fill.new.engine c.fill.result c.fill.new.place
    c.number_after-number.result c.number_after-number.ensures c.requires.none c.fill.ensures
