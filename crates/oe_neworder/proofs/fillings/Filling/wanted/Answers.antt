use Rattle.std.proofs.Common.{sym, ap, ◌∙◌}
use Rattle.oe_model.specs.NewOrder.{new_order_ask}
use Rattle.oe_store.specs.Places.{rows}
use Rattle.oe_locks.specs.Holds.{lock_asked}
use Rattle.oe_neworder.proofs.LineFacts.{end_at, stock_at, stock_wanted}
use Rattle.oe_neworder.proofs.fillings.Filling.wanted.Goals as goal

pub returns-in_default : goal.returns-in_default
returns-in_default c =
    sym (ap (λ p. lock_asked (new_order_ask c.args.request.now p (rows c.args.tables.now)))
    (end_at c.args.request.now c.args.self.now (sym c.in_default.ensures.value)))

pub returns-in-None : goal.returns-in-None
returns-in-None c =
    c.stock_lock.ensures ∙ (stock_wanted _ _
    ∙ sym (ap (λ p. lock_asked (new_order_ask c.args.request.now p (rows c.args.tables.now)))
    (stock_at c.args.request.now c.args.self.now _ (sym c.in-Some.ensures.value) c.in-None.is)))
