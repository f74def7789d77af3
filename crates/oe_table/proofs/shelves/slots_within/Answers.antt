use Rattle.std.proofs.Common.{◌∙◌, ap, drop, take, ◌-◌, get_or, []}
use Rattle.std.specs.Slice.Iter.{iter_rest}
use Rattle.oe_table.proofs.RangeFacts.{shelf-within}
use Rattle.oe_table.proofs.shelves.slots_within.Goals as goal

pub returns : goal.returns
returns g c =
    shelf-within (get_or c.args.shelves.now c.args.number []) c.args.from c.args.to (iter_rest c.iter.result)
    (iter_rest c.iter-2.result) (iter_rest c.iter-3.result) c.requires.forward
    (c.iter.ensures.rest ∙ ap (λ s. take (c.args.to - c.args.from) (drop c.args.from s)) c.slots_on-slots.ensures)
    (c.iter-2.ensures.rest ∙ c.no_shelves.ensures) (c.iter-3.ensures.rest ∙ c.no_slots.ensures)
