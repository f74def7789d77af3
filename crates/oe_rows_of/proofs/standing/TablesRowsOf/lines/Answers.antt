use Rattle.std.proofs.Common.{◌≤◌, Some, sym, ap, ◌∙◌, subst, [], option_map, arith}
use Rattle.oe_model.specs.Queries.{status_line}
use Rattle.oe_store.specs.Places.{rows}
use Rattle.oe_rows_of.proofs.LineFacts.{Fills, starts, has_room, stands_at, takes, ends}
use Rattle.oe_rows_of.proofs.standing.TablesRowsOf.lines.Goals as goal

pub loop-key-init : goal.loop-key-init
loop-key-init c =
    let ls = (rows c.args.self.now).order_lines in
    subst (λ is. Fills ls ls c.args.order is c.into_iter-key-iterator.result) (sym c.new-lines.ensures)
    (subst (λ es. Fills ls ls c.args.order [] es)
    (sym (c.into_iter-key-iterator.ensures.into_iter_gives ∙ c.order_lines_of-key-items.ensures))
    (starts ls ls c.args.order (λ q there. there)))

pub push-requires : goal.push-requires
push-requires c =
    let ls = (rows c.args.self.now).order_lines in (
      omega arith,
      has_room ls ls c.args.order c.loop-key.lines _ c.next.new.self
          (subst (λ es. Fills ls ls c.args.order c.loop-key.lines es) c.in-Some.ensures.steps c.loop-key.invariant)
          (subst (λ n. 1 ≤ n) c.get-number.ensures.value c.get-number.ensures.low)
          (subst (λ n. n ≤ 15) c.get-number.ensures.value c.get-number.ensures.high),
    )

pub loop-key-preserved : goal.loop-key-preserved
loop-key-preserved c =
    let ls = (rows c.args.self.now).order_lines in
    let left = subst (λ es. Fills ls ls c.args.order c.loop-key.lines es) c.in-Some.ensures.steps
    c.loop-key.invariant in
    subst (λ is. Fills ls ls c.args.order is c.next.new.self) (sym c.push.ensures)
    (takes ls ls c.args.order c.loop-key.lines _ c.next.new.self c.told.result left
    (ap (option_map status_line) (stands_at ls ls c.args.order c.loop-key.lines _ c.next.new.self left)
    ∙ ap Some (sym c.told.ensures))
    (subst (λ n. 1 ≤ n) c.get-number.ensures.value c.get-number.ensures.low))

pub returns : goal.returns
returns c =
    ends (rows c.args.self.now).order_lines (rows c.args.self.now).order_lines c.args.order c.loop-key.lines
    c.loop-key.key-iterator c.in-None.ensures.steps.0 c.loop-key.invariant
