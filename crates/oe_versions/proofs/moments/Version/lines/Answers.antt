use Rattle.std.proofs.Common.{◌≤◌, sym, ap, ◌∙◌, subst, [], arith}
use Rattle.oe_model.specs.Delivery.{lines_of}
use Rattle.oe_store.specs.Places.{rows}
use Rattle.oe_rows_of.proofs.LineFacts.{Fills, starts, has_room, stands_at, takes, ends}
use Rattle.oe_versions.specs.Versions.{rows_of}
use Rattle.oe_versions.proofs.PassedFacts.{passed_at}
use Rattle.oe_versions.proofs.moments.Version.lines.Goals as goal

pub loop-key-init : goal.loop-key-init
loop-key-init c =
    let now = (rows c.args.self.now.tables).order_lines in
    let past = (rows_of c.args.self.now).order_lines in
    subst (λ ls. Fills now past c.args.order ls c.into_iter-key-iterator.result) (sym c.new-lines.ensures)
    (subst (λ es. Fills now past c.args.order [] es)
    (sym (c.into_iter-key-iterator.ensures.into_iter_gives ∙ c.order_lines_of-key-items.ensures
    ∙ ap (λ ts. lines_of c.args.order (rows ts).order_lines) c.tables.ensures))
    (starts now past c.args.order
    (passed_at c.args.self.now.tables c.args.self.now.log c.args.self.now.moment c.requires).order_lines))

pub push-requires : goal.push-requires
push-requires c =
    let now = (rows c.args.self.now.tables).order_lines in
    let past = (rows_of c.args.self.now).order_lines in (
      omega arith,
      has_room now past c.args.order c.loop-key.lines _ c.next.new.self
          (subst (λ es. Fills now past c.args.order c.loop-key.lines es) c.in-Some.ensures.steps c.loop-key.invariant)
          (subst (λ n. 1 ≤ n) c.get-number.ensures.value c.get-number.ensures.low)
          (subst (λ n. n ≤ 15) c.get-number.ensures.value c.get-number.ensures.high),
    )

pub told_at-found-requires : goal.told_at-found-requires
told_at-found-requires c =
    let now = (rows c.args.self.now.tables).order_lines in
    let past = (rows_of c.args.self.now).order_lines in
    stands_at now past c.args.order c.loop-key.lines _ c.next.new.self
    (subst (λ es. Fills now past c.args.order c.loop-key.lines es) c.in-Some.ensures.steps c.loop-key.invariant)

pub loop-key-preserved-in-Some-found : goal.loop-key-preserved-in-Some-found
loop-key-preserved-in-Some-found c =
    let now = (rows c.args.self.now.tables).order_lines in
    let past = (rows_of c.args.self.now).order_lines in
    subst (λ ls. Fills now past c.args.order ls c.next.new.self) (sym c.push.ensures)
    (takes now past c.args.order c.loop-key.lines _ c.next.new.self c.in-Some-found.line
    (subst (λ es. Fills now past c.args.order c.loop-key.lines es) c.in-Some.ensures.steps c.loop-key.invariant)
    (sym c.told_at-found.ensures ∙ c.in-Some-found.is)
    (subst (λ n. 1 ≤ n) c.get-number.ensures.value c.get-number.ensures.low))

pub returns : goal.returns
returns c =
    ends (rows c.args.self.now.tables).order_lines (rows_of c.args.self.now).order_lines c.args.order c.loop-key.lines
    c.loop-key.key-iterator c.in-None.ensures.steps.0 c.loop-key.invariant
