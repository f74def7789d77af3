use Rattle.std.proofs.Common.{◌+◌, option_map, arith}
use Rattle.oe_busy.specs.Happenings.{count_in}
use Rattle.oe_busy.proofs.FirstFacts.{shows_none, shows_more, shows_all, shows_most}
use Rattle.oe_busy.proofs.firsts.some_lines.Goals as goal

pub loop-shown-init : goal.loop-shown-init
loop-shown-init c = (shows_none (count_in c.args.counts.now) c.args.most c.args.out.now.items, omega arith)

pub loop-shown-preserved : goal.loop-shown-preserved
loop-shown-preserved c = (
  shows_more (count_in c.args.counts.now) c.args.most c.args.out.now.items c.loop-shown.out.items
      c.name_line.new.out.items
      (option_map (λ n. n.now) c.loop-shown.last) c.in-Some.name.now c.loop-shown.shown (omega arith) c.in-Some.ensures
      c.loop-shown.invariant.0 c.name_line.ensures.items,
  omega (arith, c.loop-shown.invariant.1, c.name_line.ensures.len),
)

pub returns-in_default-clause-items : goal.returns-in_default-clause-items
returns-in_default-clause-items c =
    shows_all (count_in c.args.counts.now) c.args.most c.args.out.now.items c.loop-shown.out.items
    (option_map (λ n. n.now) c.loop-shown.last) c.loop-shown.shown (omega arith) c.in_default.ensures
    c.loop-shown.invariant.0

pub returns-clause-items : goal.returns-clause-items
returns-clause-items c =
    shows_most (count_in c.args.counts.now) c.args.most c.args.out.now.items c.loop-shown.out.items
    (option_map (λ n. n.now) c.loop-shown.last) c.loop-shown.shown (omega arith) c.loop-shown.invariant.0
