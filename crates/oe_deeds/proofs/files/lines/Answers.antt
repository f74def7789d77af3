use Rattle.std.proofs.Common.{◌+◌, ◌++◌, take, drop, ◌∙◌, ap, arith}
use Rattle.std.specs.List.{flat_map}
use Rattle.oe_io.proofs.Streaming.{sent_none, sent_then, sent_cut, sent_as, cut_as, cut_more}
use Rattle.oe_io.proofs.FrontFacts.{front_more, front_and_rest, front_all}
use Rattle.oe_deeds.specs.Files.{commit_line}
use Rattle.oe_deeds.proofs.files.lines.Goals as goal

pub loop-commit-init : goal.loop-commit-init
loop-commit-init g c = sent_none (g.W.Outlet.sink c.args.to.now) c.args.out.now.items

pub loop-commit-preserved : goal.loop-commit-preserved
loop-commit-preserved g c =
    let old = g.W.Outlet.sink c.args.to.now in
    let new = g.W.Outlet.sink c.put.new.to in
    sent_as old new c.args.out.now.items c.put.new.out.items _ _
    (front_more commit_line c.args.commits.now c.loop-commit.commit-index c.commit-item.result c.commit-item.is
    (omega arith))
    (sent_then old (g.W.Outlet.sink c.loop-commit.to) new c.args.out.now.items c.loop-commit.out.items
    c.put.new.out.items
    (flat_map commit_line (take c.loop-commit.commit-index c.args.commits.now)) (commit_line c.commit-item.result)
    c.loop-commit.invariant c.in_default.ensures)

pub returns-in-Err : goal.returns-in-Err
returns-in-Err g c =
    let old = g.W.Outlet.sink c.args.to.now in
    let new = g.W.Outlet.sink c.put.new.to in
    let before = flat_map commit_line (take c.loop-commit.commit-index c.args.commits.now) in
    let rest = flat_map commit_line (drop (c.loop-commit.commit-index + 1) c.args.commits.now) in
    cut_as old new c.args.out.now.items ((before ++ commit_line c.commit-item.result) ++ rest) _
    (ap (λ t. t ++ rest) (front_more commit_line c.args.commits.now c.loop-commit.commit-index c.commit-item.result
    c.commit-item.is (omega arith))
    ∙ front_and_rest commit_line c.args.commits.now (c.loop-commit.commit-index + 1))
    (cut_more old new c.args.out.now.items (before ++ commit_line c.commit-item.result) rest
    (sent_cut old (g.W.Outlet.sink c.loop-commit.to) new c.args.out.now.items c.loop-commit.out.items before
    (commit_line c.commit-item.result) c.loop-commit.invariant c.in-Err.ensures))

pub returns : goal.returns
returns g c =
    sent_as (g.W.Outlet.sink c.args.to.now) (g.W.Outlet.sink c.loop-commit.to) c.args.out.now.items
    c.loop-commit.out.items
    _ _ (front_all commit_line c.args.commits.now c.loop-commit.commit-index (omega arith)) c.loop-commit.invariant
