use Rattle.std.proofs.Common.{ℕ, List, length, sym, ap, subst, arith}
use Rattle.std.specs.Prelude.{All}
use Rattle.oe_model.specs.System.{system}
use Rattle.oe_file_serial.specs.Files.{IsTold, IsOpening, AreBad, lines_of}
use Rattle.oe_file_serial.specs.InOrder.{between}
use Rattle.oe_file_serial.specs.Verdicts.{opening_of}
use Rattle.oe_file_serial.specs.declared.origins.Opening.{Opening}
use Rattle.oe_file_serial.proofs.LineFacts.{next_line, no_line}
use Rattle.oe_file_serial.proofs.BadFacts.{is_formed}
use Rattle.oe_file_serial.proofs.VerdictFacts.{heads, no_head, decided, decision_so, no_tables}
use Rattle.oe_file_serial.proofs.verdicts.decide.Goals as goal

pub returns-then-bad-gt0 : goal.returns-then-bad-gt0
returns-then-bad-gt0 g c =
    let b = c.bad_lines-bad.ensures in
    let bad = subst (λ (k : Opening). AreBad k c.args.input.now b.0) c.opening.ensures b.1 in
    let some = c.if-bad-gt0.true in
    let count = b.2.count in
    (no_tables, (b.0, bad, λ none. let zero = ap length none in omega (arith, some, count, zero), b.2), tt)

pub unreachable-requires : goal.unreachable-requires
unreachable-requires g c =
    let b = c.bad_lines-bad.ensures in
    let o = opening_of c.args.origin in
    let bad = subst (λ (k : Opening). AreBad k c.args.input.now b.0) c.opening.ensures b.1 in
    let f = is_formed o c.args.input.now b.0 c.bad_lines-bad.result.count bad b.2.count c.if-bad-gt0.false in
    no_head (lines_of c.args.input.now) f.opening f.behind (no_line c.args.input.now c.in_default.ensures).0 f.are

pub unreachable-unreachable : goal.unreachable-unreachable
unreachable-unreachable g c =
    let b = c.bad_lines-bad.ensures in
    let o = opening_of c.args.origin in
    let bad = subst (λ (k : Opening). AreBad k c.args.input.now b.0) c.opening.ensures b.1 in
    let f = is_formed o c.args.input.now b.0 c.bad_lines-bad.result.count bad b.2.count c.if-bad-gt0.false in
    no_head (lines_of c.args.input.now) f.opening f.behind (no_line c.args.input.now c.in_default.ensures).0 f.are

pub begun-requires-clause-opening : goal.begun-requires-clause-opening
begun-requires-clause-opening g c =
    let b = c.bad_lines-bad.ensures in
    let o = opening_of c.args.origin in
    let bad = subst (λ (k : Opening). AreBad k c.args.input.now b.0) c.opening.ensures b.1 in
    let f = is_formed o c.args.input.now b.0 c.bad_lines-bad.result.count bad b.2.count c.if-bad-gt0.false in
    let next = next_line c.args.input.now c.in-Some.first.now c.in-Some.lines.now c.in-Some.ensures in
    let same = heads (lines_of c.args.input.now) c.in-Some.first.now f.opening (lines_of c.in-Some.lines.now) f.behind
    next.0 f.are in
    subst (IsOpening o) (sym same.0) f.opens

pub begun-requires-clause-origin : goal.begun-requires-clause-origin
begun-requires-clause-origin g c = c.requires

pub compared-requires-clause-told : goal.compared-requires-clause-told
compared-requires-clause-told g c =
    let b = c.bad_lines-bad.ensures in
    let o = opening_of c.args.origin in
    let bad = subst (λ (k : Opening). AreBad k c.args.input.now b.0) c.opening.ensures b.1 in
    let f = is_formed o c.args.input.now b.0 c.bad_lines-bad.result.count bad b.2.count c.if-bad-gt0.false in
    let next = next_line c.args.input.now c.in-Some.first.now c.in-Some.lines.now c.in-Some.ensures in
    let same = heads (lines_of c.args.input.now) c.in-Some.first.now f.opening (lines_of c.in-Some.lines.now) f.behind
    next.0 f.are in
    subst (λ (ls : List (List ℕ)). All IsTold ls) (sym same.1) f.told

pub compared-requires-clause-free : goal.compared-requires-clause-free
compared-requires-clause-free g c = c.in-Ok.ensures.0

pub returns-in-Ok-compared : goal.returns-in-Ok-compared
returns-in-Ok-compared g c =
    let b = c.bad_lines-bad.ensures in
    let o = opening_of c.args.origin in
    let bad = subst (λ (k : Opening). AreBad k c.args.input.now b.0) c.opening.ensures b.1 in
    let f = is_formed o c.args.input.now b.0 c.bad_lines-bad.result.count bad b.2.count c.if-bad-gt0.false in
    let next = next_line c.args.input.now c.in-Some.first.now c.in-Some.lines.now c.in-Some.ensures in
    let same = heads (lines_of c.args.input.now) c.in-Some.first.now f.opening (lines_of c.in-Some.lines.now) f.behind
    next.0 f.are in
    let told = subst (λ (ls : List (List ℕ)). All IsTold ls) (sym same.1) f.told in
    let s = c.in-Ok.ensures.1 in
    let v = c.in-Ok-compared.verdict in
    let end = between system (g.M.Machine.world c.compared.new.core) in
    decision_so c.args.origin c.args.input.now c.compared.new.ours.items c.closed.result v end
    c.closed.ensures.verdict
    (decided c.args.origin c.args.input.now c.in-Some.first.now c.compared.new.ours.items
    (lines_of c.in-Some.lines.now) s.0 (between system (g.M.Machine.world c.in-Ok.core)) end next.0 f.ended told s.1
    s.2 v
    c.in-Ok-compared.ensures)
    c.closed.ensures.tables
