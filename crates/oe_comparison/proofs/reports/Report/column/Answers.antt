use Rattle.std.proofs.Common.{rules}
use Rattle.oe_comparison.proofs.TextFacts.{told_column}
use Rattle.oe_comparison.proofs.reports.Report.column.Goals as goal

pub returns : goal.returns
returns c =
    told_column c.args.key.now c.args.place c.args.theirs.now c.args.ours.now c.args.self.now c.put.new.self
    c.put-2.new.self c.put-3.new.self c.put-4.new.self c.end.new.self c.end.result
    (search rules) (search rules) c.in_default-put-2.ensures (search rules) c.end.ensures
