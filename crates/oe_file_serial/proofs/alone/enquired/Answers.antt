use Rattle.std.proofs.Common.{ℕ, List, lit<, sym, subst}
use Rattle.oe_model.specs.System.{system}
use Rattle.oe_file_serial.specs.InOrder.{between}
use Rattle.oe_file_serial.specs.Answers.{Answers}
use Rattle.oe_file_serial.specs.declared.lines.Asked.TheVariants as asked
use Rattle.oe_file_serial.proofs.WorkFacts.{is_found}
use Rattle.oe_file_serial.proofs.alone.enquired.Goals as goal

pub clear-requires : goal.clear-requires
clear-requires g c = lit< tt

pub write_answer-requires : goal.write_answer-requires
write_answer-requires g c = c.clear.ensures

pub returns : goal.returns
returns g c =
    let b = between system (g.M.Machine.world c.args.core.now) in
    subst (λ (z : List ℕ). Answers b (asked.Query c.args.query.now) z b) (sym c.write_answer.ensures)
    (is_found (g.M.Machine.world c.args.core.now) (g.M.Machine.world c.args.core.now) c.newest.result c.args.query.now
    c.read.result
    c.requires c.read.ensures.0 c.newest.ensures)
