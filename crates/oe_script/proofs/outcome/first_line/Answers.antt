use Rattle.std.proofs.Common.{◌≡◌, Option, None, Some, sym, ◌∙◌, ap, subst}
use Rattle.oe_lines.specs.declared.commands.Command.{Command}
use Rattle.oe_io.specs.Lines.{bad_line}
use Rattle.oe_script.specs.Script.{LineAnswer}
use Rattle.oe_script.specs.Session.{state_of}
use Rattle.oe_script.proofs.LineFacts.{refused}
use Rattle.oe_script.proofs.outcome.first_line.Goals as goal

pub returns-in-Some : goal.returns-in-Some
returns-in-Some g c = c.first.ensures c.args.line.now c.requires.short c.in-Some.ensures.found

pub returns-in-None : goal.returns-in-None
returns-in-None g c = (
  bad_line c.args.number,
  subst (LineAnswer None c.args.number c.args.line.now (bad_line c.args.number))
      (sym (ap (state_of g.M.Machine.world) c.requires.none))
      (refused None c.args.number c.args.line.now
      (λ d asks. let said : ◌≡◌ {A = Option Command} None (Some d) = sym c.in-None.is
      ∙ c.command.ensures.only d asks.says in let no : ⊥ = cc in no)),
  c.bad.ensures,
  λ d asks. let said : ◌≡◌ {A = Option Command} None (Some d) = sym c.in-None.is ∙ c.command.ensures.only d asks.says in
      let no : ⊥ = cc in no,
)
