use Rattle.std.proofs.Common.{◌++◌, codes, refl, sym, subst, ◌∙◌}
use Rattle.oe_theory.proofs.Sets.{some_none}
use Rattle.oe_values.proofs.FrontFacts.{after_found}
use Rattle.oe_lines.specs.Grammar.{Says}
use Rattle.oe_lines.specs.declared.commands.Command.TheVariants as command
use Rattle.oe_file_serial.proofs.RingFacts.{smallest, opens_ring, ring_said}
use Rattle.oe_file_serial.proofs.lines.opens_ring.Goals as goal

pub returns-in_default-command_behind : goal.returns-in_default-command_behind
returns-in_default-command_behind c =
    let line = c.args.line.now in
    let rest = c.in-Some.rest.now in
    let is = after_found (codes "open ") line rest (sym c.in-Some.ensures) in (
      λ yes. let never : ⊥ = cc in absurd never,
      λ o. absurd (some_none (command.Open smallest o.ring)
          (sym (c.command_behind.ensures.only (command.Open smallest o.ring) (ring_said line rest o is))
          ∙ c.in_default-command_behind.is)),
    )

pub returns-in-Open : goal.returns-in-Open
returns-in-Open c =
    let line = c.args.line.now in
    let rest = c.in-Some.rest.now in
    let is = after_found (codes "open ") line rest (sym c.in-Some.ensures) in (
      λ yes.
          opens_ring line rest c.in-Open.field-0 c.in-Open.field-1 c.if-line-gt-LINE.false is
          (subst (Says (codes "open 1 1 1 " ++ rest)) c.in-Open.is c.in-Some-command_behind.ensures.found),
      λ o. refl,
    )
