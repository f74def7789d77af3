use Rattle.std.proofs.Common.{◌≡◌, ◌==◌, [], length, true, false, sym, ◌∙◌}
use Rattle.std.proofs.lemmas.Bool.{eq-eqb, eqb-true}
use Rattle.oe_file_serial.specs.Files.{last_line_fault}
use Rattle.oe_file_serial.proofs.BadFacts.{none_bad, unended_bad}
use Rattle.oe_file_serial.proofs.lines.bad_last.Goals as goal

pub returns-then-is_empty : goal.returns-then-is_empty
returns-then-is_empty c =
    let o = c.note_opening.ensures.shown in
    let none : (length c.args.input.now == 0) ≡ true = sym c.is_empty.ensures ∙ c.if-is_empty.true in (
      o.0,
      none_bad c.args.kind c.args.input.now o.0 (eqb-true (length c.args.input.now) 0 none) o.1,
      o.2 [] c.none-bad.ensures.shown,
    )

pub returns : goal.returns
returns c =
    let some : (length c.args.input.now == 0) ≡ false = sym c.is_empty.ensures ∙ c.if-is_empty.false in (
      last_line_fault 1 c.args.input.now,
      unended_bad c.args.kind c.args.input.now c.requires
          (λ e.
          let same : true ≡ false = sym (eq-eqb (length c.args.input.now) 0 e) ∙ some in
          let never : ⊥ = cc in
          never),
      c.note_last.ensures [] c.none-bad.ensures.shown,
    )
