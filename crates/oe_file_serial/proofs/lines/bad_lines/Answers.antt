use Rattle.std.proofs.Common.{ℕ, ◌+◌, List, [], ◌∷◌, ◌++◌, length, refl, sym, subst}
use Rattle.oe_file_serial.specs.Files.{AreBadOf, last_line_fault, lines_of, last_of}
use Rattle.oe_file_serial.specs.declared.reasons.BadLine.{BadLine}
use Rattle.oe_file_serial.proofs.LineFacts.{next_line}
use Rattle.oe_file_serial.proofs.lines.bad_lines.Goals as goal

pub returns : goal.returns
returns c =
    let rest = c.in-Some.rest.now in
    let next = next_line c.args.input.now c.in-Some.first.now rest c.in-Some.ensures in
    let o = c.note_opening.ensures.shown in
    let m = c.note_lines.ensures in
    let bad : List BadLine = o.0 ++ m.0 ++ last_line_fault (length (lines_of rest) + 2) (last_of rest) in (
      bad,
      subst (λ (ls : List (List ℕ)). AreBadOf c.args.kind ls (last_of c.args.input.now) bad) (sym next.0)
          (subst (λ (last : List ℕ). AreBadOf c.args.kind (c.in-Some.first.now ∷ lines_of rest) last bad) (sym next.1)
          (o.0, m.0, o.1, m.1, refl)),
      m.2 o.0 (o.2 [] c.none-bad.ensures.shown),
    )
