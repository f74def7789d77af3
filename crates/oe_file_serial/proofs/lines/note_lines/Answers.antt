use Rattle.std.proofs.Common.{◌≡◌, ℕ, ◌+◌, List, [], ◌∷◌, ◌++◌, length, refl, sym, ap, subst, ◌∙◌, append_assoc, arith}
use Rattle.std.proofs.lemmas.List.{append-nil, length-append}
use Rattle.oe_file_serial.specs.Files.{Untold, Shows, last_line_fault, lines_of, last_of}
use Rattle.oe_file_serial.proofs.LineFacts.{next_line, no_line}
use Rattle.oe_file_serial.proofs.BadFacts.{untold_then}
use Rattle.oe_file_serial.specs.declared.reasons.BadLine.{BadLine}
use Rattle.oe_file_serial.proofs.lines.note_lines.Goals as goal

pub loop-line-preserved : goal.loop-line-preserved
loop-line-preserved c =
    let i = c.loop-line.invariant in
    let line = c.in-Some.line.now in
    let rest = c.in-Some.rest.now in
    let next = next_line c.loop-line.left.now line rest c.in-Some.ensures in
    let d = i.noted in
    let m = c.note_line.ensures.shown in
    let number = ap length next.0 in
    let long = ap length c.in-Some.ensures.whole in
    let parts = length-append line (10 ∷ rest) in
    record {
      noted = (
        d.0 ++ m.0,
        λ b s. subst (Shows c.note_line.new.bad) (append_assoc b d.0 m.0) (m.2 (b ++ d.0) (d.1 b s)),
        λ more u.
            subst (Untold 2 (lines_of c.args.lines.now)) (sym (append_assoc d.0 m.0 more))
            (d.2 (m.0 ++ more)
            (subst (λ (ls : List (List ℕ)). Untold c.loop-line.number ls (m.0 ++ more)) (sym next.0)
            (untold_then c.loop-line.number line (lines_of rest) m.0 more m.1 u))),
      );
      number = omega (arith, i.number, number);
      last = i.last ∙ next.1;
      small = omega (arith, i.small, long, parts);
      count = omega (arith, i.count, c.note_line.ensures.count);
    }

pub returns : goal.returns
returns c =
    let i = c.loop-line.invariant in
    let left = c.loop-line.left.now in
    let none = no_line left c.in_default.ensures in
    let d = i.noted in
    let lines = c.args.lines.now in
    let length_none = ap length none.0 in
    let number : c.loop-line.number ≡ length (lines_of lines) + 2 = omega (arith, i.number, length_none) in
    let same : last_line_fault c.loop-line.number left ≡ last_line_fault (length (lines_of lines) + 2) (last_of lines) =
    ap (λ (k : ℕ). last_line_fault k left) number
    ∙ ap (last_line_fault (length (lines_of lines) + 2)) (sym (i.last ∙ none.1)) in (
      d.0,
      subst (Untold 2 (lines_of lines)) (append-nil d.0)
          (d.2 [] (subst (λ (ls : List (List ℕ)). Untold c.loop-line.number ls []) (sym none.0) refl)),
      λ b s.
          subst (λ (u : List BadLine). Shows c.note_last.new.bad (b ++ d.0 ++ u)) same
          (c.note_last.ensures (b ++ d.0) (d.1 b s)),
    )
