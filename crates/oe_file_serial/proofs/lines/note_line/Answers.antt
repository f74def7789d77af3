use Rattle.std.proofs.Common.{[], ◌∷◌, refl, sym, subst, inl, inr}
use Rattle.std.proofs.lemmas.Bool.{both_ways}
use Rattle.std.proofs.lemmas.List.{append-nil}
use Rattle.oe_file_serial.specs.Files.{Shows}
use Rattle.oe_file_serial.proofs.lines.note_line.Goals as goal

pub returns-else-not-is_told-clause-shown : goal.returns-else-not-is_told-clause-shown
returns-else-not-is_told-clause-shown c = (
  [],
  inl (c.is_told.ensures.0 c.if-not-is_told.false, refl),
  λ b s. subst (Shows c.args.bad.now) (sym (append-nil b)) s,
)

pub returns-then-not-is_told-clause-shown : goal.returns-then-not-is_told-clause-shown
returns-then-not-is_told-clause-shown c = (
  record { number = c.args.number; why = c.why_line.result } ∷ [],
  inr (
    λ told. both_ways c.is_told.result c.if-not-is_told.true (c.is_told.ensures.1 told),
    (
      record { number = c.args.number; why = c.why_line.result },
      [],
      refl,
      c.why_line.ensures,
      refl,
      refl,
    ),
  ),
  c.note.ensures.shown,
)
