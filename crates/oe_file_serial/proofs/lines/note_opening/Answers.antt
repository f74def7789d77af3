use Rattle.std.proofs.Common.{[], ◌∷◌, refl, sym, subst, inl, inr}
use Rattle.std.proofs.lemmas.Bool.{both_ways}
use Rattle.std.proofs.lemmas.List.{append-nil}
use Rattle.oe_file_serial.specs.Files.{Shows}
use Rattle.oe_file_serial.proofs.lines.note_opening.Goals as goal

pub why_opening-requires : goal.why_opening-requires
why_opening-requires c = λ is. both_ways c.opens.result c.if-not-opens.true (c.opens.ensures.1 is)

pub returns-else-not-opens-clause-shown : goal.returns-else-not-opens-clause-shown
returns-else-not-opens-clause-shown c = (
  [],
  inl (c.opens.ensures.0 c.if-not-opens.false, refl),
  λ b s. subst (Shows c.args.bad.now) (sym (append-nil b)) s,
)

pub returns-then-not-opens-clause-shown : goal.returns-then-not-opens-clause-shown
returns-then-not-opens-clause-shown c = (
  record { number = 1; why = c.why_opening.result } ∷ [],
  inr (
    λ is. both_ways c.opens.result c.if-not-opens.true (c.opens.ensures.1 is),
    (record { number = 1; why = c.why_opening.result }, refl, c.why_opening.ensures, refl),
  ),
  c.note.ensures.shown,
)
