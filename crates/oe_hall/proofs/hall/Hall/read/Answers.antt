use Rattle.std.proofs.Common.{ℕ, inr, refl, ap, ◌∙◌}
use Rattle.std.specs.Arc.{arc_value}
use Rattle.oe_moments.specs.Pins.{TheKeeper}
use Rattle.oe_requests.specs.declared.refusals.Refusal.TheVariants as refusal
use Rattle.std.specs.Prelude.{Err}
use Rattle.oe_hall.proofs.hall.Hall.read.Goals as goal

-- the keeper found another word
pub returns-in-Err-clause-called : goal.returns-in-Err-clause-called
returns-in-Err-clause-called g c =
    let i = c.self.invariant in
    let found = c.in-Err.ensures.found in
    let err = c.in-Err.ensures.err in
    inr (
      (
        record {
          core = c.self.inside.recorded.core;
          history = c.self.inside.recorded.history;
          counts = c.self.inside.totals;
          keeper = c.find.new.keeper.notes;
          words = arc_value c.self.inside.moments;
        },
        (i.0, ap (λ (k : TheKeeper). k.notes.horizon) found ∙ i.2),
        i.4,
        ap (λ (k : TheKeeper). k.notes.found.desk) found,
        (λ same. err.1 (err.0 ∙ same)),
        ap (λ (n : ℕ). Err (refusal.NotPinned n)) err.0,
      ),
      refl,
    )
