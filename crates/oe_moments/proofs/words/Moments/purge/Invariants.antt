use Rattle.std.specs.Prelude.{◌≡◌, ◌≤◌, true}
use Rattle.oe_moments.specs.Rule.{turn}
use Rattle.oe_moments.proofs.words.Moments.purge.Given as goal

abbrev pub invariant-loop-desk : goal.invariant-loop-desk
invariant-loop-desk l = (l.keeper.words ≡ l.fn.self) × (l.keeper.notes.scanning ≡ true)
    × (l.keeper.notes.passed ≡ l._desk) × (l.keeper.notes.horizon ≡ l.fn.keeper.notes.horizon)
    × (l.keeper.notes.claim ≡ l.fn.moment) × (l.keeper.notes.turned ≡ turn l.fn.keeper.notes.turned)
    × (l.keeper.notes.least ≤ l.fn.moment) × (l.keeper.notes.found ≡ l.fn.keeper.notes.found)
