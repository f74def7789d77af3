-- The terminal whose transaction a step is about, and whether an answer leaves it open.
use Rattle.std.specs.Prelude.{ℕ, Bool, true, false, Option, None, Some}
use Rattle.oe_theory.specs.Machine.{Machine}
use Rattle.oe_theory.specs.Next.{Step, Begin, Advance, Save, Back, Rollback, Read, Audit, Purge, Rewind}
use Rattle.oe_theory.specs.Next.{Answer, Begun, More, Committed, Saved, Gone_back, Rolled_back, Replied, Audited}
use Rattle.oe_theory.specs.Next.{Purged, Rewound, Aborted, Rejected, Busy, Undo_full, Not_open, Already_open, Too_old}
use Rattle.oe_theory.specs.Next.{Future, Not_quiet, No_memory}

module _ (M : Machine) where
  -- the terminal whose step it is
  abbrev pub terminal_of : Step M → Option ℕ
  terminal_of (Begin t q) = Some t
  terminal_of (Advance t) = Some t
  terminal_of (Save t) = Some t
  terminal_of (Back t) = Some t
  terminal_of (Rollback t) = Some t
  terminal_of (Read m q) = None
  terminal_of (Audit m c) = None
  terminal_of (Purge m) = None
  terminal_of (Rewind m) = None

  -- whether a terminal's transaction is open after an answer to it
  abbrev pub after : Bool → Answer M → Bool
  after b Begun = true
  after b (Committed m r) = false
  after b Rolled_back = false
  after b (Aborted e) = false
  after b More = b
  after b Saved = b
  after b Gone_back = b
  after b (Replied f) = b
  after b (Audited v) = b
  after b (Purged m) = b
  after b (Rewound m) = b
  after b (Rejected e) = b
  after b (Busy n u) = b
  after b Undo_full = b
  after b Not_open = b
  after b Already_open = b
  after b (Too_old m) = b
  after b (Future m) = b
  after b (Not_quiet n) = b
  after b No_memory = b
