-- A run without a transaction that was rolled back.
use Rattle.std.specs.Prelude.{ℕ, ◌==◌, Bool, true, false, cond, Option, None, Some, List, [], ◌∷◌, ◌++◌}
use Rattle.oe_theory.specs.Machine.{Machine}
use Rattle.oe_theory.specs.Next.{Step, Answer, Begun, More, Committed, Saved, Gone_back, Rolled_back, Replied, Audited}
use Rattle.oe_theory.specs.Next.{Purged, Rewound, Aborted, Rejected, Busy, Undo_full, Not_open, Already_open, Too_old}
use Rattle.oe_theory.specs.Next.{Future, Not_quiet, No_memory, works_on, Event}

module _ (M : Machine) where
  -- a refusal that has changed nothing
  abbrev pub is_idle : Answer M → Bool
  is_idle Begun = false
  is_idle More = false
  is_idle (Committed m r) = false
  is_idle Saved = false
  is_idle Gone_back = false
  is_idle Rolled_back = false
  is_idle (Replied f) = false
  is_idle (Audited v) = false
  is_idle (Purged m) = false
  is_idle (Rewound m) = false
  is_idle (Aborted e) = false
  is_idle (Rejected e) = true
  is_idle (Busy n u) = true
  is_idle Undo_full = true
  is_idle Not_open = true
  is_idle Already_open = true
  is_idle (Too_old m) = true
  is_idle (Future m) = true
  is_idle (Not_quiet n) = true
  is_idle No_memory = true

  -- an answer after which the transaction is gone, and forgotten
  abbrev pub is_rollback : Answer M → Bool
  is_rollback Rolled_back = true
  is_rollback (Aborted e) = true
  is_rollback Begun = false
  is_rollback More = false
  is_rollback (Committed m r) = false
  is_rollback Saved = false
  is_rollback Gone_back = false
  is_rollback (Replied f) = false
  is_rollback (Audited v) = false
  is_rollback (Purged m) = false
  is_rollback (Rewound m) = false
  is_rollback (Rejected e) = false
  is_rollback (Busy n u) = false
  is_rollback Undo_full = false
  is_rollback Not_open = false
  is_rollback Already_open = false
  is_rollback (Too_old m) = false
  is_rollback (Future m) = false
  is_rollback (Not_quiet n) = false
  is_rollback No_memory = false

  -- an answer after which the transaction is part of the history
  abbrev pub is_commit : Answer M → Bool
  is_commit (Committed m r) = true
  is_commit Rolled_back = false
  is_commit (Aborted e) = false
  is_commit Begun = false
  is_commit More = false
  is_commit Saved = false
  is_commit Gone_back = false
  is_commit (Replied f) = false
  is_commit (Audited v) = false
  is_commit (Purged m) = false
  is_commit (Rewound m) = false
  is_commit (Rejected e) = false
  is_commit (Busy n u) = false
  is_commit Undo_full = false
  is_commit Not_open = false
  is_commit Already_open = false
  is_commit (Too_old m) = false
  is_commit (Future m) = false
  is_commit (Not_quiet n) = false
  is_commit No_memory = false

  -- the number is the one named
  abbrev pub names : ℕ → Option ℕ → Bool
  names t None = false
  names t (Some u) = u == t

  -- the step is of the transaction that the terminal has open
  abbrev pub is_of : ℕ → Step M → Bool
  is_of t s = names t (works_on M s)

  -- the refused steps left out, but for those that rolled their transaction back
  abbrev pub tidy : List (Event M) → List (Event M)
  tidy [] = []
  tidy (e ∷ es) = cond (is_idle e.answer) (tidy es) (e ∷ tidy es)

  -- the terminal's open transaction is rolled back in these events
  abbrev pub is_rolled_back : ℕ → List (Event M) → Bool
  is_rolled_back t [] = false
  is_rolled_back t (e ∷ es) =
      cond (is_of t e.step) (cond (is_rollback e.answer) true (cond (is_commit e.answer) false (is_rolled_back t es)))
      (is_rolled_back t es)

  -- the events without the terminal's transaction
  abbrev pub events_without : ℕ → List (Event M) → List (Event M)
  events_without t [] = []
  events_without t (e ∷ es) =
      cond (is_of t e.step) (cond (is_rollback e.answer) (tidy es) (events_without t es))
      (cond (is_idle e.answer) (events_without t es) (e ∷ events_without t es))

  -- all events, where the transaction begins between the first and the others
  abbrev pub without : List (Event M) → ℕ → List (Event M) → List (Event M)
  without before t after = tidy before ++ events_without t after
