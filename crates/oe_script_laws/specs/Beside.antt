-- What others are answered while a transaction is open, and would be answered without it.
use Rattle.std.specs.Prelude.{◌≡◌, ◌≢◌, ℕ, ◌-◌, ◌==◌, Bool, false, true, nat_le, Option, None, Some}
use Rattle.oe_theory.specs.Machine.{Machine}
use Rattle.oe_theory.specs.World.{Open, World}
use Rattle.oe_theory.specs.Next.{Step, Begin, Advance, Save, Back, Rollback, Read, Audit, Purge, Rewind, Answer, Busy}
use Rattle.oe_theory.specs.Next.{Undo_full, Already_open, Not_quiet, used_by, works_on, put_active, Next}
use Rattle.oe_theory.specs.Theorems.{IsReached}
use Rattle.oe_theory.specs.Erase.{names}

module _ (M : Machine) where
  -- the terminal whose transaction begins with the step
  abbrev pub begins_at : Step M → Option ℕ
  begins_at (Begin t q) = Some t
  begins_at (Advance t) = None
  begins_at (Save t) = None
  begins_at (Back t) = None
  begins_at (Rollback t) = None
  begins_at (Read m q) = None
  begins_at (Audit m c) = None
  begins_at (Purge m) = None
  begins_at (Rewind m) = None

  -- the transaction's records fill an extent of the ring, or more
  abbrev pub holds_extent : Option (Open M) → Bool
  holds_extent v = nat_le 1 (used_by M v)

  -- the refusal is there only since terminal t has this transaction open: it holds the lock, it is the one that is
  -- open, or the only one, or its records hold an extent of the ring that is full
  abbrev pub gives_way : ℕ → Option (Open M) → Step M → Answer M → Bool
  gives_way t v i (Busy n u) = u == t
  gives_way t v i Already_open = names M t (begins_at i)
  gives_way t v i Undo_full = holds_extent v
  gives_way t v i (Not_quiet n) = nat_le n 1
  gives_way t v i a = false

  -- any other answer without the transaction: a rewind counts one fewer that are open
  abbrev pub answer_without : Answer M → Answer M
  answer_without (Not_quiet n) = Not_quiet (n - 1)
  answer_without a = a

  -- the world in which the terminal's open transaction is forgotten
  abbrev pub without_open : ℕ → World M → World M
  without_open t w = put_active M t None w

  -- what others are answered beside an open transaction
  pub record Others_see_nothing : Type 0 where
    -- each step of others, unless it gives way to it, is answered so without it too
    pub others : (w v : World M) (i : Step M) (a : Answer M) (t : ℕ) (o : Open M) → IsReached M w
        → w.active t ≡ Some o → works_on M i ≢ Some t
        → Next M w i a v → gives_way t (Some o) i a ≡ false
        → Next M (without_open t w) i (answer_without a) (without_open t v)
    -- and a step that gives way to it is answered otherwise without it
    pub ways : (w v : World M) (i : Step M) (a : Answer M) (t : ℕ) (o : Open M) → IsReached M w → w.active t ≡ Some o
        → Next M w i a v → gives_way t (Some o) i a ≡ true
        → (u : World M) → Next M (without_open t w) i a u → ⊥
