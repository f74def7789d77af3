-- What an engine keeps of its tables, its undo log and its locks together.
use Rattle.std.specs.Prelude.{◌≡◌, ℕ, suc, ◌<◌, true, false, length, is_some}
use Rattle.oe_values.specs.declared.numbers.TheConstants.{TERMINALS}
use Rattle.oe_store.specs.Places as tables
use Rattle.oe_log.specs.Log.{active_at, count_at}
use Rattle.oe_log.specs.Log as undo
use Rattle.oe_log.specs.Stands.{undo_of}
use Rattle.oe_locks.specs.Held.{Holdings, HoldsNothing}
use Rattle.oe_undo.specs.Undo.{UndoState}
use Rattle.oe_journal.specs.GoesBack.{HavePlaces, AllHavePlaces}
use Rattle.oe_journal.specs.Linked.{AreLinked}
use Rattle.oe_journal.specs.Named.{AreNeeded}
use Rattle.oe_engine.specs.View.{view_from}
use Rattle.oe_engine.specs.Covered.{IsSafe}
use Rattle.oe_engine.specs.Renames.{AreNamed}
use Rattle.oe_engine.specs.declared.renames.Renames.{Renames}

pub record IsKept (ts : tables.Places) (u : undo.SegmentLog) (ls : Holdings) : Type 0 where
  pub size : length u.terminals ≡ suc TERMINALS
  -- the records of open transactions and of commits can be put back
  pub active : (t : ℕ) → HavePlaces ts ((undo_of u).active t)
  pub history : AllHavePlaces ts (undo_of u).history
  -- a key that no record names has a place only where it has a row
  pub needed : AreNeeded ts (undo_of u)
  -- a terminal without an open transaction holds no name
  pub idle : (t : ℕ) → is_some (active_at u t) ≡ false → HoldsNothing ls t
  -- the number of an open transaction is in its range
  pub counted : (t : ℕ) → is_some (active_at u t) ≡ true → count_at u t < 4_294_967_295

-- its tables, undo log and locks
pub record IsSound (ts : tables.Places) (s : UndoState) (ls : Holdings) : Type 0 where
  pub kept : IsKept ts s.log ls
  pub safe : IsSafe (view_from ts s.log ls)
  -- only an insert at a key without a place in its table takes memory for a link
  pub linked : AreLinked ts s.links

-- and what it knows of its customers' names
pub record IsOrderly (ts : tables.Places) (s : UndoState) (ls : Holdings) (n : Renames) : Type 0 where
  pub sound : IsSound ts s ls
  pub named : AreNamed (view_from ts s.log ls) n
