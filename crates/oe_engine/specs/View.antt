-- What an engine stands for, in the words of the theory of transactions.
use Rattle.std.specs.Prelude.{◌≡◌, ℕ, Bool, true, false, List, [], Option, None, is_some, option_map}
use Rattle.oe_rows.specs.declared.layouts.Layout.{Layout}
use Rattle.oe_rows.specs.declared.locks.Name.{Name}
use Rattle.oe_theory.specs.Machine as theory
use Rattle.oe_theory.specs.Undo.{Undo, no_records}
use Rattle.oe_theory.specs.Store.{Seal}
use Rattle.oe_model.specs.Rows.{Rows}
use Rattle.oe_model.specs.Locks.{mode_of}
use Rattle.oe_model.specs.System.{system}
use Rattle.oe_store.specs.Places.{rows}
use Rattle.oe_store.specs.Places as tables
use Rattle.oe_log.specs.Log.{active_at}
use Rattle.oe_log.specs.Log as undo
use Rattle.oe_log.specs.Stands.{undo_of, seals_of, counts_of}
use Rattle.oe_undo.specs.Links.{LinkMaps}
use Rattle.oe_locks.specs.Held.{Holdings, mode_held}
use Rattle.oe_engine.specs.declared.renames.Renames.{Renames}

-- the rows as they are, open work included; the undo records of open transactions and of commits; the commits, newest
-- first; the terminals' counts of commits; what each terminal holds; which have a transaction open; and how many
-- extents there are for records, and their layout
pub record View : Type 0 where
  pub rows : Rows
  pub undo : Undo system
  pub seals : List (Seal system)
  pub counts : ℕ → ℕ
  pub held : ℕ → Name → Option theory.Mode
  pub is_open : ℕ → Bool
  pub extents : ℕ
  pub layout : Layout

-- what tables, an undo log and holdings of locks stand for together
unfoldable pub view_from : tables.Places → undo.SegmentLog → Holdings → View
view_from ts u ls = record {
  rows = rows ts;
  undo = undo_of u;
  seals = seals_of u;
  counts = counts_of u;
  held = λ t n. option_map mode_of (mode_held ls t n);
  is_open = λ t. is_some (active_at u t);
  extents = u.extents;
  layout = u.layout;
}

-- all that is stored
pub record EngineState : Type 0 where
  pub tables : tables.Places
  pub undo : undo.SegmentLog
  pub links : LinkMaps
  pub locks : Holdings
  pub renames : Renames
  pub name : ℕ

-- what it stands for. Places of blanked keys, links, the order in which names are kept, and what is known of renames
-- are not part of that
unfoldable pub view_of : EngineState → View
view_of s = view_from s.tables s.undo s.locks

-- a transaction of an engine, by its terminal
pub record Handle : Type 0 where
  pub engine : ℕ
  pub terminal : ℕ

-- the transaction is open in this engine
pub record IsOpen (s : EngineState) (x : Handle) : Type 0 where
  pub engine : x.engine ≡ s.name
  pub terminal : (view_of s).is_open x.terminal ≡ true

-- an engine in which nothing has begun
abbrev pub opened_view : Rows → ℕ → Layout → View
opened_view r n l = record {
  rows = r;
  undo = no_records system;
  seals = [];
  counts = λ _. 0;
  held = λ _ _. None;
  is_open = λ _. false;
  extents = n;
  layout = l;
}
