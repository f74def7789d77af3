-- Records of an open segment that are being put back.
use Rattle.std.specs.Prelude.{◌≡◌, ℕ, length, take, drop, is_some}
use Rattle.oe_theory.specs.Undo.{unwind, put_records}
use Rattle.oe_model.specs.System.{system}
use Rattle.oe_store.specs.Places.{rows}
use Rattle.oe_store.specs.Places as tables
use Rattle.oe_log.specs.Log.{SegmentLog, active_at}
use Rattle.oe_log.specs.Stands.{undo_of, seals_of, counts_of}
use Rattle.oe_journal.specs.GoesBack.{HavePlaces}
use Rattle.oe_journal.specs.Named.{GivesUpUnnamed}

-- a log with other records of one terminal's open segment, and tables with places for rows and for what records name
pub record Unwinding (ts : tables.Places) (u : SegmentLog) (t : ℕ) (ts' : tables.Places) (u' : SegmentLog) : Type
    0 where
  pub is_open : (x : ℕ) → is_some (active_at u' x) ≡ is_some (active_at u x)
  pub undo : undo_of u' ≡ put_records system t ((undo_of u').active t) (undo_of u)
  pub seals : seals_of u' ≡ seals_of u
  pub counts : counts_of u' ≡ counts_of u
  pub size : length u'.terminals ≡ length u.terminals
  pub extents : u'.extents ≡ u.extents
  pub layout : u'.layout ≡ u.layout
  pub places : GivesUpUnnamed ts ts' (undo_of u) (undo_of u')
  pub own : HavePlaces ts' ((undo_of u').active t)

-- `count` records were put back, the newest first, and dropped
pub record TakesBack (ts : tables.Places) (u : SegmentLog) (t count : ℕ) (ts' : tables.Places) (u' : SegmentLog) : Type
    0 where
  pub rows : rows ts' ≡ unwind system (take count ((undo_of u).active t)) (rows ts)
  pub records : (undo_of u').active t ≡ drop count ((undo_of u).active t)
  pub others : Unwinding ts u t ts' u'
