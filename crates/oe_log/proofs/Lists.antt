-- The records by terminal and by commit, and what calls do to them: a step between the strings of the ring and what is
-- seen.
use Rattle.std.specs.Prelude.{◌-◌, ℕ, suc, List, [], ◌∷◌, length, map, take, drop, get_or, set, replicate}
use Rattle.oe_values.specs.declared.numbers.TheConstants.{TERMINALS}
use Rattle.oe_extent.specs.Ring.{RingStrings}
use Rattle.oe_log.specs.Records.{Logged}
use Rattle.oe_log.specs.Strings.{records_in}

-- all of them, and the numbers that are kept with them
pub record RecordLists : Type 0 where
  pub extents : ℕ
  -- how many segments are open
  pub opens : ℕ
  -- each terminal's records, the newest first, by the terminals' numbers, from 0, which is nobody's, to 64
  pub active : List (List Logged)
  -- those of commits, the newest commit first
  pub committed : List (List Logged)
  -- the moment of the newest commit
  pub newest : ℕ

-- a terminal's records
abbrev pub records_at : RecordLists → ℕ → List Logged
records_at v t = get_or v.active t []

-- for each slot none; shut, so that no proof counts them
unfoldable pub no_lists : List (List Logged)
no_lists = replicate (suc TERMINALS) []

-- nothing recorded, nothing committed
abbrev pub no_records : ℕ → RecordLists
no_records e =
    record { extents = e; opens = 0; active = no_lists; committed = []; newest = 0 }

-- another segment open
abbrev pub with_one_open_more : RecordLists → RecordLists
with_one_open_more v = record v { opens = suc v.opens }

-- one open segment less
abbrev pub with_one_open_less : RecordLists → RecordLists
with_one_open_less v = record v { opens = v.opens - 1 }

-- a terminal has these records
abbrev pub with_records : RecordLists → ℕ → List Logged → RecordLists
with_records v t rs = record v { active = set v.active t rs }

-- a terminal has a record more
abbrev pub with_newest_at : RecordLists → ℕ → Logged → RecordLists
with_newest_at v t r = with_records v t (r ∷ records_at v t)

-- a terminal is without its newest record
abbrev pub without_newest_at : RecordLists → ℕ → RecordLists
without_newest_at v t = with_records v t (drop 1 (records_at v t))

-- a terminal's records are those of the newest commit
abbrev pub lists_after_seal : RecordLists → ℕ → RecordLists
lists_after_seal v t =
    record {
      extents = v.extents;
      opens = v.opens - 1;
      active = set v.active t [];
      committed = records_at v t ∷ v.committed;
      newest = suc v.newest;
    }

-- a terminal has the records of the newest commit, which is gone, and its moment with it
abbrev pub lists_with_reopening : RecordLists → ℕ → RecordLists
lists_with_reopening v t =
    record {
      extents = v.extents;
      opens = suc v.opens;
      active = set v.active t (get_or v.committed 0 []);
      committed = drop 1 v.committed;
      newest = v.newest - 1;
    }

-- the oldest commit's records are gone, where there is one
abbrev pub without_oldest : RecordLists → RecordLists
without_oldest v = record v { committed = take (length v.committed - 1) v.committed }

-- those that lie in the ring
abbrev pub lists_of : RingStrings → ℕ → ℕ → RecordLists
lists_of r opens newest =
    record {
      extents = r.extents;
      opens = opens;
      active = map records_in r.active;
      committed = map records_in r.committed;
      newest = newest;
    }
