-- All undo records of a key, the newest first, each beside its holder.
use Rattle.std.specs.Prelude.{ℕ, suc, ◌-◌, cond, nat_lt, Bool, true, List, [], ◌∷◌, ◌++◌, length}
use Rattle.oe_rows.specs.declared.keys.Key.{Key}
use Rattle.oe_model.specs.Rows.{is_key}
use Rattle.oe_model.specs.Changes.{record_key}
use Rattle.oe_model.specs.System.{terminal_limit, system}
use Rattle.oe_theory.specs.Store.{all_below}
use Rattle.oe_log.specs.Records.{Logged}
use Rattle.oe_log.specs.Log.{SegmentLog, Committed as CommitSegment, records_at, total_count}
use Rattle.oe_undo.specs.declared.holders.Holder.{Holder}
use Rattle.oe_undo.specs.declared.holders.Holder.TheVariants.{Open, At}

-- a record beside its holder
pub record Held : Type 0 where
  pub logged : Logged
  pub holder : Holder

abbrev pub held_by : Holder → List Logged → List Held
held_by h [] = []
held_by h (r ∷ rs) = record { logged = r; holder = h } ∷ held_by h rs

-- the records of these terminals' open segments
abbrev pub held_open : (ℕ → List Logged) → List ℕ → List Held
held_open active [] = []
held_open active (t ∷ ts) = held_by (Open t) (active t) ++ held_open active ts

-- the records of these commits, the newest at this moment, each older one at the moment before
abbrev pub held_commits : ℕ → List CommitSegment → List Held
held_commits m [] = []
held_commits m (c ∷ cs) = held_by (At m) c.records ++ held_commits (m - 1) cs

-- all records of a log
abbrev pub all_held : SegmentLog → List Held
all_held u = held_open (records_at u) (all_below system terminal_limit) ++ held_commits (total_count u) u.committed

-- the records of the key
abbrev pub of_key : Key → List Held → List Held
of_key k [] = []
of_key k (r ∷ rs) = cond (is_key k (record_key r.logged.before)) (r ∷ of_key k rs) (of_key k rs)

-- all commits after this moment are kept
abbrev pub horizon : SegmentLog → ℕ
horizon u = total_count u - length u.committed

-- the holder is open, or its commit came after the moment
abbrev pub is_later : ℕ → Holder → Bool
is_later m (Open t) = true
is_later m (At n) = nat_lt m n

-- how many of these records are of later holders
abbrev pub count_later : ℕ → List Held → ℕ
count_later m [] = 0
count_later m (r ∷ rs) = cond (is_later m r.holder) (suc (count_later m rs)) (count_later m rs)
