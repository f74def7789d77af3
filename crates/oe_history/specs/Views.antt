-- What the keeper of the history and each caller know of it, and the rule.
use Rattle.std.specs.Prelude.{◌≡◌, ℕ, suc, ◌<◌, ◌≤◌, ◌==◌, true, false, cond, List, [], ◌∷◌, ◌++◌}
use mathlib.Core.Option.{some}
use mathlib.Core.List.{IsPrefix}
use lib.ListN.{get_elem?}
use Rattle.atomic_table.specs.Table.{State, Me}
use Rattle.atomic_table.specs.Table as table
use Rattle.oe_requests.specs.declared.steps.Step.TheVariants.{Advance}
use Rattle.oe_requests.specs.declared.answers.Answer.TheVariants.{More}
use Rattle.oe_requests.specs.declared.steps.Step.{Step}
use Rattle.oe_requests.specs.declared.answers.Answer.{Answer}
use Rattle.oe_history.specs.declared.views.Entry.{Entry}
use Rattle.oe_history.specs.declared.views.View.{View}

-- the entries of one number, in order
abbrev pub calls_by : ℕ → List Entry → List Entry
calls_by by [] = []
calls_by by (e ∷ es) = cond (e.by == by) (e ∷ calls_by by es) (calls_by by es)

-- what a brand tells until its caller picks
abbrev pub no_entry : Entry
no_entry = record { by = 0; step = Advance 0; answer = More }

-- the keeper's view
abbrev pub keeper : List Entry → ℕ → View
keeper log dealt = record { keeps = true; log = log; dealt = dealt; calls = false; by = 0; seen = []; mine = [] }

-- a caller's
abbrev pub caller : ℕ → List Entry → List Entry → View
caller by seen mine = record { keeps = false; log = []; dealt = 0; calls = true; by = by; seen = seen; mine = mine }

-- the keeper with a caller
abbrev pub both : View → View → View
both v w = record {
  keeps = v.keeps;
  log = v.log;
  dealt = v.dealt;
  calls = w.calls;
  by = w.by;
  seen = w.seen;
  mine = w.mine;
}

abbrev pub nobody : View
nobody = record { keeps = false; log = []; dealt = 0; calls = false; by = 0; seen = []; mine = [] }

abbrev pub keeper_of : View → View
keeper_of v = record {
  keeps = v.keeps;
  log = v.log;
  dealt = v.dealt;
  calls = false;
  by = 0;
  seen = [];
  mine = [];
}

abbrev pub caller_of : View → View
caller_of v = record {
  keeps = false;
  log = [];
  dealt = 0;
  calls = v.calls;
  by = v.by;
  seen = v.seen;
  mine = v.mine;
}

-- the keeper after a caller more, and that caller
abbrev pub dealt_on : View → View
dealt_on v = record {
  keeps = v.keeps;
  log = v.log;
  dealt = suc v.dealt;
  calls = false;
  by = 0;
  seen = [];
  mine = [];
}

abbrev pub next_caller : View → View
next_caller v = record {
  keeps = false;
  log = [];
  dealt = 0;
  calls = v.keeps;
  by = v.dealt;
  seen = [];
  mine = [];
}

-- a caller's own calls are all that the history has of its number, and what it has seen is a beginning of the history
pub record IsCaller (log : List Entry) (dealt : ℕ) (v : View) : Type 0 where
  pub seen : IsPrefix v.seen log
  pub mine : calls_by v.by log ≡ v.mine
  pub known : v.by < dealt

pub record IsKeeper (seat : ℕ) (log : List Entry) (dealt : ℕ) (i : ℕ) (v : View) : Type 0 where
  pub here : i ≡ seat
  pub all : v.log ≡ log
  pub callers : v.dealt ≡ dealt

abbrev pub Fits : ℕ → List Entry → ℕ → ℕ → View → Type 0
Fits seat log dealt i v = (v.keeps ≡ true → IsKeeper seat log dealt i v) × (v.calls ≡ true → IsCaller log dealt v)

-- one seat keeps the whole history, each caller has a seat, no two callers have one number, and nobody else has an
-- entry
pub record Kept (views : List View) : Type 0 where
  pub seat : ℕ
  pub log : List Entry
  pub dealt : ℕ
  pub each : (i : ℕ) (v : View) → get_elem? views i ≡ some v → Fits seat log dealt i v
  pub apart : (i j : ℕ) (v w : View) → get_elem? views i ≡ some v → get_elem? views j ≡ some w → v.calls ≡ true
      → w.calls ≡ true → v.by ≡ w.by → i ≡ j
  pub others : (by : ℕ) → dealt ≤ by → calls_by by log ≡ []

abbrev pub IsKept : ℕ → State ℕ View → Type 0
IsKept key s = Kept s.views

-- the view after an entry
abbrev pub with_entry : Entry → View → View
with_entry e v = record {
  keeps = v.keeps;
  log = v.log ++ e ∷ [];
  dealt = v.dealt;
  calls = v.calls;
  by = v.by;
  seen = v.log ++ e ∷ [];
  mine = v.mine ++ e ∷ [];
}

-- the entry was added; before it, the caller that is there had seen a beginning of the history, with its calls
abbrev pub Appended : Entry → table.Step ℕ → Me ℕ View → ℕ → Me ℕ View → Type 0
Appended e s v found w = (w ≡ (with_entry e v.0, v.1)) × IsCaller v.0.log v.0.dealt v.0

-- so it is with the caller that is there, and nobody else has an entry
abbrev pub Looked : table.Step ℕ → Me ℕ View → ℕ → Me ℕ View → Type 0
Looked s v found w = (w ≡ v) × (v.0.calls ≡ true → IsCaller v.0.log v.0.dealt v.0)
    × ((by : ℕ) → v.0.dealt ≤ by → calls_by by v.0.log ≡ [])

-- the first view of a list
abbrev pub first_view : List View → View
first_view [] = nobody
first_view (v ∷ vs) = v

abbrev pub entry : ℕ → Step → Answer → Entry
entry by i a = record { by = by; step = i; answer = a }
