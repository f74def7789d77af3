-- What each step promises, and so each step of a run.
use Rattle.std.specs.Prelude.{◌≡◌, ℕ, suc, ◌≤◌, List, [], ◌∷◌}
use Rattle.oe_theory.specs.Machine.{Machine}
use Rattle.oe_theory.specs.World.{World, horizon, newest, at, latest}
use Rattle.oe_theory.specs.Next.{Step, Advance, Answer, Begun, Committed, Rolled_back, Purged, Rewound, Aborted}
use Rattle.oe_theory.specs.Next.{count_open, Next, Runs}
use Rattle.oe_theory.specs.Theorems.{IsReached, Is_whole, Is_none, Is_refused}

module _ (M : Machine) where
  -- open transactions before and after a step: one more at a beginning, one less at each end, else as many
  abbrev pub OpenBy : Answer M → ℕ → ℕ → Type 0
  OpenBy Begun n after = after ≡ suc n
  OpenBy (Committed m y) n after = n ≡ suc after
  OpenBy Rolled_back n after = n ≡ suc after
  OpenBy (Aborted e) n after = n ≡ suc after
  OpenBy a n after = after ≡ n

  -- the newest moment: the next one at a commit, the one named at a rewind, else the same
  abbrev pub NewestBy : Answer M → ℕ → ℕ → Type 0
  NewestBy (Committed m y) n after = (after ≡ suc n) × (m ≡ after)
  NewestBy (Rewound m) n after = (after ≡ m) × (m ≤ n)
  NewestBy a n after = after ≡ n

  -- the oldest moment that can be read: the one named at a purge, else the same
  abbrev pub HorizonBy : Answer M → ℕ → ℕ → Type 0
  HorizonBy (Purged m) n after = (after ≡ m) × (n ≤ m)
  HorizonBy a n after = after ≡ n

  -- the newest version: of a commit `Is_whole` tells; a rewind gives its moment's; else it is the same
  abbrev pub LatestBy : World M → Answer M → World M → Type 0
  LatestBy w (Committed m y) v = Unit {0}
  LatestBy w (Rewound m) v = latest M v ≡ at M w m
  LatestBy w a v = latest M v ≡ latest M w

  -- what a step counts
  pub record Is_counted (w : World M) (a : Answer M) (v : World M) : Type 0 where
    pub open_count : OpenBy a (count_open M w.active M.terminal_limit) (count_open M v.active M.terminal_limit)
    pub newest : NewestBy a (newest M w) (newest M v)
    pub horizon : HorizonBy a (horizon M w) (horizon M v)
    pub latest : LatestBy w a v

  -- each step does
  abbrev pub Steps_are_counted : Type 0
  Steps_are_counted = (w v : World M) (i : Step M) (a : Answer M) → IsReached M w → Next M w i a v → Is_counted w a v

  -- The stage that ends its transaction: at a commit the changes made stage by stage are the whole effect on the newest
  -- version, and make the next moment; where it is rolled back that effect is none, and the refusal is the program's
  -- own there
  abbrev pub IsEnding : World M → Answer M → Step M → World M → Type 0
  IsEnding w (Committed m y) (Advance t) v = Is_whole M w t y v × (m ≡ newest M v) × (newest M v ≡ suc (newest M w))
  IsEnding w (Aborted e) (Advance t) v = Is_none M w t × Is_refused M w t e
  IsEnding w a i v = Unit {0}

  -- each stage that ends its transaction ends it so
  abbrev pub Endings_are_whole : Type 0
  Endings_are_whole = (w v : World M) (i : Step M) (a : Answer M) → IsReached M w → Next M w i a v → IsEnding w a i v

  -- what holds of each step of a run, and of each world that it passes
  abbrev pub Passes : (World M → Type 0) → (World M → Answer M → Step M → World M → Type 0) → World M → List (Step M)
      → List (Answer M) → World M → Type 0
  Passes P R w [] [] w' = P w × (w ≡ w')
  Passes P R w (i ∷ is) (a ∷ ys) w' = P w × ((v : World M) × Next M w i a v × R w a i v × Passes P R v is ys w')
  Passes P R w [] (a ∷ ys) w' = ⊥
  Passes P R w (i ∷ is) [] w' = ⊥

  -- what holds of every world that steps lead to, and of each step from one, holds all along a run
  abbrev pub Runs_pass : (World M → Type 0) → (World M → Answer M → Step M → World M → Type 0) → Type 0
  Runs_pass P R = (w w' : World M) (is : List (Step M)) (ys : List (Answer M)) → IsReached M w → Runs M w is ys w'
      → Passes P R w is ys w'
