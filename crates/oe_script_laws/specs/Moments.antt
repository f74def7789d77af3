-- What the version of a moment is, what a base is, and what a rewind is answered.
use Rattle.std.specs.Prelude.{◌≡◌, ℕ, suc, ◌≤◌, ◌<◌, ◌⊎◌, map, List, [], ◌∷◌, ◌++◌, length, Some}
use Rattle.oe_theory.specs.World.{World, Commit, IsCommit, counts_after, horizon, newest, at, tables}
use Rattle.oe_theory.specs.Next.{IsQuiet, count_open}
use Rattle.oe_requests.specs.declared.refusals.Refusal.TheVariants as refusal
use Rattle.oe_requests.specs.declared.answers.Answer.TheVariants as answer
use Rattle.oe_model.specs.Rows.{Rows}
use Rattle.oe_model.specs.System.{system}
use Rattle.oe_texts.specs.Answer.{answer_line}
use Rattle.oe_script.specs.Script.{State}
use Rattle.oe_script_laws.specs.Commits.{Transaction, transaction_of}

-- The rows are what these commits, the newest first, leave of a base, where f counts each terminal's commits before it.
-- Each has an effect:
-- it makes the whole of it on what the earlier ones leave, and its reply is that effect's
abbrev pub Leaves : (ℕ → ℕ) → Rows → List (Commit system) → Rows → Type 0
Leaves f b [] r = r ≡ b
Leaves f b (c ∷ cs) r = (before : Rows) × Leaves f b cs before
    × (made : IsCommit system (counts_after system f cs) before c) × (r ≡ made.after)

-- The rows are the version of the moment in a world that began with this base, and whose steps told of these commits,
-- the newest first: the oldest m of them leave the rows, run one at a time. The world keeps the newest in its history,
-- and has forgotten those up to the horizon, which are the oldest
pub record IsVersion (base : Rows) (commits : List Transaction) (w : World system) (m : ℕ) (r : Rows) : Type 0 where
  pub later : List (Commit system)
  pub kept : List (Commit system)
  pub forgotten : List (Commit system)
  pub order : w.history ≡ later ++ kept
  pub gone : length forgotten ≡ horizon system w
  pub all : map transaction_of (w.history ++ forgotten) ≡ commits
  pub number : length (kept ++ forgotten) ≡ m
  pub left : Leaves (λ _. 0) base (kept ++ forgotten) r

-- the state is a world whose tables are these, and whose newest moment is that
abbrev pub StandsAt : ℕ → Rows → State → Type 0
StandsAt m r s = (v : World system) × (s ≡ Some v) × (tables system v ≡ r) × (newest system v ≡ m)

-- A rewind to a moment that is kept, where nothing is open, leaves tables that are the moment's version. Of any other
-- moment, and where something is open, it is refused
abbrev pub IsRewound : Rows → List Transaction → World system → ℕ → List ℕ → State → Type 0
IsRewound base commits w m text s =
    (IsQuiet system w × (horizon system w ≤ m) × (m ≤ newest system w) × IsVersion base commits w m (at system w m)
    × StandsAt m (at system w m) s × (text ≡ answer_line (answer.Rewound m)))
    ⊎ (((k : ℕ) × (count_open system w.active system.terminal_limit ≡ suc k)
    × (text ≡ answer_line (answer.Refused (refusal.NotQuiet (suc k))))) × (s ≡ Some w))
    ⊎ (IsQuiet system w × (m < horizon system w)
    × (text ≡ answer_line (answer.Refused (refusal.TooOld (horizon system w)))) × (s ≡ Some w))
    ⊎ (IsQuiet system w × (newest system w < m)
    × (text ≡ answer_line (answer.Refused (refusal.Future (newest system w)))) × (s ≡ Some w))

-- A rewind to moment 0 leaves these rows, or is refused since something is open
abbrev pub IsRewoundTo : Rows → World system → List ℕ → State → Type 0
IsRewoundTo r w text s =
    (IsQuiet system w × StandsAt 0 r s × (text ≡ answer_line (answer.Rewound 0)))
    ⊎ (((k : ℕ) × (count_open system w.active system.terminal_limit ≡ suc k)
    × (text ≡ answer_line (answer.Refused (refusal.NotQuiet (suc k))))) × (s ≡ Some w))
