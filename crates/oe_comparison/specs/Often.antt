-- How often HISTORY rows, which have no key in the standard, are told to stand more often on one side.
use Rattle.std.specs.Prelude.{◌≡◌, ℕ, ◌-◌, Bool, true, false, List}
use Rattle.std.specs.List.{count_by}
use Rattle.std.specs.Ordering.{eq_by_cmp}
use Rattle.std.specs.declared.cmp.Ordering.{Ordering}
use Rattle.std.specs.declared.cmp.Ordering.TheVariants.{Equal}
use Rattle.oe_rows.specs.declared.histories.History.{History}
use Rattle.oe_comparison.specs.Differences.{Difference, Extra, Missing, Column, differences, keyless}
use Rattle.oe_comparison.specs.Histories.{history_order, AreSorted}

-- how often a row stands among these
abbrev pub times : {X : Type 0} → (X → X → Ordering) → X → List X → ℕ
times cmp h xs = count_by (eq_by_cmp cmp h) xs

-- it tells that the row stands more often on that side
abbrev pub is_extra : {X : Type 0} → (X → X → Ordering) → X → Difference X → Bool
is_extra cmp h (Extra x) = eq_by_cmp cmp h x
is_extra cmp h (Missing x) = false
is_extra cmp h (Column x c) = false

abbrev pub is_missing : {X : Type 0} → (X → X → Ordering) → X → Difference X → Bool
is_missing cmp h (Extra x) = false
is_missing cmp h (Missing x) = eq_by_cmp cmp h x
is_missing cmp h (Column x c) = false

abbrev pub is_column : {X : Type 0} → Difference X → Bool
is_column (Extra x) = false
is_column (Missing x) = false
is_column (Column x c) = true

-- The walk over both sides' sorted rows tells a row as often as it stands more often on that side, and tells nothing
-- else. The order tells any two rows apart.
pub record Histories_are_counted : Type 0 where
  pub exact : (a b : History) → history_order a b ≡ Equal → a ≡ b
  pub extra : (theirs ours file order : List History) (h : History) → AreSorted theirs file → AreSorted ours order
      → count_by (is_extra history_order h) (differences history_order (keyless file) (keyless order))
      ≡ times history_order h theirs - times history_order h ours
  pub missing : (theirs ours file order : List History) (h : History) → AreSorted theirs file → AreSorted ours order
      → count_by (is_missing history_order h) (differences history_order (keyless file) (keyless order))
      ≡ times history_order h ours - times history_order h theirs
  pub columns : (file order : List History)
      → count_by is_column (differences history_order (keyless file) (keyless order)) ≡ 0
