-- The commits that desks keep.
use Rattle.std.specs.Prelude.{List, IsSortedByKey}
use Rattle.std.specs.Ordering.{nat_cmp}
use Rattle.oe_deeds.specs.declared.commits.Commit.{Commit}

-- no commit's moment is before that of the one before it
abbrev pub IsInOrder : List Commit → Type 0
IsInOrder cs = IsSortedByKey (λ c. c.moment) nat_cmp cs
