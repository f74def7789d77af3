-- What is left to give is what is not yet free.
use Rattle.std.proofs.Common.{◌≡◌, ◌<◌, length}
use Rattle.std.specs.List.{AllByRecursion}
use Rattle.oe_extent.specs.Free.{with_free}
use Rattle.oe_extent.specs.Extents.{numbers_of}
use Rattle.oe_extent.proofs.pools.Pool.give_all.Given as goal

abbrev pub invariant-loop-extent : goal.invariant-loop-extent
invariant-loop-extent l = record {
  all : with_free (numbers_of l.list) l.self.is_free ≡ with_free (numbers_of l.fn.list) l.fn.self.is_free;
  cursor : l.self.cursor ≡ l.fn.self.cursor;
  within : AllByRecursion (λ e. e < length l.self.is_free) (numbers_of l.list);
}

abbrev pub decreases-loop-extent : goal.decreases-loop-extent
decreases-loop-extent l = length l.list
