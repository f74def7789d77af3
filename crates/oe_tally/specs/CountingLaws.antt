-- Counts may be joined in any order.
use Rattle.std.specs.Prelude.{◌≡◌, ℕ, ◌+◌, ◌-◌, ◌^◌, min}
use Rattle.std.proofs.Common.{arith}
use Rattle.oe_tally.specs.declared.count.Count.{Count}
use Rattle.oe_tally.specs.Counting.{counts_joined}

-- with any cap
pub capped_associative : (m a b c : ℕ) → min (min (a + b) m + c) m ≡ min (a + min (b + c) m) m
capped_associative m a b c = omega arith

pub capped_commutative : (m a b : ℕ) → min (a + b) m ≡ min (b + a) m
capped_commutative m a b = omega arith

pub counts_associative : (a b c : Count) → counts_joined (counts_joined a b) c ≡ counts_joined a (counts_joined b c)
counts_associative a b c = λ i. record { rows = capped_associative (2 ^ 32 - 1) a.rows b.rows c.rows i }

pub counts_commutative : (a b : Count) → counts_joined a b ≡ counts_joined b a
counts_commutative a b = λ i. record { rows = capped_commutative (2 ^ 32 - 1) a.rows b.rows i }
