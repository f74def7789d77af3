-- How many transactions were begun, committed and rolled back: in all, and as far as one hand was told.
use Rattle.std.specs.Prelude.{◌≡◌, ℕ, ◌+◌}
use Rattle.oe_hall.specs.declared.counts.Counted.{Counted}

-- in all
pub record Counts : Type 0 where
  pub begun : ℕ
  pub committed : ℕ
  pub rolled_back : ℕ

-- what one hand was told of these, and its parts of the ledgers
pub record Tally : Type 0 where
  pub parts : ℕ
  pub begun : ℕ
  pub committed : ℕ
  pub rolled_back : ℕ

abbrev pub none : Counts
none = record { begun = 0; committed = 0; rolled_back = 0 }

abbrev pub tally_of : ℕ → Tally
tally_of n = record { parts = n; begun = 0; committed = 0; rolled_back = 0 }

abbrev pub with_begin : Counts → Counts
with_begin c = record c { begun = c.begun + 1 }

abbrev pub with_commit : Counts → Counts
with_commit c = record c { committed = c.committed + 1 }

abbrev pub with_rollback : Counts → Counts
with_rollback c = record c { rolled_back = c.rolled_back + 1 }

abbrev pub tally_with_begin : Tally → Tally
tally_with_begin c = record c { begun = c.begun + 1 }

abbrev pub tally_with_commit : Tally → Tally
tally_with_commit c = record c { committed = c.committed + 1 }

abbrev pub tally_with_rollback : Tally → Tally
tally_with_rollback c = record c { rolled_back = c.rolled_back + 1 }

-- a hand with these parts that was told so
abbrev pub tally : ℕ → Counted → Tally
tally n c = record { parts = n; begun = c.begun; committed = c.committed; rolled_back = c.rolled_back }

-- a hand with one part more, that was told so
abbrev pub with_one_more : Counted → Tally → Tally
with_one_more c t = record {
  parts = t.parts + 1;
  begun = t.begun + c.begun;
  committed = t.committed + c.committed;
  rolled_back = t.rolled_back + c.rolled_back;
}

-- a hand was told all of the totals
abbrev pub AreTotals : Tally → Counts → Type 0
AreTotals t c = (t.begun ≡ c.begun) × (t.committed ≡ c.committed) × (t.rolled_back ≡ c.rolled_back)
