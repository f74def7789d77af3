-- Faults: the first three of each table, and how many each has.
use Rattle.std.specs.Prelude.{ℕ, ◌+◌, ◌-◌, ◌^◌, min, List, [], ◌∷◌, ◌++◌, nat_lt, slice_index, slice_set, replicate}
use Rattle.std.specs.Prelude.{if◌then◌else◌}
use Rattle.oe_facts.specs.Table.{place_of}
use Rattle.oe_sources.specs.declared.faults.SourceFault.{SourceFault}
use Rattle.oe_sources.specs.declared.faults.TheConstants.{KEPT}

-- the faults that are kept, and how many each table has
pub record Told : Type 0 where
  pub kept : List SourceFault
  pub counts : List ℕ

abbrev pub no_faults : Told
no_faults = record { kept = []; counts = replicate 9 0 }

-- a count, as 64 bits hold it
abbrev pub in_64_bits : ℕ → ℕ
in_64_bits n = min n (2 ^ 64 - 1)

-- one fault more: it is kept where fewer than three of its table stand before it
abbrev pub with_fault : SourceFault → Told → Told
with_fault f t =
    let at = place_of f.table in
    let count = slice_index t.counts at in
    record {
      kept = if nat_lt count KEPT then t.kept ++ f ∷ [] else t.kept;
      counts = slice_set t.counts at (in_64_bits (count + 1));
    }

-- these faults more, one after another
abbrev pub with_each_fault : List SourceFault → Told → Told
with_each_fault [] t = t
with_each_fault (f ∷ fs) t = with_each_fault fs (with_fault f t)
