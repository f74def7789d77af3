-- What has changed at a key since earlier rows: both lists have what rows bring to their keys.
use Rattle.std.specs.Prelude.{Bool, pos, List, Option}
use Rattle.std.specs.Option.{option_map}
use Rattle.oe_facts.specs.declared.keys.StockId.{StockId}
use Rattle.oe_tally.specs.Tallies.{total}
use Rattle.oe_ledgers.specs.Keys.{same_stock}
use Rattle.oe_checks.specs.declared.figures.Apart.{Apart}
use Rattle.oe_checks.specs.Comparing.{orphans_apart, single}
use Rattle.oe_earlier.specs.declared.traces.Trace.{Trace}
use Rattle.oe_earlier.specs.declared.traces.Residue.{Residue}
use Rattle.oe_earlier.specs.Traces.{traces_joined, residues_joined}

module _ {K : Type 0} (same : K → K → Bool) (before now : List (K × Trace)) (k : K) where
  -- there were rows and are none: how many there were, and 0
  abbrev pub loss_apart : Option Apart
  loss_apart = orphans_apart (option_map (λ s. pos s.rows) (total same traces_joined before k))
      (option_map (λ s. pos s.rows) (total same traces_joined now k))

  -- the print of the columns that no transaction changes, where it was another than it is
  abbrev pub change_apart : Option Apart
  change_apart = single (option_map (λ s. pos s.print) (total same traces_joined before k))
      (option_map (λ s. pos s.print) (total same traces_joined now k))

-- clause 2.4.2.2: OL_QUANTITY leaves S_QUANTITY, less 91 where fewer than 10 would be left, and joins S_YTD; so
-- (S_QUANTITY + S_YTD) mod 91 stays what it was
abbrev pub residue_apart : List (StockId × Residue) → List (StockId × Residue) → StockId → Option Apart
residue_apart before now k = single (option_map (λ s. s.residue) (total same_stock residues_joined before k))
    (option_map (λ s. s.residue) (total same_stock residues_joined now k))
