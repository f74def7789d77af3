-- The tallies of ITEM rows have the figures of the facts.
use Rattle.std.proofs.Common.{◌≡◌, refl, ◌∙◌, ap, ℕ, arith, nat_eq, List}
use Rattle.std.specs.Prelude.{pos}
use Rattle.std.specs.Option.{option_map}
use Rattle.oe_tally.specs.Tallies.{total}
use Rattle.oe_tally.specs.Counting.{counts_joined}
use Rattle.oe_tally.specs.declared.count.Count.{Count}
use Rattle.oe_facts.specs.declared.facts.ItemFact.{ItemFact}
use Rattle.oe_ledgers.specs.declared.items.Items.{Items}
use Rattle.oe_ledgers.specs.Keeping.{KeepsItems, item_entry}
use Rattle.oe_ledgers.specs.Figures.{AreFew}
use Rattle.oe_ledgers.specs.Figures.{item_rows}
use Rattle.oe_ledgers.proofs.SumFacts.{counted}

pub item_rows-kept : (facts : List ItemFact) (kept : Items) → KeepsItems facts kept → AreFew facts → (k : ℕ)
    → option_map (λ (s : Count). pos s.rows) (total nat_eq counts_joined kept.by_item k) ≡ item_rows facts k
item_rows-kept facts kept is few k =
    ap (option_map (λ (s : Count). pos s.rows)) (is.by_item k)
    ∙ counted nat_eq counts_joined item_entry (λ (s : Count). s.rows) (λ a b. refl) (λ f. omega arith) facts few k
