-- The tallies of HISTORY rows have the figures of the facts.
use Rattle.std.proofs.Common.{◌≡◌, refl, ◌∙◌, ap, ℕ, arith, nat_eq, List}
use Rattle.std.specs.Prelude.{pos}
use Rattle.std.specs.Option.{option_map}
use Rattle.oe_tally.specs.Tallies.{total}
use Rattle.oe_facts.specs.declared.keys.CustomerId.{CustomerId}
use Rattle.oe_facts.specs.declared.keys.DistrictId.{DistrictId}
use Rattle.oe_facts.specs.declared.facts.HistoryFact.{HistoryFact}
use Rattle.oe_ledgers.specs.declared.takings.Takings.{Takings}
use Rattle.oe_ledgers.specs.declared.histories.Histories.{Histories}
use Rattle.oe_ledgers.specs.Keys.{same_district, same_customer}
use Rattle.oe_ledgers.specs.Sums.{takings_joined}
use Rattle.oe_ledgers.specs.Keeping.{KeepsHistories, customer_payment_entry, district_payment_entry}
use Rattle.oe_ledgers.specs.Keeping.{warehouse_payment_entry}
use Rattle.oe_ledgers.specs.Figures.{AreFew, AreAmounts}
use Rattle.oe_ledgers.specs.Figures.{paid_by_customer}
use Rattle.oe_ledgers.specs.Figures.{payments_of_customer}
use Rattle.oe_ledgers.specs.Figures.{paid_in_district}
use Rattle.oe_ledgers.specs.Figures.{payments_in_district}
use Rattle.oe_ledgers.specs.Figures.{paid_in_warehouse}
use Rattle.oe_ledgers.proofs.SumFacts.{counted, money}

pub paid_by_customer-kept : (facts : List HistoryFact) (kept : Histories) → KeepsHistories facts kept → AreFew facts
    → AreAmounts (λ (f : HistoryFact). f.amount) facts → (k : CustomerId)
    → option_map (λ (s : Takings). s.amount) (total same_customer takings_joined kept.by_customer k)
    ≡ paid_by_customer facts k
paid_by_customer-kept facts kept is few amounts k =
    ap (option_map (λ (s : Takings). s.amount)) (is.by_customer k)
    ∙ money same_customer takings_joined customer_payment_entry (λ (s : Takings). s.amount) (λ a b. refl)
    (λ (f : HistoryFact). f.amount) (λ f. omega arith) facts few amounts k

pub payments_of_customer-kept : (facts : List HistoryFact) (kept : Histories) → KeepsHistories facts kept
    → AreFew facts → (k : CustomerId)
    → option_map (λ (s : Takings). pos s.rows) (total same_customer takings_joined kept.by_customer k)
    ≡ payments_of_customer facts k
payments_of_customer-kept facts kept is few k =
    ap (option_map (λ (s : Takings). pos s.rows)) (is.by_customer k)
    ∙ counted same_customer takings_joined customer_payment_entry (λ (s : Takings). s.rows) (λ a b. refl)
    (λ f. omega arith) facts few k

pub paid_in_district-kept : (facts : List HistoryFact) (kept : Histories) → KeepsHistories facts kept → AreFew facts
    → AreAmounts (λ (f : HistoryFact). f.amount) facts → (k : DistrictId)
    → option_map (λ (s : Takings). s.amount) (total same_district takings_joined kept.by_district k)
    ≡ paid_in_district facts k
paid_in_district-kept facts kept is few amounts k =
    ap (option_map (λ (s : Takings). s.amount)) (is.by_district k)
    ∙ money same_district takings_joined district_payment_entry (λ (s : Takings). s.amount) (λ a b. refl)
    (λ (f : HistoryFact). f.amount) (λ f. omega arith) facts few amounts k

pub payments_in_district-kept : (facts : List HistoryFact) (kept : Histories) → KeepsHistories facts kept
    → AreFew facts → (k : DistrictId)
    → option_map (λ (s : Takings). pos s.rows) (total same_district takings_joined kept.by_district k)
    ≡ payments_in_district facts k
payments_in_district-kept facts kept is few k =
    ap (option_map (λ (s : Takings). pos s.rows)) (is.by_district k)
    ∙ counted same_district takings_joined district_payment_entry (λ (s : Takings). s.rows) (λ a b. refl)
    (λ f. omega arith) facts few k

pub paid_in_warehouse-kept : (facts : List HistoryFact) (kept : Histories) → KeepsHistories facts kept → AreFew facts
    → AreAmounts (λ (f : HistoryFact). f.amount) facts → (k : ℕ)
    → option_map (λ (s : Takings). s.amount) (total nat_eq takings_joined kept.by_warehouse k)
    ≡ paid_in_warehouse facts k
paid_in_warehouse-kept facts kept is few amounts k =
    ap (option_map (λ (s : Takings). s.amount)) (is.by_warehouse k)
    ∙ money nat_eq takings_joined warehouse_payment_entry (λ (s : Takings). s.amount) (λ a b. refl)
    (λ (f : HistoryFact). f.amount) (λ f. omega arith) facts few amounts k
