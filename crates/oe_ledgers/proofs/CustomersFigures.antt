-- The tallies of CUSTOMER rows have the figures of the facts.
use Rattle.std.proofs.Common.{◌≡◌, refl, ◌∙◌, ap, arith, List}
use Rattle.std.specs.Prelude.{pos}
use Rattle.std.specs.Int.{int_max}
use Rattle.std.specs.Option.{option_map}
use Rattle.oe_tally.specs.Tallies.{total}
use Rattle.oe_tally.specs.Counting.{counts_joined}
use Rattle.oe_tally.specs.declared.count.Count.{Count}
use Rattle.oe_facts.specs.declared.keys.CustomerId.{CustomerId}
use Rattle.oe_facts.specs.declared.keys.DistrictId.{DistrictId}
use Rattle.oe_facts.specs.declared.facts.CustomerFact.{CustomerFact}
use Rattle.oe_ledgers.specs.declared.customers.CustomerSums.{CustomerSums}
use Rattle.oe_ledgers.specs.declared.customers.Customers.{Customers}
use Rattle.oe_ledgers.specs.Keys.{same_district, same_customer}
use Rattle.oe_ledgers.specs.Sums.{customers_joined}
use Rattle.oe_ledgers.specs.Keeping.{KeepsCustomers, customer_entry, customer_district_entry}
use Rattle.oe_ledgers.specs.Figures.{AreFew}
use Rattle.oe_ledgers.specs.Figures.{c_balance}
use Rattle.oe_ledgers.specs.Figures.{c_ytd_payment}
use Rattle.oe_ledgers.specs.Figures.{c_payments}
use Rattle.oe_ledgers.specs.Figures.{c_deliveries}
use Rattle.oe_ledgers.specs.Figures.{customer_rows}
use Rattle.oe_ledgers.specs.Figures.{customers_of_district}
use Rattle.oe_ledgers.proofs.SumFacts.{projected, pos_max, counted}

pub c_balance-kept : (facts : List CustomerFact) (kept : Customers) → KeepsCustomers facts kept → (k : CustomerId)
    → option_map (λ (s : CustomerSums). s.balance) (total same_customer customers_joined kept.by_customer k)
    ≡ c_balance facts k
c_balance-kept facts kept is k =
    ap (option_map (λ (s : CustomerSums). s.balance)) (is.by_customer k)
    ∙ projected same_customer customers_joined int_max customer_entry (λ (s : CustomerSums). s.balance) (λ a b. refl)
    facts k

pub c_ytd_payment-kept : (facts : List CustomerFact) (kept : Customers) → KeepsCustomers facts kept → (k : CustomerId)
    → option_map (λ (s : CustomerSums). s.ytd_payment) (total same_customer customers_joined kept.by_customer k)
    ≡ c_ytd_payment facts k
c_ytd_payment-kept facts kept is k =
    ap (option_map (λ (s : CustomerSums). s.ytd_payment)) (is.by_customer k)
    ∙ projected same_customer customers_joined int_max customer_entry (λ (s : CustomerSums). s.ytd_payment)
    (λ a b. refl) facts k

pub c_payments-kept : (facts : List CustomerFact) (kept : Customers) → KeepsCustomers facts kept → (k : CustomerId)
    → option_map (λ (s : CustomerSums). pos s.payments) (total same_customer customers_joined kept.by_customer k)
    ≡ c_payments facts k
c_payments-kept facts kept is k =
    ap (option_map (λ (s : CustomerSums). pos s.payments)) (is.by_customer k)
    ∙ projected same_customer customers_joined int_max customer_entry (λ (s : CustomerSums). pos s.payments)
    (λ a b. pos_max a.payments b.payments) facts k

pub c_deliveries-kept : (facts : List CustomerFact) (kept : Customers) → KeepsCustomers facts kept → (k : CustomerId)
    → option_map (λ (s : CustomerSums). pos s.deliveries) (total same_customer customers_joined kept.by_customer k)
    ≡ c_deliveries facts k
c_deliveries-kept facts kept is k =
    ap (option_map (λ (s : CustomerSums). pos s.deliveries)) (is.by_customer k)
    ∙ projected same_customer customers_joined int_max customer_entry (λ (s : CustomerSums). pos s.deliveries)
    (λ a b. pos_max a.deliveries b.deliveries) facts k

pub customer_rows-kept : (facts : List CustomerFact) (kept : Customers) → KeepsCustomers facts kept → AreFew facts
    → (k : CustomerId)
    → option_map (λ (s : CustomerSums). pos s.rows) (total same_customer customers_joined kept.by_customer k)
    ≡ customer_rows facts k
customer_rows-kept facts kept is few k =
    ap (option_map (λ (s : CustomerSums). pos s.rows)) (is.by_customer k)
    ∙ counted same_customer customers_joined customer_entry (λ (s : CustomerSums). s.rows) (λ a b. refl)
    (λ f. omega arith) facts few k

pub customers_of_district-kept : (facts : List CustomerFact) (kept : Customers) → KeepsCustomers facts kept
    → AreFew facts → (k : DistrictId)
    → option_map (λ (s : Count). pos s.rows) (total same_district counts_joined kept.by_district k)
    ≡ customers_of_district facts k
customers_of_district-kept facts kept is few k =
    ap (option_map (λ (s : Count). pos s.rows)) (is.by_district k)
    ∙ counted same_district counts_joined customer_district_entry (λ (s : Count). s.rows) (λ a b. refl)
    (λ f. omega arith) facts few k
