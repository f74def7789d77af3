-- What a customer's account comes to (clauses 3.3.2.10 and 3.3.2.12).
use Rattle.std.specs.Prelude.{ℤ, pos, ◌+ℤ◌, ◌-ℤ◌, List, Option, Some, None}
use Rattle.std.specs.Int.{int_wrap, w128}
use Rattle.oe_facts.specs.declared.keys.CustomerId.{CustomerId}
use Rattle.oe_facts.specs.declared.facts.CustomerFact.{CustomerFact}
use Rattle.oe_facts.specs.declared.facts.HistoryFact.{HistoryFact}
use Rattle.oe_facts.specs.declared.facts.OrderFact.{OrderFact}
use Rattle.oe_facts.specs.declared.facts.OrderLineFact.{OrderLineFact}
use Rattle.oe_ledgers.specs.declared.takings.Takings.{Takings}
use Rattle.oe_ledgers.specs.Figures.{c_balance, c_ytd_payment, paid_by_customer}
use Rattle.oe_checks.specs.declared.figures.Apart.{Apart}
use Rattle.oe_checks.specs.Comparing.{against}
use Rattle.oe_checks.specs.Deliveries.{delivered_to}

-- a sum less another, 0 where one is none; none where both are
abbrev pub less : Option ℤ → Option ℤ → Option ℤ
less None None = None
less (Some a) None = Some a
less None (Some b) = Some (pos 0 -ℤ b)
less (Some a) (Some b) = Some (a -ℤ b)

-- two figures of one row together
abbrev pub figure_sum : Option ℤ → Option ℤ → Option ℤ
figure_sum None b = None
figure_sum (Some a) None = None
figure_sum (Some a) (Some b) = Some (a +ℤ b)

-- clause 3.3.2.10: C_BALANCE is the sum of delivered OL_AMOUNT less the sum of H_AMOUNT
abbrev pub condition_10 : List CustomerFact → List OrderFact → List OrderLineFact → List HistoryFact → CustomerId
    → Option Apart
condition_10 customers orders lines histories c =
    against (c_balance customers c) (less (delivered_to orders lines c) (paid_by_customer histories c))

-- clause 3.3.2.12: C_BALANCE and C_YTD_PAYMENT together are the sum of delivered OL_AMOUNT
abbrev pub condition_12 : List CustomerFact → List OrderFact → List OrderLineFact → CustomerId → Option Apart
condition_12 customers orders lines c =
    against (figure_sum (c_balance customers c) (c_ytd_payment customers c)) (delivered_to orders lines c)

-- the difference as 128 bits have it
abbrev pub wrapped_less : ℤ → ℤ → ℤ
wrapped_less a b = int_wrap w128 (a -ℤ b)

-- of two tallies' sums the first less the second
abbrev pub net : Option Takings → Option Takings → Option Takings
net None None = None
net (Some a) None = Some a
net None (Some b) = Some (record { amount = wrapped_less (pos 0) b.amount; rows = b.rows })
net (Some a) (Some b) = Some (record { amount = wrapped_less a.amount b.amount; rows = a.rows })
