-- What was delivered to a customer less what it paid.
use Rattle.std.proofs.Common.{◌≡◌, refl, sym, ◌∙◌, ap, subst, Bool, true, false, cond, ℕ, suc, ◌+◌, ◌*◌, ◌-◌, ◌^◌}
use Rattle.std.proofs.Common.{◌<◌, ◌≤◌, arith}
use Rattle.std.proofs.Common.{List, [], ◌∷◌, length, Option, Some, None}
use Rattle.std.specs.Prelude.{ℤ, pos, ◌+ℤ◌, ◌-ℤ◌, IfSome, nat_eq, ◌&&◌}
use Rattle.std.specs.Int.{w128}
use Rattle.std.specs.Int.RustNames.{unsigned_abs}
use Rattle.std.specs.Cmp.{IsTotalOrder, nat_cmp_total, tied_then, unsigned_ties}
use Rattle.std.specs.List.{AllByRecursion}
use Rattle.std.specs.Option.{option_map}
use Rattle.std.specs.Ordering.{eq_by_cmp, is_eq, nat_cmp, ordering_then}
use Rattle.std.proofs.lemmas.Cmp.{on_total, then_total}
use Rattle.std.proofs.lemmas.Int.{int_wrap_fits, fits_signed_from_abs, ints}
use Rattle.std.proofs.lemmas.List.Elements.{recursion_from_All}
use Rattle.oe_tally.specs.Tallies.{together}
use Rattle.oe_facts.specs.declared.keys.CustomerId.{CustomerId}
use Rattle.oe_facts.specs.declared.facts.HistoryFact.{HistoryFact}
use Rattle.oe_facts.specs.declared.facts.OrderFact.{OrderFact}
use Rattle.oe_facts.specs.declared.facts.OrderLineFact.{OrderLineFact}
use Rattle.oe_ledgers.specs.declared.takings.Takings.{Takings}
use Rattle.oe_ledgers.specs.Columns.{of_key}
use Rattle.oe_ledgers.specs.Keys.{same_customer, customer_cmp}
use Rattle.oe_ledgers.specs.Figures.{AreFew, AreAmounts, paid_by_customer}
use Rattle.oe_ledgers.proofs.SumFacts.{abs_at_most}
use Rattle.oe_checks.specs.Deliveries.{same_known, customer_of, delivered_amount, delivered_to}
use Rattle.oe_checks.specs.Accounts.{less, net, wrapped_less}

pub customers_total : IsTotalOrder customer_cmp
customers_total =
    then_total (on_total (λ (k : CustomerId). k.warehouse) nat_cmp_total)
    (then_total (on_total (λ (k : CustomerId). k.district) nat_cmp_total)
    (on_total (λ (k : CustomerId). k.customer) nat_cmp_total))

pub customers_tie : (a b : CustomerId) → same_customer a b ≡ eq_by_cmp customer_cmp a b
customers_tie a b =
    ap (λ x. x && (nat_eq a.district b.district && nat_eq a.customer b.customer))
    (unsigned_ties a.warehouse b.warehouse)
    ∙ ap (λ x. is_eq (nat_cmp a.warehouse b.warehouse) && (x && nat_eq a.customer b.customer))
    (unsigned_ties a.district b.district)
    ∙ ap (λ x. is_eq (nat_cmp a.warehouse b.warehouse) && (is_eq (nat_cmp a.district b.district) && x))
    (unsigned_ties a.customer b.customer)
    ∙ ap (λ x. is_eq (nat_cmp a.warehouse b.warehouse) && x)
    (tied_then (nat_cmp a.district b.district) (nat_cmp a.customer b.customer))
    ∙ tied_then (nat_cmp a.warehouse b.warehouse)
    (ordering_then (nat_cmp a.district b.district) (nat_cmp a.customer b.customer))

abs_add : (a b : ℤ) → unsigned_abs (a +ℤ b) ≤ unsigned_abs a + unsigned_abs b
abs_add a b = omega (arith, ints)

abs_sub : (a b : ℤ) → unsigned_abs (a -ℤ b) ≤ unsigned_abs a + unsigned_abs b
abs_sub a b = omega (arith, ints)

-- a sum of fewer than 2^32 amounts is within this
abbrev IsBounded : Option ℤ → Type 0
IsBounded s = IfSome s (λ y. unsigned_abs y ≤ 2 ^ 63 * 2 ^ 32)

module _ {F K : Type 0} (same : K → K → Bool) (key : F → K) (column : F → ℤ) where
  bound-step : (b : Bool) (x : ℤ) (s : Option ℤ) (n : ℕ) → unsigned_abs x ≤ 2 ^ 63
      → IfSome s (λ y. unsigned_abs y ≤ 2 ^ 63 * n)
      → IfSome (together (λ p q. p +ℤ q) (cond b (Some x) None) s) (λ y. unsigned_abs y ≤ 2 ^ 63 * suc n)
  bound-step true x None n h g = omega arith
  bound-step true x (Some y) n h g = omega (arith, abs_add x y, g)
  bound-step false x None n h g = tt
  bound-step false x (Some y) n h g = omega (arith, g)

  bounded-by : (facts : List F) (k : K) → AllByRecursion (λ f. unsigned_abs (column f) ≤ 2 ^ 63) facts
      → IfSome (of_key same key (λ p q. p +ℤ q) column facts k) (λ y. unsigned_abs y ≤ 2 ^ 63 * length facts)
  bounded-by [] k h = tt
  bounded-by (f ∷ facts) k h =
      bound-step (same (key f) k) (column f) (of_key same key (λ p q. p +ℤ q) column facts k) (length facts) h.0
      (bounded-by facts k h.1)

  wider : (s : Option ℤ) (n : ℕ) → n < 2 ^ 32 → IfSome s (λ y. unsigned_abs y ≤ 2 ^ 63 * n) → IsBounded s
  wider None n few h = tt
  wider (Some y) n few h = omega (arith, h)

  bounded : (facts : List F) (k : K) → AreFew facts → AllByRecursion (λ f. unsigned_abs (column f) ≤ 2 ^ 63) facts
      → IsBounded (of_key same key (λ p q. p +ℤ q) column facts k)
  bounded facts k few h =
      wider (of_key same key (λ p q. p +ℤ q) column facts k) (length facts) few (bounded-by facts k h)

within-amounts : (ls : List OrderLineFact) → AllByRecursion (λ (f : OrderLineFact). unsigned_abs f.amount ≤ 2 ^ 63) ls
    → AllByRecursion (λ f. unsigned_abs (delivered_amount f) ≤ 2 ^ 63) ls
within-amounts [] h = tt
within-amounts (f ∷ ls) h = (omega (arith, abs_at_most f.is_delivered f.amount, h.0), within-amounts ls h.1)

pub delivered-bounded : (os : List OrderFact) (ls : List OrderLineFact) (c : CustomerId) → AreFew ls
    → AreAmounts (λ (f : OrderLineFact). f.amount) ls → IsBounded (delivered_to os ls c)
delivered-bounded os ls c few amounts =
    bounded same_known (λ (f : OrderLineFact). customer_of os f.order) delivered_amount ls (Some c) few
    (within-amounts ls (recursion_from_All (λ (f : OrderLineFact). unsigned_abs f.amount ≤ 2 ^ 63) ls amounts))

pub paid-bounded : (hs : List HistoryFact) (c : CustomerId) → AreFew hs → AreAmounts (λ (f : HistoryFact). f.amount) hs
    → IsBounded (paid_by_customer hs c)
paid-bounded hs c few amounts =
    bounded same_customer (λ (f : HistoryFact). f.customer) (λ (f : HistoryFact). f.amount) hs c few
    (recursion_from_All (λ (f : HistoryFact). unsigned_abs f.amount ≤ 2 ^ 63) hs amounts)

wrapped-less-is : (a b : ℤ) → unsigned_abs a ≤ 2 ^ 63 * 2 ^ 32 → unsigned_abs b ≤ 2 ^ 63 * 2 ^ 32
    → wrapped_less a b ≡ a -ℤ b
wrapped-less-is a b h g =
    int_wrap_fits w128 (a -ℤ b) (fits_signed_from_abs w128 (a -ℤ b) (omega (arith, abs_sub a b)))

net-is : (d p : Option Takings) → IsBounded (option_map (λ (t : Takings). t.amount) d)
    → IsBounded (option_map (λ (t : Takings). t.amount) p)
    → option_map (λ (t : Takings). t.amount) (net d p)
    ≡ less (option_map (λ (t : Takings). t.amount) d) (option_map (λ (t : Takings). t.amount) p)
net-is None None h g = refl
net-is (Some a) None h g = refl
net-is None (Some b) h g = ap Some (wrapped-less-is (pos 0) b.amount (omega arith) g)
net-is (Some a) (Some b) h g = ap Some (wrapped-less-is a.amount b.amount h g)

-- where two sums are what was delivered and what was paid, their difference is the difference
pub net-of : (d p : Option Takings) (x y : Option ℤ) → option_map (λ (t : Takings). t.amount) d ≡ x
    → option_map (λ (t : Takings). t.amount) p ≡ y → IsBounded x → IsBounded y
    → option_map (λ (t : Takings). t.amount) (net d p) ≡ less x y
net-of d p x y e f h g =
    net-is d p (subst IsBounded (sym e) h) (subst IsBounded (sym f) g)
    ∙ ap (λ s. less s (option_map (λ (t : Takings). t.amount) p)) e ∙ ap (less x) f
