-- How the number of first orders is known.
use Rattle.std.proofs.Common.{◌≡◌, ℕ, ◌<◌, List, [], ◌∷◌, ◌++◌, length, Option, Some, None, refl, sym, ap, subst}
use Rattle.std.proofs.Common.{◌∙◌, arith}
use Rattle.std.proofs.lemmas.List.{length-append}
use Rattle.std.specs.Option.{option_or}
use Rattle.std.specs.Prelude.{unwrap_or, MatchOption}
use Rattle.oe_facts.specs.declared.facts.CustomerFact.{CustomerFact}
use Rattle.oe_facts.specs.declared.facts.OrderFact.{OrderFact}
use Rattle.oe_facts.specs.declared.facts.OrderLineFact.{OrderLineFact}
use Rattle.oe_facts.specs.declared.tables.Fact.TheVariants as fact
use Rattle.oe_ledgers.specs.Figures.{AreFew}
use Rattle.oe_books.specs.declared.books.Initial.{Initial}
use Rattle.oe_books.specs.declared.books.Initial.TheVariants as initial
use Rattle.oe_books.specs.Facts.{Facts, with_fact}
use Rattle.oe_books.specs.Keeping.{IsInitial, IsKnown, behind_customer, IsOfFirstDistrict, AreLate}
use Rattle.oe_books.specs.Closing.{IsSized, HasOtherNumber}

longer : (f : CustomerFact) (customers : List CustomerFact) → length customers < length (customers ++ f ∷ [])
longer f customers = omega (arith, length-append customers (f ∷ []))

few_before : (f : CustomerFact) (customers : List CustomerFact) → AreFew (customers ++ f ∷ []) → AreFew customers
few_before f customers h = omega (arith, length-append customers (f ∷ []), h)

-- a CUSTOMER row more
late-more : (f : CustomerFact) (customers : List CustomerFact) (n : ℕ) (early : Option (List CustomerFact))
    → MatchOption early ⊥ (λ e. AreLate e customers × (AreFew customers → IsOfFirstDistrict e n))
    → MatchOption early ⊥
    (λ e. AreLate e (customers ++ f ∷ []) × (AreFew (customers ++ f ∷ []) → IsOfFirstDistrict e n))
late-more f customers n None h = h
late-more f customers n (Some e) h =
    (omega (arith, length-append customers (f ∷ []), h.0), λ few. h.1 (few_before f customers few))

late-now : (f : CustomerFact) (customers : List CustomerFact) (n : ℕ) (early : Option (List CustomerFact))
    → early ≡ Some customers → (AreFew customers → IsOfFirstDistrict customers n)
    → MatchOption early ⊥
    (λ e. AreLate e (customers ++ f ∷ []) × (AreFew (customers ++ f ∷ []) → IsOfFirstDistrict e n))
late-now f customers n early is h =
    subst (λ x. MatchOption x ⊥
    (λ e. AreLate e (customers ++ f ∷ []) × (AreFew (customers ++ f ∷ []) → IsOfFirstDistrict e n))) (sym is)
    (longer f customers, λ few. h (few_before f customers few))

pub customer_more : (g : Option ℕ) (t : Facts) (f : CustomerFact) (i : Initial) (n : ℕ) → IsInitial g t i n
    → IsInitial g (with_fact t (fact.Customer f)) (behind_customer i) n
customer_more g t f initial.Given n h = h
customer_more g t f initial.Open n h = h
customer_more g t f initial.Counted n h = (h.0, late-now f t.customers n t.early h.1 h.2)
customer_more g t f initial.Late n h = (h.0, late-more f t.customers n t.early h.1)

-- an ORDER or ORDER-LINE row more
settled : (early : Option (List CustomerFact)) (customers : List CustomerFact) → unwrap_or early customers ≡ customers
    → option_or early (Some customers) ≡ Some customers
settled None customers h = refl
settled (Some e) customers h = ap Some h

kept : (P : List CustomerFact → Type 0) (early other : Option (List CustomerFact)) → MatchOption early ⊥ P
    → MatchOption (option_or early other) ⊥ P
kept P None other h = absurd h
kept P (Some e) other h = h

-- rows more that ask for the number
asked : (g : Option ℕ) (t : Facts) (orders : List OrderFact) (lines : List OrderLineFact) (i : Initial) (n : ℕ)
    → IsKnown g t i n → IsInitial g
    (record t { orders = orders; lines = lines; early = option_or t.early (Some t.customers) }) i n
asked g t orders lines initial.Given n h = h
asked g t orders lines initial.Open n h = absurd h
asked g t orders lines initial.Counted n h = (h.0, settled t.early t.customers h.1, h.2)
asked g t orders lines initial.Late n h = (h.0, kept _ t.early (Some t.customers) h.1)

pub order_more : (g : Option ℕ) (t : Facts) (f : OrderFact) (i : Initial) (n : ℕ) → IsKnown g t i n
    → IsInitial g (with_fact t (fact.Order f)) i n
order_more g t f i n h = asked g t (t.orders ++ f ∷ []) t.lines i n h

pub line_more : (g : Option ℕ) (t : Facts) (f : OrderLineFact) (i : Initial) (n : ℕ) → IsKnown g t i n
    → IsInitial g (with_fact t (fact.OrderLine f)) i n
line_more g t f i n h = asked g t t.orders (t.lines ++ f ∷ []) i n h

-- but where it is open it is known
pub known : (g : Option ℕ) (t : Facts) (i : Initial) (n : ℕ) → (i ≡ initial.Open → ⊥) → IsInitial g t i n
    → IsKnown g t i n
known g t initial.Given n o h = h
known g t initial.Open n o h = absurd (o refl)
known g t initial.Counted n o h = (h.0, ap (λ e. unwrap_or e t.customers) h.1, h.2)
known g t initial.Late n o h = h

-- ---- behind the last row

other : (t : Facts) (n each : ℕ) (early : Option (List CustomerFact)) → AreFew t.customers → (n ≡ each → ⊥)
    → IsOfFirstDistrict t.customers each
    → MatchOption early ⊥ (λ e. AreLate e t.customers × (AreFew t.customers → IsOfFirstDistrict e n))
    → MatchOption early ⊥ (HasOtherNumber t.customers)
other t n each None few apart all h = h
other t n each (Some e) few apart all h = (h.0, (n, each, h.1 few, all, apart))

pub unsized-late : (g : Option ℕ) (t : Facts) (i : Initial) (n each : ℕ) → i ≡ initial.Late → IsKnown g t i n
    → AreFew t.customers → IsOfFirstDistrict t.customers each → (n ≡ each → ⊥) → IsSized g t n None
unsized-late g t i n each is h few all apart =
    let k = subst (λ i. IsKnown g t i n) is h in
    (k.0, other t n each t.early few apart all k.1)
