-- One row more.
use Rattle.std.proofs.Common.{◌≡◌, ℕ, ◌+◌, ◌<◌, ◌≤◌, ◌^◌, List, [], ◌∷◌, ◌++◌, length, Ok, Err, sym, ap, ◌∙◌, arith}
use Rattle.std.proofs.Common.{subst, refl, append-nil, inl, inr}
use Rattle.std.proofs.lemmas.List.{length-append}
use Rattle.std.proofs.lemmas.List.Elements.{All-push}
use Rattle.std.specs.Prelude.{All, OnOk, Result, ◌⊎◌}
use Rattle.std.specs.Int.RustNames.{unsigned_abs}
use Rattle.oe_facts.specs.declared.facts.DistrictFact.{DistrictFact}
use Rattle.oe_facts.specs.declared.facts.HistoryFact.{HistoryFact}
use Rattle.oe_facts.specs.declared.facts.OrderFact.{OrderFact}
use Rattle.oe_facts.specs.declared.facts.OrderLineFact.{OrderLineFact}
use Rattle.oe_ledgers.specs.declared.districts.Districts.{Districts}
use Rattle.oe_ledgers.specs.declared.histories.Histories.{Histories}
use Rattle.oe_ledgers.specs.declared.orders.Orders.{Orders}
use Rattle.oe_ledgers.specs.Keeping.{Takes, KeepsDistricts, KeepsHistories, KeepsOrders, KeepsOrderLines}
use Rattle.oe_line_numbers.specs.Blocks.{KeepsLineNumbers}
use Rattle.oe_books.specs.declared.rows.Rows.{Rows}
use Rattle.oe_books.specs.declared.rows.Lines.{Lines}
use Rattle.oe_books.specs.Keeping.{in_64_bits, IsOf, BookDistricts, BookHistories, BookOrders, BookLines}

pub on_ok : {T E P Q : Type 0} (r : Result T E) → (P → Q) → OnOk r P → OnOk r Q
on_ok (Ok x) f p = f p
on_ok (Err e) f p = tt

pub all_none : {A : Type 0} (P : A → Type 0) → All P []
all_none P k d h = absurd (omega (arith, h))

capped_more : (n : ℕ) → in_64_bits (in_64_bits n + 1) ≡ in_64_bits (n + 1)
capped_more n = omega arith

-- a ledger took a row, and it is counted
pub one_more : {F L : Type 0} (IsKept : List F → L → Type 0) (old new : Rows L) (f : F)
    → new.count ≡ in_64_bits (old.count + 1) → Takes IsKept old.kept new.kept f → Takes (IsOf IsKept) old new f
one_more IsKept old new f e takes facts h = record {
  kept = takes facts h.kept;
  counted = e ∙ ap (λ n. in_64_bits (n + 1)) h.counted ∙ capped_more (length facts)
      ∙ ap in_64_bits (sym (length-append facts (f ∷ [])));
}

-- a ledger that counts none is of no fact
none_counted : {F : Type 0} (facts : List F) → 0 ≡ in_64_bits (length facts) → facts ≡ []
none_counted [] e = refl
none_counted (f ∷ facts) e = absurd (omega (arith, e))

module _ {F L : Type 0} (IsKept : List F → L → Type 0) (old other new : Rows L) where
  -- a ledger took all rows of another, where one of both has none
  pub all_more : ((new ≡ old) × (other.count ≡ 0)) ⊎ ((new ≡ other) × (old.count ≡ 0))
      → (facts more : List F) → IsOf IsKept facts old → IsOf IsKept more other → IsOf IsKept (facts ++ more) new
  all_more (inl is) facts more h g =
      let none = none_counted more (sym is.1 ∙ g.counted) in
      subst (λ xs. IsOf IsKept (facts ++ xs) new) (sym none)
      (subst (λ xs. IsOf IsKept xs new) (sym (append-nil facts)) (subst (IsOf IsKept facts) (sym is.0) h))
  all_more (inr is) facts more h g =
      let none = none_counted facts (sym is.1 ∙ h.counted) in
      subst (λ xs. IsOf IsKept (xs ++ more) new) (sym none) (subst (IsOf IsKept more) (sym is.0) g)

pub districts_more : (old new : Districts) (f : DistrictFact) → unsigned_abs f.ytd ≤ 2 ^ 63
    → Takes KeepsDistricts old new f → Takes BookDistricts old new f
districts_more old new f within takes facts h = record {
  sums = takes facts h.sums;
  amounts = All-push (λ (f : DistrictFact). unsigned_abs f.ytd ≤ 2 ^ 63) facts f h.amounts within;
}

pub histories_more : (old new : Histories) (f : HistoryFact) → unsigned_abs f.amount ≤ 2 ^ 63
    → Takes KeepsHistories old new f → Takes BookHistories old new f
histories_more old new f within takes facts h = record {
  sums = takes facts h.sums;
  amounts = All-push (λ (f : HistoryFact). unsigned_abs f.amount ≤ 2 ^ 63) facts f h.amounts within;
}

pub orders_more : (old new : Orders) (f : OrderFact) → f.line_count < 2 ^ 32
    → Takes KeepsOrders old new f → Takes BookOrders old new f
orders_more old new f below takes facts h = record {
  sums = takes facts h.sums;
  counts = All-push (λ (f : OrderFact). f.line_count < 2 ^ 32) facts f h.counts below;
}

pub lines_more : (old new : Lines) (f : OrderLineFact) → unsigned_abs f.amount ≤ 2 ^ 63 → f.quantity < 2 ^ 32
    → Takes KeepsOrderLines old.sums new.sums f → Takes KeepsLineNumbers old.numbers new.numbers f
    → Takes BookLines old new f
lines_more old new f within below takes numbers facts h = record {
  sums = takes facts h.sums;
  numbers = numbers facts h.numbers;
  amounts = All-push (λ (f : OrderLineFact). unsigned_abs f.amount ≤ 2 ^ 63) facts f h.amounts within;
  quantities = All-push (λ (f : OrderLineFact). f.quantity < 2 ^ 32) facts f h.quantities below;
}
