-- One fact more, and none.
use Rattle.std.proofs.Common.{◌≡◌, refl, sym, ◌∙◌, ap, subst, Bool, List, [], ◌∷◌, ◌++◌, map, Result, Ok, Err}
use Rattle.std.specs.Prelude.{OnOk}
use Rattle.std.specs.Cmp.{IsEquivalence, nat_eq_equiv, on_equiv, and_equiv}
use Rattle.oe_tally.specs.Tallies.{total, Adds}
use Rattle.oe_tally.proofs.TotalFacts.{added-more}
use Rattle.oe_facts.specs.declared.keys.DistrictId.{DistrictId}
use Rattle.oe_facts.specs.declared.keys.CustomerId.{CustomerId}
use Rattle.oe_facts.specs.declared.keys.OrderId.{OrderId}
use Rattle.oe_facts.specs.declared.keys.StockId.{StockId}
use Rattle.oe_ledgers.specs.Keys.{same_district, same_customer, same_order, same_stock}
use Rattle.oe_ledgers.specs.Keeping.{Keeps}

pub districts_equal : IsEquivalence same_district
districts_equal = and_equiv (on_equiv (λ (k : DistrictId). k.warehouse) nat_eq_equiv)
    (on_equiv (λ (k : DistrictId). k.district) nat_eq_equiv)

pub customers_equal : IsEquivalence same_customer
customers_equal =
    and_equiv (on_equiv (λ (k : CustomerId). k.warehouse) nat_eq_equiv)
    (and_equiv (on_equiv (λ (k : CustomerId). k.district) nat_eq_equiv)
    (on_equiv (λ (k : CustomerId). k.customer) nat_eq_equiv))

pub orders_equal : IsEquivalence same_order
orders_equal =
    and_equiv (on_equiv (λ (k : OrderId). k.warehouse) nat_eq_equiv)
    (and_equiv (on_equiv (λ (k : OrderId). k.district) nat_eq_equiv) (on_equiv (λ (k : OrderId). k.order) nat_eq_equiv))

pub stocks_equal : IsEquivalence same_stock
stocks_equal = and_equiv (on_equiv (λ (k : StockId). k.warehouse) nat_eq_equiv)
    (on_equiv (λ (k : StockId). k.item) nat_eq_equiv)

map-push : {F E : Type 0} (entry : F → E) (facts : List F) (fact : F)
    → map entry (facts ++ fact ∷ []) ≡ map entry facts ++ entry fact ∷ []
map-push entry [] fact = refl
map-push entry (f ∷ facts) fact = ap (λ es. entry f ∷ es) (map-push entry facts fact)

module _ {F K V : Type 0} {same : K → K → Bool} (equal : IsEquivalence same) (join : V → V → V)
    (assoc : (a b c : V) → join (join a b) c ≡ join a (join b c)) (comm : (a b : V) → join a b ≡ join b a) where
  pub kept_more : (entry : F → K × V) (facts : List F) (fact : F) (old new : List (K × V)) (value : V) → value
      ≡ (entry fact).1
      → Keeps same join entry facts old → Adds same join old new (entry fact).0 value
      → Keeps same join entry (facts ++ fact ∷ []) new
  kept_more entry facts fact old new value is h added k =
      added-more equal join assoc comm (map entry facts) old new (entry fact) h
      (subst (Adds same join old new (entry fact).0) is added) k
      ∙ sym (ap (λ es. total same join es k) (map-push entry facts fact))

pub on_ok : {T E P Q : Type 0} (r : Result T E) → (P → Q) → OnOk r P → OnOk r Q
on_ok (Ok x) f p = f p
on_ok (Err e) f p = tt
