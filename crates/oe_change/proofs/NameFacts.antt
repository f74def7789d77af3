-- The lists of last names where a change is undone.
use Rattle.std.proofs.Common.{◌≡◌, ℕ, sym, ap, ◌∙◌, List, Option, None, Some}
use Rattle.std.specs.Prelude.{IfSome, option_map}
use Rattle.oe_rows.specs.declared.keys.CustomerKey.{CustomerKey}
use Rattle.oe_model.specs.Keys.{district_of_customer}
use Rattle.oe_index.specs.Numbers.{list_number}
use Rattle.oe_store.specs.Places.{Places, Listing}
use Rattle.oe_store.specs.Names.{SameNames, StandWhere, IsNamed}

-- where no name is put back, they stand on
pub stand_still : (old new : Places) → SameNames old new → StandWhere old new (Unit {0})
stand_still old new same =
    let stand = ap (λ (l : Listing CustomerKey). l.is_listed) same in
    record {
      lists = ap (λ (l : Listing CustomerKey). l.lists) same;
      stand = ((λ h. (sym stand ∙ h, tt)), (λ h. stand ∙ h.0));
    }

-- and else where the customer is listed under it
pub stand_where : (old new : Places) (k : CustomerKey) (o : Option (List ℕ))
    → StandWhere old new (IfSome o (λ last. IsNamed old (list_number (district_of_customer k) last) k))
    → StandWhere old new
    (IfSome (option_map {U = CustomerKey × List ℕ} (λ last. (k, last)) o)
    (λ x. IsNamed old (list_number (district_of_customer x.0) x.1) x.0))
stand_where old new k None h = h
stand_where old new k (Some last) h = h
