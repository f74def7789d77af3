-- A row of which columns were set in its place.
use Rattle.std.proofs.Common.{◌≡◌, refl, sym, ap, subst, inl, Option, None, Some}
use Rattle.std.specs.Prelude.{IsSome, IfSome, is_some, option_map}
use Rattle.std.specs.Option.{IsSomeAnd}
use Rattle.std.specs.FinMap.{get}
use Rattle.oe_rows.specs.declared.keys.WarehouseKey.{WarehouseKey}
use Rattle.oe_rows.specs.declared.keys.DistrictKey.{DistrictKey}
use Rattle.oe_rows.specs.declared.keys.CustomerKey.{CustomerKey}
use Rattle.oe_rows.specs.declared.keys.OrderKey.{OrderKey}
use Rattle.oe_rows.specs.declared.keys.OrderLineKey.{OrderLineKey}
use Rattle.oe_rows.specs.declared.keys.StockKey.{StockKey}
use Rattle.oe_rows.specs.declared.warehouses.Warehouse.{Warehouse}
use Rattle.oe_rows.specs.declared.districts.District.{District}
use Rattle.oe_rows.specs.declared.customers.Customer.{Customer}
use Rattle.oe_rows.specs.declared.orders.Order.{Order}
use Rattle.oe_rows.specs.declared.orders.OrderLine.{OrderLine}
use Rattle.oe_rows.specs.declared.items.Stock.{Stock}
use Rattle.oe_rows.proofs.KeyFacts.{warehouse_total, exact_warehouse, district_total, exact_district, customer_total}
use Rattle.oe_rows.proofs.KeyFacts.{exact_customer, order_total, exact_order, order_line_total, exact_order_line}
use Rattle.oe_rows.proofs.KeyFacts.{stock_total, exact_stock}
use Rattle.oe_model.specs.Keys.{supply_of_line}
use Rattle.oe_model.specs.Meets.{Accepts, Meets}
use Rattle.oe_model.specs.Changes.{Change, rows_after, key_of, UpdateWarehouse, UpdateDistrict, UpdateCustomer}
use Rattle.oe_model.specs.Changes.{UpdateOrder, UpdateOrderLine, UpdateStock}
use Rattle.oe_store.specs.Places.{Places, rows, HasPlace, SamePlaces}
use Rattle.oe_store.specs.Names.{SameNames}
use Rattle.oe_store.proofs.PlaceFacts.{place_of_row}
use Rattle.oe_change.specs.Applies.{GivesName}
use Rattle.oe_writes.specs.Made.{IsApplied}
use Rattle.oe_change.proofs.PlaceFacts.{adds_own}

-- a row is there where a change of it is
pub row_there : {A B : Type 0} (f : A → B) (o : Option A) → IsSome (option_map f o) → IsSome o
row_there f None h = h
row_there f (Some x) h = refl

-- a row that is there is changed to what is made of it
module _ (old new : Places) (same : SamePlaces old new) where
  made : {A : Type 0} (f : A → Change) (o : Option A) → IsSome (option_map f o)
      → ((x : A) → o ≡ Some x → GivesName (f x) old new)
      → ((x : A) → o ≡ Some x → Accepts (f x) (rows old) × (rows new ≡ rows_after (f x) (rows old))
      × HasPlace old (key_of (f x)))
      → IsSomeAnd (option_map f o) (λ c. IsApplied c old new)
  made f None some names h = absurd (no some)
    where
      no : IsSome (option_map f None) → ⊥
      no e = cc
  made f (Some x) some names h =
      let y = h x refl in
      λ l. record {
        accepted = y.0;
        changes = y.1;
        before = refl;
        places = adds_own old new (key_of (f x)) same y.2;
        names = names x refl;
      }

  pub warehouse_made : (k : WarehouseKey) (f : Warehouse → Warehouse)
      → SameNames old new
      → IsSome (option_map (λ x. UpdateWarehouse k (f x)) (get (rows old).warehouses k))
      → ((x : Warehouse) → get (rows old).warehouses k ≡ Some x
      → rows new ≡ rows_after (UpdateWarehouse k (f x)) (rows old))
      → IsSomeAnd (option_map (λ x. UpdateWarehouse k (f x)) (get (rows old).warehouses k))
      (λ c. IsApplied c old new)
  warehouse_made k f names some set =
      made (λ x. UpdateWarehouse k (f x)) (get (rows old).warehouses k) some (λ x is. names)
      (λ x is. (ap is_some is, set x is, place_of_row warehouse_total exact_warehouse old.warehouses k (ap is_some is)))

  pub district_made : (k : DistrictKey) (f : District → District)
      → SameNames old new
      → IsSome (option_map (λ x. UpdateDistrict k (f x)) (get (rows old).districts k))
      → ((x : District) → get (rows old).districts k ≡ Some x → rows new
      ≡ rows_after (UpdateDistrict k (f x)) (rows old))
      → IsSomeAnd (option_map (λ x. UpdateDistrict k (f x)) (get (rows old).districts k))
      (λ c. IsApplied c old new)
  district_made k f names some set =
      made (λ x. UpdateDistrict k (f x)) (get (rows old).districts k) some (λ x is. names)
      (λ x is. (ap is_some is, set x is, place_of_row district_total exact_district old.districts k (ap is_some is)))

  pub customer_made : (k : CustomerKey) (f : Customer → Customer)
      → ((x : Customer) → get (rows old).customers k ≡ Some x → GivesName (UpdateCustomer k (f x)) old new)
      → IsSome (option_map (λ x. UpdateCustomer k (f x)) (get (rows old).customers k))
      → ((x : Customer) → get (rows old).customers k ≡ Some x → rows new
      ≡ rows_after (UpdateCustomer k (f x)) (rows old))
      → IsSomeAnd (option_map (λ x. UpdateCustomer k (f x)) (get (rows old).customers k))
      (λ c. IsApplied c old new)
  customer_made k f names some set =
      made (λ x. UpdateCustomer k (f x)) (get (rows old).customers k) some names
      (λ x is. (ap is_some is, set x is, place_of_row customer_total exact_customer old.customers k (ap is_some is)))

  -- its C_LAST stays
  pub account_made : (k : CustomerKey) (f : Customer → Customer) → ((x : Customer) → x.name.last ≡ (f x).name.last)
      → SameNames old new
      → IsSome (option_map (λ x. UpdateCustomer k (f x)) (get (rows old).customers k))
      → ((x : Customer) → get (rows old).customers k ≡ Some x → rows new
      ≡ rows_after (UpdateCustomer k (f x)) (rows old))
      → IsSomeAnd (option_map (λ x. UpdateCustomer k (f x)) (get (rows old).customers k))
      (λ c. IsApplied c old new)
  account_made k f last names some set =
      customer_made k f
      (λ x is. inl (
        names,
        subst (λ (o : Option Customer). IfSome o (λ c. c.name.last ≡ (f x).name.last)) (sym is)
            (last x),
      )) some set

  -- its customer stays
  pub order_made : (k : OrderKey) (f : Order → Order) → ((x : Order) → (f x).customer ≡ x.customer)
      → SameNames old new
      → IsSome (option_map (λ x. UpdateOrder k (f x)) (get (rows old).orders k))
      → ((x : Order) → get (rows old).orders k ≡ Some x → rows new ≡ rows_after (UpdateOrder k (f x)) (rows old))
      → IsSomeAnd (option_map (λ x. UpdateOrder k (f x)) (get (rows old).orders k))
      (λ c. IsApplied c old new)
  order_made k f customer names some set =
      made (λ x. UpdateOrder k (f x)) (get (rows old).orders k) some (λ x is. names)
      (λ x is. ((x, is, customer x), set x is, place_of_row order_total exact_order old.orders k (ap is_some is)))

  -- its stock stays
  pub order_line_made : (k : OrderLineKey) (f : OrderLine → OrderLine)
      → ((x : OrderLine) → supply_of_line (f x) ≡ supply_of_line x) → Meets (rows old)
      → SameNames old new
      → IsSome (option_map (λ x. UpdateOrderLine k (f x)) (get (rows old).order_lines k))
      → ((x : OrderLine) → get (rows old).order_lines k ≡ Some x
      → rows new ≡ rows_after (UpdateOrderLine k (f x)) (rows old))
      → IsSomeAnd (option_map (λ x. UpdateOrderLine k (f x)) (get (rows old).order_lines k))
      (λ c. IsApplied c old new)
  order_line_made k f supply schema names some set =
      made (λ x. UpdateOrderLine k (f x)) (get (rows old).order_lines k) some (λ x is. names)
      (λ x is. (
        (
          ap is_some is,
          subst (λ (j : StockKey). IsSome (get (rows old).stocks j)) (sym (supply x))
              (schema.order_lines k x is).1,
        ),
        set x is,
        place_of_row order_line_total exact_order_line old.order_lines k (ap is_some is),
      ))

  pub stock_made : (k : StockKey) (f : Stock → Stock)
      → SameNames old new
      → IsSome (option_map (λ x. UpdateStock k (f x)) (get (rows old).stocks k))
      → ((x : Stock) → get (rows old).stocks k ≡ Some x → rows new ≡ rows_after (UpdateStock k (f x)) (rows old))
      → IsSomeAnd (option_map (λ x. UpdateStock k (f x)) (get (rows old).stocks k))
      (λ c. IsApplied c old new)
  stock_made k f names some set =
      made (λ x. UpdateStock k (f x)) (get (rows old).stocks k) some (λ x is. names)
      (λ x is. (ap is_some is, set x is, place_of_row stock_total exact_stock old.stocks k (ap is_some is)))
