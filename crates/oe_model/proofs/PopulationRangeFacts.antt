-- The population by formula lies in the ranges of the columns.
use Rattle.std.proofs.Common.{◌≡◌, ℕ, ◌+◌, ◌-◌, ◌*◌, ◌%◌, ◌≤◌, ◌<◌, refl, sym, subst, Bool, true, false, cond, Some}
use Rattle.std.proofs.Common.{None, ◌++◌, codes, arith}
use Rattle.std.specs.Prelude.{◌==◌, option_map, IfSome}
use Rattle.std.specs.Int.{IsInRange}
use Rattle.std.proofs.lemmas.Bool.{and_parts}
use Rattle.std.proofs.lemmas.List.FromFn.{length-map-range_with_len, get_or-map-range_with_len}
use Rattle.std.proofs.lemmas.Nat.{mod_below, mul-le}
use lib.Signed.{le_z_yes}
use Rattle.oe_values.specs.Text.{IsText}
use Rattle.oe_rows.specs.Key.{IsDistrictKey, IsCustomerKey}
use Rattle.oe_rows.specs.Warehouse.{IsAddress, IsWarehouse}
use Rattle.oe_rows.specs.District.{IsDistrict}
use Rattle.oe_rows.specs.Customer.{IsCustomer}
use Rattle.oe_rows.specs.History.{IsHistory}
use Rattle.oe_rows.specs.Order.{IsOrder, IsOrderLine}
use Rattle.oe_rows.specs.Item.{IsItem, IsStock}
use Rattle.oe_rows.specs.declared.scales.Scale.{Scale}
use Rattle.oe_rows.specs.declared.keys.DistrictKey.{DistrictKey}
use Rattle.oe_rows.specs.declared.keys.CustomerKey.{CustomerKey}
use Rattle.oe_rows.specs.declared.keys.HistoryKey.{HistoryKey}
use Rattle.oe_rows.specs.declared.keys.OrderKey.{OrderKey}
use Rattle.oe_rows.specs.declared.keys.OrderLineKey.{OrderLineKey}
use Rattle.oe_rows.specs.declared.keys.Key.{Key}
use Rattle.oe_rows.specs.declared.keys.Key.TheVariants as key
use Rattle.oe_rows.specs.declared.rows.Row.{Row}
use Rattle.oe_rows.specs.declared.rows.Row.TheVariants as row
use Rattle.oe_rows.proofs.KeyFacts.{history_total, exact_history}
use Rattle.oe_model.specs.Keys.{warehouse_of_district, district_of_customer, order_of_new_order, district_of_order}
use Rattle.oe_model.specs.Keys.{order_of_line, warehouse_of_stock}
use Rattle.oe_model.specs.Population.{IsScale, formula, where_there, counts_to, has_warehouse, has_district}
use Rattle.oe_model.specs.Population.{has_customer, has_history, has_order, has_new_order, has_line, has_item}
use Rattle.oe_model.specs.Population.{has_stock, dec, address_of, letters, has_bad_credit, warehouse_of, district_of}
use Rattle.oe_model.specs.Population.{customer_of, history_of, history_key, counted_customer, order_of, line_of}
use Rattle.oe_model.specs.Population.{item_of, stock_of, dist_text, is_delivered, lines_of}
use Rattle.oe_model.specs.PopulationRanges.{IsKey, IsRow, Population_is_in_range}
use Rattle.oe_model.proofs.MapFacts.{is_same}
use Rattle.oe_model.proofs.PopulationFacts.{counts}
use Rattle.oe_model.proofs.PopulationTextFacts.{wider, joined, literal, dec_text, letters_text, last_name_text}
use Rattle.oe_model.proofs.PopulationTextFacts.{dist_text_text}

address_in : (n : ℕ) → IsAddress (address_of n)
address_in n = record {
  street_1 = literal 0 20 (codes "STREET1") refl;
  street_2 = literal 0 20 (codes "STREET2") refl;
  city = literal 0 20 (codes "CITY") refl;
  state = literal 2 2 (codes "ST") refl;
  zip = joined _ _ (dec_text n 4) (literal 5 5 (codes "11111") refl);
}

module _ (s : Scale) (sc : IsScale s) where
  warehouse_in : (w : ℕ) → IsWarehouse (warehouse_of s w)
  warehouse_in w =
      let c = sc.customers.1 in
      record {
        name = wider 0 10 (omega arith) (omega arith)
            (joined _ _ (literal 4 4 (codes "WARE") refl) (dec_text w 2));
        address = address_in w;
        tax = omega arith;
        ytd = omega arith;
      }

  district_in : (d : ℕ) → IsDistrict (district_of s d)
  district_in d =
      let c = sc.customers.1 in
      record {
        name = wider 0 10 (omega arith) (omega arith)
            (joined _ _ (literal 4 4 (codes "DIST") refl) (dec_text d 2));
        address = address_in d;
        tax = omega arith;
        ytd = omega arith;
        next_order = (omega arith, omega arith);
      }

  customer_in : (c : ℕ) → IsCustomer (customer_of c)
  customer_in c = record {
    name = record {
      first = wider 0 16 (omega arith) (omega arith)
          (joined _ _ (literal 1 1 (codes "F") refl) (dec_text (10_000 - c) 5));
      middle = literal 2 2 (codes "OE") refl;
      last = wider 0 16 (omega arith) (omega arith) (last_name_text ((c - 1) % 1_000));
    };
    address = address_in c;
    phone = dec_text c 16;
    since = omega arith;
    account = record {
      credit_limit = omega arith;
      discount = omega arith;
      balance = (le_z_yes tt, le_z_yes tt);
      ytd_payment = omega arith;
      payment_count = omega arith;
      delivery_count = omega arith;
    };
    text = by_credit (has_bad_credit c);
  }
    where
      by_credit : (b : Bool) → IsText 0 500 (letters (cond b 500 300) c)
      by_credit true = wider 0 500 (omega arith) (omega arith) (letters_text 500 c)
      by_credit false = wider 0 500 (omega arith) (omega arith) (letters_text 300 c)

  item_in : (i : ℕ) → IsItem (item_of i)
  item_in i = record {
    image = (omega arith, omega arith);
    name = wider 0 24 (omega arith) (omega arith) (joined _ _ (literal 4 4 (codes "ITEM") refl) (dec_text i 6));
    price = omega arith;
    text = by_brand (i % 10 == 0);
  }
    where
      by_brand : (b : Bool) → IsText 0 50 (cond b (codes "ORIGINAL-") (codes "ITEMDATA-") ++ dec i 6)
      by_brand true = wider 0 50 (omega arith) (omega arith)
          (joined _ _ (literal 9 9 (codes "ORIGINAL-") refl) (dec_text i 6))
      by_brand false = wider 0 50 (omega arith) (omega arith)
          (joined _ _ (literal 9 9 (codes "ITEMDATA-") refl) (dec_text i 6))

  stock_in : (w i : ℕ) → IsStock (stock_of w i)
  stock_in w i = record {
    quantity = omega arith;
    ten_infos = length-map-range_with_len (λ d. dist_text w d i) 1 10;
    dist_info = λ k d l. subst (IsText 24 24)
        (sym (get_or-map-range_with_len (λ d. dist_text w d i) 1 10 k (1 + k) d l refl)) (dist_text_text w (1 + k) i);
    ytd = omega arith;
    order_count = omega arith;
    remote_count = omega arith;
    text = by_brand (i % 20 == 0);
  }
    where
      by_brand : (b : Bool) → IsText 0 50 (cond b (codes "ORIGINAL-") (codes "STOCKDATA-") ++ dec i 6)
      by_brand true = wider 0 50 (omega arith) (omega arith)
          (joined _ _ (literal 9 9 (codes "ORIGINAL-") refl) (dec_text i 6))
      by_brand false = wider 0 50 (omega arith) (omega arith)
          (joined _ _ (literal 10 10 (codes "STOCKDATA-") refl) (dec_text i 6))

  -- keys that have a row
  district_key : (k : DistrictKey) → has_district s k ≡ true → IsDistrictKey k
  district_key k t =
      let a = and_parts (has_warehouse s (warehouse_of_district k)) (counts_to 10 k.district) t in
      let w = counts s.warehouses k.warehouse a.0 in
      let top = sc.warehouses.1 in
      record { warehouse = (w.0, omega arith); district = counts 10 k.district a.1 }

  customer_key : (k : CustomerKey) → has_customer s k ≡ true → IsCustomerKey k
  customer_key k t =
      let a = and_parts (has_district s (district_of_customer k)) (counts_to s.customers k.customer) t in
      let d = district_key (district_of_customer k) a.0 in
      let c = counts s.customers k.customer a.1 in
      let top = sc.customers.1 in
      record { warehouse = d.warehouse; district = d.district; customer = (c.0, omega arith) }

  history_key_in : (k : HistoryKey) → has_history s k ≡ true → IsKey (key.History k)
      × IsHistory (history_of (counted_customer s k.number))
  history_key_in k t =
      let c = counted_customer s k.number in
      let a = and_parts (has_customer s c) _ t in
      let same : k ≡ history_key s c = is_same history_total exact_history k (history_key s c) a.1 in
      let owner : IsCustomerKey c = customer_key c a.0 in
      let w = owner.warehouse.1 in
      let d = owner.district.1 in
      let n = owner.customer.1 in
      let most = sc.customers.1 in
      let product = mul-le ((c.warehouse - 1) * 10 + (c.district - 1)) s.customers 159 3_000 (omega arith) most in (
        subst (λ (q : HistoryKey). IsKey (key.History q)) (sym same) (refl, (omega arith, omega arith), refl),
        record {
          customer = owner;
          district = record { warehouse = owner.warehouse; district = owner.district };
          date = omega arith;
          amount = omega arith;
          text = literal 0 24 (codes "INITIAL HISTORY") refl;
        },
      )

  order_key : (k : OrderKey) → has_order s k ≡ true → IsDistrictKey (district_of_order k) × IsInRange 1 3_000 k.order
  order_key k t =
      let a = and_parts (has_district s (district_of_order k)) (counts_to s.customers k.order) t in
      let o = counts s.customers k.order a.1 in
      let top = sc.customers.1 in
      (district_key (district_of_order k) a.0, (o.0, omega arith))

  order_in : (o : ℕ) → IsInRange 1 3_000 o → IsOrder (order_of s o)
  order_in o t = record {
    customer = t;
    entry = omega arith;
    carrier = by_delivery (is_delivered s o);
    line_count = (omega arith, omega arith);
  }
    where
      by_delivery : (b : Bool) → IfSome (cond b (Some (1 + o % 10)) None) (IsInRange 1 10)
      by_delivery true = (omega arith, omega arith)
      by_delivery false = tt

  line_in : (k : OrderLineKey) → IsInRange 1 16 k.warehouse → IsOrderLine (line_of s k)
  line_in k w =
      let small = mod_below (7 * k.order + 3 * k.number) s.items sc.items.0 in
      let top = sc.items.1 in
      record {
        item = (omega arith, omega arith);
        supply = w;
        delivery = by_date (is_delivered s k.order);
        quantity = omega arith;
        amount = by_delivery (is_delivered s k.order);
        dist_info = dist_text_text _ _ _;
      }
    where
      by_date : (b : Bool) → IfSome (cond b (Some 3_155_673_600) None) (λ t. t < 6_342_969_600)
      by_date true = omega arith
      by_date false = tt

      by_delivery : (b : Bool) → cond b 0 (1 + (97 * k.order + 31 * k.number) % 999_999) ≤ 999_999
      by_delivery true = omega arith
      by_delivery false = omega arith

  item_key : (i : ℕ) → counts_to s.items i ≡ true → IsInRange 1 100_000 i
  item_key i t = let n = counts s.items i t in let top = sc.items.1 in (n.0, omega arith)

  warehouse_key : (w : ℕ) → counts_to s.warehouses w ≡ true → IsInRange 1 16 w
  warehouse_key w t = let n = counts s.warehouses w t in let top = sc.warehouses.1 in (n.0, omega arith)

  -- a row that is there
  there : {X : Type 0} (c : X → Row) (b : Bool) (y : X) (x : Row) → option_map c (where_there b y) ≡ Some x
      → (b ≡ true) × (c y ≡ x)
  there c true y x e = (refl, cc)
  there c false y x e = let no : ⊥ = cc in absurd no

  pub in_range : (k : Key) (x : Row) → formula s k ≡ Some x → IsKey k × IsRow x
  in_range (key.Warehouse k) x e = let t = there row.Warehouse (has_warehouse s k) (warehouse_of s k.warehouse) x e in
      (warehouse_key k.warehouse t.0, subst IsRow t.1 (warehouse_in k.warehouse))
  in_range (key.District k) x e = let t = there row.District (has_district s k) (district_of s k.district) x e in
      (district_key k t.0, subst IsRow t.1 (district_in k.district))
  in_range (key.Customer k) x e = let t = there row.Customer (has_customer s k) (customer_of k.customer) x e in
      (customer_key k t.0, subst IsRow t.1 (customer_in k.customer))
  in_range (key.History k) x e =
      let t = there row.History (has_history s k) (history_of (counted_customer s k.number)) x e in
      let h = history_key_in k t.0 in (h.0, subst IsRow t.1 h.1)
  in_range (key.NewOrder k) x e =
      let t = there row.NewOrder (has_new_order s k) (record {}) x e in
      let o = order_key (order_of_new_order k) (and_parts (has_order s (order_of_new_order k)) _ t.0).0 in
      let top = o.1.1 in
      ((o.0, (o.1.0, omega arith)), subst IsRow t.1 tt)
  in_range (key.Order k) x e =
      let t = there row.Order (has_order s k) (order_of s k.order) x e in
      let o = order_key k t.0 in
      let top = o.1.1 in
      ((o.0, (o.1.0, omega arith)), subst IsRow t.1 (order_in k.order o.1))
  in_range (key.OrderLine k) x e =
      let t = there row.OrderLine (has_line s k) (line_of s k) x e in
      let a = and_parts (has_order s (order_of_line k)) (counts_to (lines_of k.order) k.number) t.0 in
      let o = order_key (order_of_line k) a.0 in
      let n = counts (lines_of k.order) k.number a.1 in
      let top = o.1.1 in
      ((o.0, (o.1.0, omega arith), (n.0, omega arith)), subst IsRow t.1 (line_in k o.0.warehouse))
  in_range (key.Item k) x e = let t = there row.Item (has_item s k) (item_of k.item) x e in
      (item_key k.item t.0, subst IsRow t.1 (item_in k.item))
  in_range (key.Stock k) x e =
      let t = there row.Stock (has_stock s k) (stock_of k.warehouse k.item) x e in
      let a = and_parts (has_warehouse s (warehouse_of_stock k)) _ t.0 in
      ((warehouse_key k.warehouse a.0, item_key k.item a.1), subst IsRow t.1 (stock_in k.warehouse k.item))

pub population_is_in_range : Population_is_in_range
population_is_in_range = record { in_range = λ s k x sc. in_range s sc k x }
