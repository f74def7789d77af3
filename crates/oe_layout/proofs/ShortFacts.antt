-- No record is too long for its lengths.
use Rattle.std.proofs.Common.{ℕ, ◌+◌, ◌<◌, ◌≤◌, ◌≡◌, List, [], ◌∷◌, length, Option, Some, None, arith}
use Rattle.std.specs.Prelude.{IfSome}
use Rattle.std.specs.List.{All}
use Rattle.std.specs.Option.{option_map}
use Rattle.oe_values.specs.Text.{IsText}
use Rattle.oe_rows.specs.declared.before.AddressBefore.{AddressBefore}
use Rattle.oe_rows.specs.declared.before.WarehouseBefore.{WarehouseBefore}
use Rattle.oe_rows.specs.declared.before.DistrictBefore.{DistrictBefore}
use Rattle.oe_rows.specs.declared.before.CustomerNameBefore.{CustomerNameBefore}
use Rattle.oe_rows.specs.declared.before.AccountBefore.{AccountBefore}
use Rattle.oe_rows.specs.declared.before.CustomerBefore.{CustomerBefore}
use Rattle.oe_rows.specs.declared.before.OrderBefore.{OrderBefore}
use Rattle.oe_rows.specs.declared.before.OrderLineBefore.{OrderLineBefore}
use Rattle.oe_rows.specs.declared.before.StockBefore.{StockBefore}
use Rattle.oe_rows.specs.declared.rows.Row.{Row}
use Rattle.oe_rows.specs.declared.rows.Row.TheVariants as row
use Rattle.oe_rows.specs.declared.keys.Key.{Key}
use Rattle.oe_rows.specs.declared.keys.Key.TheVariants as key
use Rattle.oe_image.specs.Rows.{IsRow}
use Rattle.oe_decode.specs.BeforeRanges.{IsAddressBefore, IsNameBefore, IsWarehouseBefore, IsDistrictBefore}
use Rattle.oe_decode.specs.BeforeRanges.{IsCustomerBefore, IsOrderBefore, IsOrderLineBefore, IsStockBefore}
use Rattle.oe_model.specs.Changes as model
use Rattle.oe_model.specs.Changes.{Record, record_key}
use Rattle.oe_model.specs.Lengths.{text_length, optional_length, key_length, row_length, before_length, kept_length}
use Rattle.oe_model.specs.Lengths.{record_length, column_length, texts_length, columns_length, address_columns_length}
use Rattle.oe_model.specs.Lengths.{warehouse_columns_length, district_columns_length, name_columns_length}
use Rattle.oe_model.specs.Lengths.{account_columns_length, customer_columns_length, order_columns_length}
use Rattle.oe_model.specs.Lengths.{order_line_columns_length, stock_columns_length}
use Rattle.oe_layout.specs.Records.{IsBefore, IsInRanges}

optional_short : (width : ℕ) (v : Option ℕ) → optional_length width v ≤ 1 + width
optional_short width None = omega arith
optional_short width (Some x) = omega arith

row_short : (r : Row) → IsRow r → row_length r ≤ 683
row_short (row.Warehouse r) h =
    omega (
      arith,
      h.name.at_most,
      h.address.street_1.at_most,
      h.address.street_2.at_most,
      h.address.city.at_most,
      h.address.state.at_most,
      h.address.zip.at_most,
    )
row_short (row.District r) h =
    omega (
      arith,
      h.name.at_most,
      h.address.street_1.at_most,
      h.address.street_2.at_most,
      h.address.city.at_most,
      h.address.state.at_most,
      h.address.zip.at_most,
    )
row_short (row.Customer r) h =
    omega (
      arith,
      h.name.first.at_most,
      h.name.middle.at_most,
      h.name.last.at_most,
      h.address.street_1.at_most,
      h.address.street_2.at_most,
      h.address.city.at_most,
      h.address.state.at_most,
      h.address.zip.at_most,
      h.phone.at_most,
      h.text.at_most,
    )
row_short (row.History r) h = omega (arith, h.text.at_most)
row_short (row.NewOrder r) h = omega arith
row_short (row.Order r) h = omega (arith, optional_short 1 r.carrier)
row_short (row.OrderLine r) h = omega (arith, optional_short 8 r.delivery, h.dist_info.at_most)
row_short (row.Item r) h = omega (arith, h.name.at_most, h.text.at_most)
row_short (row.Stock r) h = omega (arith, h.text.at_most)

key_short : (k : Key) → key_length k ≤ 8
key_short (key.Warehouse k) = omega arith
key_short (key.District k) = omega arith
key_short (key.Customer k) = omega arith
key_short (key.History k) = omega arith
key_short (key.NewOrder k) = omega arith
key_short (key.Order k) = omega arith
key_short (key.OrderLine k) = omega arith
key_short (key.Item k) = omega arith
key_short (key.Stock k) = omega arith

-- ---- columns before an update

column_short : {X : Type 0} (long : X → ℕ) (most : ℕ) → ((x : X) → long x ≤ most) → (v : Option X)
    → column_length long v ≤ most
column_short long most each None = omega arith
column_short long most each (Some x) = each x

fixed_short : {X : Type 0} (width : ℕ) (v : Option X) → column_length (λ _. width) v ≤ width
fixed_short width v = column_short (λ _. width) width (λ _. omega arith) v

text_short : (least most : ℕ) (v : Option (List ℕ)) → IfSome v (IsText least most)
    → column_length text_length v ≤ 2 + most
text_short least most None h = omega arith
text_short least most (Some t) h = omega (arith, h.at_most)

address_short : (a : AddressBefore) → IsAddressBefore a → address_columns_length a ≤ 81
address_short a h =
    omega (
      arith,
      text_short 0 20 a.street_1 h.street_1,
      text_short 0 20 a.street_2 h.street_2,
      text_short 0 20 a.city h.city,
      text_short 2 2 a.state h.state,
      text_short 9 9 a.zip h.zip,
    )

warehouse_short : (w : WarehouseBefore) → IsWarehouseBefore w → 1 + warehouse_columns_length w ≤ 686
warehouse_short w h = omega (
  arith,
  text_short 0 10 w.name h.name,
  address_short w.address h.address,
  fixed_short 2 w.tax,
  fixed_short 8 w.ytd,
)

district_short : (d : DistrictBefore) → IsDistrictBefore d → 2 + district_columns_length d ≤ 686
district_short d h = omega (
  arith,
  text_short 0 10 d.name h.name,
  address_short d.address h.address,
  fixed_short 2 d.tax,
  fixed_short 8 d.ytd,
  fixed_short 4 d.next_order,
)

name_short : (n : CustomerNameBefore) → IsNameBefore n → name_columns_length n ≤ 40
name_short n h =
    omega (
      arith,
      text_short 0 16 n.first h.first,
      text_short 2 2 n.middle h.middle,
      text_short 0 16 n.last h.last,
    )

account_short : (a : AccountBefore) → account_columns_length a ≤ 30
account_short a =
    omega (
      arith,
      fixed_short 8 a.credit_limit,
      fixed_short 2 a.discount,
      fixed_short 8 a.balance,
      fixed_short 8 a.ytd_payment,
      fixed_short 2 a.payment_count,
      fixed_short 2 a.delivery_count,
    )

-- all columns of a customer, and their mask
customer_short : (c : CustomerBefore) → IsCustomerBefore c → 3 + customer_columns_length c ≤ 686
customer_short c h = omega (
  arith,
  name_short c.name h.name,
  address_short c.address h.address,
  text_short 16 16 c.phone h.phone,
  fixed_short 8 c.since,
  fixed_short 4 c.credit,
  account_short c.account,
  text_short 0 500 c.data h.text,
)

order_short : (o : OrderBefore) → 1 + order_columns_length o ≤ 686
order_short o =
    omega (
      arith,
      fixed_short 2 o.customer,
      fixed_short 8 o.entry,
      column_short (optional_length 1) 2 (λ v. optional_short 1 v) o.carrier,
      fixed_short 1 o.line_count,
      fixed_short 1 o.all_local,
    )

order_line_short : (l : OrderLineBefore) → IsOrderLineBefore l → 1 + order_line_columns_length l ≤ 686
order_line_short l h =
    omega (
      arith,
      fixed_short 4 l.item,
      fixed_short 2 l.supply,
      column_short (optional_length 8) 9 (λ v. optional_short 8 v) l.delivery,
      fixed_short 1 l.quantity,
      fixed_short 8 l.amount,
      text_short 24 24 l.dist_info h.dist_info,
    )

ten_short : (ds : List (Option (List ℕ))) → length ds ≡ 10 → All (λ d. IfSome d (IsText 24 24)) ds
    → texts_length ds ≤ 260
ten_short (a ∷ b ∷ c ∷ d ∷ e ∷ f ∷ g ∷ h ∷ i ∷ j ∷ []) long fits =
    omega (
      arith,
      text_short 24 24 a (fits 0 None (omega arith)),
      text_short 24 24 b (fits 1 None (omega arith)),
      text_short 24 24 c (fits 2 None (omega arith)),
      text_short 24 24 d (fits 3 None (omega arith)),
      text_short 24 24 e (fits 4 None (omega arith)),
      text_short 24 24 f (fits 5 None (omega arith)),
      text_short 24 24 g (fits 6 None (omega arith)),
      text_short 24 24 h (fits 7 None (omega arith)),
      text_short 24 24 i (fits 8 None (omega arith)),
      text_short 24 24 j (fits 9 None (omega arith)),
    )
ten_short _ long fits = absurd (omega arith)

stock_short : (s : StockBefore) → IsStockBefore s → 2 + stock_columns_length s ≤ 686
stock_short s h =
    omega (
      arith,
      fixed_short 2 s.quantity,
      ten_short s.dist_info h.ten_infos h.dist_info,
      fixed_short 4 s.ytd,
      fixed_short 2 s.order_count,
      fixed_short 2 s.remote_count,
      text_short 0 50 s.data h.text,
    )

-- ---- records

row_before_short : (v : Option Row) → IfSome v IsRow → before_length v ≤ 686
row_before_short None h = omega arith
row_before_short (Some r) h = omega (arith, row_short r h)

columns_short : {C : Type 0} (width : ℕ) (long : C → ℕ) (Fits : C → Type 0)
    → ((c : C) → Fits c → width + long c ≤ 686) → (v : Option C) → IfSome v Fits → columns_length width long v ≤ 686
columns_short width long Fits each None h = omega arith
columns_short width long Fits each (Some c) h = each c h

before_short : (b : Record) → IsBefore b → kept_length b ≤ 686
before_short (model.InsertedHistory k v) h = row_before_short (option_map row.History v) h
before_short (model.InsertedNewOrder k v) h = row_before_short (option_map row.NewOrder v) h
before_short (model.InsertedOrder k v) h = row_before_short (option_map row.Order v) h
before_short (model.InsertedOrderLine k v) h = row_before_short (option_map row.OrderLine v) h
before_short (model.UpdatedWarehouse k v) h = row_before_short (option_map row.Warehouse v) h
before_short (model.UpdatedDistrict k v) h = row_before_short (option_map row.District v) h
before_short (model.UpdatedCustomer k v) h = row_before_short (option_map row.Customer v) h
before_short (model.UpdatedOrder k v) h = row_before_short (option_map row.Order v) h
before_short (model.UpdatedOrderLine k v) h = row_before_short (option_map row.OrderLine v) h
before_short (model.UpdatedStock k v) h = row_before_short (option_map row.Stock v) h
before_short (model.DeletedNewOrder k v) h = row_before_short (option_map row.NewOrder v) h
before_short (model.ChangedWarehouse k v) h =
    columns_short 1 warehouse_columns_length IsWarehouseBefore warehouse_short v h
before_short (model.ChangedDistrict k v) h =
    columns_short 2 district_columns_length IsDistrictBefore district_short v h
before_short (model.ChangedCustomer k v) h =
    columns_short 3 customer_columns_length IsCustomerBefore customer_short v h
before_short (model.ChangedOrder k v) h =
    columns_short 1 order_columns_length IsOrderBefore (λ c f. order_short c) v h
before_short (model.ChangedOrderLine k v) h =
    columns_short 1 order_line_columns_length IsOrderLineBefore order_line_short v h
before_short (model.ChangedStock k v) h =
    columns_short 2 stock_columns_length IsStockBefore stock_short v h

pub record_short : (b : Record) → IsInRanges b → record_length b < 65_536
record_short b h = omega (arith, key_short (record_key b), before_short b h.1)
