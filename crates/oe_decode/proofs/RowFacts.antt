-- Rows are read exactly.
use Rattle.std.proofs.Common.{◌≡◌, ℕ, ◌+◌, ◌≤◌, List, ◌++◌, length, take, Some, None, refl, sym, ap, subst, ◌∙◌, arith}
use Rattle.std.proofs.Common.{append_assoc, rules}
use Rattle.std.proofs.lemmas.List.{take_at, length-append}
use Rattle.oe_rows.specs.Row.{table_of_row}
use Rattle.oe_rows.specs.Warehouse.{IsAddress, IsWarehouse}
use Rattle.oe_rows.specs.District.{IsDistrict}
use Rattle.oe_rows.specs.Customer.{IsCustomerName, IsAccount, IsCustomer}
use Rattle.oe_rows.specs.History.{IsHistory}
use Rattle.oe_rows.specs.Order.{IsOrder, IsOrderLine}
use Rattle.oe_rows.specs.Item.{IsItem, IsStock}
use Rattle.oe_rows.specs.declared.rows.Row.{Row}
use Rattle.oe_rows.specs.declared.rows.Row.TheVariants as row
use Rattle.oe_rows.specs.declared.keys.Key.{Key}
use Rattle.oe_rows.specs.declared.keys.Table.{Table}
use Rattle.oe_rows.specs.declared.keys.Table.TheVariants as table
use Rattle.oe_decode.specs.Fronts.{Reads, IsBytes, IsExact}
use Rattle.oe_extent.specs.Images.{number}
use Rattle.oe_image.specs.Columns.{text, credit}
use Rattle.oe_image.specs.Keys.{key_image}
use Rattle.oe_decode.specs.KeyFronts.{IsKeyOf}
use Rattle.oe_image.specs.Rows.{address, warehouse, district, customer_name, account, customer, history, order}
use Rattle.oe_image.specs.Rows.{order_line, item, stock, row_image, image_of, IsRow}
use Rattle.oe_decode.specs.RowFronts.{address_at, warehouse_at, district_at, customer_name_at, account_at, customer_at}
use Rattle.oe_decode.specs.RowFronts.{history_at, order_at, order_line_at, item_at, stock_at, row_at, IsRowOf}
use Rattle.oe_decode.specs.RowFronts.{ReadsImage}
use Rattle.oe_decode.specs.Codec.{IsCodec}
use Rattle.oe_decode.specs.FrontFacts.{some_is, ranged_law, row_law, pair_law, image_law, grouped, found_as}
use Rattle.oe_decode.specs.FrontFacts.{finds_as}
use Rattle.oe_decode.specs.ColumnFacts.{upto_law, stamp_law, balance_law, text_law, optional_law, flag_law, credit_law}
use Rattle.oe_decode.specs.ColumnFacts.{ten_texts_law}

pub address_law : IsCodec IsAddress address address_at
unfolding address address_at
address_law = row_law {g = λ v. (v.street_1, (v.street_2, (v.city, (v.state, v.zip))))} (search rules)
    (pair_law (text_law 0 20 (omega arith)) (pair_law (text_law 0 20 (omega arith))
    (pair_law (text_law 0 20 (omega arith)) (pair_law (text_law 2 2 (omega arith)) (text_law 9 9 (omega arith))))))

pub warehouse_law : IsCodec IsWarehouse warehouse warehouse_at
unfolding warehouse warehouse_at
warehouse_law = row_law {g = λ v. (v.name, (v.address, (v.tax, v.ytd)))} (search rules)
    (pair_law (text_law 0 10 (omega arith)) (pair_law address_law
    (pair_law (ranged_law 2 0 9_999 (omega arith)) (upto_law 8 999_999_999_999 (omega arith)))))

pub district_law : IsCodec IsDistrict district district_at
unfolding district district_at
district_law = row_law {g = λ v. (v.name, (v.address, (v.tax, (v.ytd, v.next_order))))} (search rules)
    (pair_law (text_law 0 10 (omega arith)) (pair_law address_law
    (pair_law (ranged_law 2 0 9_999 (omega arith))
    (pair_law (upto_law 8 999_999_999_999 (omega arith)) (ranged_law 4 1 10_000_000 (omega arith))))))

pub customer_name_law : IsCodec IsCustomerName customer_name customer_name_at
unfolding customer_name customer_name_at
customer_name_law = row_law {g = λ v. (v.first, (v.middle, v.last))} (search rules)
    (pair_law (text_law 0 16 (omega arith)) (pair_law (text_law 2 2 (omega arith)) (text_law 0 16 (omega arith))))

pub account_law : IsCodec IsAccount account account_at
unfolding account account_at
account_law = row_law
    {g = λ v. (v.credit_limit, (v.discount, (v.balance, (v.ytd_payment, (v.payment_count, v.delivery_count)))))}
    (search rules)
    (pair_law (upto_law 8 999_999_999_999 (omega arith)) (pair_law (ranged_law 2 0 9_999 (omega arith))
    (pair_law balance_law (pair_law (upto_law 8 999_999_999_999 (omega arith))
    (pair_law (ranged_law 2 0 9_999 (omega arith)) (ranged_law 2 0 9_999 (omega arith)))))))

pub order_law : IsCodec IsOrder order order_at
unfolding order order_at
order_law = row_law {g = λ v. (v.customer, (v.entry, (v.carrier, (v.line_count, v.all_local))))} (search rules)
    (pair_law (ranged_law 2 1 3_000 (omega arith)) (pair_law stamp_law
    (pair_law (optional_law (ranged_law 1 1 10 (omega arith)))
    (pair_law (ranged_law 1 5 15 (omega arith)) flag_law))))

pub order_line_law : IsCodec IsOrderLine order_line order_line_at
unfolding order_line order_line_at
order_line_law = row_law {g = λ v. (v.item, (v.supply, (v.delivery, (v.quantity, (v.amount, v.dist_info)))))}
    (search rules)
    (pair_law (ranged_law 4 1 100_000 (omega arith)) (pair_law (ranged_law 2 1 16 (omega arith))
    (pair_law (optional_law stamp_law) (pair_law (ranged_law 1 0 99 (omega arith))
    (pair_law (upto_law 8 999_999 (omega arith)) (text_law 24 24 (omega arith)))))))

pub item_law : IsCodec IsItem item item_at
unfolding item item_at
item_law = row_law {g = λ v. (v.image, (v.name, (v.price, v.data)))} (search rules)
    (pair_law (ranged_law 4 1 200_000 (omega arith)) (pair_law (text_law 0 24 (omega arith))
    (pair_law (upto_law 8 99_999 (omega arith)) (text_law 0 50 (omega arith)))))

pub stock_law : IsCodec IsStock stock stock_at
unfolding stock stock_at
stock_law = row_law {g = λ v. (v.quantity, (v.dist_info, (v.ytd, (v.order_count, (v.remote_count, v.data)))))}
    (search rules)
    (pair_law (ranged_law 2 0 9_999 (omega arith)) (pair_law ten_texts_law
    (pair_law (ranged_law 4 0 99_999_999 (omega arith)) (pair_law (ranged_law 2 0 9_999 (omega arith))
    (pair_law (ranged_law 2 0 9_999 (omega arith)) (text_law 0 50 (omega arith)))))))

pub customer_law : IsCodec IsCustomer customer customer_at
unfolding customer customer_at
customer_law =
    image_law (λ c. grouped (customer_name c.name) (address c.address) (text c.phone) (number 8 c.since)
    (credit c.credit ++ (account c.account ++ text c.data)))
    (row_law {g = λ v. ((v.name, (v.address, (v.phone, v.since))), (v.credit, (v.account, v.data)))} (search rules)
    (pair_law (pair_law customer_name_law (pair_law address_law (pair_law (text_law 16 16 (omega arith)) stamp_law)))
    (pair_law credit_law (pair_law account_law (text_law 0 500 (omega arith))))))

pub history_law : IsCodec IsHistory history history_at
unfolding history history_at
history_law =
    image_law (λ h. grouped (number 2 h.customer.customer) (number 1 h.customer.district)
    (number 2 h.customer.warehouse) (number 1 h.district.district)
    (number 2 h.district.warehouse ++ (number 8 h.date ++ (number 8 h.amount ++ text h.data))))
    (row_law {g = λ v. (
      (v.customer.customer, (v.customer.district, (v.customer.warehouse, v.district.district))),
      (v.district.warehouse, (v.date, (v.amount, v.data))),
    )} (search rules)
    (pair_law (pair_law (ranged_law 2 1 3_000 (omega arith)) (pair_law (ranged_law 1 1 10 (omega arith))
    (pair_law (ranged_law 2 1 16 (omega arith)) (ranged_law 1 1 10 (omega arith)))))
    (pair_law (ranged_law 2 1 16 (omega arith)) (pair_law stamp_law
    (pair_law (upto_law 8 999_999 (omega arith)) (text_law 0 24 (omega arith)))))))

-- ---- the row of a table

row_found : (t : Table) (bytes : List ℕ) → IsBytes bytes → (r : Row) (rest : List ℕ) → row_at t bytes ≡ Some (r, rest)
    → IsRowOf t r × (bytes ≡ row_image r ++ rest)
row_found table.Warehouse bytes fits r rest e = found_as (λ x. row.Warehouse x) (λ x. IsRowOf table.Warehouse x)
    row_image (λ x h. (refl, h)) (λ x. refl) warehouse_law bytes fits r rest e
row_found table.District bytes fits r rest e = found_as (λ x. row.District x) (λ x. IsRowOf table.District x) row_image
    (λ x h. (refl, h)) (λ x. refl) district_law bytes fits r rest e
row_found table.Customer bytes fits r rest e = found_as (λ x. row.Customer x) (λ x. IsRowOf table.Customer x) row_image
    (λ x h. (refl, h)) (λ x. refl) customer_law bytes fits r rest e
row_found table.History bytes fits r rest e = found_as (λ x. row.History x) (λ x. IsRowOf table.History x) row_image
    (λ x h. (refl, h)) (λ x. refl) history_law bytes fits r rest e
row_found table.NewOrder bytes fits r rest e =
    let same = some_is (row.NewOrder (record {}), bytes) (r, rest) e in
    subst (λ (p : Row × List ℕ). IsRowOf table.NewOrder p.0 × (bytes ≡ row_image p.0 ++ p.1)) same ((refl, tt), refl)
row_found table.Order bytes fits r rest e = found_as (λ x. row.Order x) (λ x. IsRowOf table.Order x) row_image
    (λ x h. (refl, h)) (λ x. refl) order_law bytes fits r rest e
row_found table.OrderLine bytes fits r rest e = found_as (λ x. row.OrderLine x) (λ x. IsRowOf table.OrderLine x)
    row_image (λ x h. (refl, h)) (λ x. refl) order_line_law bytes fits r rest e
row_found table.Item bytes fits r rest e = found_as (λ x. row.Item x) (λ x. IsRowOf table.Item x) row_image
    (λ x h. (refl, h)) (λ x. refl) item_law bytes fits r rest e
row_found table.Stock bytes fits r rest e = found_as (λ x. row.Stock x) (λ x. IsRowOf table.Stock x) row_image
    (λ x h. (refl, h)) (λ x. refl) stock_law bytes fits r rest e

row_finds : (r : Row) (bytes rest : List ℕ) → IsRow r → bytes ≡ row_image r ++ rest
    → row_at (table_of_row r) bytes ≡ Some (r, rest)
row_finds (row.Warehouse x) bytes rest h e = finds_as (λ x. row.Warehouse x) warehouse_law x bytes rest h e
row_finds (row.District x) bytes rest h e = finds_as (λ x. row.District x) district_law x bytes rest h e
row_finds (row.Customer x) bytes rest h e = finds_as (λ x. row.Customer x) customer_law x bytes rest h e
row_finds (row.History x) bytes rest h e = finds_as (λ x. row.History x) history_law x bytes rest h e
row_finds (row.NewOrder x) bytes rest h e = ap (λ (l : List ℕ). Some (row.NewOrder x, l)) e
row_finds (row.Order x) bytes rest h e = finds_as (λ x. row.Order x) order_law x bytes rest h e
row_finds (row.OrderLine x) bytes rest h e = finds_as (λ x. row.OrderLine x) order_line_law x bytes rest h e
row_finds (row.Item x) bytes rest h e = finds_as (λ x. row.Item x) item_law x bytes rest h e
row_finds (row.Stock x) bytes rest h e = finds_as (λ x. row.Stock x) stock_law x bytes rest h e

pub row_exact : (t : Table) → IsExact (IsRowOf t) row_image (row_at t)
row_exact t bytes fits = record {
  found = λ r rest e. row_found t bytes fits r rest e;
  finds = λ r rest h e. subst (λ (u : Table). row_at u bytes ≡ Some (r, rest)) h.0 (row_finds r bytes rest h.1 e);
}

-- ---- a row with its key

pub no_key : (t : Table) (bytes : List ℕ) → Reads (IsKeyOf t) key_image bytes None → ReadsImage t bytes None
no_key t bytes first = record {
  found = λ k r n e. absurd cc;
  finds = λ k r rest hk hr e. absurd
      (let a = first.finds k (row_image r ++ rest) hk (e ∙ append_assoc (key_image k) (row_image r) rest) in cc);
}

pub no_row : (t : Table) (bytes mid : List ℕ) (k0 : Key) → Reads (IsKeyOf t) key_image bytes (Some (k0, mid))
    → Reads (IsRowOf t) row_image mid None → ReadsImage t bytes None
no_row t bytes mid k0 first second = record {
  found = λ k r n e. absurd cc;
  finds = λ k r rest hk hr e.
      let a = first.finds k (row_image r ++ rest) hk (e ∙ append_assoc (key_image k) (row_image r) rest) in
      let behind = ap (λ (p : Key × List ℕ). p.1) (some_is (k0, mid) (k, row_image r ++ rest) a) in
      absurd (let b = second.finds r rest hr behind in cc);
}

whole_found : (t : Table) (bytes mid rest0 : List ℕ) (k0 : Key) (r0 : Row) (n0 : ℕ)
    → Reads (IsKeyOf t) key_image bytes (Some (k0, mid)) → Reads (IsRowOf t) row_image mid (Some (r0, rest0))
    → n0 ≡ length (image_of k0 r0)
    → IsKeyOf t k0 × IsRowOf t r0 × (n0 ≤ length bytes) × (take n0 bytes ≡ image_of k0 r0)
whole_found t bytes mid rest0 k0 r0 n0 first second size =
    let fk = first.found k0 mid refl in
    let fr = second.found r0 rest0 refl in
    let whole : bytes ≡ image_of k0 r0 ++ rest0 =
    fk.1 ∙ ap (λ (l : List ℕ). key_image k0 ++ l) fr.1 ∙ sym (append_assoc (key_image k0) (row_image r0) rest0) in
    let long : length bytes ≡ length (image_of k0 r0) + length rest0 = ap length whole
    ∙ length-append (image_of k0 r0) rest0 in
    (fk.0, fr.0, omega (arith, size, long), ap (take n0) whole ∙ take_at (image_of k0 r0) rest0 n0 (sym size))

pub both_read : (t : Table) (bytes mid rest0 : List ℕ) (k0 : Key) (r0 : Row) (n0 : ℕ)
    → Reads (IsKeyOf t) key_image bytes (Some (k0, mid)) → Reads (IsRowOf t) row_image mid (Some (r0, rest0))
    → n0 ≡ length (image_of k0 r0)
    → ReadsImage t bytes (Some (k0, r0, n0))
both_read t bytes mid rest0 k0 r0 n0 first second size = record {
  found = λ k r n e.
      let same = some_is (k0, r0, n0) (k, r, n) e in
      subst (λ (p : Key × Row × ℕ). IsKeyOf t p.0 × IsRowOf t p.1 × (p.2 ≤ length bytes)
      × (take p.2 bytes ≡ image_of p.0 p.1)) same
      (whole_found t bytes mid rest0 k0 r0 n0 first second size);
  finds = λ k r rest hk hr e.
      let a = some_is (k0, mid) (k, row_image r ++ rest)
      (first.finds k (row_image r ++ rest) hk (e ∙ append_assoc (key_image k) (row_image r) rest)) in
      let b = some_is (r0, rest0) (r, rest) (second.finds r rest hr (ap (λ (p : Key × List ℕ). p.1) a)) in
      let same_key : k0 ≡ k = ap (λ (p : Key × List ℕ). p.0) a in
      let same_row : r0 ≡ r = ap (λ (p : Row × List ℕ). p.0) b in
      let same_size : n0 ≡ length (image_of k r) = size ∙ ap (λ (x : Key). length (image_of x r0)) same_key
      ∙ ap (λ (x : Row). length (image_of k x)) same_row in
      ap (λ (x : Key). Some (x, r0, n0)) same_key ∙ ap (λ (x : Row). Some (k, x, n0)) same_row
      ∙ ap (λ (x : ℕ). Some (k, r, x)) same_size;
}
