-- Nine files beside nine tables.
use Rattle.std.specs.Prelude.{◌≡◌, ℕ, List, map, Option}
use Rattle.std.specs.FinMap.{entries}
use Rattle.std.specs.declared.cmp.Ordering.{Ordering}
use Rattle.oe_rows.specs.Key.{warehouse_cmp, district_cmp, customer_cmp, history_cmp, new_order_cmp, order_cmp}
use Rattle.oe_rows.specs.Key.{order_line_cmp, item_cmp, stock_cmp}
use Rattle.oe_rows.specs.declared.histories.History.{History}
use Rattle.oe_rows.specs.declared.keys.HistoryKey.{HistoryKey}
use Rattle.oe_rows.specs.declared.keys.Key.{Key}
use Rattle.oe_rows.specs.declared.keys.Key.TheVariants as key
use Rattle.oe_rows.specs.declared.keys.Table.{Table}
use Rattle.oe_rows.specs.declared.keys.Table.TheVariants as table
use Rattle.oe_file_rows.specs.Rows.{warehouse_forms, warehouse_values, district_forms, district_values, customer_forms}
use Rattle.oe_file_rows.specs.Rows.{customer_values, new_order_forms, new_order_values, order_forms, order_values}
use Rattle.oe_file_rows.specs.Rows.{order_line_forms, order_line_values, item_forms, item_values, stock_forms}
use Rattle.oe_file_rows.specs.Rows.{stock_values}
use Rattle.oe_texts.specs.Dump.{warehouse_columns, district_columns, customer_columns, new_order_columns}
use Rattle.oe_texts.specs.Dump.{order_columns, order_line_columns, item_columns, stock_columns}
use Rattle.oe_model.specs.Rows.{Rows}
use Rattle.oe_io.specs.Ports.{Source}
use Rattle.oe_file_tables.specs.declared.formats.Format.{Format}
use Rattle.oe_file_tables.specs.declared.lines.Numbered.{Numbered}
use Rattle.oe_file_tables.specs.Fault as fault
use Rattle.oe_file_tables.specs.Rows.{SpellsRow, SpellsHistory}
use Rattle.oe_file_tables.specs.Tables.{TableReadAs}
use Rattle.oe_file_loading.specs.Loading.{Nine}
use Rattle.oe_file_tables.specs.declared.faults.TableFault.{TableFault}
use Rattle.oe_comparison.specs.Differences.{differences, theirs_shown, ours_shown, keyless}
use Rattle.oe_comparison.specs.Histories.{history_order, AreSorted}
use Rattle.oe_comparison.specs.Texts.{Told, nothing_told, line_of, with_differences, with_histories}

-- the line of the first row at which a file's rows and a table's differ, and how many more do
abbrev pub IsTold : {K X : Type 0} → Table → (K → K → Ordering) → (K → Key) → (K → X → List (List ℕ))
    → List (Numbered K X) → List (K × X) → Told → Told → Type 0
IsTold t cmp key_of columns rows ours old new =
    new ≡ with_differences t (line_of key_of)
    (differences cmp (theirs_shown columns rows) (ours_shown columns ours)) old

-- the same of HISTORY rows, which are compared without our key columns, each as often as it stands there
pub record AreHistoriesTold (rows : List (Numbered HistoryKey History)) (ours : List (HistoryKey × History))
    (old new : Told) : Type 0 where
  pub file : List History
  pub order : List History
  pub file_sorted : AreSorted (map (λ n. n.row) rows) file
  pub order_sorted : AreSorted (map (λ e. e.1) ours) order
  pub told : new ≡ with_histories (differences history_order (keyless file) (keyless order)) old

-- A file was read to its end, its faults were added, and its rows compared.
pub record TableCompared (format : Format) {K X : Type 0} (cmp : K → K → Ordering) (key_of : K → Key)
    (spells : ℕ → List ℕ → K × X → Type 0) (table : Table)
    (IsSo : List (Numbered K X) → List (K × X) → Told → Told → Type 0) (before after : Option Source)
    (start faults : fault.Told TableFault) (ours : List (K × X)) (old new : Told) : Type 0 where
  pub rows : List (Numbered K X)
  pub read : TableReadAs format cmp key_of spells table before after start faults rows
  pub told : IsSo rows ours old new

-- warehouses, districts and customers were compared
pub record HomesCompared (format : Format) (before after : Nine) (r : Rows) (start faults : fault.Told TableFault)
    (old new : Told) : Type 0 where
  pub warehouse_faults : fault.Told TableFault
  pub district_faults : fault.Told TableFault
  pub warehouse_told : Told
  pub district_told : Told
  pub warehouses : TableCompared format warehouse_cmp (λ k. key.Warehouse k)
      (SpellsRow warehouse_forms warehouse_values) table.Warehouse
      (IsTold table.Warehouse warehouse_cmp (λ k. key.Warehouse k) warehouse_columns) before.warehouse after.warehouse
      start warehouse_faults (entries r.warehouses) old warehouse_told
  pub districts : TableCompared format district_cmp (λ k. key.District k) (SpellsRow district_forms district_values)
      table.District (IsTold table.District district_cmp (λ k. key.District k) district_columns)
      before.district after.district warehouse_faults district_faults (entries r.districts) warehouse_told district_told
  pub customers : TableCompared format customer_cmp (λ k. key.Customer k) (SpellsRow customer_forms customer_values)
      table.Customer (IsTold table.Customer customer_cmp (λ k. key.Customer k) customer_columns)
      before.customer after.customer district_faults faults (entries r.customers) district_told new

-- histories, orders not yet delivered and orders were compared
pub record DeedsCompared (format : Format) (before after : Nine) (r : Rows) (start faults : fault.Told TableFault)
    (old new : Told) : Type 0 where
  pub history_faults : fault.Told TableFault
  pub new_order_faults : fault.Told TableFault
  pub history_told : Told
  pub new_order_told : Told
  pub histories : TableCompared format history_cmp (λ k. key.History k) SpellsHistory table.History AreHistoriesTold
      before.history after.history start history_faults (entries r.histories) old history_told
  pub new_orders : TableCompared format new_order_cmp (λ k. key.NewOrder k) (SpellsRow new_order_forms new_order_values)
      table.NewOrder (IsTold table.NewOrder new_order_cmp (λ k. key.NewOrder k) (λ k x. new_order_columns k))
      before.new_order after.new_order history_faults new_order_faults (entries r.new_orders) history_told
      new_order_told
  pub orders : TableCompared format order_cmp (λ k. key.Order k) (SpellsRow order_forms order_values) table.Order
      (IsTold table.Order order_cmp (λ k. key.Order k) order_columns) before.order after.order new_order_faults faults
      (entries r.orders) new_order_told new

-- order lines, items and stocks were compared
pub record GoodsCompared (format : Format) (before after : Nine) (r : Rows) (start faults : fault.Told TableFault)
    (old new : Told) : Type 0 where
  pub order_line_faults : fault.Told TableFault
  pub item_faults : fault.Told TableFault
  pub order_line_told : Told
  pub item_told : Told
  pub order_lines : TableCompared format order_line_cmp (λ k. key.OrderLine k)
      (SpellsRow order_line_forms order_line_values) table.OrderLine
      (IsTold table.OrderLine order_line_cmp (λ k. key.OrderLine k) order_line_columns) before.order_line
      after.order_line start order_line_faults (entries r.order_lines) old order_line_told
  pub items : TableCompared format item_cmp (λ k. key.Item k) (SpellsRow item_forms item_values) table.Item
      (IsTold table.Item item_cmp (λ k. key.Item k) item_columns) before.item after.item order_line_faults item_faults
      (entries r.items) order_line_told item_told
  pub stocks : TableCompared format stock_cmp (λ k. key.Stock k) (SpellsRow stock_forms stock_values) table.Stock
      (IsTold table.Stock stock_cmp (λ k. key.Stock k) stock_columns) before.stock after.stock item_faults faults
      (entries r.stocks) item_told new

-- nothing was read of these files
abbrev pub KeepsHomes : Nine → Nine → Type 0
KeepsHomes old new = (new.warehouse ≡ old.warehouse) × (new.district ≡ old.district) × (new.customer ≡ old.customer)

abbrev pub KeepsDeeds : Nine → Nine → Type 0
KeepsDeeds old new = (new.history ≡ old.history) × (new.new_order ≡ old.new_order) × (new.order ≡ old.order)

abbrev pub KeepsGoods : Nine → Nine → Type 0
KeepsGoods old new = (new.order_line ≡ old.order_line) × (new.item ≡ old.item) × (new.stock ≡ old.stock)

-- the nine files were read and compared in this order
pub record TablesCompared (format : Format) (before after : Nine) (r : Rows) (faults : fault.Told TableFault)
    (told : Told) : Type 0 where
  pub home_faults : fault.Told TableFault
  pub deed_faults : fault.Told TableFault
  pub home_told : Told
  pub deed_told : Told
  pub homes : HomesCompared format before after r fault.no_faults home_faults nothing_told home_told
  pub deeds : DeedsCompared format before after r home_faults deed_faults home_told deed_told
  pub goods : GoodsCompared format before after r deed_faults faults deed_told told
