-- Tables that were compared, as files that others leave alone say it.
use Rattle.std.proofs.Common.{◌≡◌, ℕ, List, Option, subst}
use Rattle.std.specs.declared.cmp.Ordering.{Ordering}
use Rattle.oe_rows.specs.declared.keys.Key.{Key}
use Rattle.oe_rows.specs.declared.keys.Table.{Table}
use Rattle.oe_model.specs.Rows.{Rows}
use Rattle.oe_io.specs.Ports.{Source}
use Rattle.oe_file_tables.specs.declared.formats.Format.{Format}
use Rattle.oe_file_tables.specs.declared.lines.Numbered.{Numbered}
use Rattle.oe_file_tables.specs.declared.faults.TableFault.{TableFault}
use Rattle.oe_file_tables.specs.Fault as fault
use Rattle.oe_file_loading.specs.Loading.{Nine}
use Rattle.oe_comparison.specs.Texts.{Told}
use Rattle.oe_comparison.specs.Tables.{TableCompared, HomesCompared, DeedsCompared, GoodsCompared}
use Rattle.oe_comparison.specs.Tables.{KeepsHomes, KeepsDeeds, KeepsGoods}

-- rows of a table that are these
pub of_rows : {format : Format} {K X : Type 0} {cmp : K → K → Ordering} {key_of : K → Key}
    {spells : ℕ → List ℕ → K × X → Type 0} {table : Table} {IsSo : List (Numbered K X) → List (K × X) → Told → Told
    → Type 0} {before after : Option Source}
    {start faults : fault.Told TableFault} {old new : Told} (es fs : List (K × X)) → es ≡ fs
    → TableCompared format cmp key_of spells table IsSo before after start faults es old new
    → TableCompared format cmp key_of spells table IsSo before after start faults fs old new
of_rows {IsSo = IsSo} {old = old} {new = new} es fs same t = record {
  rows = t.rows;
  read = t.read;
  told = subst (λ ours. IsSo t.rows ours old new) same t.told;
}

-- files that are these
of_files : {format : Format} {K X : Type 0} {cmp : K → K → Ordering} {key_of : K → Key}
    {spells : ℕ → List ℕ → K × X → Type 0} {table : Table} {IsSo : List (Numbered K X) → List (K × X) → Told → Told
    → Type 0}
    (before before' after after' : Option Source)
    {start faults : fault.Told TableFault} {es : List (K × X)} {old new : Told}
    → before' ≡ before → after' ≡ after
    → TableCompared format cmp key_of spells table IsSo before after start faults es old new
    → TableCompared format cmp key_of spells table IsSo before' after' start faults es old new
of_files before before' after after' same_before same_after t = rw (same_before, same_after) t

pub homes_of : {format : Format} (b b' a a' : Nine) (r : Rows) (start faults : fault.Told TableFault) (old new : Told)
    → KeepsHomes b b' → KeepsHomes a a' → HomesCompared format b a r start faults old new
    → HomesCompared format b' a' r start faults old new
homes_of b b' a a' r start faults old new p q h = record {
  warehouse_faults = h.warehouse_faults;
  district_faults = h.district_faults;
  warehouse_told = h.warehouse_told;
  district_told = h.district_told;
  warehouses = of_files b.warehouse b'.warehouse a.warehouse a'.warehouse p.0 q.0 h.warehouses;
  districts = of_files b.district b'.district a.district a'.district p.1 q.1 h.districts;
  customers = of_files b.customer b'.customer a.customer a'.customer p.2 q.2 h.customers;
}

pub deeds_of : {format : Format} (b b' a a' : Nine) (r : Rows) (start faults : fault.Told TableFault) (old new : Told)
    → KeepsDeeds b b' → KeepsDeeds a a' → DeedsCompared format b a r start faults old new
    → DeedsCompared format b' a' r start faults old new
deeds_of b b' a a' r start faults old new p q h = record {
  history_faults = h.history_faults;
  new_order_faults = h.new_order_faults;
  history_told = h.history_told;
  new_order_told = h.new_order_told;
  histories = of_files b.history b'.history a.history a'.history p.0 q.0 h.histories;
  new_orders = of_files b.new_order b'.new_order a.new_order a'.new_order p.1 q.1 h.new_orders;
  orders = of_files b.order b'.order a.order a'.order p.2 q.2 h.orders;
}

pub goods_of : {format : Format} (b b' a a' : Nine) (r : Rows) (start faults : fault.Told TableFault) (old new : Told)
    → KeepsGoods b b' → KeepsGoods a a' → GoodsCompared format b a r start faults old new
    → GoodsCompared format b' a' r start faults old new
goods_of b b' a a' r start faults old new p q h = record {
  order_line_faults = h.order_line_faults;
  item_faults = h.item_faults;
  order_line_told = h.order_line_told;
  item_told = h.item_told;
  order_lines = of_files b.order_line b'.order_line a.order_line a'.order_line p.0 q.0 h.order_lines;
  items = of_files b.item b'.item a.item a'.item p.1 q.1 h.items;
  stocks = of_files b.stock b'.stock a.stock a'.stock p.2 q.2 h.stocks;
}
