use Rattle.std.proofs.Common.{◌≡◌}
use Rattle.oe_rows.specs.declared.keys.Table.{Table}
use Rattle.oe_rows.specs.declared.keys.Table.TheVariants as table
use Rattle.oe_file_loading.specs.declared.loading.Sources.{Sources}
use Rattle.oe_file_loading.specs.Files.{AreTheirs}
use Rattle.oe_file_loading.specs.declared.files.TableFile.{TableFile}
use Rattle.oe_file_loading.proofs.opening.open_tables.Goals as goal

-- nine readers, each its table's
theirs :
    {S : Type 0} (of : S → Table) (s : Sources S) → of s.warehouse ≡ table.Warehouse → of s.district ≡ table.District
    → of s.customer ≡ table.Customer → of s.history ≡ table.History → of s.new_order ≡ table.NewOrder
    → of s.order ≡ table.Order → of s.order_line ≡ table.OrderLine → of s.item ≡ table.Item
    → of s.stock ≡ table.Stock → AreTheirs of s
theirs of s w d c h n o l i k table.Warehouse = w
theirs of s w d c h n o l i k table.District = d
theirs of s w d c h n o l i k table.Customer = c
theirs of s w d c h n o l i k table.History = h
theirs of s w d c h n o l i k table.NewOrder = n
theirs of s w d c h n o l i k table.Order = o
theirs of s w d c h n o l i k table.OrderLine = l
theirs of s w d c h n o l i k table.Item = i
theirs of s w d c h n o l i k table.Stock = k

pub returns : goal.returns
returns g c =
    theirs (λ (file : TableFile _ _). file.table) _ c.open_table.ensures c.open_table-2.ensures c.open_table-3.ensures
    c.open_table-4.ensures c.open_table-5.ensures c.open_table-6.ensures c.open_table-7.ensures
    c.open_table-8.ensures c.open_table-9.ensures
