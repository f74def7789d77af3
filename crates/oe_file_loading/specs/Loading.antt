-- The nine files.
use Rattle.std.specs.Prelude.{◌≡◌, Option}
use Rattle.oe_io.specs.Ports.{Source}
use Rattle.oe_file_loading.specs.declared.loading.Sources.{Sources}

-- what is left to read of nine files
pub record Nine : Type 0 where
  pub warehouse : Option Source
  pub district : Option Source
  pub customer : Option Source
  pub history : Option Source
  pub new_order : Option Source
  pub order : Option Source
  pub order_line : Option Source
  pub item : Option Source
  pub stock : Option Source

abbrev pub nine_of : {S : Type 0} → (S → Option Source) → Sources S → Nine
nine_of source s = record {
  warehouse = source s.warehouse;
  district = source s.district;
  customer = source s.customer;
  history = source s.history;
  new_order = source s.new_order;
  order = source s.order;
  order_line = source s.order_line;
  item = source s.item;
  stock = source s.stock;
}

-- nothing was read of the files of orders and of what refers to orders
pub record KeepsDeeds (old new : Nine) : Type 0 where
  pub orders : new.order ≡ old.order
  pub order_lines : new.order_line ≡ old.order_line
  pub new_orders : new.new_order ≡ old.new_order
  pub histories : new.history ≡ old.history

-- nothing was read of the files of what orders refer to
pub record KeepsBase (old new : Nine) : Type 0 where
  pub warehouses : new.warehouse ≡ old.warehouse
  pub districts : new.district ≡ old.district
  pub customers : new.customer ≡ old.customer
  pub items : new.item ≡ old.item
  pub stocks : new.stock ≡ old.stock
