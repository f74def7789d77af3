use Rattle.std.proofs.Common.{rules, arith}
use Rattle.oe_rows.proofs.KeyFacts.{warehouse_total, district_total}
use Rattle.oe_file_tables.proofs.ReadFacts.{table_read_as}
use Rattle.oe_file_loading.proofs.loading.load_homes.Goals as goal

pub returns-then-count-gt0-clause-loaded : goal.returns-then-count-gt0-clause-loaded
returns-then-count-gt0-clause-loaded g c = record {
  warehouses = c.in-Ok.file_rows;
  districts = c.in-Ok-read_table_as.file_rows;
  middle = c.read_table_as.new.faults;
  read_warehouses = c.in-Ok.ensures;
  read_districts = c.in-Ok-read_table_as.ensures;
  put = λ none. absurd (omega (arith, none, c.if-count-gt0.true, c.count.ensures.value));
  counted = (search rules, search rules);
}

pub returns-in-Ok-keep_homes-clause-loaded : goal.returns-in-Ok-keep_homes-clause-loaded
returns-in-Ok-keep_homes-clause-loaded g c = record {
  warehouses = c.in-Ok.file_rows;
  districts = c.in-Ok-read_table_as.file_rows;
  middle = c.read_table_as.new.faults;
  read_warehouses = c.in-Ok.ensures;
  read_districts = c.in-Ok-read_table_as.ensures;
  put = λ none. c.in-Ok-keep_homes.ensures.put;
  counted = (search rules, search rules);
}

pub keep_homes-requires-clause-districts : goal.keep_homes-requires-clause-districts
keep_homes-requires-clause-districts g c =
    (table_read_as _ _ district_total _ _ _ _ _ _ _ _ c.in-Ok-read_table_as.ensures
    (omega (arith, c.if-count-gt0.false, c.count.ensures.value))).0.1

pub keep_homes-requires-clause-warehouses : goal.keep_homes-requires-clause-warehouses
keep_homes-requires-clause-warehouses g c =
    let none = (table_read_as _ _ district_total _ _ _ _ _ _ _ _ c.in-Ok-read_table_as.ensures
    (omega (arith, c.if-count-gt0.false, c.count.ensures.value))).1 in
    (table_read_as _ _ warehouse_total _ _ _ _ _ _ _ _ c.in-Ok.ensures none).0.1
