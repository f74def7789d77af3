-- Walks of the rows that stand pass each row of a moment.
use Rattle.std.proofs.Common.{ℕ, sym, ◌∙◌, ap}
use Rattle.std.specs.Prelude.{is_some, option_map}
use Rattle.std.specs.FinMap.{get}
use Rattle.oe_rows.specs.declared.keys.Key.TheVariants as key
use Rattle.oe_rows.specs.declared.rows.Row.TheVariants as row
use Rattle.oe_theory.specs.Store.{Store}
use Rattle.oe_model.specs.Rows.{Rows}
use Rattle.oe_model.specs.System.{system}
use Rattle.oe_model.proofs.PresenceFacts.{some-map, present_some}
use Rattle.oe_model.proofs.RowFacts.{un_history}
use Rattle.oe_store.specs.Places.{rows}
use Rattle.oe_store.specs.Places as tables
use Rattle.oe_log.specs.Log.{SegmentLog}
use Rattle.oe_log.specs.Moments.{store_with}
use Rattle.oe_versions.specs.Versions.{version, Stand}
use Rattle.oe_versions.proofs.LastingFacts.{rows_last, versions_meet}
use Rattle.oe_rows_of.specs.Then.{ArePassed}

module _ (ts : tables.Places) (u : SegmentLog) (m : ℕ) (h : Stand ts u) where
  abbrev past : Rows
  past = version ts u m

  abbrev store : Store system
  store = store_with (rows ts) u h.0

  pub passed_at : ArePassed past (rows ts)
  passed_at = record {
    warehouses = λ k there.
        sym (some-map row.Warehouse (get (rows ts).warehouses k)) ∙ sym (rows_last store m (key.Warehouse k) h.1)
        ∙ some-map row.Warehouse (get past.warehouses k) ∙ there;
    districts = λ k there.
        sym (some-map row.District (get (rows ts).districts k)) ∙ sym (rows_last store m (key.District k) h.1)
        ∙ some-map row.District (get past.districts k) ∙ there;
    customers = λ k there.
        sym (some-map row.Customer (get (rows ts).customers k)) ∙ sym (rows_last store m (key.Customer k) h.1)
        ∙ some-map row.Customer (get past.customers k) ∙ there;
    histories = λ k there.
        un_history (get (rows ts).histories k) (get past.histories k)
        (rows_last store m (key.History k) h.1 (some-map row.History (get past.histories k) ∙ there));
    orders = λ k there.
        let x = present_some (get past.orders k) there in
        let y = rows_last store m (key.Order k) h.1 x.0 (ap (option_map row.Order) x.1) in
        sym (some-map row.Order (get (rows ts).orders k)) ∙ ap is_some y.1;
    order_lines = λ k there.
        sym (some-map row.OrderLine (get (rows ts).order_lines k)) ∙ rows_last store m (key.OrderLine k) h.1
        (some-map row.OrderLine (get past.order_lines k) ∙ there);
    new_orders = λ k there.
        let x = present_some (get past.new_orders k) there in (versions_meet store m h.1).new_orders k x.0 x.1;
  }
