-- What tables lack of a population.
use Rattle.std.specs.Prelude.{◌≡◌, None, Some, IsSome}
use Rattle.std.specs.declared.cmp.Ordering.TheVariants.{Less}
use Rattle.std.specs.FinMap.{get}
use Rattle.oe_requests.specs.declared.audits.Condition.{Condition}
use Rattle.oe_requests.specs.declared.audits.Condition.TheVariants as condition
use Rattle.oe_rows.specs.Key.{stock_cmp}
use Rattle.oe_rows.specs.declared.histories.History.{History}
use Rattle.oe_rows.specs.declared.keys.HistoryKey.{HistoryKey}
use Rattle.oe_rows.specs.declared.keys.StockKey.{StockKey}
use Rattle.oe_machine.specs.Verdict.{condition_of}
use Rattle.oe_audit.specs.Verdict.{AreMet}
use Rattle.oe_model.specs.Conditions.{Condition_1, Condition_2, Condition_3}
use Rattle.oe_model.specs.Keys.{warehouse_of_stock, item_of_stock}
use Rattle.oe_model.specs.Rows.{Rows}
use Rattle.oe_model.specs.Verdicts.{IsFirstRow}
use Rattle.oe_origin.specs.declared.lacks.Lack.{Lack}
use Rattle.oe_origin.specs.declared.lacks.Lack.TheVariants as lack

-- each HISTORY row is of terminal 0, the population's
abbrev pub AreOfPopulation : Rows → Type 0
AreOfPopulation r = (k : HistoryKey) (x : History) → get r.histories k ≡ Some x → k.terminal ≡ 0

-- the warehouse and the item are there, and the STOCK row is not
abbrev pub LacksStock : Rows → StockKey → Type 0
LacksStock r k =
    IsSome (get r.warehouses (warehouse_of_stock k)) × IsSome (get r.items (item_of_stock k)) × (get r.stocks k ≡ None)

-- and no STOCK row before it, in key order, is not there so
pub record IsFirstAbsent (r : Rows) (k : StockKey) : Type 0 where
  pub lacks : LacksStock r k
  pub none_before : (q : StockKey) → LacksStock r q → stock_cmp q k ≡ Less → ⊥

-- it is one of conditions 1 to 4, and those before it hold
abbrev pub HoldBefore : Condition → Rows → Type 0
HoldBefore condition.First r = Unit {0}
HoldBefore condition.Second r = Condition_1 r
HoldBefore condition.Third r = Condition_1 r × Condition_2 r
HoldBefore condition.Fourth r = Condition_1 r × Condition_2 r × Condition_3 r
HoldBefore _ r = ⊥

-- The first of conditions 1 to 4 that fails, and the first row at which it does; or the first STOCK row that is not
-- there, where all four hold. By the tables' type each reference finds its row.
abbrev pub Lacks : Rows → Lack → Type 0
Lacks r (lack.Row a) = ⊥
Lacks r (lack.Condition c k) = HoldBefore c r × IsFirstRow (condition_of c) r k
Lacks r (lack.Stock k) = AreMet r × IsFirstAbsent r k
