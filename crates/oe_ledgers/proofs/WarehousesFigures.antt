-- The tallies of WAREHOUSE rows have the figures of the facts.
use Rattle.std.proofs.Common.{◌≡◌, refl, ◌∙◌, ap, ℕ, arith, nat_eq, List}
use Rattle.std.specs.Prelude.{pos}
use Rattle.std.specs.Int.{int_max}
use Rattle.std.specs.Option.{option_map}
use Rattle.oe_tally.specs.Tallies.{total}
use Rattle.oe_facts.specs.declared.facts.WarehouseFact.{WarehouseFact}
use Rattle.oe_ledgers.specs.declared.warehouses.WarehouseSums.{WarehouseSums}
use Rattle.oe_ledgers.specs.declared.warehouses.Warehouses.{Warehouses}
use Rattle.oe_ledgers.specs.Sums.{warehouses_joined}
use Rattle.oe_ledgers.specs.Keeping.{KeepsWarehouses, warehouse_entry}
use Rattle.oe_ledgers.specs.Figures.{AreFew}
use Rattle.oe_ledgers.specs.Figures.{w_ytd}
use Rattle.oe_ledgers.specs.Figures.{warehouse_rows}
use Rattle.oe_ledgers.specs.Figures.{ten_of_warehouse}
use Rattle.oe_ledgers.proofs.SumFacts.{projected, counted}

pub w_ytd-kept : (facts : List WarehouseFact) (kept : Warehouses) → KeepsWarehouses facts kept → (k : ℕ)
    → option_map (λ (s : WarehouseSums). s.ytd) (total nat_eq warehouses_joined kept.by_warehouse k) ≡ w_ytd facts k
w_ytd-kept facts kept is k =
    ap (option_map (λ (s : WarehouseSums). s.ytd)) (is.by_warehouse k)
    ∙ projected nat_eq warehouses_joined int_max warehouse_entry (λ (s : WarehouseSums). s.ytd) (λ a b. refl) facts k

pub warehouse_rows-kept : (facts : List WarehouseFact) (kept : Warehouses) → KeepsWarehouses facts kept
    → AreFew facts → (k : ℕ)
    → option_map (λ (s : WarehouseSums). pos s.rows) (total nat_eq warehouses_joined kept.by_warehouse k)
    ≡ warehouse_rows facts k
warehouse_rows-kept facts kept is few k =
    ap (option_map (λ (s : WarehouseSums). pos s.rows)) (is.by_warehouse k)
    ∙ counted nat_eq warehouses_joined warehouse_entry (λ (s : WarehouseSums). s.rows) (λ a b. refl)
    (λ f. omega arith) facts few k

pub ten_of_warehouse-kept : (facts : List WarehouseFact) (kept : Warehouses) → KeepsWarehouses facts kept → (k : ℕ)
    → option_map (λ (s : WarehouseSums). pos 10) (total nat_eq warehouses_joined kept.by_warehouse k)
    ≡ ten_of_warehouse facts k
ten_of_warehouse-kept facts kept is k =
    ap (option_map (λ (s : WarehouseSums). pos 10)) (is.by_warehouse k)
    ∙ projected nat_eq warehouses_joined int_max warehouse_entry (λ (s : WarehouseSums). pos 10) (λ a b. refl) facts k
