-- Which keys have places where one of them loses its own, and where only keys with rows keep theirs.
use Rattle.std.proofs.Common.{◌≡◌, refl, sym, ◌∙◌, ap, subst, Bool, true, false, cond, List, Option, None}
use Rattle.std.specs.Prelude.{◌≢◌, ◌↔◌, IsSome, option_map}
use Rattle.std.specs.Ordering.{is_eq}
use Rattle.std.specs.declared.cmp.Ordering.{Ordering}
use Rattle.std.specs.Cmp.{IsTotalOrder, eq_by_cmp_equiv}
use Rattle.std.specs.FinMap.{IsAntisymmetric, get}
use Rattle.oe_rows.specs.Key.{warehouse_cmp, district_cmp, customer_cmp, history_cmp, new_order_cmp, order_cmp}
use Rattle.oe_rows.specs.Key.{order_line_cmp, item_cmp, stock_cmp}
use Rattle.oe_rows.specs.declared.keys.HistoryKey.{HistoryKey}
use Rattle.oe_rows.specs.declared.keys.NewOrderKey.{NewOrderKey}
use Rattle.oe_rows.specs.declared.keys.OrderKey.{OrderKey}
use Rattle.oe_rows.specs.declared.keys.OrderLineKey.{OrderLineKey}
use Rattle.oe_rows.specs.declared.keys.Key.TheVariants as key
use Rattle.oe_rows.specs.declared.histories.History.{History}
use Rattle.oe_rows.specs.declared.orders.NewOrder.{NewOrder}
use Rattle.oe_rows.specs.declared.orders.Order.{Order}
use Rattle.oe_rows.specs.declared.orders.OrderLine.{OrderLine}
use Rattle.oe_rows.specs.declared.rows.Row.TheVariants as row
use Rattle.oe_rows.proofs.KeyFacts.{warehouse_total, district_total, customer_total, history_total, exact_history}
use Rattle.oe_rows.proofs.KeyFacts.{new_order_total, exact_new_order, order_total, exact_order, order_line_total}
use Rattle.oe_rows.proofs.KeyFacts.{exact_order_line, item_total, stock_total}
use Rattle.oe_table.specs.Table.{place, rows_of, GivesUpBlanked, LosesPlace as LosesOwn}
use Rattle.oe_table.proofs.TableFacts.{get-rows_of, tied}
use Rattle.oe_model.proofs.PresenceFacts.{some-map}
use Rattle.oe_store.specs.Places.{Places, rows, LosesPlace, IsSwept}
use Rattle.oe_store.proofs.GivenUpFacts.{row_is_left, left_is_row}

none-there : {P : Type 0} → false ≡ true → P
none-there h = absurd (let no : ⊥ = cc in no)

module _ {K R : Type 0} {cmp : K → K → Ordering} (total : IsTotalOrder cmp) (exact : IsAntisymmetric cmp) where
  out_at : (old new : List (K × Option R)) (k q : K) (b : Bool) → is_eq (cmp k q) ≡ b
      → place cmp new q ≡ cond b None (place cmp old q)
      → IsSome (place cmp new q) ↔ (IsSome (place cmp old q) × (q ≢ k))
  out_at old new k q true at is =
      ((λ h. none-there (subst IsSome is h)), (λ h. absurd (h.1 (sym (exact k q (tied (cmp k q) at))))))
  out_at old new k q false at is =
      let apart : q ≡ k → ⊥ =
      λ e. let same : is_eq (cmp k q) ≡ true = ap (λ (y : K). is_eq (cmp k y)) e ∙ (eq_by_cmp_equiv total).refl k in
      (let no : ⊥ = cc in no) in
      ((λ h. (subst IsSome is h, apart)), (λ h. subst IsSome (sym is) h.0))

  -- one key less has a place
  one_out : (old new : List (K × Option R)) (k : K) → LosesOwn cmp old new k → (q : K)
      → IsSome (place cmp new q) ↔ (IsSome (place cmp old q) × (q ≢ k))
  one_out old new k out q = out_at old new k q (is_eq (cmp k q)) refl (out q)

pub lost_histories : (s : Places) (new : List (HistoryKey × Option History)) (k : HistoryKey)
    → LosesOwn history_cmp s.histories new k → LosesPlace s (record s { histories = new }) (key.History k)
lost_histories s new k out (key.History q) =
    let less = one_out history_total exact_history s.histories new k out q in (
      (λ h. let left = less.0 h in (left.0, λ e. left.1 (let own : q ≡ k = cc in own))),
      (λ h. less.1 (h.0, λ e. h.1 (ap key.History e))),
    )
lost_histories s new k out _ = ((λ h. (h, λ e. let no : ⊥ = cc in no)), (λ h. h.0))

pub lost_new_orders : (s : Places) (new : List (NewOrderKey × Option NewOrder)) (k : NewOrderKey)
    → LosesOwn new_order_cmp s.new_orders new k → LosesPlace s (record s { new_orders = new }) (key.NewOrder k)
lost_new_orders s new k out (key.NewOrder q) =
    let less = one_out new_order_total exact_new_order s.new_orders new k out q in (
      (λ h. let left = less.0 h in (left.0, λ e. left.1 (let own : q ≡ k = cc in own))),
      (λ h. less.1 (h.0, λ e. h.1 (ap key.NewOrder e))),
    )
lost_new_orders s new k out _ = ((λ h. (h, λ e. let no : ⊥ = cc in no)), (λ h. h.0))

pub lost_orders : (s : Places) (new : List (OrderKey × Option Order)) (k : OrderKey) → LosesOwn order_cmp s.orders new k
    → LosesPlace s (record s { orders = new }) (key.Order k)
lost_orders s new k out (key.Order q) =
    let less = one_out order_total exact_order s.orders new k out q in (
      (λ h. let left = less.0 h in (left.0, λ e. left.1 (let own : q ≡ k = cc in own))),
      (λ h. less.1 (h.0, λ e. h.1 (ap key.Order e))),
    )
lost_orders s new k out _ = ((λ h. (h, λ e. let no : ⊥ = cc in no)), (λ h. h.0))

pub lost_order_lines : (s : Places) (new : List (OrderLineKey × Option OrderLine)) (k : OrderLineKey)
    → LosesOwn order_line_cmp s.order_lines new k → LosesPlace s (record s { order_lines = new }) (key.OrderLine k)
lost_order_lines s new k out (key.OrderLine q) =
    let less = one_out order_line_total exact_order_line s.order_lines new k out q in (
      (λ h. let left = less.0 h in (left.0, λ e. left.1 (let own : q ≡ k = cc in own))),
      (λ h. less.1 (h.0, λ e. h.1 (ap key.OrderLine e))),
    )
lost_order_lines s new k out _ = ((λ h. (h, λ e. let no : ⊥ = cc in no)), (λ h. h.0))

-- where a table was swept, a key has a place if it has a row
by_row : {K R C : Type 0} {cmp : K → K → Ordering} (total : IsTotalOrder cmp) (f : R → C)
    (old new : List (K × Option R)) → GivesUpBlanked cmp old new → (q : K)
    → IsSome (place cmp new q) ↔ IsSome (option_map f (get (rows_of cmp old) q))
by_row {cmp = cmp} total f old new swept q =
    let p = place cmp old q in
    let mapped = some-map f (get (rows_of cmp old) q) in (
      (λ h. mapped ∙ subst IsSome (sym (get-rows_of total old q)) (left_is_row p (subst IsSome (swept q) h)).1),
      (λ h. subst IsSome (sym (swept q)) (row_is_left p (subst IsSome (get-rows_of total old q) (sym mapped ∙ h)))),
    )

pub swept_places : (old new : Places)
    → GivesUpBlanked warehouse_cmp old.warehouses new.warehouses
    → GivesUpBlanked district_cmp old.districts new.districts → GivesUpBlanked customer_cmp old.customers new.customers
    → GivesUpBlanked history_cmp old.histories new.histories
    → GivesUpBlanked new_order_cmp old.new_orders new.new_orders → GivesUpBlanked order_cmp old.orders new.orders
    → GivesUpBlanked order_line_cmp old.order_lines new.order_lines → GivesUpBlanked item_cmp old.items new.items
    → GivesUpBlanked stock_cmp old.stocks new.stocks
    → IsSwept (rows old) new
swept_places old new w d c h n o l i s (key.Warehouse q) = by_row warehouse_total row.Warehouse old.warehouses
    new.warehouses w q
swept_places old new w d c h n o l i s (key.District q) = by_row district_total row.District old.districts new.districts
    d q
swept_places old new w d c h n o l i s (key.Customer q) = by_row customer_total row.Customer old.customers new.customers
    c q
swept_places old new w d c h n o l i s (key.History q) = by_row history_total row.History old.histories new.histories h
    q
swept_places old new w d c h n o l i s (key.NewOrder q) = by_row new_order_total row.NewOrder old.new_orders
    new.new_orders n q
swept_places old new w d c h n o l i s (key.Order q) = by_row order_total row.Order old.orders new.orders o q
swept_places old new w d c h n o l i s (key.OrderLine q) = by_row order_line_total row.OrderLine old.order_lines
    new.order_lines l q
swept_places old new w d c h n o l i s (key.Item q) = by_row item_total row.Item old.items new.items i q
swept_places old new w d c h n o l i s (key.Stock q) = by_row stock_total row.Stock old.stocks new.stocks s q
