-- What is left to be listed of the lines of a district's last 20 orders.
use Rattle.std.proofs.Common.{◌≡◌, ℕ, ◌≤◌, sym, ap, ◌∙◌, Bool, true, cond, None, Some, List, [], ◌∷◌, map, length}
use Rattle.std.proofs.Common.{arith}
use Rattle.std.specs.Prelude.{IsSome}
use Rattle.std.specs.FinMap.{FinMap, get, entries, entries_sorted, get-entries, retain_keys, get-retain_keys}
use Rattle.std.specs.FinMap.Entries.{find-where_key, is_sorted-where_key, same_entries}
use Rattle.oe_rows.specs.Key.{order_line_cmp}
use Rattle.oe_rows.specs.declared.keys.DistrictKey.{DistrictKey}
use Rattle.oe_rows.specs.declared.keys.OrderLineKey.{OrderLineKey}
use Rattle.oe_rows.specs.declared.keys.Key.TheVariants as key
use Rattle.oe_rows.specs.declared.orders.OrderLine.{OrderLine}
use Rattle.oe_rows.specs.declared.rows.Row.TheVariants as row
use Rattle.oe_rows.proofs.KeyFacts.{order_line_total, exact_order_line}
use Rattle.oe_model.specs.Queries.{is_recent, recent_lines}
use Rattle.oe_model.proofs.EntryFacts.{EachOf}
use Rattle.oe_model.proofs.PresenceFacts.{some-map}
use Rattle.oe_store.specs.Numbered.{AreNumbered}
use Rattle.oe_rows_of.proofs.ChosenFacts.{rows_at, kept_is}
use Rattle.oe_enquiry.specs.Level.{list_with, items_sold, AreStanding}
use Rattle.oe_enquiry.proofs.SoldFacts.{Entry, Lists, items_are}
use Rattle.oe_enquiry.proofs.FewFacts.{lines_are_recent, recent_rows}
use Rattle.oe_rows_of.specs.Then.{ArePassed}
use Rattle.oe_model.specs.Rows.{Rows}

-- the numbers of lines that stand are in their range
in_range : (now : Rows) → AreNumbered now → (k : OrderLineKey) → IsSome (get now.order_lines k)
    → (1 ≤ k.number) × (k.number ≤ 15)
in_range now numbered k h =
    let n = (numbered (key.OrderLine k) (some-map row.OrderLine (get now.order_lines k) ∙ h)).1 in (n.0, n.1)

module _ (now past : Rows) (p : ℕ → Bool) (h : DistrictKey) (next : ℕ) where
  kept : (lines : FinMap order_line_cmp OrderLine) → recent_lines h next lines ≡ entries (retain_keys lines
      (is_recent h next))
  kept lines =
      let q : OrderLineKey → Bool = is_recent h next in
      same_entries order_line_cmp order_line_total exact_order_line _ _
      (is_sorted-where_key order_line_cmp q (entries lines) (entries_sorted lines))
      (entries_sorted (retain_keys lines q)) (λ k.
      find-where_key order_line_cmp q k (λ x e. ap q (sym (exact_order_line k x e))) (entries lines)
      ∙ ap (λ o. cond (q k) o None) (sym (get-entries lines k))
      ∙ sym (get-retain_keys lines q k (λ x e. ap q (sym (exact_order_line k x e))))
      ∙ get-entries (retain_keys lines q) k)

  -- the recent lines of a moment are those at the keys of the recent lines that stand
  recent_are : ArePassed past now
      → rows_at past.order_lines (recent_lines h next now.order_lines) ≡ recent_lines h next past.order_lines
  recent_are passed =
      ap (rows_at past.order_lines) (kept now.order_lines)
      ∙ sym (kept_is past.order_lines order_line_total exact_order_line now.order_lines (is_recent h next)
      passed.order_lines)
      ∙ sym (kept past.order_lines)

  standing : (es : List Entry) → EachOf (λ e. (is_recent h next e.0 ≡ true)
      × (get now.order_lines e.0 ≡ Some e.1)) es → AreStanding now es
  standing [] t = tt
  standing (e ∷ es) t = (t.0.1, standing es t.1)

  pub lists_all : (w : ℕ) → ArePassed past now → AreNumbered now
      → Lists now past w p (list_with p [] (items_sold h next past.order_lines)) []
      (recent_lines h next now.order_lines) 0
  lists_all w passed numbered =
      let few : length (recent_lines h next now.order_lines) ≤ 300 =
      lines_are_recent now (in_range now numbered) h next in
      record {
        rest = ap (list_with p []) (items_are now past w (recent_lines h next now.order_lines)
            ∙ ap (map (λ (e : Entry). e.1.item)) (recent_are passed));
        standing = standing (recent_lines h next now.order_lines) (recent_rows h next now.order_lines);
        few = omega (arith, few);
        left = omega (arith, few);
      }

module _ (now past : Rows) (passed : ArePassed past now) (numbered : AreNumbered now) where
  -- an order of a moment has at least number 1, since its line stands now
  pub numbers_past : (k : OrderLineKey) → IsSome (get past.order_lines k) → 1 ≤ k.order
  numbers_past k h =
      (numbered (key.OrderLine k) (some-map row.OrderLine (get now.order_lines k) ∙ passed.order_lines k h)).0.0
