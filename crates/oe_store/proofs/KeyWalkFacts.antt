-- What holds of all keys of a table that have a place.
use Rattle.std.proofs.Common.{◌≡◌, refl, sym, subst, Bool, true, false, cond, List, [], ◌∷◌, Option, Some}
use Rattle.std.specs.Prelude.{IsSome, map}
use Rattle.std.specs.List.{AllByRecursion}
use Rattle.std.specs.Ordering.{is_eq}
use Rattle.std.specs.declared.cmp.Ordering.{Ordering}
use Rattle.std.specs.FinMap.{IsAntisymmetric}
use Rattle.oe_rows.specs.Key.{table_of}
use Rattle.oe_rows.specs.declared.keys.Key.{Key}
use Rattle.oe_rows.specs.declared.keys.Key.TheVariants as key
use Rattle.oe_rows.proofs.KeyFacts.{exact_warehouse, exact_district, exact_customer, exact_history, exact_new_order}
use Rattle.oe_rows.proofs.KeyFacts.{exact_order, exact_order_line, exact_item, exact_stock}
use Rattle.oe_table.specs.Table.{place}
use Rattle.oe_table.proofs.TableFacts.{tied}
use Rattle.oe_store.specs.Places.{Places, HasPlace}
use Rattle.oe_store.specs.KeyWalk.{placed_keys}

module _ {K R : Type 0} {cmp : K → K → Ordering} (exact : IsAntisymmetric cmp) (wrap : K → Key) (P : Key → Type 0) where
  -- where a list of places has the key, it has it first or further on
  first_or_further : (t : List (K × Option R)) (e : K × Option R) (k : K) (b : Bool) → is_eq (cmp k e.0) ≡ b
      → P (wrap e.0)
      → (IsSome (place cmp t k) → P (wrap k)) → IsSome (cond b (Some e.1) (place cmp t k)) → P (wrap k)
  first_or_further t e k true same here further h = subst (λ j. P (wrap j)) (sym (exact k e.0 (tied (cmp k e.0) same)))
      here
  first_or_further t e k false same here further h = further h

  in_places : (t : List (K × Option R)) (k : K) → AllByRecursion P (map (λ e. wrap e.0) t) → IsSome (place cmp t k)
      → P (wrap k)
  in_places [] k all h = cc
  in_places (e ∷ t) k all h = first_or_further t e k (is_eq (cmp k e.0)) refl all.0 (in_places t k all.1) h

pub in_table : (P : Key → Type 0) (s : Places) (k : Key) → AllByRecursion P (placed_keys (table_of k) s) → HasPlace s k
    → P k
in_table P s (key.Warehouse k) = in_places exact_warehouse key.Warehouse P s.warehouses k
in_table P s (key.District k) = in_places exact_district key.District P s.districts k
in_table P s (key.Customer k) = in_places exact_customer key.Customer P s.customers k
in_table P s (key.History k) = in_places exact_history key.History P s.histories k
in_table P s (key.NewOrder k) = in_places exact_new_order key.NewOrder P s.new_orders k
in_table P s (key.Order k) = in_places exact_order key.Order P s.orders k
in_table P s (key.OrderLine k) = in_places exact_order_line key.OrderLine P s.order_lines k
in_table P s (key.Item k) = in_places exact_item key.Item P s.items k
in_table P s (key.Stock k) = in_places exact_stock key.Stock P s.stocks k
