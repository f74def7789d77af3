-- The keys with places are exactly those that have rows and those that records name: what that follows from, and what
-- keeps it.
use Rattle.std.proofs.Common.{◌≡◌, ℕ, Bool, true, false, cond, refl, sym, ap, ◌∙◌, subst, inl, inr, List, [], ◌∷◌}
use Rattle.std.proofs.Common.{Option, is_some}
use Rattle.std.specs.Prelude.{◌≢◌, ◌⊎◌, IsSome}
use Rattle.std.proofs.lemmas.Bool.{cases_eq}
use Rattle.std.specs.FinMap.{get}
use Rattle.oe_rows.specs.declared.keys.Key.{Key}
use Rattle.oe_rows.specs.declared.keys.Key.TheVariants as key
use Rattle.oe_rows.specs.declared.rows.Row.{Row}
use Rattle.oe_rows.specs.declared.rows.Row.TheVariants as row
use Rattle.oe_rows.specs.Key.{warehouse_cmp, district_cmp, customer_cmp, history_cmp, new_order_cmp, order_cmp}
use Rattle.oe_rows.specs.Key.{order_line_cmp, item_cmp, stock_cmp}
use Rattle.oe_rows.proofs.KeyFacts.{warehouse_total, exact_warehouse, district_total, exact_district, customer_total}
use Rattle.oe_rows.proofs.KeyFacts.{exact_customer, history_total, exact_history, new_order_total, exact_new_order}
use Rattle.oe_rows.proofs.KeyFacts.{order_total, exact_order, order_line_total, exact_order_line, item_total}
use Rattle.oe_rows.proofs.KeyFacts.{exact_item, stock_total, exact_stock}
use Rattle.oe_theory.specs.Undo.{Undo, HasRecord, HasRecordIn, put_records}
use Rattle.oe_theory.specs.World.{set}
use Rattle.oe_theory.proofs.Sets.{set_same, set_other}
use Rattle.oe_table.specs.Table.{place}
use Rattle.oe_rows.specs.declared.layouts.Layout.{Layout}
use Rattle.oe_theory.specs.Next.{record_on}
use Rattle.oe_model.specs.Rows.{Rows, is_key, row_at}
use Rattle.oe_model.specs.Changes.{Change, Record, key_of, row_of, record_key, rows_after}
use Rattle.oe_model.specs.System.{system}
use Rattle.oe_model.proofs.RowFacts.{key_true, at_changed, in_layout_key}
use Rattle.oe_model.proofs.PresenceFacts.{some-map}
use Rattle.oe_store.specs.Places.{Places, rows, HasPlace, SamePlaces, AddsPlace}
use Rattle.oe_store.proofs.PlaceFacts.{place_of_row}
use Rattle.oe_log.specs.Log.{SegmentLog}
use Rattle.oe_log.specs.Stands.{undo_of}
use Rattle.oe_journal.specs.GoesBack.{HavePlaces, AllHavePlaces}
use Rattle.oe_journal.specs.Named.{IsUnnamed, AreNeeded, AreExact, GivesUpUnnamed}

-- ---- a row has a place

pub row_place : (s : Places) (k : Key) → IsSome (row_at (rows s) k) → HasPlace s k
row_place s (key.Warehouse k) h = place_of_row warehouse_total exact_warehouse s.warehouses k
    (sym (some-map row.Warehouse (get (rows s).warehouses k)) ∙ h)
row_place s (key.District k) h = place_of_row district_total exact_district s.districts k
    (sym (some-map row.District (get (rows s).districts k)) ∙ h)
row_place s (key.Customer k) h = place_of_row customer_total exact_customer s.customers k
    (sym (some-map row.Customer (get (rows s).customers k)) ∙ h)
row_place s (key.History k) h = place_of_row history_total exact_history s.histories k
    (sym (some-map row.History (get (rows s).histories k)) ∙ h)
row_place s (key.NewOrder k) h = place_of_row new_order_total exact_new_order s.new_orders k
    (sym (some-map row.NewOrder (get (rows s).new_orders k)) ∙ h)
row_place s (key.Order k) h = place_of_row order_total exact_order s.orders k
    (sym (some-map row.Order (get (rows s).orders k)) ∙ h)
row_place s (key.OrderLine k) h = place_of_row order_line_total exact_order_line s.order_lines k
    (sym (some-map row.OrderLine (get (rows s).order_lines k)) ∙ h)
row_place s (key.Item k) h = place_of_row item_total exact_item s.items k
    (sym (some-map row.Item (get (rows s).items k)) ∙ h)
row_place s (key.Stock k) h = place_of_row stock_total exact_stock s.stocks k
    (sym (some-map row.Stock (get (rows s).stocks k)) ∙ h)

-- ---- what is known of a place and of a row

holds_or_not : (b : Bool) → (b ≡ true) ⊎ (b ≡ true → ⊥)
holds_or_not true = inl refl
holds_or_not false = inr (λ e. let no : ⊥ = cc in no)

pub placed_or_not : (s : Places) (k : Key) → HasPlace s k ⊎ (HasPlace s k → ⊥)
placed_or_not s (key.Warehouse k) = holds_or_not (is_some (place warehouse_cmp s.warehouses k))
placed_or_not s (key.District k) = holds_or_not (is_some (place district_cmp s.districts k))
placed_or_not s (key.Customer k) = holds_or_not (is_some (place customer_cmp s.customers k))
placed_or_not s (key.History k) = holds_or_not (is_some (place history_cmp s.histories k))
placed_or_not s (key.NewOrder k) = holds_or_not (is_some (place new_order_cmp s.new_orders k))
placed_or_not s (key.Order k) = holds_or_not (is_some (place order_cmp s.orders k))
placed_or_not s (key.OrderLine k) = holds_or_not (is_some (place order_line_cmp s.order_lines k))
placed_or_not s (key.Item k) = holds_or_not (is_some (place item_cmp s.items k))
placed_or_not s (key.Stock k) = holds_or_not (is_some (place stock_cmp s.stocks k))

pub there_or_not : (r : Rows) (k : Key) → IsSome (row_at r k) ⊎ (IsSome (row_at r k) → ⊥)
there_or_not r k = holds_or_not (is_some (row_at r k))

-- ---- exact places

record_placed : (ts : Places) (k : Key) (bs : List Record) → HavePlaces ts bs → HasRecord system k bs → HasPlace ts k
record_placed ts k [] h has = absurd has
record_placed ts k (b ∷ bs) h (inl same) = subst (λ (j : Key). HasPlace ts j) same h.0
record_placed ts k (b ∷ bs) h (inr has) = record_placed ts k bs h.1 has

commit_placed : (ts : Places) (k : Key) (ss : List (List Record)) → AllHavePlaces ts ss → HasRecordIn system k ss
    → HasPlace ts k
commit_placed ts k [] h has = absurd has
commit_placed ts k (bs ∷ ss) h (inl has) = record_placed ts k bs h.0 has
commit_placed ts k (bs ∷ ss) h (inr has) = commit_placed ts k ss h.1 has

pub exact_is : (ts : Places) (d : Undo system) → ((t : ℕ) → HavePlaces ts (d.active t)) → AllHavePlaces ts d.history
    → AreNeeded ts d → AreExact ts d
exact_is ts d active history needed k = (to, from)
  where
    to : HasPlace ts k → IsSome (row_at (rows ts) k) ⊎ (IsUnnamed d k → ⊥)
    to p = elim (there_or_not (rows ts) k)
        [ inl there ↦ inl there | inr absent ↦ inr (λ none. absent (needed k p none)) ]

    unnamed : (HasPlace ts k → ⊥) → IsUnnamed d k
    unnamed unplaced = (
      λ t has. unplaced (record_placed ts k (d.active t) (active t) has),
      λ has. unplaced
          (commit_placed ts k d.history history has),
    )

    from : IsSome (row_at (rows ts) k) ⊎ (IsUnnamed d k → ⊥) → HasPlace ts k
    from (inl there) = row_place ts k there
    from (inr named) = elim (placed_or_not ts k) [ inl p ↦ p | inr unplaced ↦ absurd (named (unnamed unplaced)) ]

pub needed_of_exact : (ts : Places) (d : Undo system) → AreExact ts d → AreNeeded ts d
needed_of_exact ts d exact k p none = elim ((exact k).0 p) [ inl there ↦ there | inr named ↦ absurd (named none) ]

-- ---- a change with its record

others_unnamed : (d : Undo system) (t : ℕ) (b : Record) (k : Key)
    → IsUnnamed (put_records system t (b ∷ d.active t) d) k → (record_key b ≢ k) × IsUnnamed d k
others_unnamed d t b k none = (λ same. none.0 t (here (inl same)), (at, none.1))
  where
    here : HasRecord system k (b ∷ d.active t) → HasRecord system k (set t (b ∷ d.active t) d.active t)
    here has = subst (HasRecord system k) (sym (set_same t (b ∷ d.active t) d.active t refl)) has

    at : (x : ℕ) → HasRecord system k (d.active x) → ⊥
    at x has = elim (cases_eq x t) [
      | inl same ↦ none.0 t (here (inr (subst (λ y. HasRecord system k (d.active y)) same has)))
      | inr ne ↦ none.0 x (subst (HasRecord system k) (sym (set_other t (b ∷ d.active t) d.active x ne)) has)
    ]

pub made_needed : (l : Layout) (ts ts' : Places) (d d' : Undo system) (t : ℕ) (c : Change) → AddsPlace ts ts' (key_of c)
    → rows ts' ≡ rows_after c (rows ts)
    → d' ≡ put_records system t (record_on system l c (rows ts) ∷ d.active t) d → AreNeeded ts d → AreNeeded ts' d'
made_needed l ts ts' d d' t c adds is undo needed k p none =
    let b : Record = record_on system l c (rows ts) in
    let others = others_unnamed d t b k (subst (λ (e : Undo system). IsUnnamed e k) undo none) in
    let own : record_key b ≡ key_of c = in_layout_key l c (row_at (rows ts) (key_of c)) in
    let apart : k ≢ key_of c = λ same. others.0 (own ∙ sym same) in
    let had : HasPlace ts k = elim ((adds k).0 p) [ inl h ↦ h | inr same ↦ absurd (apart same) ] in
    stays (is_key k (key_of c)) refl apart (needed k had others.1)
  where
    stays : (q : Bool) → is_key k (key_of c) ≡ q → k ≢ key_of c → IsSome (row_at (rows ts) k)
        → IsSome (row_at (rows ts') k)
    stays true e apart h = absurd (apart (key_true k (key_of c) e))
    stays false e apart h =
        subst (λ (o : Option Row). IsSome o)
        (sym (ap (λ (r : Rows). row_at r k) is ∙ at_changed c (rows ts) k
        ∙ ap (λ z. cond z (row_of c) (row_at (rows ts) k)) e)) h

-- that is taken back
pub exactly_back : (l : Layout) (ts ts' ts'' : Places) (u u' u'' : SegmentLog) (t : ℕ) (c : Change)
    → AddsPlace ts ts' (key_of c)
    → rows ts' ≡ rows_after c (rows ts)
    → undo_of u' ≡ put_records system t (record_on system l c (rows ts) ∷ (undo_of u).active t) (undo_of u)
    → AreExact ts (undo_of u)
    → GivesUpUnnamed ts' ts'' (undo_of u') (undo_of u'') → rows ts'' ≡ rows ts → undo_of u'' ≡ undo_of u
    → SamePlaces ts ts''
exactly_back l ts ts' ts'' u u' u'' t c adds is undo exact back same_rows same_undo k = (to, from)
  where
    needed : AreNeeded ts'' (undo_of u)
    needed = subst (AreNeeded ts'') same_undo
        (back.needed (made_needed l ts ts' (undo_of u) (undo_of u') t c adds is undo
        (needed_of_exact ts (undo_of u) exact)))

    there : IsSome (row_at (rows ts'') k) → IsSome (row_at (rows ts) k)
    there = subst (λ (r : Rows). IsSome (row_at r k)) same_rows

    to : HasPlace ts'' k → HasPlace ts k
    to p = elim (placed_or_not ts k)
        [ inl h ↦ h | inr unplaced ↦ (exact k).1 (inr (λ none. unplaced (row_place ts k (there (needed k p none))))) ]

    kept : HasPlace ts k → (IsUnnamed (undo_of u) k → ⊥) → HasPlace ts'' k
    kept p named = back.named k ((adds k).1 (inl p))
        (λ none. named (subst (λ (d : Undo system). IsUnnamed d k) same_undo none))

    from : HasPlace ts k → HasPlace ts'' k
    from p = elim ((exact k).0 p) [
      | inl here ↦ row_place ts'' k (subst (λ (r : Rows). IsSome (row_at r k)) (sym same_rows) here)
      | inr named ↦ kept p named
    ]
