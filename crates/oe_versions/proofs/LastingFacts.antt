-- What of a row never changes: each record that is put back brings a row of which the later one has kept it.
use Rattle.std.proofs.Common.{◌≡◌, ℕ, Bool, true, false, cond, Option, None, Some, List, [], ◌∷◌, ◌++◌, take, drop}
use Rattle.std.proofs.Common.{append_assoc, refl, sym, ap, ◌∙◌, subst}
use Rattle.std.specs.Prelude.{is_some, option_map}
use Rattle.std.specs.FinMap.{get}
use Rattle.std.proofs.lemmas.List.{take-append-drop}
use Rattle.oe_rows.specs.declared.keys.Key.{Key}
use Rattle.oe_rows.specs.declared.keys.Key.TheVariants as key
use Rattle.oe_rows.specs.declared.histories.History.{History}
use Rattle.oe_rows.specs.declared.orders.Order.{Order}
use Rattle.oe_rows.specs.declared.rows.Row.{Row}
use Rattle.oe_rows.specs.declared.rows.Row.TheVariants as row
use Rattle.oe_theory.specs.World.{set}
use Rattle.oe_theory.specs.Undo.{unwind, unwind_open, unwind_commits, Finds, GoesBack, open_records, commit_records}
use Rattle.oe_theory.specs.Store.{Store, all_below, commits_after}
use Rattle.oe_theory.specs.StoreTheorems.{IsStanding, AreAllIn}
use Rattle.oe_theory.proofs.StoreFacts.{below}
use Rattle.oe_theory.proofs.StoreClosing.{each_goes_back_here, store_is_orderly}
use Rattle.oe_model.specs.Rows.{Rows, is_key, row_at}
use Rattle.oe_model.specs.Changes.{Change, InsertHistory, InsertNewOrder, InsertOrder, InsertOrderLine, UpdateWarehouse}
use Rattle.oe_model.specs.Changes.{UpdateDistrict, UpdateCustomer, UpdateOrder, UpdateOrderLine, UpdateStock}
use Rattle.oe_model.specs.Changes.{DeleteNewOrder, key_of, row_of, Record, record_key, restore, put_back}
use Rattle.oe_rows.specs.declared.layouts.Layout.{Layout}
use Rattle.oe_model.specs.Meets.{Meets, Accepts}
use Rattle.oe_model.specs.System.{system, terminal_limit}
use Rattle.oe_model.proofs.ChangeFacts.{accepted_meets}
use Rattle.oe_model.proofs.PresenceFacts.{some-map}
use Rattle.oe_model.proofs.RowFacts.{key_true, at_put_back, in_layout_key}
use Rattle.oe_model.proofs.SystemLaws.{laws}
use Rattle.oe_versions.specs.Lasting.{Lasts, Rows_last, Versions_meet}

itself : (k : Key) (v : Option Row) → Lasts k v v
itself (key.Warehouse k) v = refl
itself (key.District k) v = refl
itself (key.Customer k) v = refl
itself (key.History k) v = λ h. refl
itself (key.NewOrder k) v = tt
itself (key.Order k) v = λ x e. (x, e, refl)
itself (key.OrderLine k) v = λ h. h
itself (key.Item k) v = refl
itself (key.Stock k) v = refl

join : (k : Key) (u v w : Option Row) → Lasts k u v → Lasts k v w → Lasts k u w
join (key.Warehouse k) u v w a b = a ∙ b
join (key.District k) u v w a b = a ∙ b
join (key.Customer k) u v w a b = a ∙ b
join (key.History k) u v w a b = λ h. let e : v ≡ u = a h in b (ap is_some e ∙ h) ∙ e
join (key.NewOrder k) u v w a b = tt
join (key.Order k) u v w a b = λ x e. let p = a x e in let q = b p.0 p.1 in (q.0, q.1, q.2 ∙ p.2)
join (key.OrderLine k) u v w a b = λ h. b (a h)
join (key.Item k) u v w a b = a ∙ b
join (key.Stock k) u v w a b = a ∙ b

absent_order : (o : Option Order) (x : Order) → o ≡ None → option_map row.Order o ≡ Some (row.Order x) → ⊥
absent_order None x e f = cc
absent_order (Some y) x e f = cc

absent_history : (o : Option History) → o ≡ None → is_some (option_map row.History o) ≡ true → ⊥
absent_history None e h = let no : ⊥ = cc in no
absent_history (Some y) e h = let no : ⊥ = cc in no

pub order_is : (y x : Order) → ◌≡◌ {A = Option Row} (Some (row.Order y)) (Some (row.Order x)) → y ≡ x
order_is y x e = cc

-- a change that is accepted leaves a row which has kept it
by_change : (c : Change) (on : Rows) → Accepts c on → Lasts (key_of c) (row_at on (key_of c)) (row_of c)
by_change (InsertHistory k x) on a = λ h. absurd (absent_history (get on.histories k) a.0 h)
by_change (InsertNewOrder k x) on a = tt
by_change (InsertOrder k x) on a = λ y e. absurd (absent_order (get on.orders k) y a.0 e)
by_change (InsertOrderLine k x) on a = λ h. refl
by_change (UpdateWarehouse k x) on a = some-map row.Warehouse (get on.warehouses k) ∙ a
by_change (UpdateDistrict k x) on a = some-map row.District (get on.districts k) ∙ a
by_change (UpdateCustomer k x) on a = some-map row.Customer (get on.customers k) ∙ a
by_change (UpdateOrder k x) on a = λ y e.
    let is : a.0 ≡ y = order_is a.0 y (sym (ap (option_map row.Order) a.1) ∙ e) in
    (x, refl, a.2 ∙ ap (λ (z : Order). z.customer) is)
by_change (UpdateOrderLine k x) on a = λ h. refl
by_change (UpdateStock k x) on a = some-map row.Stock (get on.stocks k) ∙ a
by_change (DeleteNewOrder k) on a = tt

-- and so does the record of one, where it goes back
by_record : (l : Layout) (b : Record) (r : Rows) → Finds system l b r → (k : Key)
    → Lasts k (row_at (put_back b r) k) (row_at r k)
by_record l b r f k = go (is_key k (record_key b)) refl
  where
    own : record_key b ≡ key_of f.change
    own = ap record_key f.is_of ∙ in_layout_key l f.change (row_at f.on (key_of f.change))

    kept : Lasts (key_of f.change) (row_at (put_back b r) (key_of f.change)) (row_at r (key_of f.change))
    kept =
        subst (λ (v : Option Row). Lasts (key_of f.change) v (row_at r (key_of f.change))) (sym f.brought_back)
        (subst (λ (v : Option Row). Lasts (key_of f.change) (row_at f.on (key_of f.change)) v) (sym f.left)
        (by_change f.change f.on f.accepted))

    go : (c : Bool) → is_key k (record_key b) ≡ c → Lasts k (row_at (put_back b r) k) (row_at r k)
    go true e =
        let same : key_of f.change ≡ k = sym (key_true k (record_key b) e ∙ own) in
        subst (λ (q : Key). Lasts q (row_at (put_back b r) q) (row_at r q)) same kept
    go false e =
        let found : row_at r k ≡ row_at (put_back b r) k =
        sym (at_put_back b r k ∙ ap (λ z. cond z (restore b (row_at r k)) (row_at r k)) e) in
        subst (λ (v : Option Row). Lasts k v (row_at r k)) found (itself k (row_at r k))

-- and so do the first of the records that go back one after another
by_records : (l : Layout) (P : Rows → Type 0) (xs ys : List Record) (r : Rows)
    → GoesBack system l P (xs ++ ys) r → (k : Key)
    → Lasts k (row_at (unwind system xs r) k) (row_at r k)
by_records l P [] ys r g k = itself k (row_at r k)
by_records l P (b ∷ xs) ys r g k =
    join k (row_at (unwind system xs (put_back b r)) k) (row_at (put_back b r) k) (row_at r k)
    (by_records l P xs ys (put_back b r) g.2 k) (by_record l b r g.1 k)

unwind-append : (xs ys : List Record) (r : Rows) → unwind system (xs ++ ys) r ≡ unwind system ys (unwind system xs r)
unwind-append [] ys r = refl
unwind-append (b ∷ xs) ys r = unwind-append xs ys (put_back b r)

unwind_open_records : (active : ℕ → List Record) (ts : List ℕ) (r : Rows)
    → unwind system (open_records system active ts) r ≡ unwind_open system active ts r
unwind_open_records active [] r = refl
unwind_open_records active (t ∷ ts) r =
    unwind-append (active t) (open_records system (set t [] active) ts) r
    ∙ unwind_open_records (set t [] active) ts (unwind system (active t) r)

unwind_commit_records : (ss : List (List Record)) (r : Rows)
    → unwind system (commit_records system ss) r ≡ unwind_commits system ss r
unwind_commit_records [] r = refl
unwind_commit_records (bs ∷ ss) r = unwind-append bs (commit_records system ss) r
    ∙ unwind_commit_records ss (unwind system bs r)

commits-append : (xs ys : List (List Record)) → commit_records system (xs ++ ys) ≡ commit_records system xs
    ++ commit_records system ys
commits-append [] ys = refl
commits-append (bs ∷ xs) ys = ap (λ z. bs ++ z) (commits-append xs ys)
    ∙ sym (append_assoc bs (commit_records system xs) (commit_records system ys))

all_here : (s : Store system) → IsStanding system s → AreAllIn system s (all_below system terminal_limit)
all_here s h t p e = below system laws terminal_limit t ((store_is_orderly system laws s h).terminal t p e).1

pub rows_last : Rows_last
rows_last s m k h =
    let opens : List Record = open_records system s.undo.active (all_below system terminal_limit) in
    let later : List (List Record) = take (commits_after system s m) s.undo.history in
    let before_them : List (List Record) = drop (commits_after system s m) s.undo.history in
    let all : commit_records system s.undo.history ≡ commit_records system later ++ commit_records system before_them =
    ap (commit_records system) (sym (take-append-drop (commits_after system s m) s.undo.history))
    ∙ commits-append later before_them
    in
    let goes : GoesBack system s.layout Meets
    ((opens ++ commit_records system later) ++ commit_records system before_them) s.tables =
    subst (λ (bs : List Record). GoesBack system s.layout Meets bs s.tables)
    (ap (λ z. opens ++ z) all
    ∙ sym (append_assoc opens (commit_records system later) (commit_records system before_them)))
    (each_goes_back_here system laws Meets (record { between = λ f r g. g.meets; kept = accepted_meets }) s
    (all_below system terminal_limit) h (all_here s h))
    in
    subst (λ (r : Rows). Lasts k (row_at r k) (row_at s.tables k))
    (unwind-append opens (commit_records system later) s.tables ∙ unwind_commit_records later
    (unwind system opens s.tables) ∙ ap (unwind_commits system later)
    (unwind_open_records s.undo.active (all_below system terminal_limit) s.tables))
    (by_records s.layout Meets (opens ++ commit_records system later) (commit_records system before_them) s.tables goes
    k)

pub versions_meet : Versions_meet
versions_meet s m h = ((store_is_orderly system laws s h).good m).meets
