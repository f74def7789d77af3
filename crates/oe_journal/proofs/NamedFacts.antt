-- Places that are kept for rows and for what records name, as records are taken off and their changes undone.
use Rattle.std.proofs.Common.{◌≡◌, ℕ, zero, suc, ◌-◌, Bool, true, false, cond, refl, sym, ap, ◌∙◌, subst, inl, inr}
use Rattle.std.proofs.Common.{List, [], ◌∷◌, ◌++◌, length, map, Option, None, Some}
use Rattle.std.specs.Prelude.{◌≢◌, ◌⊎◌, IsSome, option_map, option_and_then}
use Rattle.std.specs.FinMap.{get}
use Rattle.std.proofs.lemmas.Bool.{cases_eq}
use Rattle.oe_rows.specs.declared.keys.Key.{Key}
use Rattle.oe_rows.specs.declared.rows.Row.{Row}
use Rattle.oe_rows.specs.declared.rows.Row.TheVariants as row
use Rattle.oe_layout.specs.declared.records.OwnRecord.{OwnRecord}
use Rattle.oe_layout.specs.declared.records.OwnRecord.TheVariants as own
use Rattle.oe_layout.specs.Records.{record_of_own}
use Rattle.oe_theory.specs.Store.{all_below}
use Rattle.oe_theory.specs.Undo.{Undo, HasRecord, HasRecordIn, put_records}
use Rattle.oe_theory.specs.World.{set}
use Rattle.oe_theory.proofs.Sets.{set_same, set_other}
use Rattle.oe_rows.specs.Before.{with_warehouse, with_district, with_customer, with_order, with_order_line, with_stock}
use Rattle.oe_model.specs.Rows.{Rows, is_key, row_at, as_warehouse, as_district, as_customer, as_order, as_order_line}
use Rattle.oe_model.specs.Rows.{as_stock}
use Rattle.oe_model.specs.Changes.{Record, InsertedHistory, InsertedNewOrder, InsertedOrder, InsertedOrderLine}
use Rattle.oe_model.specs.Changes.{UpdatedWarehouse, UpdatedDistrict, UpdatedCustomer, UpdatedOrder, UpdatedOrderLine}
use Rattle.oe_model.specs.Changes.{ChangedWarehouse, ChangedDistrict, ChangedCustomer, ChangedOrder, ChangedOrderLine}
use Rattle.oe_model.specs.Changes.{ChangedStock}
use Rattle.oe_model.specs.Changes.{UpdatedStock, DeletedNewOrder, record_key, restore, put_back, with_columns}
use Rattle.oe_model.specs.System.{system, terminal_limit}
use Rattle.oe_model.proofs.RowFacts.{key_true, key_refl, at_put_back}
use Rattle.oe_store.specs.Places.{Places, rows, HasPlace}
use Rattle.oe_change.specs.PutBack.{Stands, LeavesPlaces}
use Rattle.oe_log.specs.Records.{Logged}
use Rattle.oe_log.specs.Log.{SegmentLog, Committed, records_at, total_count}
use Rattle.oe_log.specs.Stands.{model_records, undo_of}
use Rattle.oe_undo.specs.declared.holders.Holder.{Holder}
use Rattle.oe_undo.specs.declared.holders.Holder.TheVariants.{Open, At}
use Rattle.oe_undo.specs.Held.{Held, held_by, held_open, held_commits, all_held, of_key}
use Rattle.oe_undo.proofs.ChainWalkFacts.{of_key-append}
use Rattle.oe_journal.specs.GivesUp.{HasNoRecord}
use Rattle.oe_journal.specs.GoesBack.{HavePlaces, AllHavePlaces}
use Rattle.oe_journal.specs.Named.{IsUnnamed, AreNeeded, GivesUpUnnamed, PutsBack}
use Rattle.oe_journal.proofs.LeftFacts.{none_in_open, none_in_commits}

-- ---- a key that no record names is one of which the log has no record

pub unnamed_left : (u : SegmentLog) (k : Key) → length u.terminals ≡ terminal_limit → HasNoRecord u k
    → IsUnnamed (undo_of u) k
unnamed_left u k size none = (none_in_open k u size none, none_in_commits k u none)

module _ (k : Key) where
  both_none : (xs ys : List Held) → xs ≡ [] → ys ≡ [] → xs ++ ys ≡ []
  both_none xs ys e f = ap (λ zs. zs ++ ys) e ∙ f

  left_of_one : (h : Holder) (rs : List Logged) → (HasRecord system k (model_records rs) → ⊥)
      → of_key k (held_by h rs) ≡ []
  left_of_one h [] none = refl
  left_of_one h (r ∷ rs) none = go (is_key k (record_key r.before)) refl (left_of_one h rs (λ has. none (inr has)))
    where
      go : (b : Bool) → is_key k (record_key r.before) ≡ b → of_key k (held_by h rs) ≡ []
          → cond b (record { logged = r; holder = h } ∷ of_key k (held_by h rs)) (of_key k (held_by h rs)) ≡ []
      go true e rest = absurd (none (inl (sym (key_true k (record_key r.before) e))))
      go false e rest = rest

  left_of_open : (f : ℕ → List Logged) (n : ℕ) → ((t : ℕ) → HasRecord system k (model_records (f t)) → ⊥)
      → of_key k (held_open f (all_below system n)) ≡ []
  left_of_open f zero none = refl
  left_of_open f (suc n) none =
      of_key-append k (held_by (Open n) (f n)) (held_open f (all_below system n))
      ∙ both_none _ _ (left_of_one (Open n) (f n) (none n)) (left_of_open f n none)

  left_of_commits : (m : ℕ) (cs : List Committed) → (HasRecordIn system k (map (λ c. model_records c.records) cs) → ⊥)
      → of_key k (held_commits m cs) ≡ []
  left_of_commits m [] none = refl
  left_of_commits m (c ∷ cs) none =
      of_key-append k (held_by (At m) c.records) (held_commits (m - 1) cs)
      ∙ both_none _ _ (left_of_one (At m) c.records (λ has. none (inl has)))
      (left_of_commits (m - 1) cs (λ has. none (inr has)))

pub left_unnamed : (u : SegmentLog) (k : Key) → IsUnnamed (undo_of u) k → HasNoRecord u k
left_unnamed u k none =
    of_key-append k (held_open (records_at u) (all_below system terminal_limit))
    (held_commits (total_count u) u.committed)
    ∙ both_none k _ _ (left_of_open k (records_at u) terminal_limit none.0)
    (left_of_commits k (total_count u) u.committed none.1)

-- ---- keys that records name

-- records whose keys keep their places have them
pub still_placed : (ts ts' : Places) (bs : List Record)
    → ((k : Key) → HasRecord system k bs → HasPlace ts k → HasPlace ts' k) → HavePlaces ts bs → HavePlaces ts' bs
still_placed ts ts' [] keeps h = tt
still_placed ts ts' (b ∷ bs) keeps h =
    (keeps (record_key b) (inl refl) h.0, still_placed ts ts' bs (λ k has. keeps k (inr has)) h.1)

pub all_still_placed : (ts ts' : Places) (ss : List (List Record))
    → ((k : Key) → HasRecordIn system k ss → HasPlace ts k → HasPlace ts' k) → AllHavePlaces ts ss
    → AllHavePlaces ts' ss
all_still_placed ts ts' [] keeps h = tt
all_still_placed ts ts' (bs ∷ ss) keeps h = (
  still_placed ts ts' bs (λ k has. keeps k (inl has)) h.0,
  all_still_placed ts ts' ss (λ k has. keeps k (inr has))
      h.1,
)

module _ (ts ts' : Places) (d d' : Undo system) (g : GivesUpUnnamed ts ts' d d') where
  pub active_placed : (t : ℕ) → HavePlaces ts (d'.active t) → HavePlaces ts' (d'.active t)
  active_placed t = still_placed ts ts' (d'.active t) (λ k has p. g.named k p (λ none. none.0 t has))

  pub history_placed : AllHavePlaces ts d'.history → AllHavePlaces ts' d'.history
  history_placed = all_still_placed ts ts' d'.history (λ k has p. g.named k p (λ none. none.1 has))

-- ---- one after another

pub none_given_up : (ts : Places) (d : Undo system) → GivesUpUnnamed ts ts d d
none_given_up ts d = record { records = λ k h. h; fewer = λ k h. h; named = λ k h n. h; needed = λ h. h }

pub then_given_up : (ts ts' ts'' : Places) (d d' d'' : Undo system) → GivesUpUnnamed ts ts' d d'
    → GivesUpUnnamed ts' ts'' d' d'' → GivesUpUnnamed ts ts'' d d''
then_given_up ts ts' ts'' d d' d'' a b = record {
  records = λ k h. b.records k (a.records k h);
  fewer = λ k h. a.fewer k (b.fewer k h);
  named = λ k p named. b.named k (a.named k p (λ none. named (b.records k none))) named;
  needed = λ h. b.needed (a.needed h);
}

-- what names the same keys
pub record NamesAlike (d d' : Undo system) : Type 0 where
  pub to : (k : Key) → IsUnnamed d k → IsUnnamed d' k
  pub from : (k : Key) → IsUnnamed d' k → IsUnnamed d k

pub alike_before : (ts ts' : Places) (c d d' : Undo system) → NamesAlike c d → GivesUpUnnamed ts ts' d d'
    → GivesUpUnnamed ts ts' c d'
alike_before ts ts' c d d' same g = record {
  records = λ k h. g.records k (same.to k h);
  fewer = g.fewer;
  named = g.named;
  needed = λ h. g.needed (λ k p none. h k p (same.from k none));
}

-- the newest commit's records are a terminal's open ones, which had none
pub reopened_names : (d : Undo system) (t : ℕ) (bs : List Record) (ss : List (List Record)) → d.active t ≡ []
    → d.history ≡ bs ∷ ss
    → NamesAlike d (record { active = set t bs d.active; history = ss })
reopened_names d t bs ss quiet is = record { to = to; from = from }
  where
    to : (k : Key) → IsUnnamed d k → IsUnnamed (record { active = set t bs d.active; history = ss }) k
    to k none = (at, λ has. none.1 (subst (HasRecordIn system k) (sym is) (inr has)))
      where
        at : (x : ℕ) → HasRecord system k (set t bs d.active x) → ⊥
        at x has = elim (cases_eq x t) [
          | inl same ↦ none.1 (subst (HasRecordIn system k) (sym is)
              (inl (subst (HasRecord system k) (set_same t bs d.active x same) has)))
          | inr ne ↦ none.0 x (subst (HasRecord system k) (set_other t bs d.active x ne) has)
        ]

    from : (k : Key) → IsUnnamed (record { active = set t bs d.active; history = ss }) k → IsUnnamed d k
    from k none = (at, λ has. within (subst (HasRecordIn system k) is has))
      where
        at : (x : ℕ) → HasRecord system k (d.active x) → ⊥
        at x has = elim (cases_eq x t) [
          | inl same ↦ subst (HasRecord system k) (ap d.active same ∙ quiet) has
          | inr ne ↦ none.0 x (subst (HasRecord system k) (sym (set_other t bs d.active x ne)) has)
        ]

        within : HasRecordIn system k (bs ∷ ss) → ⊥
        within (inl has) = none.0 t (subst (HasRecord system k) (sym (set_same t bs d.active t refl)) has)
        within (inr has) = none.1 has

-- ---- one record is taken off

module _ (t : ℕ) (b : Record) (bs : List Record) (d : Undo system) (is : d.active t ≡ b ∷ bs) where
  abbrev fewer_records : Undo system
  fewer_records = put_records system t bs d

  fewer_name : (k : Key) → IsUnnamed d k → IsUnnamed fewer_records k
  fewer_name k none = (at, none.1)
    where
      at : (x : ℕ) → HasRecord system k (set t bs d.active x) → ⊥
      at x has = elim (cases_eq x t) [
        | inl same ↦ none.0 t
            (subst (HasRecord system k) (sym is) (inr (subst (HasRecord system k) (set_same t bs d.active x same) has)))
        | inr ne ↦ none.0 x (subst (HasRecord system k) (set_other t bs d.active x ne) has)
      ]

  others_name : (k : Key) → record_key b ≢ k → IsUnnamed fewer_records k → IsUnnamed d k
  others_name k other none = (at, none.1)
    where
      within : HasRecord system k (b ∷ bs) → ⊥
      within (inl same) = other same
      within (inr has) = none.0 t (subst (HasRecord system k) (sym (set_same t bs d.active t refl)) has)

      at : (x : ℕ) → HasRecord system k (d.active x) → ⊥
      at x has = elim (cases_eq x t) [
        | inl same ↦ within (subst (HasRecord system k) (ap d.active same ∙ is) has)
        | inr ne ↦ none.0 x (subst (HasRecord system k) (sym (set_other t bs d.active x ne)) has)
      ]

-- ---- and its change is undone

row_other : (b : Record) (r : Rows) (k : Key) → is_key k (record_key b) ≡ false → row_at (put_back b r) k ≡ row_at r k
row_other b r k e = at_put_back b r k ∙ ap (λ z. cond z (restore b (row_at r k)) (row_at r k)) e

-- where an inserted row's key has no place any more, a key has one only if it is another or has its row before
left_places : (b : Record) (ts ts' : Places) → LeavesPlaces b ts ts' → (k : Key) → HasPlace ts' k → HasPlace ts k
left_places (InsertedHistory j v) ts ts' h k p = ((h k).0 p).0
left_places (InsertedNewOrder j v) ts ts' h k p = ((h k).0 p).0
left_places (InsertedOrder j v) ts ts' h k p = ((h k).0 p).0
left_places (InsertedOrderLine j v) ts ts' h k p = ((h k).0 p).0
left_places (UpdatedWarehouse j v) ts ts' h k p = (h k).0 p
left_places (UpdatedDistrict j v) ts ts' h k p = (h k).0 p
left_places (UpdatedCustomer j v) ts ts' h k p = (h k).0 p
left_places (UpdatedOrder j v) ts ts' h k p = (h k).0 p
left_places (UpdatedOrderLine j v) ts ts' h k p = (h k).0 p
left_places (UpdatedStock j v) ts ts' h k p = (h k).0 p
left_places (ChangedWarehouse j v) ts ts' h k p = (h k).0 p
left_places (ChangedDistrict j v) ts ts' h k p = (h k).0 p
left_places (ChangedCustomer j v) ts ts' h k p = (h k).0 p
left_places (ChangedOrder j v) ts ts' h k p = (h k).0 p
left_places (ChangedOrderLine j v) ts ts' h k p = (h k).0 p
left_places (ChangedStock j v) ts ts' h k p = (h k).0 p
left_places (DeletedNewOrder j v) ts ts' h k p = (h k).0 p

other_places : (b : Record) (ts ts' : Places) → LeavesPlaces b ts ts' → (k : Key) → k ≢ record_key b → HasPlace ts k
    → HasPlace ts' k
other_places (InsertedHistory j v) ts ts' h k ne p = (h k).1 (p, ne)
other_places (InsertedNewOrder j v) ts ts' h k ne p = (h k).1 (p, ne)
other_places (InsertedOrder j v) ts ts' h k ne p = (h k).1 (p, ne)
other_places (InsertedOrderLine j v) ts ts' h k ne p = (h k).1 (p, ne)
other_places (UpdatedWarehouse j v) ts ts' h k ne p = (h k).1 p
other_places (UpdatedDistrict j v) ts ts' h k ne p = (h k).1 p
other_places (UpdatedCustomer j v) ts ts' h k ne p = (h k).1 p
other_places (UpdatedOrder j v) ts ts' h k ne p = (h k).1 p
other_places (UpdatedOrderLine j v) ts ts' h k ne p = (h k).1 p
other_places (UpdatedStock j v) ts ts' h k ne p = (h k).1 p
other_places (ChangedWarehouse j v) ts ts' h k ne p = (h k).1 p
other_places (ChangedDistrict j v) ts ts' h k ne p = (h k).1 p
other_places (ChangedCustomer j v) ts ts' h k ne p = (h k).1 p
other_places (ChangedOrder j v) ts ts' h k ne p = (h k).1 p
other_places (ChangedOrderLine j v) ts ts' h k ne p = (h k).1 p
other_places (ChangedStock j v) ts ts' h k ne p = (h k).1 p
other_places (DeletedNewOrder j v) ts ts' h k ne p = (h k).1 p

row_of_own : (b : Record) (r : Rows) → IsSome (restore b (row_at r (record_key b)))
    → IsSome (row_at (put_back b r) (record_key b))
row_of_own b r h = subst (λ (o : Option Row). IsSome o)
    (sym (at_put_back b r (record_key b)
    ∙ ap (λ z. cond z (restore b (row_at r (record_key b))) (row_at r (record_key b)))
    (key_refl (record_key b)))) h

-- columns are put back on a row that is there
columns_on : {X C : Type 0} (put : C → X → X) (f : X → Row) (out : Row → Option X) → ((x : X) → out (f x) ≡ Some x)
    → (c : C) (o : Option X) → IsSome (option_map f o)
    → IsSome (option_map f (with_columns put (Some c) (option_and_then out (option_map f o))))
columns_on put f out h c None is = let no : ⊥ = cc in absurd no
columns_on put f out h c (Some x) is =
    subst (λ z. IsSome (option_map f (with_columns put (Some c) z))) (sym (h x)) refl

-- the record's own key has a place then only with its row
own_place : (o : OwnRecord) (ts ts' : Places) → LeavesPlaces (record_of_own o) ts ts'
    → Stands (record_of_own o) (rows ts)
    → rows ts' ≡ put_back (record_of_own o) (rows ts)
    → HasPlace ts' (record_key (record_of_own o)) → IsSome (row_at (rows ts') (record_key (record_of_own o)))
own_place o ts ts' h stands is p =
    subst (λ (r : Rows). IsSome (row_at r (record_key (record_of_own o)))) (sym is) (go o h stands p)
  where
    go : (o : OwnRecord) → LeavesPlaces (record_of_own o) ts ts' → Stands (record_of_own o) (rows ts)
        → HasPlace ts' (record_key (record_of_own o))
        → IsSome (row_at (put_back (record_of_own o) (rows ts)) (record_key (record_of_own o)))
    go (own.InsertedHistory k) h s p = absurd (((h (record_key (record_of_own (own.InsertedHistory k)))).0 p).1 refl)
    go (own.InsertedNewOrder k) h s p = absurd (((h (record_key (record_of_own (own.InsertedNewOrder k)))).0 p).1 refl)
    go (own.InsertedOrder k) h s p = absurd (((h (record_key (record_of_own (own.InsertedOrder k)))).0 p).1 refl)
    go (own.InsertedOrderLine k) h s p =
        absurd (((h (record_key (record_of_own (own.InsertedOrderLine k)))).0 p).1 refl)
    go (own.UpdatedWarehouse k x) h s p = row_of_own (record_of_own (own.UpdatedWarehouse k x)) (rows ts) refl
    go (own.UpdatedDistrict k x) h s p = row_of_own (record_of_own (own.UpdatedDistrict k x)) (rows ts) refl
    go (own.UpdatedCustomer k x) h s p = row_of_own (record_of_own (own.UpdatedCustomer k x)) (rows ts) refl
    go (own.UpdatedOrder k x) h s p = row_of_own (record_of_own (own.UpdatedOrder k x)) (rows ts) refl
    go (own.UpdatedOrderLine k x) h s p = row_of_own (record_of_own (own.UpdatedOrderLine k x)) (rows ts) refl
    go (own.UpdatedStock k x) h s p = row_of_own (record_of_own (own.UpdatedStock k x)) (rows ts) refl
    go (own.DeletedNewOrder k) h s p = row_of_own (record_of_own (own.DeletedNewOrder k)) (rows ts) refl
    go (own.ChangedWarehouse k c) h s p = row_of_own (record_of_own (own.ChangedWarehouse k c)) (rows ts)
        (columns_on with_warehouse row.Warehouse as_warehouse (λ _. refl) c (get (rows ts).warehouses k) s)
    go (own.ChangedDistrict k c) h s p = row_of_own (record_of_own (own.ChangedDistrict k c)) (rows ts)
        (columns_on with_district row.District as_district (λ _. refl) c (get (rows ts).districts k) s)
    go (own.ChangedCustomer k c) h s p = row_of_own (record_of_own (own.ChangedCustomer k c)) (rows ts)
        (columns_on with_customer row.Customer as_customer (λ _. refl) c (get (rows ts).customers k) s)
    go (own.ChangedOrder k c) h s p = row_of_own (record_of_own (own.ChangedOrder k c)) (rows ts)
        (columns_on with_order row.Order as_order (λ _. refl) c (get (rows ts).orders k) s)
    go (own.ChangedOrderLine k c) h s p = row_of_own (record_of_own (own.ChangedOrderLine k c)) (rows ts)
        (columns_on with_order_line row.OrderLine as_order_line (λ _. refl) c (get (rows ts).order_lines k) s)
    go (own.ChangedStock k c) h s p = row_of_own (record_of_own (own.ChangedStock k c)) (rows ts)
        (columns_on with_stock row.Stock as_stock (λ _. refl) c (get (rows ts).stocks k) s)

is_none : (hs : List Held) → (hs ≡ []) ⊎ (hs ≡ [] → ⊥)
is_none [] = inl refl
is_none (h ∷ hs) = inr (λ e. let no : ⊥ = cc in no)

-- the newest record of a log is taken off, and its change undone
module _ (o : OwnRecord) (ts ts' : Places) (v w : SegmentLog) (t : ℕ) (bs : List Record)
    (size : length w.terminals ≡ terminal_limit)
    (newest : (undo_of v).active t ≡ record_of_own o ∷ bs) (rest : undo_of w ≡ put_records system t bs (undo_of v))
    (stands : Stands (record_of_own o) (rows ts)) (put : rows ts' ≡ put_back (record_of_own o) (rows ts))
    (back : PutsBack (record_of_own o) (record_key (record_of_own o)) ts ts' w) where
  abbrev own_key : Key
  own_key = record_key (record_of_own o)

  same_name : (k : Key) → IsUnnamed (undo_of w) k → IsUnnamed (put_records system t bs (undo_of v)) k
  same_name k = subst (λ (d : Undo system). IsUnnamed d k) rest

  row_stays : (k : Key) → is_key k own_key ≡ false → IsSome (row_at (rows ts) k) → IsSome (row_at (rows ts') k)
  row_stays k e h = subst (λ (q : Option Row). IsSome q)
      (sym (ap (λ (r : Rows). row_at r k) put ∙ row_other (record_of_own o) (rows ts) k e)) h

  fewer_places : (k : Key) → HasPlace ts' k → HasPlace ts k
  fewer_places k p = elim (is_none (of_key own_key (all_held w))) [
    | inl none ↦ left_places (record_of_own o) ts ts' (back.gone none) k p
    | inr some ↦ (back.kept some k).0 p
  ]

  named_places : (k : Key) → HasPlace ts k → (IsUnnamed (undo_of w) k → ⊥) → HasPlace ts' k
  named_places k p named = elim (is_none (of_key own_key (all_held w))) [
    | inl none ↦ other_places (record_of_own o) ts ts' (back.gone none) k
        (λ same. named (subst (IsUnnamed (undo_of w)) (sym same) (unnamed_left w own_key size none))) p
    | inr some ↦ (back.kept some k).1 p
  ]

  needed_places : AreNeeded ts (undo_of v) → AreNeeded ts' (undo_of w)
  needed_places h k p none = go (is_key k own_key) refl
    where
      go : (q : Bool) → is_key k own_key ≡ q → IsSome (row_at (rows ts') k)
      go true e =
          let same : k ≡ own_key = key_true k own_key e in
          let gone : HasNoRecord w own_key = subst (HasNoRecord w) same (left_unnamed w k none) in
          subst (λ (j : Key). IsSome (row_at (rows ts') j)) (sym same)
          (own_place o ts ts' (back.gone gone) stands put (subst (HasPlace ts') same p))
      go false e =
          let apart : own_key ≢ k = λ same. let own : is_key k own_key ≡ true = ap (is_key k) same ∙ key_refl k in
          (let no : ◌≡◌ {A = Bool} true false = sym own ∙ e in cc) in
          row_stays k e (h k (fewer_places k p)
          (others_name t (record_of_own o) bs (undo_of v) newest k apart (same_name k none)))

  pub one_given_up : GivesUpUnnamed ts ts' (undo_of v) (undo_of w)
  one_given_up = record {
    records = λ k none. subst (λ (d : Undo system). IsUnnamed d k) (sym rest)
        (fewer_name t (record_of_own o) bs (undo_of v) newest k none);
    fewer = fewer_places;
    named = named_places;
    needed = needed_places;
  }
