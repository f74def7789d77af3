-- A purge gives up the place of each key without a row that no record names any more: where such a key had a record
-- among the forgotten
-- commits, the newest of these deleted it, since every record finds the row that its change left.
use Rattle.std.proofs.Common.{◌≡◌, ◌≢◌, ℕ, zero, suc, ◌≤◌, Bool, true, false, cond, refl, sym, ap, ◌∙◌, subst, inl, inr}
use Rattle.std.proofs.Common.{◌⊎◌, arith, List, [], ◌∷◌, length, take, drop, Option}
use Rattle.std.specs.Prelude.{IsSome}
use Rattle.std.proofs.lemmas.Bool.{cases_eq, cases_lt}
use Rattle.std.proofs.lemmas.List.{get_or_past}
use Rattle.oe_rows.specs.declared.keys.Key.{Key}
use Rattle.oe_rows.specs.declared.rows.Row.{Row}
use Rattle.oe_theory.specs.World.{set}
use Rattle.oe_theory.specs.Undo.{Undo, HasRecord, HasRecordIn, unwind}
use Rattle.oe_theory.proofs.Sets.{set_same, set_other, set_twice, set_idle}
use Rattle.oe_model.specs.Rows.{Rows, is_key, row_at}
use Rattle.oe_model.specs.Changes.{Record, InsertedHistory, InsertedNewOrder, InsertedOrder, InsertedOrderLine}
use Rattle.oe_model.specs.Changes.{UpdatedWarehouse, UpdatedDistrict, UpdatedCustomer, UpdatedOrder, UpdatedOrderLine}
use Rattle.oe_model.specs.Changes.{ChangedWarehouse, ChangedDistrict, ChangedCustomer, ChangedOrder, ChangedOrderLine}
use Rattle.oe_model.specs.Changes.{ChangedStock}
use Rattle.oe_model.specs.Changes.{UpdatedStock, DeletedNewOrder, record_key, restore, put_back}
use Rattle.oe_model.specs.System.{system}
use Rattle.oe_model.proofs.RowFacts.{key_true, key_refl, at_put_back}
use Rattle.oe_store.specs.Places.{rows, HasPlace}
use Rattle.oe_store.specs.Places as tables
use Rattle.oe_change.specs.PutBack.{Stands}
use Rattle.oe_log.specs.Log.{SegmentLog, idle, records_in, with_newest}
use Rattle.oe_log.specs.Stands.{model_records, undo_of}
use Rattle.oe_log.proofs.LawFacts as stands
use Rattle.oe_locks.specs.Held.{Holdings}
use Rattle.oe_journal.specs.GivesUp.{IsDeleted, IsDeletedIn, HasNoRecord, GivesUpDeleted}
use Rattle.oe_journal.specs.GoesBack.{CanUnwind, CanUnwindAll}
use Rattle.oe_journal.specs.Named.{IsUnnamed, AreNeeded}
use Rattle.oe_journal.proofs.ExactFacts.{there_or_not}
use Rattle.oe_journal.proofs.NamedFacts.{left_unnamed}
use Rattle.oe_engine.specs.Covered.{put_newest, Unwinds, IsSafe}
use Rattle.oe_engine.specs.View.{view_from}

module _ (k : Key) where
  row_stays : (b : Record) (r : Rows) → record_key b ≢ k → row_at (put_back b r) k ≡ row_at r k
  row_stays b r other = at_put_back b r k ∙ by (is_key k (record_key b)) refl
    where
      by : (q : Bool) → is_key k (record_key b) ≡ q → cond q (restore b (row_at r k)) (row_at r k) ≡ row_at r k
      by true e = absurd (other (sym (key_true k (record_key b) e)))
      by false e = refl

  is_or_not : (b : Record) → (record_key b ≡ k) ⊎ (record_key b ≢ k)
  is_or_not b = by (is_key k (record_key b)) refl
    where
      by : (q : Bool) → is_key k (record_key b) ≡ q → (record_key b ≡ k) ⊎ (record_key b ≢ k)
      by true e = inl (sym (key_true k (record_key b) e))
      by false e = inr (λ same. let own : is_key k (record_key b) ≡ true = ap (is_key k) same ∙ key_refl k in
          (let no : ◌≡◌ {A = Bool} true false = sym own ∙ e in cc))

  has_or_not : (bs : List Record) → HasRecord system k bs ⊎ (HasRecord system k bs → ⊥)
  has_or_not [] = inr (λ h. h)
  has_or_not (b ∷ bs) = elim (is_or_not b) [
    | inl same ↦ inl (inl same)
    | inr other ↦ elim (has_or_not bs) [
      | inl has ↦ inl (inr has)
      | inr none ↦ inr (λ h. elim h [ inl same ↦ other same | inr has ↦ none has ])
    ]
  ]

  has_in_or_not : (ss : List (List Record)) → HasRecordIn system k ss ⊎ (HasRecordIn system k ss → ⊥)
  has_in_or_not [] = inr (λ h. h)
  has_in_or_not (bs ∷ ss) = elim (has_or_not bs) [
    | inl has ↦ inl (inl has)
    | inr none ↦ elim (has_in_or_not ss) [
      | inl has ↦ inl (inr has)
      | inr rest ↦ inr (λ h. elim h [ inl has ↦ none has | inr has ↦ rest has ])
    ]
  ]

  -- records of other keys leave the row
  unwound_stays : (bs : List Record) (r : Rows) → (HasRecord system k bs → ⊥)
      → row_at (unwind system bs r) k ≡ row_at r k
  unwound_stays [] r none = refl
  unwound_stays (b ∷ bs) r none = unwound_stays bs (put_back b r) (λ has. none (inr has))
      ∙ row_stays b r (λ same. none (inl same))

  -- ---- open work is put back, of which no record is of the key

  module _ (ss : List (List Record)) where
    abbrev CanGoBack : (ℕ → List Record) → Rows → Type 0
    CanGoBack active r = (ts : List ℕ) → Unwinds ss active r ts

    -- the work of one terminal
    one_back : (bs : List Record) (t : ℕ) (active : ℕ → List Record) (r : Rows) → active t ≡ bs → CanGoBack active r
        → (HasRecord system k bs → ⊥)
        → (s : Rows) × CanGoBack (set t [] active) s × (row_at s k ≡ row_at r k)
    one_back [] t active r e can none =
        (r, subst (λ (f : ℕ → List Record). CanGoBack f r) (sym (set_idle t [] active e)) can, refl)
    one_back (b ∷ bs) t active r e can none =
        let next : CanGoBack (set t bs active) (put_back b r) =
        λ ts. subst (λ (z : List Record). Unwinds ss (set t (drop 1 z) active) (put_newest z r) ts) e
        (can (t ∷ ts)).1 in
        let (s, rest, same) = one_back bs t (set t bs active) (put_back b r) (set_same t bs active t refl) next
        (λ has. none (inr has)) in (
          s,
          subst (λ (f : ℕ → List Record). CanGoBack f s) (set_twice t [] bs active) rest,
          same
              ∙ row_stays b r (λ same. none (inl same)),
        )

    -- of all
    all_back : (n : ℕ) (active : ℕ → List Record) (r : Rows) → CanGoBack active r
        → ((t : ℕ) → HasRecord system k (active t) → ⊥) → ((t : ℕ) → n ≤ t → active t ≡ [])
        → (s : Rows) × CanUnwindAll ss s × (row_at s k ≡ row_at r k)
    all_back zero active r can none empty = (r, (can []).1 (λ t. empty t (omega arith)), refl)
    all_back (suc n) active r can none empty =
        let (s, rest, same) = one_back (active n) n active r refl can (none n) in
        let (q, all, stays) = all_back n (set n [] active) s rest fewer below in
        (q, all, stays ∙ same)
      where
        fewer : (t : ℕ) → HasRecord system k (set n [] active t) → ⊥
        fewer t has = elim (cases_eq t n) [
          | inl same ↦ subst (HasRecord system k) (set_same n [] active t same) has
          | inr ne ↦ none t (subst (HasRecord system k) (set_other n [] active t ne) has)
        ]

        below : (t : ℕ) → n ≤ t → set n [] active t ≡ []
        below t le = elim (cases_eq t n) [
          | inl same ↦ set_same n [] active t same
          | inr ne ↦ set_other n [] active t ne ∙ empty t (more ne le)
        ]
          where
            more : t ≢ n → n ≤ t → suc n ≤ t
            more ne le = elim (cases_lt n t) [ inl h ↦ omega (arith, h) | inr h ↦ absurd (ne (omega (arith, h, le))) ]

  -- ---- the newest record of a key without a row is of a delete

  absent_deleted : (b : Record) (r : Rows) → Stands b r → (IsSome (row_at r (record_key b)) → ⊥) → record_key b ≡ k
      → (bs : List Record) → IsDeleted k (b ∷ bs)
  absent_deleted (DeletedNewOrder j v) r stands absent same bs = (j, sym same, inl (v, refl))
  absent_deleted (InsertedHistory j v) r stands absent same bs = absurd (absent stands)
  absent_deleted (InsertedNewOrder j v) r stands absent same bs = absurd (absent stands)
  absent_deleted (InsertedOrder j v) r stands absent same bs = absurd (absent stands)
  absent_deleted (InsertedOrderLine j v) r stands absent same bs = absurd (absent stands)
  absent_deleted (UpdatedWarehouse j v) r stands absent same bs = absurd (absent stands)
  absent_deleted (UpdatedDistrict j v) r stands absent same bs = absurd (absent stands)
  absent_deleted (UpdatedCustomer j v) r stands absent same bs = absurd (absent stands)
  absent_deleted (UpdatedOrder j v) r stands absent same bs = absurd (absent stands)
  absent_deleted (UpdatedOrderLine j v) r stands absent same bs = absurd (absent stands)
  absent_deleted (UpdatedStock j v) r stands absent same bs = absurd (absent stands)
  absent_deleted (ChangedWarehouse j v) r stands absent same bs = absurd (absent stands)
  absent_deleted (ChangedDistrict j v) r stands absent same bs = absurd (absent stands)
  absent_deleted (ChangedCustomer j v) r stands absent same bs = absurd (absent stands)
  absent_deleted (ChangedOrder j v) r stands absent same bs = absurd (absent stands)
  absent_deleted (ChangedOrderLine j v) r stands absent same bs = absurd (absent stands)
  absent_deleted (ChangedStock j v) r stands absent same bs = absurd (absent stands)

  deleted_in : (bs : List Record) (r : Rows) → CanUnwind bs r → (IsSome (row_at r k) → ⊥) → HasRecord system k bs
      → IsDeleted k bs
  deleted_in [] r can absent has = absurd has
  deleted_in (b ∷ bs) r can absent has = elim (is_or_not b) [
    | inl same ↦ absent_deleted b r can.0 (λ h. absent (subst (λ (j : Key). IsSome (row_at r j)) same h)) same bs
    | inr other ↦
        let d = deleted_in bs (put_back b r) can.2
        (λ h. absent (subst (λ (o : Option Row). IsSome o) (row_stays b r other) h)) (later other has) in
        (d.0, d.1, inr d.2)
  ]
    where
      later : record_key b ≢ k → HasRecord system k (b ∷ bs) → HasRecord system k bs
      later other (inl same) = absurd (other same)
      later other (inr h) = h

  deleted_in_all : (ss : List (List Record)) (r : Rows) → CanUnwindAll ss r → (IsSome (row_at r k) → ⊥)
      → HasRecordIn system k ss → IsDeletedIn k ss
  deleted_in_all [] r can absent has = absurd has
  deleted_in_all (bs ∷ ss) r can absent has = elim (has_or_not bs) [
    | inl here ↦ let d = deleted_in bs r can.0 absent here in (d.0, d.1, inl d.2)
    | inr none ↦
        let d = deleted_in_all ss (unwind system bs r) can.1
        (λ h. absent (subst (λ (o : Option Row). IsSome o) (unwound_stays bs r none) h)) (later none has) in
        (d.0, d.1, inr d.2)
  ]
    where
      later : (HasRecord system k bs → ⊥) → HasRecordIn system k (bs ∷ ss) → HasRecordIn system k ss
      later none (inl here) = absurd (none here)
      later none (inr h) = h

  -- the newest commits are undone, of which no record is of the key
  kept_back : (n : ℕ) (ss : List (List Record)) (r : Rows) → CanUnwindAll ss r → (HasRecordIn system k (take n ss) → ⊥)
      → (s : Rows) × CanUnwindAll (drop n ss) s × (row_at s k ≡ row_at r k)
  kept_back zero ss r can none = (r, can, refl)
  kept_back (suc n) [] r can none = (r, tt, refl)
  kept_back (suc n) (bs ∷ ss) r can none =
      let (s, rest, same) = kept_back n ss (unwind system bs r) can.1 (λ has. none (inr has)) in
      (s, rest, same ∙ unwound_stays bs r (λ has. none (inl has)))

  parts : (n : ℕ) (ss : List (List Record)) → HasRecordIn system k ss
      → HasRecordIn system k (take n ss) ⊎ HasRecordIn system k (drop n ss)
  parts zero ss has = inr has
  parts (suc n) [] has = absurd has
  parts (suc n) (bs ∷ ss) (inl has) = inl (inl has)
  parts (suc n) (bs ∷ ss) (inr has) = elim (parts n ss has) [ inl h ↦ inl (inr h) | inr h ↦ inr h ]

past_none : (u : SegmentLog) (t : ℕ) → length u.terminals ≤ t → (undo_of u).active t ≡ []
past_none u t past = ap (λ z. model_records (records_in z.active)) (get_or_past u.terminals t idle past)

pub purged_needed : (ts ts' : tables.Places) (u : SegmentLog) (ls : Holdings) (n : ℕ) → rows ts' ≡ rows ts
    → GivesUpDeleted ts ts' (drop n (undo_of u).history) (with_newest n u) → IsSafe (view_from ts u ls)
    → AreNeeded ts (undo_of u) → AreNeeded ts' (undo_of (with_newest n u))
unfolding view_from
purged_needed ts ts' u ls n same gives safe needed k p none =
    elim (there_or_not (rows ts) k) [
      | inl there ↦ here there
      | inr absent ↦ elim (has_in_or_not k gone) [
        | inl has ↦ here (had.1 (is_deleted absent has, left_unnamed (with_newest n u) k none))
        | inr not ↦ here (needed k had.0
            (kept_none.0, λ has. elim (parts k n (undo_of u).history has) [ inl h ↦ kept_none.1 h | inr h ↦ not h ]))
      ]
    ]
  where
    gone : List (List Record)
    gone = drop n (undo_of u).history

    had : HasPlace ts k × ((IsDeletedIn k gone × HasNoRecord (with_newest n u) k) → IsSome (row_at (rows ts) k))
    had = (gives k).0 p

    here : IsSome (row_at (rows ts) k) → IsSome (row_at (rows ts') k)
    here = subst (λ (r : Rows). IsSome (row_at r k)) (sym same)

    kept_none : IsUnnamed (record { active = (undo_of u).active; history = take n (undo_of u).history }) k
    kept_none = subst (λ (d : Undo system). IsUnnamed d k) (stands.cuts u n).undo none

    is_deleted : (IsSome (row_at (rows ts) k) → ⊥) → HasRecordIn system k gone → IsDeletedIn k gone
    is_deleted absent has =
        let (r, all, first) = all_back k (undo_of u).history (length u.terminals) (undo_of u).active (rows ts)
        safe.unwinds kept_none.0 (past_none u) in
        let (s, rest, then) = kept_back k n (undo_of u).history r all kept_none.1 in
        deleted_in_all k gone s rest (λ h. absent (subst (λ (o : Option Row). IsSome o) (then ∙ first) h)) has
