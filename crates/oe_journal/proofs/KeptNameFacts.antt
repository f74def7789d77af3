-- The lists of last names have exactly the customers that they have to have after a record is put back, and after a
-- write.
use Rattle.std.proofs.Common.{◌≡◌, ℕ, zero, suc, ◌-◌, Bool, true, false, cond, refl, sym, ap, ◌∙◌, subst, inl, inr}
use Rattle.std.proofs.Common.{List, [], ◌∷◌, drop, Option, Some, None, is_some}
use Rattle.std.proofs.Common.{length, take}
use Rattle.std.specs.Prelude.{◌↔◌, ◌⊎◌, nat_eq, IsTrue, IsSome, IfSome, option_map, option_and_then}
use Rattle.std.specs.Option.{IsSomeAnd}
use Rattle.std.specs.Cmp.Lexicographic.{pointwise, bytes_decides}
use Rattle.std.specs.FinMap.{FinMap, get}
use Rattle.std.proofs.lemmas.Bool.{cases_eq}
use Rattle.oe_theory.specs.Undo.{Undo, put_records}
use Rattle.oe_theory.specs.Next.{record_on}
use Rattle.oe_theory.specs.World.{set}
use Rattle.oe_theory.proofs.Sets.{set_same, set_other, some_inj}
use Rattle.oe_rows.specs.Key.{customer_cmp}
use Rattle.oe_rows.specs.Before.{text_before, customer_before}
use Rattle.oe_rows.specs.declared.keys.CustomerKey.{CustomerKey}
use Rattle.oe_rows.specs.declared.customers.Customer.{Customer}
use Rattle.oe_rows.specs.declared.layouts.Layout.{Layout}
use Rattle.oe_rows.specs.declared.layouts.Layout.TheVariants.{WholeRows, ChangedColumns}
use Rattle.oe_rows.specs.declared.rows.Row.TheVariants as row
use Rattle.oe_model.specs.Keys.{district_of_customer}
use Rattle.oe_model.specs.Meets.{Accepts}
use Rattle.oe_model.specs.Rows.{Rows, as_customer}
use Rattle.oe_model.specs.Changes.{Change, Record, rows_after, put_back, InsertHistory, InsertNewOrder, InsertOrder}
use Rattle.oe_model.specs.Changes.{InsertOrderLine, UpdateWarehouse, UpdateDistrict, UpdateCustomer, UpdateOrder}
use Rattle.oe_model.specs.Changes.{UpdateOrderLine, UpdateStock, DeleteNewOrder, UpdatedCustomer}
use Rattle.oe_model.specs.Changes.{ChangedCustomer, columns_before}
use Rattle.oe_model.specs.System.{system, terminal_limit}
use Rattle.oe_index.specs.Listed.{IsListed}
use Rattle.oe_index.specs.Numbers.{list_number, list_of_name}
use Rattle.oe_layout.specs.declared.records.OwnRecord.{OwnRecord}
use Rattle.oe_layout.specs.Records.{record_of_own}
use Rattle.oe_layout.specs.Stored.{last_before}
use Rattle.oe_store.specs.Places.{Places, Listing, rows}
use Rattle.oe_store.specs.Names.{IsNamed, SameNames}
use Rattle.oe_change.specs.Applies.{Applies, GivesName}
use Rattle.oe_change.specs.PutBack.{Stands, PutsNameBack}
use Rattle.oe_log.specs.Log.{SegmentLog, active_at, records_at, total_count, with_newest, without_newest}
use Rattle.oe_log.specs.Records.{Logged}
use Rattle.oe_log.specs.Stands.{model_records, undo_of, rename_in}
use Rattle.oe_log.proofs.LawFacts as stands
use Rattle.oe_log.proofs.StateFacts.{some_of}
use Rattle.oe_undo.specs.Held.{horizon}
use Rattle.oe_undo.specs.Laws.{IsWhole}
use Rattle.oe_journal.specs.Forgetting.{HasName, LosesName, LosesNameIn, HaveNamesChanged, ForgetsNames, name_lost}
use Rattle.oe_journal.specs.ExactNames.{Tells, TellsAmong, TellsIn, IsTold, IsToldAfter, HasExactNames}
use Rattle.oe_journal.specs.ExactNames.{HasExactNamesWith}
use Rattle.oe_change.specs.declared.writes.Write.{Write}
use Rattle.oe_change.specs.Writes.{change_of}
use Rattle.oe_undo.specs.Undo.{UndoState}
use Rattle.oe_journal.specs.ExactNames.{KeepsExactNames, RenamesIn, LoseByRenames}
use Rattle.oe_journal.specs.Recorded.{IsRecorded, HasRecorded}
use Rattle.oe_journal.proofs.MoreFacts.{there_is}
use Rattle.oe_journal.proofs.ForgetsFacts.{same_rows}
use Rattle.oe_journal.proofs.ToldFacts.{told_after, untold_after, all_after, told_or_not}
use Rattle.oe_journal.proofs.ExactNameFacts.{PutsName, puts_name, row_of, still_or_lost, was_or_new, new_named}
use Rattle.oe_journal.proofs.ExactNameFacts.{NamedAt, told_apart, told_together}
use Rattle.oe_journal.proofs.BackFacts.{newest_before}

-- ---- a record is put back

module _ (o : OwnRecord) (ts tm ts' : Places) (u : SegmentLog) (stands : Stands (record_of_own o) (rows ts))
    (put : rows tm ≡ put_back (record_of_own o) (rows ts)) (back : PutsNameBack (record_of_own o) ts tm)
    (others : HaveNamesChanged tm ts')
    (names : ForgetsNames tm ts' (λ n k. IsSomeAnd (name_lost (rows ts) (record_of_own o))
    (λ x. LosesName u (horizon u) x n k)))
    (whole : IsWhole u) (h : HasExactNamesWith ts (record_of_own o) (undo_of u)) where
  abbrev it : Record
  it = record_of_own o

  puts : PutsName (rows ts) it (put_back it (rows ts))
  puts = puts_name o (rows ts) stands

  now : rows ts' ≡ put_back it (rows ts)
  now = same_rows tm ts' others ∙ put

  named_mid : (n : ℕ) (k : CustomerKey) → IsNamed ts n k → IsNamed tm n k
  named_mid n k g = subst (λ ls. IsListed customer_cmp ls n k) (sym back.lists) g

  named_first : (n : ℕ) (k : CustomerKey) → IsNamed tm n k → IsNamed ts n k
  named_first n k g = subst (λ ls. IsListed customer_cmp ls n k) back.lists g

  -- the name that comes back was listed
  was_listed : (v : Option (CustomerKey × List ℕ)) → last_before it ≡ v
      → IfSome v (λ x. IsNamed ts (list_number (district_of_customer x.0) x.1) x.0)
  was_listed None is = tt
  was_listed (Some x) is =
      (h.exact (list_number (district_of_customer x.0) x.1) x.0).1
      (inr (inl (subst (λ (v : Option (CustomerKey × List ℕ)). IsSomeAnd v (λ y.
      (list_number (district_of_customer x.0) x.1 ≡ list_number (district_of_customer y.0) y.1) × (x.0 ≡ y.0))) (sym is)
      (refl, refl))))

  -- of a name that is lost a record tells, or the customer is off its list
  lost_one : (v : Option (CustomerKey × List ℕ)) (n : ℕ) (k : CustomerKey)
      → (IsSomeAnd v (λ x. LosesName u (horizon u) x n k) → HasName (rows tm) n k)
      → IsSomeAnd v (λ x. (n ≡ list_number (district_of_customer x.0) x.1) × (k ≡ x.0))
      → HasName (rows tm) n k ⊎ IsTold (undo_of u) n k
  lost_one None n k keeps lost = absurd lost
  lost_one (Some x) n k keeps lost =
      elim (told_or_not u (horizon u) x.0 x.1) [
        | inl untold ↦ inl (keeps (lost.0, lost.1, untold))
        | inr told ↦
            inr (subst (λ (y : ℕ × CustomerKey). IsTold (undo_of u) y.0 y.1) (λ i. (sym lost.0 i, sym lost.1 i))
            ((all_after u (list_number (district_of_customer x.0) x.1) x.0 whole).0
            (told_after u (horizon u) x.0 x.1 told)))
      ]

  -- and where one tells of it, it is not lost
  not_lost : (v : Option (CustomerKey × List ℕ)) (n : ℕ) (k : CustomerKey) → IsTold (undo_of u) n k
      → IsSomeAnd v (λ x. LosesName u (horizon u) x n k) → ⊥
  not_lost None n k told lost = lost
  not_lost (Some x) n k told lost =
      untold_after u (horizon u) x.0 x.1 whole.terminals lost.2
      ((all_after u (list_number (district_of_customer x.0) x.1) x.0 whole).1
      (subst (λ (y : ℕ × CustomerKey). IsTold (undo_of u) y.0 y.1) (λ i. (lost.0 i, lost.1 i)) told))

  to_exact : (n : ℕ) (k : CustomerKey) → IsNamed ts' n k → HasName (rows ts') n k ⊎ IsTold (undo_of u) n k
  to_exact n k g =
      let was = (names.lists n k).0 g in
      elim ((h.exact n k).0 (named_first n k was.0)) [
        | inl own ↦
            elim (puts.lost n k own) [
              | inl still ↦ inl (subst (λ (r : Rows). HasName r n k) (sym now) still)
              | inr lost ↦
                  elim (lost_one (name_lost (rows ts) it) n k was.1 lost) [
                    | inl still ↦ inl (subst (λ (r : Rows). HasName r n k) (sym (same_rows tm ts' others)) still)
                    | inr told ↦ inr told
                  ]
            ]
        | inr told ↦
            elim told [
              | inl this ↦ inl (subst (λ (r : Rows). HasName r n k) (sym now) (puts.told n k this))
              | inr other ↦ inr other
            ]
      ]

  from_exact : (n : ℕ) (k : CustomerKey) → HasName (rows ts') n k ⊎ IsTold (undo_of u) n k → IsNamed ts' n k
  from_exact n k (inl own) =
      let mine : HasName (rows tm) n k = subst (λ (r : Rows). HasName r n k) (same_rows tm ts' others) own in
      (names.lists n k).1 (
        named_mid n k
            (elim (puts.only n k (subst (λ (r : Rows). HasName r n k) now own)) [
              | inl was ↦ (h.exact n k).1 (inl was)
              | inr this ↦ (h.exact n k).1 (inr (inl this))
            ]),
        λ p. mine,
      )
  from_exact n k (inr told) =
      (names.lists n k).1 (
        named_mid n k ((h.exact n k).1 (inr (inr told))),
        λ p. absurd (not_lost (name_lost (rows ts) it) n k told p),
      )

  pub put_back_exact : HasExactNames ts' (undo_of u)
  put_back_exact = record {
    stand = names.stand ∙ back.stand.1 (h.stand, was_listed (last_before it) refl);
    exact = λ n k. (to_exact n k, from_exact n k);
  }

-- ---- a record is taken off

pub taken_off : (ts : Places) (v w : SegmentLog) (t : ℕ) (b : Record) → w ≡ without_newest v t
    → is_some (active_at v t) ≡ true → newest_before (records_at v t) ≡ Some b → HasExactNames ts (undo_of v)
    → HasExactNamesWith ts b (undo_of w)
taken_off ts v w t b pop open_is newest h = go (records_at v t) refl newest
  where
    go : (rs : List Logged) → records_at v t ≡ rs → newest_before rs ≡ Some b → HasExactNamesWith ts b (undo_of w)
    go [] is e = cc
    go (r ∷ rs) is e =
        let o = some_of (active_at v t) open_is in
        let active : (undo_of v).active t ≡ b ∷ model_records rs =
        ap model_records is ∙ ap (λ z. z ∷ model_records rs) (some_inj _ _ e) in
        let after : put_records system t (model_records rs) (undo_of v) ≡ undo_of w =
        ap (λ (z : List Record). put_records system t (drop 1 z) (undo_of v)) (sym active)
        ∙ sym (stands.pops v t o.0 o.1).undo ∙ ap undo_of (sym pop) in
        record {
          stand = h.stand;
          exact = λ n k. (
            (λ g. elim ((h.exact n k).0 g) [
              | inl own ↦ inl own
              | inr told ↦
                  inr (elim (told_apart n k t b (model_records rs) (undo_of v) active told) [
                    | inl this ↦ inl this
                    | inr others ↦ inr (subst (λ (d : Undo system). IsTold d n k) after others)
                  ])
            ]),
            (λ g. (h.exact n k).1 (elim g [
              | inl own ↦ inl own
              | inr told ↦
                  inr (told_together n k t b (model_records rs) (undo_of v) active
                  (elim told [
                    | inl this ↦ inl this
                    | inr others ↦ inr (subst (λ (d : Undo system). IsTold d n k) (sym after) others)
                  ]))
            ])),
          );
        }

-- ---- the newest commit is opened again

module _ (n : ℕ) (k : CustomerKey) (d : Undo system) (t : ℕ) (bs : List Record) (ss : List (List Record))
    (quiet : d.active t ≡ []) (is : d.history ≡ bs ∷ ss) where
  abbrev reopened : Undo system
  reopened = record { active = set t bs d.active; history = ss }

  to_reopened : IsTold d n k → IsTold reopened n k
  to_reopened (inl h) = elim (cases_eq h.0 t) [
    | inl same ↦ absurd (subst (TellsAmong n k) (ap d.active same ∙ quiet) h.1)
    | inr ne ↦ inl (h.0, subst (TellsAmong n k) (sym (set_other t bs d.active h.0 ne)) h.1)
  ]
  to_reopened (inr h) = elim (subst (TellsIn n k) is h) [
    | inl first ↦ inl (t, subst (TellsAmong n k) (sym (set_same t bs d.active t refl)) first)
    | inr older ↦ inr older
  ]

  from_reopened : IsTold reopened n k → IsTold d n k
  from_reopened (inl h) = elim (cases_eq h.0 t) [
    | inl same ↦ inr (subst (TellsIn n k) (sym is)
        (inl (subst (TellsAmong n k) (set_same t bs d.active h.0 same) h.1)))
    | inr ne ↦ inl (h.0, subst (TellsAmong n k) (set_other t bs d.active h.0 ne) h.1)
  ]
  from_reopened (inr h) = inr (subst (TellsIn n k) (sym is) (inr h))

-- what is told alike
pub exact_alike : (ts : Places) (d e : Undo system) → ((n : ℕ) (k : CustomerKey) → IsTold d n k ↔ IsTold e n k)
    → HasExactNames ts d → HasExactNames ts e
exact_alike ts d e same h = record {
  stand = h.stand;
  exact = λ n k. (
    (λ g. elim ((h.exact n k).0 g) [ inl own ↦ inl own | inr told ↦ inr ((same n k).0 told) ]),
    (λ g. (h.exact n k).1 (elim g [ inl own ↦ inl own | inr told ↦ inr ((same n k).1 told) ])),
  );
}

pub reopened_exact : (ts : Places) (d : Undo system) (t : ℕ) (bs : List Record) (ss : List (List Record))
    → d.active t ≡ [] → d.history ≡ bs ∷ ss → HasExactNames ts d
    → HasExactNames ts (record { active = set t bs d.active; history = ss })
reopened_exact ts d t bs ss quiet is h =
    exact_alike ts d (record { active = set t bs d.active; history = ss })
    (λ n k. (to_reopened n k d t bs ss quiet is, from_reopened n k d t bs ss quiet is)) h

-- ---- a change is recorded and made

-- what a change that is no customer's leaves
record IsApart (c : Change) : Type 0 where
  same : (r : Rows) → (rows_after c r).customers ≡ r.customers
  untold : (l : Layout) (r : Rows) (n : ℕ) (k : CustomerKey) → Tells n k (record_on system l c r) → ⊥
  names : (old new : Places) → GivesName c old new → SameNames old new

apart : (c : Change) → IsApart c ⊎ ((k : CustomerKey) × (x : Customer) × (c ≡ UpdateCustomer k x))
apart (InsertHistory j y) = inl (record {
  same = λ r. refl;
  untold = λ l r n k h. elim l as (λ l. Tells n k (record_on system l (InsertHistory j y) r) → ⊥)
      [ WholeRows ↦ λ h. h | ChangedColumns ↦ λ h. h ] h;
  names = λ old new h. h;
})
apart (InsertNewOrder j y) = inl (record {
  same = λ r. refl;
  untold = λ l r n k h. elim l as (λ l. Tells n k (record_on system l (InsertNewOrder j y) r) → ⊥)
      [ WholeRows ↦ λ h. h | ChangedColumns ↦ λ h. h ] h;
  names = λ old new h. h;
})
apart (InsertOrder j y) = inl (record {
  same = λ r. refl;
  untold = λ l r n k h. elim l as (λ l. Tells n k (record_on system l (InsertOrder j y) r) → ⊥)
      [ WholeRows ↦ λ h. h | ChangedColumns ↦ λ h. h ] h;
  names = λ old new h. h;
})
apart (InsertOrderLine j y) = inl (record {
  same = λ r. refl;
  untold = λ l r n k h. elim l as (λ l. Tells n k (record_on system l (InsertOrderLine j y) r) → ⊥)
      [ WholeRows ↦ λ h. h | ChangedColumns ↦ λ h. h ] h;
  names = λ old new h. h;
})
apart (UpdateWarehouse j y) = inl (record {
  same = λ r. refl;
  untold = λ l r n k h. elim l as (λ l. Tells n k (record_on system l (UpdateWarehouse j y) r) → ⊥)
      [ WholeRows ↦ λ h. h | ChangedColumns ↦ λ h. h ] h;
  names = λ old new h. h;
})
apart (UpdateDistrict j y) = inl (record {
  same = λ r. refl;
  untold = λ l r n k h. elim l as (λ l. Tells n k (record_on system l (UpdateDistrict j y) r) → ⊥)
      [ WholeRows ↦ λ h. h | ChangedColumns ↦ λ h. h ] h;
  names = λ old new h. h;
})
apart (UpdateCustomer j y) = inr (j, y, refl)
apart (UpdateOrder j y) = inl (record {
  same = λ r. refl;
  untold = λ l r n k h. elim l as (λ l. Tells n k (record_on system l (UpdateOrder j y) r) → ⊥)
      [ WholeRows ↦ λ h. h | ChangedColumns ↦ λ h. h ] h;
  names = λ old new h. h;
})
apart (UpdateOrderLine j y) = inl (record {
  same = λ r. refl;
  untold = λ l r n k h. elim l as (λ l. Tells n k (record_on system l (UpdateOrderLine j y) r) → ⊥)
      [ WholeRows ↦ λ h. h | ChangedColumns ↦ λ h. h ] h;
  names = λ old new h. h;
})
apart (UpdateStock j y) = inl (record {
  same = λ r. refl;
  untold = λ l r n k h. elim l as (λ l. Tells n k (record_on system l (UpdateStock j y) r) → ⊥)
      [ WholeRows ↦ λ h. h | ChangedColumns ↦ λ h. h ] h;
  names = λ old new h. h;
})
apart (DeleteNewOrder j) = inl (record {
  same = λ r. refl;
  untold = λ l r n k h. elim l as (λ l. Tells n k (record_on system l (DeleteNewOrder j) r) → ⊥)
      [ WholeRows ↦ λ h. h | ChangedColumns ↦ λ h. h ] h;
  names = λ old new h. h;
})

-- a record more
more_told : (n : ℕ) (k : CustomerKey) (t : ℕ) (b : Record) (d : Undo system)
    → IsTold (put_records system t (b ∷ d.active t) d) n k ↔ (Tells n k b ⊎ IsTold d n k)
more_told n k t b d = (to, from)
  where
    to : IsTold (put_records system t (b ∷ d.active t) d) n k → Tells n k b ⊎ IsTold d n k
    to (inr h) = inr (inr h)
    to (inl h) = elim (cases_eq h.0 t) [
      | inl same ↦
          elim (subst (TellsAmong n k) (set_same t (b ∷ d.active t) d.active h.0 same) h.1) [
            | inl this ↦ inl this
            | inr others ↦ inr (inl (t, others))
          ]
      | inr ne ↦ inr (inl (h.0, subst (TellsAmong n k) (set_other t (b ∷ d.active t) d.active h.0 ne) h.1))
    ]

    from : Tells n k b ⊎ IsTold d n k → IsTold (put_records system t (b ∷ d.active t) d) n k
    from (inl this) = inl (t, subst (TellsAmong n k) (sym (set_same t (b ∷ d.active t) d.active t refl)) (inl this))
    from (inr (inr h)) = inr h
    from (inr (inl h)) = elim (cases_eq h.0 t) [
      | inl same ↦ inl (
        t,
        subst (TellsAmong n k) (sym (set_same t (b ∷ d.active t) d.active t refl))
            (inr (subst (λ x. TellsAmong n k (d.active x)) same h.1)),
      )
      | inr ne ↦ inl (h.0, subst (TellsAmong n k) (sym (set_other t (b ∷ d.active t) d.active h.0 ne)) h.1)
    ]

-- the record of a customer's update tells the C_LAST before, or C_LAST stays
tells_last : (l : Layout) (k : CustomerKey) (x : Customer) (r : Rows) (c : Customer) → get r.customers k ≡ Some c
    → (last_before (record_on system l (UpdateCustomer k x) r) ≡ Some (k, c.name.last))
    ⊎ ((last_before (record_on system l (UpdateCustomer k x) r) ≡ None) × (c.name.last ≡ x.name.last))
tells_last WholeRows k x r c at =
    inl (ap (λ (o : Option Customer). last_before (UpdatedCustomer k (option_and_then as_customer
    (option_map row.Customer o)))) at)
tells_last ChangedColumns k x r c at = go (pointwise nat_eq c.name.last x.name.last) refl
  where
    first : last_before (record_on system ChangedColumns (UpdateCustomer k x) r)
        ≡ option_map (λ last. (k, last)) (text_before c.name.last x.name.last)
    first = ap (λ (o : Option Customer). last_before (ChangedCustomer k (columns_before customer_before as_customer
        (option_map row.Customer o) x))) at

    go : (b : Bool) → pointwise nat_eq c.name.last x.name.last ≡ b
        → (last_before (record_on system ChangedColumns (UpdateCustomer k x) r) ≡ Some (k, c.name.last))
        ⊎ ((last_before (record_on system ChangedColumns (UpdateCustomer k x) r) ≡ None)
        × (c.name.last ≡ x.name.last))
    go true e = inr (
      first ∙ ap (λ (b : Bool). option_map {U = CustomerKey × List ℕ} (λ last. (k, last))
          (cond b None (Some c.name.last))) e,
      (bytes_decides c.name.last x.name.last).0 e,
    )
    go false e = inl (first ∙ ap (λ (b : Bool). option_map {U = CustomerKey × List ℕ} (λ last. (k, last))
        (cond b None (Some c.name.last))) e)

-- what the record tells and what the row has make up for each other
pub record MakesUp (r r' : Rows) (b : Record) (k : CustomerKey) (x : Customer) : Type 0 where
  pub old : (n : ℕ) (j : CustomerKey) → Tells n j b → HasName r n j
  pub kept : (n : ℕ) (j : CustomerKey) → HasName r n j → HasName r' n j ⊎ Tells n j b
  pub new : (n : ℕ) (j : CustomerKey) → HasName r' n j → HasName r n j ⊎ ((j ≡ k) × (n ≡ list_of_name k x))

makes_up : (b : Record) (k : CustomerKey) (x : Customer) (r : Rows) (c : Customer) → get r.customers k ≡ Some c
    → (last_before b ≡ Some (k, c.name.last)) ⊎ ((last_before b ≡ None) × (c.name.last ≡ x.name.last))
    → MakesUp r (rows_after (UpdateCustomer k x) r) b k x
makes_up b k x r c at tells = record {
  old = old tells;
  kept = kept tells;
  new = λ n j h. was_or_new r.customers k x n j h;
}
  where
    old : (last_before b ≡ Some (k, c.name.last)) ⊎ ((last_before b ≡ None) × (c.name.last ≡ x.name.last))
        → (n : ℕ) (j : CustomerKey) → Tells n j b → HasName r n j
    old (inl is) n j h =
        let t = subst (λ (o : Option (CustomerKey × List ℕ)).
        IsSomeAnd o (λ y. (n ≡ list_number (district_of_customer y.0) y.1) × (j ≡ y.0))) is h in
        subst (λ i. HasName r n i) (sym t.1) (row_of (get r.customers k) n k c at t.0)
    old (inr is) n j h = absurd (subst (λ (o : Option (CustomerKey × List ℕ)).
        IsSomeAnd o (λ y. (n ≡ list_number (district_of_customer y.0) y.1) × (j ≡ y.0))) is.0 h)

    kept : (last_before b ≡ Some (k, c.name.last)) ⊎ ((last_before b ≡ None) × (c.name.last ≡ x.name.last))
        → (n : ℕ) (j : CustomerKey) → HasName r n j
        → HasName (rows_after (UpdateCustomer k x) r) n j ⊎ Tells n j b
    kept tells n j h = elim (still_or_lost r.customers k x c at n j h) [
      | inl still ↦ inl still
      | inr gone ↦
          elim tells [
            | inl is ↦ inr (subst (λ (o : Option (CustomerKey × List ℕ)).
                IsSomeAnd o (λ y. (n ≡ list_number (district_of_customer y.0) y.1) × (j ≡ y.0))) (sym is)
                (gone.1, gone.0))
            | inr is ↦ inl (new_named r.customers k x n j gone.0
                (gone.1 ∙ ap (list_number (district_of_customer k)) is.1))
          ]
    ]

module _ (old new : Places) (b : Record) (k : CustomerKey) (x : Customer) (t : ℕ) (d : Undo system)
    (up : MakesUp (rows old) (rows new) b k x) (own : HasName (rows new) (list_of_name k x) k) where
  -- each that was listed is, and but one no other
  abbrev ListsOne : Type 0
  ListsOne =
      ((n : ℕ) (j : CustomerKey) → IsNamed old n j → IsNamed new n j)
      × ((n : ℕ) (j : CustomerKey) → IsNamed new n j → IsNamed old n j ⊎ ((n ≡ list_of_name k x) × (j ≡ k)))
      × (((j : CustomerKey) (n : ℕ) → (j ≡ k) × (n ≡ list_of_name k x) → IsNamed new n j)
      ⊎ HasName (rows old) (list_of_name k x) k)

  written : ListsOne → IsTrue new.names.is_listed → HasExactNames old d
      → HasExactNames new (put_records system t (b ∷ d.active t) d)
  written lists stand h = record {
    stand = stand;
    exact = λ n j. (
      (λ g. elim (lists.1 n j g) [
        | inl was ↦
            elim ((h.exact n j).0 was) [
              | inl mine ↦
                  elim (up.kept n j mine) [
                    | inl still ↦ inl still
                    | inr this ↦ inr ((more_told n j t b d).1 (inl this))
                  ]
              | inr told ↦ inr ((more_told n j t b d).1 (inr told))
            ]
        | inr one ↦ inl (subst (λ (y : ℕ × CustomerKey). HasName (rows new) y.0 y.1)
            (λ i. (sym one.0 i, sym one.1 i)) own)
      ]),
      (λ g. elim g [
        | inl mine ↦
            elim (up.new n j mine) [
              | inl was ↦ lists.0 n j ((h.exact n j).1 (inl was))
              | inr one ↦
                  elim lists.2 [
                    | inl listed ↦ listed j n one
                    | inr was ↦ lists.0 n j ((h.exact n j).1 (inl
                        (subst (λ (y : ℕ × CustomerKey). HasName (rows old) y.0 y.1)
                        (λ i. (sym one.1 i, sym one.0 i)) was)))
                  ]
            ]
        | inr told ↦
            elim ((more_told n j t b d).0 told) [
              | inl this ↦ lists.0 n j ((h.exact n j).1 (inl (up.old n j this)))
              | inr others ↦ lists.0 n j ((h.exact n j).1 (inr others))
            ]
      ]),
    );
  }

same_named : (old new : Places) (n : ℕ) (k : CustomerKey) → SameNames old new → IsNamed old n k → IsNamed new n k
same_named old new n k same h = subst (λ (l : Listing CustomerKey). IsListed customer_cmp l.lists n k) (sym same) h

pub applied_exact : (c : Change) (l : Layout) (old new : Places) (b : Record) (t : ℕ) (d : Undo system)
    → Applies l c old new (record_on system l c (rows old)) → b ≡ record_on system l c (rows old)
    → HasExactNames old d
    → HasExactNames new (put_records system t (b ∷ d.active t) d)
applied_exact c l old new b t d applies is h = elim (apart c) [ inl q ↦ plain q | inr q ↦ customer q.0 q.1 q.2 ]
  where
    plain : IsApart c → HasExactNames new (put_records system t (b ∷ d.active t) d)
    plain q =
        let same : SameNames old new = q.names old new applies.names in
        let still : (rows new).customers ≡ (rows old).customers =
        ap (λ (r : Rows). r.customers) applies.changes ∙ q.same (rows old) in
        record {
          stand = ap (λ (l : Listing CustomerKey). l.is_listed) same ∙ h.stand;
          exact = λ n k. (
            (λ g. elim ((h.exact n k).0 (same_named new old n k (sym same) g)) [
              | inl own ↦ inl (subst (λ (m : FinMap customer_cmp Customer). NamedAt m n k) (sym still) own)
              | inr told ↦ inr ((more_told n k t b d).1 (inr told))
            ]),
            (λ g. same_named old new n k same ((h.exact n k).1 (elim g [
              | inl own ↦ inl (subst (λ (m : FinMap customer_cmp Customer). NamedAt m n k) still own)
              | inr told ↦
                  elim ((more_told n k t b d).0 told) [
                    | inl this ↦ absurd (q.untold l (rows old) n k (subst (Tells n k) is this))
                    | inr others ↦ inr others
                  ]
            ]))),
          );
        }

    customer : (k : CustomerKey) (x : Customer) → c ≡ UpdateCustomer k x
        → HasExactNames new (put_records system t (b ∷ d.active t) d)
    customer k x kind = go (get (rows old).customers k) refl
        (subst (λ (e : Change). Accepts e (rows old)) kind applies.accepted)
      where
        changes : rows new ≡ rows_after (UpdateCustomer k x) (rows old)
        changes = applies.changes ∙ ap (λ e. rows_after e (rows old)) kind

        names : GivesName (UpdateCustomer k x) old new
        names = subst (λ (e : Change). GivesName e old new) kind applies.names

        mine : HasName (rows new) (list_of_name k x) k
        mine = subst (λ (r : Rows). HasName r (list_of_name k x) k) (sym changes)
            (new_named (rows old).customers k x (list_of_name k x) k refl refl)

        go : (o : Option Customer) → get (rows old).customers k ≡ o → IsSome o
            → HasExactNames new (put_records system t (b ∷ d.active t) d)
        go None at some = cc
        go (Some y) at some = by names
          where
            up : MakesUp (rows old) (rows new) b k x
            up = subst (λ (r : Rows). MakesUp (rows old) r b k x) (sym changes)
                (subst (λ (e : Record). MakesUp (rows old) (rows_after (UpdateCustomer k x) (rows old)) e k x)
                (sym (is ∙ ap (λ e. record_on system l e (rows old)) kind))
                (makes_up (record_on system l (UpdateCustomer k x) (rows old)) k x (rows old) y at
                (tells_last l k x (rows old) y at)))

            by : GivesName (UpdateCustomer k x) old new → HasExactNames new (put_records system t (b ∷ d.active t) d)
            by (inl same) =
                let last : y.name.last ≡ x.name.last =
                subst (λ (o : Option Customer). IfSome o (λ z. z.name.last ≡ x.name.last)) at same.1 in
                written old new b k x t d up mine (
                  (λ n j g. same_named old new n j same.0 g),
                  (λ n j g. inl (same_named new old n j (sym same.0) g)),
                  inr (row_of (get (rows old).customers k) (list_of_name k x) k y at
                      (ap (list_number (district_of_customer k)) (sym last))),
                ) (ap (λ (l : Listing CustomerKey). l.is_listed) same.0 ∙ h.stand) h
            by (inr more) =
                let stand : IsTrue new.names.is_listed = more.stand ∙ h.stand in
                written old new b k x t d up mine (
                  (λ n j g. more.lists.kept n j g),
                  (λ n j g. more.lists.only n j g),
                  inl (λ j n one. subst (λ (z : ℕ × CustomerKey). IsNamed new z.0 z.1)
                      (λ i. (sym one.1 i, sym one.0 i)) (more.listed stand)),
                ) stand h

-- of a write
pub recorded_exact : (w : Write) (old new : Places) (u u' : UndoState) (t : ℕ) → HasRecorded w old new u u' t
    → KeepsExactNames old new u.log u'.log
recorded_exact w old new u u' t h exact =
    let c = there_is (λ c. IsRecorded c old new u u' t) (change_of w (rows old)) h in
    subst (HasExactNames new) (sym c.2.stands.undo)
    (applied_exact c.0 u.log.layout old new (record_on system u.log.layout c.0 (rows old)) t (undo_of u.log) c.2.applies
    refl exact)

-- where nothing has changed
pub still_exact : (ts ts' : Places) (u u' : SegmentLog) → ts' ≡ ts → u' ≡ u → KeepsExactNames ts ts' u u'
still_exact ts ts' u u' same log h =
    subst (λ (s : Places). HasExactNames s (undo_of u')) (sym same)
    (subst (λ (z : SegmentLog). HasExactNames ts (undo_of z)) (sym log) h)

-- ---- the oldest commits go

either_end : (n : ℕ) (k : CustomerKey) (c : ℕ) (ss : List (List Record)) → TellsIn n k ss
    → TellsIn n k (take c ss) ⊎ TellsIn n k (drop c ss)
either_end n k zero ss h = inr h
either_end n k (suc c) [] h = absurd h
either_end n k (suc c) (bs ∷ ss) (inl h) = inl (inl h)
either_end n k (suc c) (bs ∷ ss) (inr h) =
    elim (either_end n k c ss h) [ inl first ↦ inl (inr first) | inr last ↦ inr last ]

newest_end : (n : ℕ) (k : CustomerKey) (c : ℕ) (ss : List (List Record)) → TellsIn n k (take c ss) → TellsIn n k ss
newest_end n k zero ss h = absurd h
newest_end n k (suc c) [] h = absurd h
newest_end n k (suc c) (bs ∷ ss) (inl h) = inl h
newest_end n k (suc c) (bs ∷ ss) (inr h) = inr (newest_end n k c ss h)

module _ (u : SegmentLog) (m : ℕ) (n : ℕ) (k : CustomerKey) where
  -- a rename's name before is lost, or told later
  lost_or_told : (v : Option (CustomerKey × List ℕ))
      → IsSomeAnd v (λ x. (n ≡ list_number (district_of_customer x.0) x.1) × (k ≡ x.0))
      → IsSomeAnd v (λ x. LosesName u m x n k) ⊎ IsToldAfter u m n k
  lost_or_told None h = absurd h
  lost_or_told (Some x) h =
      elim (told_or_not u m x.0 x.1) [
        | inl untold ↦ inl (h.0, h.1, untold)
        | inr told ↦
            inr (subst (λ (y : ℕ × CustomerKey). IsToldAfter u m y.0 y.1) (λ i. (sym h.0 i, sym h.1 i))
            (told_after u m x.0 x.1 told))
      ]

  lost_in_or_told : (ss : List (List Record)) → RenamesIn n k ss → LosesNameIn u m ss n k ⊎ IsToldAfter u m n k
  lost_in_or_told [] h = absurd h
  lost_in_or_told (bs ∷ ss) (inl h) =
      elim (lost_or_told (rename_in bs) h) [ inl lost ↦ inl (inl lost) | inr told ↦ inr told ]
  lost_in_or_told (bs ∷ ss) (inr h) =
      elim (lost_in_or_told ss h) [ inl lost ↦ inl (inr lost) | inr told ↦ inr told ]

  not_told : length u.terminals ≡ terminal_limit → (v : Option (CustomerKey × List ℕ)) → IsToldAfter u m n k
      → IsSomeAnd v (λ x. LosesName u m x n k) → ⊥
  not_told size None told lost = lost
  not_told size (Some x) told lost =
      untold_after u m x.0 x.1 size lost.2
      (subst (λ (y : ℕ × CustomerKey). IsToldAfter u m y.0 y.1) (λ i. (lost.0 i, lost.1 i)) told)

  not_told_in : length u.terminals ≡ terminal_limit → (ss : List (List Record)) → IsToldAfter u m n k
      → LosesNameIn u m ss n k → ⊥
  not_told_in size [] told lost = lost
  not_told_in size (bs ∷ ss) told (inl lost) = not_told size (rename_in bs) told lost
  not_told_in size (bs ∷ ss) told (inr lost) = not_told_in size ss told lost

-- the newest c commits' records, and those of open work
abbrev newest_of_undo : SegmentLog → ℕ → Undo system
newest_of_undo u c = record { active = (undo_of u).active; history = take c (undo_of u).history }

pub purged_exact : (ts ts' : Places) (u u' : SegmentLog) (m c : ℕ) (may : Bool) → c ≡ total_count u - m
    → u' ≡ with_newest c u → rows ts' ≡ rows ts → length u.terminals ≡ terminal_limit
    → ForgetsNames ts ts' (λ n k. IsTrue may × LosesNameIn u m (drop c (undo_of u).history) n k)
    → LoseByRenames u m (rows ts) may (drop c (undo_of u).history) → KeepsExactNames ts ts' u u'
purged_exact ts ts' u u' m c may count cut same size names by h =
    subst (HasExactNames ts') (sym (ap undo_of cut ∙ (stands.cuts u c).undo)) (record {
      stand = names.stand ∙ h.stand;
      exact = λ n k. (to n k, from n k);
    })
  where
    later : (n : ℕ) (k : CustomerKey) → IsToldAfter u m n k → IsTold (newest_of_undo u c) n k
    later n k told = subst (λ x. IsTold (newest_of_undo u x) n k) (sym count) told

    is_later : (n : ℕ) (k : CustomerKey) → IsTold (newest_of_undo u c) n k → IsToldAfter u m n k
    is_later n k told = subst (λ x. IsTold (newest_of_undo u x) n k) count told

    to : (n : ℕ) (k : CustomerKey) → IsNamed ts' n k → HasName (rows ts') n k ⊎ IsTold (newest_of_undo u c) n k
    to n k g =
        let was = (names.lists n k).0 g in
        elim ((h.exact n k).0 was.0) [
          | inl own ↦ inl (subst (λ (r : Rows). HasName r n k) (sym same) own)
          | inr told ↦
              elim told [
                | inl active ↦ inr (inl active)
                | inr commits ↦
                    elim (either_end n k c (undo_of u).history commits) [
                      | inl newer ↦ inr (inr newer)
                      | inr older ↦
                          elim (by n k older) [
                            | inl own ↦ inl (subst (λ (r : Rows). HasName r n k) (sym same) own)
                            | inr other ↦
                                elim other [
                                  | inl after ↦ inr (later n k after)
                                  | inr rename ↦
                                      elim (lost_in_or_told u m n k (drop c (undo_of u).history) rename.1) [
                                        | inl lost ↦ inl (subst (λ (r : Rows). HasName r n k) (sym same)
                                            (was.1 (rename.0, lost)))
                                        | inr after ↦ inr (later n k after)
                                      ]
                                ]
                          ]
                    ]
              ]
        ]

    from : (n : ℕ) (k : CustomerKey) → HasName (rows ts') n k ⊎ IsTold (newest_of_undo u c) n k → IsNamed ts' n k
    from n k (inl own) =
        let mine : HasName (rows ts) n k = subst (λ (r : Rows). HasName r n k) same own in
        (names.lists n k).1 ((h.exact n k).1 (inl mine), λ p. mine)
    from n k (inr told) =
        (names.lists n k).1 (
          (h.exact n k).1 (inr (elim told [
            | inl active ↦ inl active
            | inr commits ↦ inr (newest_end n k c (undo_of u).history commits)
          ])),
          λ p. absurd (not_told_in u m n k size (drop c (undo_of u).history) (is_later n k told) p.1),
        )
