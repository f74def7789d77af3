-- The lists of last names have exactly the customers that they have to have, through writes and their undo.
use Rattle.std.proofs.Common.{◌≡◌, ℕ, Bool, true, false, cond, refl, sym, ap, ◌∙◌, subst, inl, inr, List, [], ◌∷◌}
use Rattle.std.proofs.Common.{Option, Some, None, rules}
use Rattle.std.specs.Prelude.{◌⊎◌, ◌==◌, nat_eq, IsSome, option_map, option_and_then}
use Rattle.std.specs.Option.{IsSomeAnd, unwrap_or}
use Rattle.std.specs.Ordering.{eq_by_cmp}
use Rattle.std.specs.Cmp.Lexicographic.{pointwise, bytes_decides}
use Rattle.std.specs.FinMap.{FinMap, get, insert, get-insert}
use Rattle.std.proofs.lemmas.Bool.{cases_eq}
use Rattle.oe_theory.specs.Undo.{Undo, put_records}
use Rattle.oe_theory.proofs.Sets.{set_same, set_other}
use Rattle.oe_rows.specs.Key.{customer_cmp}
use Rattle.oe_rows.specs.Before.{with_customer}
use Rattle.oe_rows.specs.declared.keys.CustomerKey.{CustomerKey}
use Rattle.oe_rows.specs.declared.customers.Customer.{Customer}
use Rattle.oe_rows.specs.declared.rows.Row.TheVariants as row
use Rattle.oe_rows.proofs.KeyFacts.{customer_total, exact_customer}
use Rattle.oe_model.specs.Keys.{district_of_customer}
use Rattle.oe_model.specs.Rows.{Rows, with_row}
use Rattle.oe_model.specs.Changes.{Record, put_back, with_columns}
use Rattle.oe_model.specs.System.{system}
use Rattle.oe_model.proofs.MapFacts.{is_same, is_self}
use Rattle.oe_index.specs.Numbers.{list_number, list_of_name, is_list_of}
use Rattle.oe_layout.specs.declared.records.OwnRecord.{OwnRecord}
use Rattle.oe_layout.specs.declared.records.OwnRecord.TheVariants as own
use Rattle.oe_layout.specs.Records.{record_of_own}
use Rattle.oe_layout.specs.Stored.{last_before}
use Rattle.oe_change.specs.PutBack.{Stands}
use Rattle.oe_journal.specs.Forgetting.{HasName, name_lost, other_last}
use Rattle.oe_journal.specs.ExactNames.{Tells, TellsAmong, IsTold}

same_number : (a b : ℕ) → a ≡ b → (a == b) ≡ true
same_number a b e = search rules

number_same : (a b : ℕ) → (a == b) ≡ true → a ≡ b
number_same a b t = search rules

-- a customer's name in a list
abbrev pub NamedAt : FinMap customer_cmp Customer → ℕ → CustomerKey → Type 0
NamedAt m n k = is_list_of n k (get m k) ≡ true

-- it is that of a row that is there
pub of_row : (o : Option Customer) (n : ℕ) (k : CustomerKey) (c : Customer) → o ≡ Some c → is_list_of n k o ≡ true
    → n ≡ list_of_name k c
of_row o n k c at h = sym (number_same (list_of_name k c) n (sym (ap (is_list_of n k) at) ∙ h))

pub row_of : (o : Option Customer) (n : ℕ) (k : CustomerKey) (c : Customer) → o ≡ Some c → n ≡ list_of_name k c
    → is_list_of n k o ≡ true
row_of o n k c at is = ap (is_list_of n k) at ∙ same_number (list_of_name k c) n (sym is)

-- ---- a row takes the place of another

module _ (m : FinMap customer_cmp Customer) (k : CustomerKey) (y : Customer) where
  abbrev pub after : FinMap customer_cmp Customer
  after = insert m k y

  at_own : get after k ≡ Some y
  at_own = get-insert customer_total m k y k
      ∙ ap (λ (b : Bool). cond b (Some y) (get m k)) (is_self customer_total exact_customer k)

  own_or_other : (j : CustomerKey) → (j ≡ k) ⊎ (get after j ≡ get m j)
  own_or_other j = go (eq_by_cmp customer_cmp j k) refl
    where
      go : (b : Bool) → eq_by_cmp customer_cmp j k ≡ b → (j ≡ k) ⊎ (get after j ≡ get m j)
      go true e = inl (is_same customer_total exact_customer j k e)
      go false e = inr (get-insert customer_total m k y j ∙ ap (λ (b : Bool). cond b (Some y) (get m j)) e)

  -- whose name was in a list has it there still, or lost it
  pub still_or_lost : (c : Customer) → get m k ≡ Some c → (n : ℕ) (j : CustomerKey) → NamedAt m n j
      → NamedAt after n j ⊎ ((j ≡ k) × (n ≡ list_of_name k c))
  still_or_lost c at n j h =
      elim (own_or_other j) [
        | inl same ↦ inr (same, of_row (get m k) n k c at (subst (λ i. NamedAt m n i) same h))
        | inr other ↦ inl (ap (is_list_of n j) other ∙ h)
      ]

  -- whose name is in a list had it there, or got it
  pub was_or_new : (n : ℕ) (j : CustomerKey) → NamedAt after n j → NamedAt m n j ⊎ ((j ≡ k) × (n ≡ list_of_name k y))
  was_or_new n j h =
      elim (own_or_other j) [
        | inl same ↦ inr (same, of_row (get after k) n k y at_own (subst (λ i. NamedAt after n i) same h))
        | inr other ↦ inl (sym (ap (is_list_of n j) other) ∙ h)
      ]

  pub new_named : (n : ℕ) (j : CustomerKey) → j ≡ k → n ≡ list_of_name k y → NamedAt after n j
  new_named n j same is = subst (λ i. NamedAt after n i) (sym same) (row_of (get after k) n k y at_own is)

-- ---- a record's change is undone

-- the customer loses the C_LAST, or has it again
abbrev pub Loses : Rows → Record → ℕ → CustomerKey → Type 0
Loses r b n j = IsSomeAnd (name_lost r b) (λ x. (n ≡ list_number (district_of_customer x.0) x.1) × (j ≡ x.0))

-- of a customer whose C_LAST before is this one
lost_last : (k : CustomerKey) (last : List ℕ) (o : Option Customer) (c : Customer) → o ≡ Some c → (n : ℕ)
    (j : CustomerKey) → j ≡ k → n ≡ list_of_name k c
    → (n ≡ list_number (district_of_customer k) last)
    ⊎ IsSomeAnd (other_last k last o) (λ x. (n ≡ list_number (district_of_customer x.0) x.1) × (j ≡ x.0))
lost_last k last None c at n j same is = cc
lost_last k last (Some x) c at n j same is = go (pointwise nat_eq x.name.last last) refl
  where
    own : x.name.last ≡ c.name.last
    own = ap (λ (o : Option Customer). last_of o) at
      where
        last_of : Option Customer → List ℕ
        last_of None = []
        last_of (Some y) = y.name.last

    go : (b : Bool) → pointwise nat_eq x.name.last last ≡ b
        → (n ≡ list_number (district_of_customer k) last)
        ⊎ IsSomeAnd {T = CustomerKey × List ℕ} (cond b None (Some (k, x.name.last)))
        (λ y. (n ≡ list_number (district_of_customer y.0) y.1) × (j ≡ y.0))
    go true e = inl (is ∙ ap (list_number (district_of_customer k)) (sym own ∙ (bytes_decides x.name.last last).0 e))
    go false e = inr (is ∙ ap (list_number (district_of_customer k)) (sym own), same)

-- a customer's row, where one stands
pub there : (o : Option Customer) → IsSome (option_map row.Customer o) → (c : Customer) × (o ≡ Some c)
there None h = cc
there (Some c) h = (c, refl)

-- what putting a row with that C_LAST, or with the one that stands, in a customer's place makes of lists
pub record PutsName (r : Rows) (b : Record) (r' : Rows) : Type 0 where
  pub lost : (n : ℕ) (j : CustomerKey) → HasName r n j → HasName r' n j ⊎ Loses r b n j
  pub told : (n : ℕ) (j : CustomerKey) → Tells n j b → HasName r' n j
  pub only : (n : ℕ) (j : CustomerKey) → HasName r' n j → HasName r n j ⊎ Tells n j b

module _ (r : Rows) (k : CustomerKey) (c y : Customer) (at : get r.customers k ≡ Some c) where
  abbrev with_y : Rows
  with_y = record r { customers = insert r.customers k y }

  -- where it is put back
  puts_last : (b : Record) (last : List ℕ) → last_before b ≡ Some (k, last) → y.name.last ≡ last → PutsName r b with_y
  puts_last b last is own = record { lost = lost; told = told; only = only }
    where
      lost : (n : ℕ) (j : CustomerKey) → HasName r n j → HasName with_y n j ⊎ Loses r b n j
      lost n j h = elim (still_or_lost r.customers k y c at n j h) [
        | inl still ↦ inl still
        | inr gone ↦
            elim (lost_last k last (get r.customers k) c at n j gone.0 gone.1) [
              | inl same ↦ inl (new_named r.customers k y n j gone.0
                  (same ∙ ap (list_number (district_of_customer k)) (sym own)))
              | inr out ↦ inr (subst (λ (o : Option (CustomerKey × List ℕ)).
                  IsSomeAnd (option_and_then (λ x. other_last x.0 x.1 (get r.customers x.0)) o)
                  (λ x. (n ≡ list_number (district_of_customer x.0) x.1) × (j ≡ x.0))) (sym is) out)
            ]
      ]

      told : (n : ℕ) (j : CustomerKey) → Tells n j b → HasName with_y n j
      told n j h =
          let t = subst (λ (o : Option (CustomerKey × List ℕ)).
          IsSomeAnd o (λ x. (n ≡ list_number (district_of_customer x.0) x.1) × (j ≡ x.0))) is h in
          new_named r.customers k y n j t.1 (t.0 ∙ ap (list_number (district_of_customer k)) (sym own))

      only : (n : ℕ) (j : CustomerKey) → HasName with_y n j → HasName r n j ⊎ Tells n j b
      only n j h = elim (was_or_new r.customers k y n j h) [
        | inl was ↦ inl was
        | inr new ↦
            inr (subst (λ (o : Option (CustomerKey × List ℕ)).
            IsSomeAnd o (λ x. (n ≡ list_number (district_of_customer x.0) x.1) × (j ≡ x.0))) (sym is)
            ((new.1 ∙ ap (list_number (district_of_customer k)) own), new.0))
      ]

  -- where none is, and the one that stands stays
  puts_none : (b : Record) → last_before b ≡ None → y.name.last ≡ c.name.last → PutsName r b with_y
  puts_none b is own = record { lost = lost; told = told; only = only }
    where
      lost : (n : ℕ) (j : CustomerKey) → HasName r n j → HasName with_y n j ⊎ Loses r b n j
      lost n j h = elim (still_or_lost r.customers k y c at n j h) [
        | inl still ↦ inl still
        | inr gone ↦ inl (new_named r.customers k y n j gone.0
            (gone.1 ∙ ap (list_number (district_of_customer k)) (sym own)))
      ]

      told : (n : ℕ) (j : CustomerKey) → Tells n j b → HasName with_y n j
      told n j h = absurd (subst (λ (o : Option (CustomerKey × List ℕ)).
          IsSomeAnd o (λ x. (n ≡ list_number (district_of_customer x.0) x.1) × (j ≡ x.0))) is h)

      only : (n : ℕ) (j : CustomerKey) → HasName with_y n j → HasName r n j ⊎ Tells n j b
      only n j h = elim (was_or_new r.customers k y n j h) [
        | inl was ↦ inl was
        | inr new ↦
            inl (subst (λ i. HasName r n i) (sym new.0)
            (row_of (get r.customers k) n k c at (new.1 ∙ ap (list_number (district_of_customer k)) own)))
      ]

-- other tables have no names
no_name : (r r' : Rows) (b : Record) → r'.customers ≡ r.customers → last_before b ≡ None → PutsName r b r'
no_name r r' b same is = record {
  lost = λ n j h. inl (subst (λ (m : FinMap customer_cmp Customer). NamedAt m n j) (sym same) h);
  told = λ n j h. absurd (subst (λ (o : Option (CustomerKey × List ℕ)).
      IsSomeAnd o (λ x. (n ≡ list_number (district_of_customer x.0) x.1) × (j ≡ x.0))) is h);
  only = λ n j h. inl (subst (λ (m : FinMap customer_cmp Customer). NamedAt m n j) same h);
}

pub puts_name : (o : OwnRecord) (r : Rows) → Stands (record_of_own o) r
    → PutsName r (record_of_own o) (put_back (record_of_own o) r)
puts_name (own.InsertedHistory k) r s = no_name r _ _ refl refl
puts_name (own.InsertedNewOrder k) r s = no_name r _ _ refl refl
puts_name (own.InsertedOrder k) r s = no_name r _ _ refl refl
puts_name (own.InsertedOrderLine k) r s = no_name r _ _ refl refl
puts_name (own.UpdatedWarehouse k x) r s = no_name r _ _ refl refl
puts_name (own.UpdatedDistrict k x) r s = no_name r _ _ refl refl
puts_name (own.UpdatedCustomer k x) r s =
    let c = there (get r.customers k) s in
    puts_last r k c.0 x c.1 (record_of_own (own.UpdatedCustomer k x)) x.name.last refl refl
puts_name (own.UpdatedOrder k x) r s = no_name r _ _ refl refl
puts_name (own.UpdatedOrderLine k x) r s = no_name r _ _ refl refl
puts_name (own.UpdatedStock k x) r s = no_name r _ _ refl refl
puts_name (own.DeletedNewOrder k) r s = no_name r _ _ refl refl
puts_name (own.ChangedWarehouse k x) r s = no_name r _ _ refl refl
puts_name (own.ChangedDistrict k x) r s = no_name r _ _ refl refl
puts_name (own.ChangedCustomer k x) r s =
    let c = there (get r.customers k) s in
    subst (λ (v : Option Customer). PutsName r (record_of_own (own.ChangedCustomer k x))
    (record r { customers = with_row k v r.customers }))
    (sym (ap (with_columns with_customer (Some x)) c.1)) (go x.name.last refl c.0 c.1)
  where
    go : (o : Option (List ℕ)) → x.name.last ≡ o → (c : Customer) → get r.customers k ≡ Some c
        → PutsName r (record_of_own (own.ChangedCustomer k x))
        (record r { customers = insert r.customers k (with_customer x c) })
    go None is c at = puts_none r k c (with_customer x c) at (record_of_own (own.ChangedCustomer k x))
        (ap (option_map {U = CustomerKey × List ℕ} (λ last. (k, last))) is) (ap (λ o. unwrap_or o c.name.last) is)
    go (Some last) is c at = puts_last r k c (with_customer x c) at (record_of_own (own.ChangedCustomer k x)) last
        (ap (option_map {U = CustomerKey × List ℕ} (λ last. (k, last))) is) (ap (λ o. unwrap_or o c.name.last) is)
puts_name (own.ChangedOrder k x) r s = no_name r _ _ refl refl
puts_name (own.ChangedOrderLine k x) r s = no_name r _ _ refl refl
puts_name (own.ChangedStock k x) r s = no_name r _ _ refl refl

-- ---- one record is taken off

module _ (n : ℕ) (k : CustomerKey) (t : ℕ) (b : Record) (bs : List Record) (d : Undo system)
    (is : d.active t ≡ b ∷ bs) where
  pub told_apart : IsTold d n k → Tells n k b ⊎ IsTold (put_records system t bs d) n k
  told_apart (inr h) = inr (inr h)
  told_apart (inl h) = elim (cases_eq h.0 t) [
    | inl same ↦
        elim (subst (TellsAmong n k) (ap d.active same ∙ is) h.1) [
          | inl this ↦ inl this
          | inr others ↦ inr (inl (t, subst (TellsAmong n k) (sym (set_same t bs d.active t refl)) others))
        ]
    | inr ne ↦ inr (inl (h.0, subst (TellsAmong n k) (sym (set_other t bs d.active h.0 ne)) h.1))
  ]

  pub told_together : Tells n k b ⊎ IsTold (put_records system t bs d) n k → IsTold d n k
  told_together (inl this) = inl (t, subst (TellsAmong n k) (sym is) (inl this))
  told_together (inr (inr h)) = inr h
  told_together (inr (inl h)) = elim (cases_eq h.0 t) [
    | inl same ↦ inl (
      t,
      subst (TellsAmong n k) (sym is)
          (inr (subst (TellsAmong n k) (set_same t bs d.active h.0 same) h.1)),
    )
    | inr ne ↦ inl (h.0, subst (TellsAmong n k) (set_other t bs d.active h.0 ne) h.1)
  ]
