-- Each facet that a write changes lies under a name that its transaction holds exclusively.
use Rattle.std.proofs.Common.{◌≡◌, ℕ, Bool, true, false, cond, refl, sym, ap, ◌∙◌, subst, inl, inr, ◌⊎◌, List, Option}
use Rattle.std.proofs.Common.{None}
use Rattle.std.proofs.Common.{Some}
use Rattle.std.specs.Prelude.{option_map, option_and_then}
use Rattle.std.specs.Ordering.{eq_by_cmp, nat_cmp}
use Rattle.std.specs.Cmp.Lexicographic.{slice_cmp, nat_list_cmp_total}
use Rattle.std.specs.FinMap.{get, IsAntisymmetric, slice_cmp-IsAntisymmetric, nat_cmp-IsAntisymmetric}
use Rattle.oe_theory.specs.Machine.{Under}
use Rattle.oe_theory.specs.Machine as theory
use Rattle.oe_rows.specs.declared.keys.CustomerKey.{CustomerKey}
use Rattle.oe_rows.specs.declared.keys.Key.TheVariants as key
use Rattle.oe_rows.specs.declared.customers.Customer.{Customer}
use Rattle.oe_rows.specs.declared.customers.CustomerName.{CustomerName}
use Rattle.oe_rows.specs.declared.locks.Name.{Name}
use Rattle.oe_rows.specs.declared.rows.Row.TheVariants as row
use Rattle.oe_model.specs.Rows.{Rows, is_key, row_at, as_customer}
use Rattle.oe_model.specs.Changes.{Change, UpdateCustomer, row_of, rows_after}
use Rattle.oe_model.specs.Choice.{name_in, name_at}
use Rattle.oe_model.specs.Locks.{WarehouseThere, DistrictThere, CustomerThere, CustomerNamed, StockThere, WholeItem}
use Rattle.oe_model.specs.Locks.{First, first_if_named, part}
use Rattle.oe_model.specs.Rename.{names_of, with_names}
use Rattle.oe_model.proofs.MapFacts.{is_same}
use Rattle.oe_model.proofs.RowFacts.{key_true, key_refl, at_changed}
use Rattle.oe_change.specs.declared.writes.Write.{Write}
use Rattle.oe_change.specs.declared.writes.Write.TheVariants as writes
use Rattle.oe_change.specs.Writes.{change_of}
use Rattle.oe_engine.specs.Covered.{SamePart, OwnsParts}
use Rattle.oe_writes.specs.Kinds.{is_rename}
use Rattle.oe_engine.specs.Writes.{HoldsBeside}
use Rattle.oe_engine.proofs.RenameFacts.{of_row, same_name, changed_named}
use Rattle.oe_theory.specs.World.{IsEnough}

-- a name that is held in a mode that is enough to write is held alone
pub alone : (o : Option theory.Mode) → IsEnough o theory.Exclusive → o ≡ Some theory.Exclusive
alone None h = absurd h
alone (Some theory.Exclusive) h = refl
alone (Some theory.Shared) h = absurd h

abbrev is_text : List ℕ → List ℕ → Bool
is_text a b = eq_by_cmp (slice_cmp nat_cmp) a b

exact_text : IsAntisymmetric (slice_cmp nat_cmp)
exact_text = slice_cmp-IsAntisymmetric nat_cmp-IsAntisymmetric

-- C_FIRST of a customer of these names, if it has that C_LAST
abbrev first_by : List ℕ → Option CustomerName → Option (List ℕ)
first_by last None = None
first_by last (Some n) = cond (is_text n.last last) (Some n.first) None

by_name : (last : List ℕ) (o : Option Customer)
    → first_if_named last o ≡ first_by last (option_map (λ (x : Customer). x.name) o)
by_name last None = refl
by_name last (Some x) = refl

part_by : (k : CustomerKey) (last : List ℕ) (r : Rows)
    → part (CustomerNamed k last) (row_at r (key.Customer k)) ≡ First (first_by last (name_at r k))
part_by k last r = ap First (by_name last (option_and_then as_customer (row_at r (key.Customer k))))

same_by_name : (k : CustomerKey) (last : List ℕ) (r s : Rows) → name_at r k ≡ name_at s k
    → SamePart (CustomerNamed k last) r s
same_by_name k last r s e = part_by k last r ∙ ap (λ o. First (first_by last o)) e ∙ sym (part_by k last s)

under_inj : (a b : Name) → Under a ≡ Under b → a ≡ b
under_inj a b e = cc

-- a facet of a customer, or its name held exclusively
abbrev NamedOr : (Name → Option theory.Mode) → Rows → Rows → CustomerKey → List ℕ → Type 0
NamedOr held r s k last = SamePart (CustomerNamed k last) r s ⊎ (held (names_of k last) ≡ Some theory.Exclusive)

-- only who has a last name lies under a name
of_named : (held : Name → Option theory.Mode) (r s : Rows)
    → ((k : CustomerKey) (last : List ℕ) → NamedOr held r s k last) → OwnsParts held r s
of_named held r s h (CustomerNamed k last) n g =
    subst (λ q. SamePart (CustomerNamed k last) r s ⊎ (held q ≡ Some theory.Exclusive))
    (under_inj (names_of k last) n g) (h k last)
of_named held r s h (WarehouseThere k) n g = let no : ⊥ = cc in absurd no
of_named held r s h (DistrictThere k) n g = let no : ⊥ = cc in absurd no
of_named held r s h (CustomerThere k) n g = let no : ⊥ = cc in absurd no
of_named held r s h (StockThere k) n g = let no : ⊥ = cc in absurd no
of_named held r s h (WholeItem k) n g = let no : ⊥ = cc in absurd no

-- a write other than a rename leaves all names
kept : (w : Write) (r : Rows) (held : Name → Option theory.Mode) (c : Change) → is_rename w ≡ false
    → change_of w r ≡ Some c → OwnsParts held r (rows_after c r)
kept w r held c n e = of_named held r (rows_after c r) (λ k last.
    inl (same_by_name k last r (rows_after c r) (sym (changed_named c r (same_name w r c n e) k))))

module _ (k : CustomerKey) (l f : List ℕ) (x : Customer) (r : Rows) (held : Name → Option theory.Mode)
    (there : get r.customers k ≡ Some x) (new : held (names_of k l) ≡ Some theory.Exclusive)
    (old : held (names_of k x.name.last) ≡ Some theory.Exclusive) where
  abbrev renaming : Change
  renaming = UpdateCustomer k (with_names l f x)

  abbrev after : Rows
  after = rows_after renaming r

  was : name_at r k ≡ Some x.name
  was = ap (λ v. name_in (option_map row.Customer v)) there

  now : name_at after k ≡ Some (with_names l f x).name
  now = ap name_in (at_changed renaming r (key.Customer k)
      ∙ ap (λ z. cond z (row_of renaming) (row_at r (key.Customer k))) (key_refl (key.Customer k)))

  -- of neither name the customer is not found by it before or after
  own : (last : List ℕ) → NamedOr held r after k last
  own last = pick (is_text x.name.last last) (is_text l last) refl refl
    where
      pick : (a b : Bool) → is_text x.name.last last ≡ a → is_text l last ≡ b → NamedOr held r after k last
      pick true b e d = inr (subst (λ n. held (names_of k n) ≡ Some theory.Exclusive)
          (is_same nat_list_cmp_total exact_text x.name.last last e) old)
      pick false true e d = inr (subst (λ n. held (names_of k n) ≡ Some theory.Exclusive)
          (is_same nat_list_cmp_total exact_text l last d) new)
      pick false false e d = inl
          (part_by k last r ∙ ap (λ o. First (first_by last o)) was
          ∙ ap (λ z. First (cond z (Some x.name.first) None)) e
          ∙ sym (ap (λ z. First (cond z (Some f) None)) d)
          ∙ sym (ap (λ o. First (first_by last o)) now) ∙ sym (part_by k last after))

  customer_inj : (j : CustomerKey) → key.Customer j ≡ key.Customer k → k ≡ j
  customer_inj j e = cc

  each : (j : CustomerKey) (last : List ℕ) → NamedOr held r after j last
  each j last = pick (is_key (key.Customer j) (key.Customer k)) refl
    where
      pick : (b : Bool) → is_key (key.Customer j) (key.Customer k) ≡ b → NamedOr held r after j last
      pick true e = subst (λ i. NamedOr held r after i last)
          (customer_inj j (key_true (key.Customer j) (key.Customer k) e)) (own last)
      pick false e = inl (ap (part (CustomerNamed j last))
          (sym (at_changed renaming r (key.Customer j)
          ∙ ap (λ z. cond z (row_of renaming) (row_at r (key.Customer j))) e)))

  renamed : OwnsParts held r after
  renamed = of_named held r after each

pub parts_held : (w : Write) (r : Rows) (held : Name → Option theory.Mode) (c : Change) → change_of w r ≡ Some c
    → HoldsBeside r held w → OwnsParts held r (rows_after c r)
parts_held (writes.CustomerNames k l f) r held c e beside =
    of_row (λ d. OwnsParts held r (rows_after d r)) _ (get r.customers k) c
    (λ x at. renamed k l f x r held at beside.0 (beside.1 x at)) e
parts_held (writes.WarehouseYtd k y) r held c e beside = kept (writes.WarehouseYtd k y) r held c refl e
parts_held (writes.DistrictYtd k y) r held c e beside = kept (writes.DistrictYtd k y) r held c refl e
parts_held (writes.NextOrder k n) r held c e beside = kept (writes.NextOrder k n) r held c refl e
parts_held (writes.CustomerAccount k a) r held c e beside = kept (writes.CustomerAccount k a) r held c refl e
parts_held (writes.BadCredit k a t) r held c e beside = kept (writes.BadCredit k a t) r held c refl e
parts_held (writes.StockCounters k n) r held c e beside = kept (writes.StockCounters k n) r held c refl e
parts_held (writes.Carrier k n) r held c e beside = kept (writes.Carrier k n) r held c refl e
parts_held (writes.DeliveryDate k t) r held c e beside = kept (writes.DeliveryDate k t) r held c refl e
parts_held (writes.InsertHistory k x) r held c e beside = kept (writes.InsertHistory k x) r held c refl e
parts_held (writes.InsertNewOrder k) r held c e beside = kept (writes.InsertNewOrder k) r held c refl e
parts_held (writes.InsertOrder k x) r held c e beside = kept (writes.InsertOrder k x) r held c refl e
parts_held (writes.InsertOrderLine k x) r held c e beside = kept (writes.InsertOrderLine k x) r held c refl e
parts_held (writes.DeleteNewOrder k) r held c e beside = kept (writes.DeleteNewOrder k) r held c refl e
