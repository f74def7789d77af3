-- Customers are taken off lists of last names one after another.
use Rattle.std.proofs.Common.{◌≡◌, ℕ, zero, suc, ◌-◌, ◌<◌, Bool, true, refl, sym, ap, ◌∙◌, subst, inl, inr}
use Rattle.std.proofs.Common.{arith, List, [], ◌∷◌, length, map, get_or, drop}
use Rattle.std.specs.Prelude.{◌↔◌, ◌⊎◌, IsTrue, IsSome}
use Rattle.std.specs.Option.{IsSomeAnd}
use Rattle.std.proofs.lemmas.Bool.{true≢false}
use Rattle.oe_rows.specs.declared.keys.CustomerKey.{CustomerKey}
use Rattle.oe_rows.specs.declared.keys.Key.{Key}
use Rattle.oe_rows.specs.declared.keys.Key.TheVariants as key
use Rattle.oe_model.specs.Rows.{Rows, row_at}
use Rattle.oe_model.specs.Changes.{Record, InsertedHistory, InsertedNewOrder, InsertedOrder, InsertedOrderLine}
use Rattle.oe_model.specs.Changes.{UpdatedWarehouse, UpdatedDistrict, UpdatedCustomer, UpdatedOrder, UpdatedOrderLine}
use Rattle.oe_model.specs.Changes.{UpdatedStock, DeletedNewOrder, ChangedWarehouse, ChangedDistrict, ChangedCustomer}
use Rattle.oe_model.specs.Changes.{ChangedOrder, ChangedOrderLine, ChangedStock}
use Rattle.oe_change.specs.PutBack.{LeavesPlaces}
use Rattle.oe_rows.specs.Key.{customer_cmp}
use Rattle.oe_index.specs.Listed.{IsListed}
use Rattle.oe_log.specs.Log.{SegmentLog, Committed, committed_records, records_of}
use Rattle.oe_log.specs.Stands.{model_records, undo_of, rename_in}
use Rattle.oe_store.specs.Places.{Places, Listing, rows, SamePlaces, LosesPlace}
use Rattle.oe_store.specs.Names.{IsNamed, SameNames}
use Rattle.oe_journal.specs.GivesUp.{GivesUpThose}
use Rattle.oe_journal.specs.Named.{PutsBack}
use Rattle.oe_journal.specs.Forgetting.{HasName, LosesName, LosesNameIn, HaveNamesChanged, ForgetsNames}

-- where nothing but names has changed, the rows have not
pub same_rows : (old new : Places) → HaveNamesChanged old new → rows new ≡ rows old
same_rows old new is = ap rows is

-- one after the other
pub both_changed : (old mid new : Places) → HaveNamesChanged old mid → HaveNamesChanged mid new
    → HaveNamesChanged old new
both_changed old mid new first second = second ∙ ap (λ (s : Places). record s { names = new.names }) first

-- what holds of the same
pub forgets_same : (old new : Places) (P Q : ℕ → CustomerKey → Type 0) → ((n : ℕ) (k : CustomerKey) → P n k ↔ Q n k)
    → ForgetsNames old new P → ForgetsNames old new Q
forgets_same old new P Q is g = record {
  lists = λ n k. (
    (λ h. let was = (g.lists n k).0 h in (was.0, λ q. was.1 ((is n k).1 q))),
    (λ h. (g.lists n k).1 (h.0, λ p. h.1 ((is n k).0 p))),
  );
  stand = g.stand;
}

-- first those of one kind, and then those of another
pub forgets_both : (old mid new : Places) (P Q : ℕ → CustomerKey → Type 0) → rows mid ≡ rows old
    → ForgetsNames old mid P → ForgetsNames mid new Q → ForgetsNames old new (λ n k. P n k ⊎ Q n k)
forgets_both old mid new P Q same first second = record { lists = lists; stand = second.stand ∙ first.stand }
  where
    lists : (n : ℕ) (k : CustomerKey) → IsNamed new n k
        ↔ (IsNamed old n k × ((P n k ⊎ Q n k) → HasName (rows old) n k))
    lists n k = (
      (λ h.
          let late = (second.lists n k).0 h in
          let early = (first.lists n k).0 late.0 in (
            early.0,
            λ r. elim r [
              | inl p ↦ early.1 p
              | inr q ↦ subst (λ (r : Rows). HasName r n k) same (late.1 q)
            ],
          )),
      (λ h.
          (second.lists n k).1 (
            (first.lists n k).1 (h.0, λ p. h.1 (inl p)),
            λ q. subst (λ (r : Rows). HasName r n k) (sym same) (h.1 (inr q)),
          )),
    )

-- ---- commits, the oldest first

history_at : (cs : List Committed) (i : ℕ) → i < length cs
    → drop i (map (λ (c : Committed). model_records c.records) cs)
    ≡ model_records (get_or (map records_of cs) i [])
    ∷ drop (suc i) (map (λ (c : Committed). model_records c.records) cs)
history_at [] i h = let no : ⊥ = omega arith in absurd no
history_at (c ∷ cs) zero h = refl
history_at (c ∷ cs) (suc i) h = history_at cs i (omega arith)

-- so far these have gone
pub record ForgetsSoFar (ts ts' : Places) (u : SegmentLog) (m from : ℕ) : Type 0 where
  pub others : HaveNamesChanged ts ts'
  pub names : ForgetsNames ts ts' (LosesNameIn u m (drop from (undo_of u).history))

pub one_so_far : (ts ts' ts'' : Places) (u : SegmentLog) (m i at : ℕ) → i < length u.committed → at ≡ i
    → HaveNamesChanged ts' ts''
    → ForgetsNames ts' ts'' (λ n k. IsSomeAnd (rename_in (model_records (get_or (committed_records u) at [])))
    (λ x. LosesName u m x n k))
    → ForgetsSoFar ts ts' u m (suc i) → ForgetsSoFar ts ts'' u m i
one_so_far ts ts' ts'' u m i at within same others names g = record {
  others = both_changed ts ts' ts'' g.others others;
  names = forgets_same ts ts'' (λ n k. Older n k ⊎ This n k) (LosesNameIn u m (drop i (undo_of u).history)) is
      (forgets_both ts ts' ts'' Older This (same_rows ts ts' g.others) g.names names);
}
  where
    Older : ℕ → CustomerKey → Type 0
    Older = LosesNameIn u m (drop (suc i) (undo_of u).history)

    This : ℕ → CustomerKey → Type 0
    This n k = IsSomeAnd (rename_in (model_records (get_or (committed_records u) at []))) (λ x. LosesName u m x n k)

    there : drop i (undo_of u).history
        ≡ model_records (get_or (committed_records u) at []) ∷ drop (suc i) (undo_of u).history
    there = history_at u.committed i within
        ∙ ap (λ j. model_records (get_or (committed_records u) j []) ∷ drop (suc i) (undo_of u).history) (sym same)

    is : (n : ℕ) (k : CustomerKey) → (Older n k ⊎ This n k) ↔ LosesNameIn u m (drop i (undo_of u).history) n k
    is n k = (
      (λ h. subst (λ ss. LosesNameIn u m ss n k) (sym there) (elim h [ inl o ↦ inr o | inr t ↦ inl t ])),
      (λ h. elim (subst (λ ss. LosesNameIn u m ss n k) there h) [ inl t ↦ inr t | inr o ↦ inl o ]),
    )

-- where customers may be forgotten, and where they may not
pub may_forget : (ts ts' : Places) (P : ℕ → CustomerKey → Type 0) (may : Bool) → may ≡ true → ForgetsNames ts ts' P
    → ForgetsNames ts ts' (λ n k. IsTrue may × P n k)
may_forget ts ts' P may is g =
    forgets_same ts ts' P (λ n k. IsTrue may × P n k) (λ n k. ((λ p. (is, p)), (λ p. p.1))) g

-- where the same customers are listed then
pub names_still : (old mid new : Places) (P : ℕ → CustomerKey → Type 0) → ForgetsNames old mid P → SameNames mid new
    → ForgetsNames old new P
names_still old mid new P g same = record {
  lists = λ n k. ((λ h. (g.lists n k).0 (named n k h)), (λ h. back n k ((g.lists n k).1 h)));
  stand = ap (λ (l : Listing CustomerKey). l.is_listed) same ∙ g.stand;
}
  where
    named : (n : ℕ) (k : CustomerKey) → IsNamed new n k → IsNamed mid n k
    named n k h = subst (λ (l : Listing CustomerKey). IsListed customer_cmp l.lists n k) same h

    back : (n : ℕ) (k : CustomerKey) → IsNamed mid n k → IsNamed new n k
    back n k h = subst (λ (l : Listing CustomerKey). IsListed customer_cmp l.lists n k) (sym same) h

-- ---- places stay where names alone change

names_apart : (s : Places) (names : Listing CustomerKey) → SamePlaces s (record s { names = names })
names_apart s names (key.Warehouse k) = ((λ h. h), (λ h. h))
names_apart s names (key.District k) = ((λ h. h), (λ h. h))
names_apart s names (key.Customer k) = ((λ h. h), (λ h. h))
names_apart s names (key.History k) = ((λ h. h), (λ h. h))
names_apart s names (key.NewOrder k) = ((λ h. h), (λ h. h))
names_apart s names (key.Order k) = ((λ h. h), (λ h. h))
names_apart s names (key.OrderLine k) = ((λ h. h), (λ h. h))
names_apart s names (key.Item k) = ((λ h. h), (λ h. h))
names_apart s names (key.Stock k) = ((λ h. h), (λ h. h))

pub same_places : (old new : Places) → HaveNamesChanged old new → SamePlaces old new
same_places old new is = subst (SamePlaces old) (sym is) (names_apart old new.names)

module _ (old mid new : Places) (is : HaveNamesChanged mid new) where
  then_same : SamePlaces old mid → SamePlaces old new
  then_same h k =
      let s = same_places mid new is k in
      ((λ p. (h k).0 (s.0 p)), (λ p. s.1 ((h k).1 p)))

  then_lost : (own : Key) → LosesPlace old mid own → LosesPlace old new own
  then_lost own h k =
      let s = same_places mid new is k in
      ((λ p. (h k).0 (s.0 p)), (λ p. s.1 ((h k).1 p)))

  leaves_still : (b : Record) → LeavesPlaces b old mid → LeavesPlaces b old new
  leaves_still (InsertedHistory j v) h = then_lost (key.History j) h
  leaves_still (InsertedNewOrder j v) h = then_lost (key.NewOrder j) h
  leaves_still (InsertedOrder j v) h = then_lost (key.Order j) h
  leaves_still (InsertedOrderLine j v) h = then_lost (key.OrderLine j) h
  leaves_still (UpdatedWarehouse j v) h = then_same h
  leaves_still (UpdatedDistrict j v) h = then_same h
  leaves_still (UpdatedCustomer j v) h = then_same h
  leaves_still (UpdatedOrder j v) h = then_same h
  leaves_still (UpdatedOrderLine j v) h = then_same h
  leaves_still (UpdatedStock j v) h = then_same h
  leaves_still (DeletedNewOrder j v) h = then_same h
  leaves_still (ChangedWarehouse j v) h = then_same h
  leaves_still (ChangedDistrict j v) h = then_same h
  leaves_still (ChangedCustomer j v) h = then_same h
  leaves_still (ChangedOrder j v) h = then_same h
  leaves_still (ChangedOrderLine j v) h = then_same h
  leaves_still (ChangedStock j v) h = then_same h

  pub puts_back_still : (b : Record) (k : Key) (u : SegmentLog) → PutsBack b k old mid u → PutsBack b k old new u
  puts_back_still b k u h =
      record { gone = λ none. leaves_still b (h.gone none); kept = λ some. then_same (h.kept some) }

-- and what is given up then
pub given_up_still : (old mid new : Places) (P : Key → Type 0) → HaveNamesChanged old mid → GivesUpThose mid new P
    → GivesUpThose old new P
given_up_still old mid new P is g k =
    let s = same_places old mid is k in (
      (λ h. let was = (g k).0 h in (
        s.0 was.0,
        λ p. subst (λ (r : Rows). IsSome (row_at r k)) (same_rows old mid is) (was.1 p),
      )),
      (λ h. (g k).1 (s.1 h.0, λ p. subst (λ (r : Rows). IsSome (row_at r k)) (sym (same_rows old mid is)) (h.1 p))),
    )
