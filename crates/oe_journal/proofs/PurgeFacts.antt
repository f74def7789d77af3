-- Places are given up key by key: of one record, of a commit's records, of the oldest commits.
use Rattle.std.proofs.Common.{◌≡◌, ◌⊎◌, ℕ, zero, suc, ◌-◌, ◌<◌, ◌≤◌, refl, sym, ap, ◌∙◌, subst, inl, inr, arith, List}
use Rattle.std.proofs.Common.{[], ◌∷◌, length, map, get_or, take, drop, Option, None, Some}
use Rattle.std.specs.Prelude.{◌↔◌, IsSome}
use Rattle.std.specs.List.{cons_option}
use Rattle.std.proofs.lemmas.List.{take_all}
use Rattle.oe_rows.specs.declared.keys.NewOrderKey.{NewOrderKey}
use Rattle.oe_rows.specs.declared.keys.Key.{Key}
use Rattle.oe_rows.specs.declared.keys.Key.TheVariants as key
use Rattle.oe_theory.specs.Store.{Slot, after_purge}
use Rattle.oe_model.specs.Rows.{Rows, row_at}
use Rattle.oe_model.specs.Changes.{Record}
use Rattle.oe_model.specs.Changes as model
use Rattle.oe_model.specs.System.{system, terminal_limit}
use Rattle.oe_store.specs.Places.{rows, HasPlace}
use Rattle.oe_store.specs.Places as tables
use Rattle.oe_layout.specs.Stored.{deleted_new_order}
use Rattle.oe_log.specs.Log.{SegmentLog, Committed, committed_records, records_of, total_count, with_newest}
use Rattle.oe_log.specs.Stands.{model_records, undo_of, deleted_keys}
use Rattle.oe_log.proofs.LawFacts as stands
use Rattle.oe_log.proofs.StandsFacts.{totals}
use Rattle.oe_undo.specs.declared.holders.Link.{Link}
use Rattle.oe_undo.specs.Held.{horizon}
use Rattle.oe_undo.specs.Chains.{IsEnd, AreChained}
use Rattle.oe_undo.specs.Laws.{IsWhole, Calls_keep_chains, Ends_without_records}
use Rattle.oe_journal.specs.GoesBack.{AllHavePlaces}
use Rattle.oe_journal.specs.GivesUp.{IsDelete, HasDelete, IsDeleted, IsDeletedIn, HasNoRecord, GivesUpThose}
use Rattle.oe_journal.specs.GivesUp.{GivesUpDeleted}
use Rattle.oe_log.specs.Moments.{store_with, newest}
use Rattle.oe_journal.proofs.BackFacts.{more_places}

-- Keys that had places have them in tables in which none was lost
pub all_more_places : (ts ts' : tables.Places) → ((k : Key) → HasPlace ts k → HasPlace ts' k)
    → (ss : List (List Record)) → AllHavePlaces ts ss → AllHavePlaces ts' ss
all_more_places ts ts' more [] h = tt
all_more_places ts ts' more (bs ∷ ss) h = (more_places ts ts' more bs h.0, all_more_places ts ts' more ss h.1)

-- The oldest go
take_take : {A : Type 0} (n k : ℕ) (xs : List A) → n ≤ k → take n (take k xs) ≡ take n xs
take_take zero k xs h = refl
take_take (suc n) zero xs h = let no : ⊥ = omega arith in absurd no
take_take (suc n) (suc k) [] h = refl
take_take (suc n) (suc k) (x ∷ xs) h = ap (λ z. x ∷ z) (take_take n k xs (omega arith))

length_take_le : {A : Type 0} (n : ℕ) (xs : List A) → length (take n xs) ≤ length xs
length_take_le zero xs = omega arith
length_take_le (suc n) [] = omega arith
length_take_le (suc n) (x ∷ xs) = let fewer = length_take_le n xs in omega (arith, fewer)

length_taken : {A : Type 0} (n : ℕ) (xs : List A) → n ≤ length xs → length (take n xs) ≡ n
length_taken zero xs h = refl
length_taken (suc n) [] h = let no : ⊥ = omega arith in absurd no
length_taken (suc n) (x ∷ xs) h = ap suc (length_taken n xs (omega arith))

none_cut : (v : SegmentLog) → v ≡ with_newest (length v.committed - 0) v
none_cut v =
    let all : take (length v.committed - 0) v.committed ≡ v.committed =
    take_all (length v.committed - 0) v.committed (omega arith) in
    λ i. record { terminals = v.terminals; committed = sym all i; extents = v.extents; layout = v.layout }

one_cut : (v w : SegmentLog) (k : ℕ) → k ≤ length v.committed → w ≡ with_newest k v
    → with_newest (length w.committed - 1) w ≡ with_newest (k - 1) v
one_cut v w k enough is =
    let many : length (take k v.committed) ≡ k = length_taken k v.committed enough in
    let twice : take (length (take k v.committed) - 1) (take k v.committed) ≡ take (k - 1) v.committed =
    take_take (length (take k v.committed) - 1) k v.committed (omega arith) ∙ ap (λ n. take (n - 1) v.committed) many in
    ap (λ z. with_newest (length z.committed - 1) z) is
    ∙ (λ i. record { terminals = v.terminals; committed = twice i; extents = v.extents; layout = v.layout })

-- in the theory's words
pub purged_is : (u : SegmentLog) (m : ℕ) (r : Rows) (slots : ℕ → Option (Slot system))
    → store_with r (with_newest (newest u - m) u) slots ≡ after_purge system m (store_with r u slots)
purged_is u m r slots =
    let c = stands.cuts u (newest u - m) in
    λ i. record {
      tables = r;
      undo = c.undo i;
      slots = slots;
      seals = c.seals i;
      counts = c.counts i;
      extents = u.extents;
      layout = u.layout;
    }

-- no key
none_given_up : (ts : tables.Places) (P : Key → Type 0) → ((k : Key) → P k → ⊥) → GivesUpThose ts ts P
none_given_up ts P none k = (λ h. (h, λ p. absurd (none k p)), λ h. h.0)

-- keys of the same kind
same_given_up : (old new : tables.Places) (P Q : Key → Type 0) → ((k : Key) → P k ↔ Q k) → GivesUpThose old new P
    → GivesUpThose old new Q
same_given_up old new P Q is g k =
    (λ h. let was = (g k).0 h in (was.0, λ q. was.1 ((is k).1 q)), λ h. (g k).1 (h.0, λ p. h.1 ((is k).0 p)))

-- keys of one kind, and then keys of another
both_given_up : (old mid new : tables.Places) (P Q R : Key → Type 0) → rows mid ≡ rows old
    → ((k : Key) → R k ↔ (P k ⊎ Q k))
    → GivesUpThose old mid P → GivesUpThose mid new Q → GivesUpThose old new R
both_given_up old mid new P Q R same is first second k = (there, back)
  where
    there : HasPlace new k → HasPlace old k × (R k → IsSome (row_at (rows old) k))
    there h =
        let late = (second k).0 h in
        let early = (first k).0 late.0 in (
          early.0,
          λ r. elim ((is k).0 r) [
            | inl p ↦ early.1 p
            | inr q ↦ subst (λ z. IsSome (row_at z k)) same (late.1 q)
          ],
        )

    back : (HasPlace old k × (R k → IsSome (row_at (rows old) k))) → HasPlace new k
    back h =
        (second k).1 (
          (first k).1 (h.0, λ p. h.1 ((is k).1 (inl p))),
          λ q. subst (λ z. IsSome (row_at z k)) (sym same)
              (h.1 ((is k).1 (inr q))),
        )

-- where keys of a kind are those of two others, so are those of them that have something more
each_with : {A B C E : Type 0} → A ↔ (B ⊎ C) → (A × E) ↔ ((B × E) ⊎ (C × E))
each_with {A} {B} {C} {E} is = (there, back)
  where
    there : (A × E) → (B × E) ⊎ (C × E)
    there d = elim (is.0 d.0) [ inl x ↦ inl (x, d.1) | inr x ↦ inr (x, d.1) ]

    back : ((B × E) ⊎ (C × E)) → (A × E)
    back (inl d) = (is.1 (inl d.0), d.1)
    back (inr d) = (is.1 (inr d.0), d.1)

-- a record of a delete
delete_of : (b : Record) (o : NewOrderKey) → deleted_new_order b ≡ Some o → IsDelete o b
delete_of (model.DeletedNewOrder p v) o e = let same : p ≡ o = cc in (v, ap (λ q. model.DeletedNewOrder q v) same)
delete_of (model.InsertedHistory k v) o e = cc
delete_of (model.InsertedNewOrder k v) o e = cc
delete_of (model.InsertedOrder k v) o e = cc
delete_of (model.InsertedOrderLine k v) o e = cc
delete_of (model.UpdatedWarehouse k v) o e = cc
delete_of (model.UpdatedDistrict k v) o e = cc
delete_of (model.UpdatedCustomer k v) o e = cc
delete_of (model.UpdatedOrder k v) o e = cc
delete_of (model.UpdatedOrderLine k v) o e = cc
delete_of (model.UpdatedStock k v) o e = cc
delete_of (model.ChangedWarehouse k v) o e = cc
delete_of (model.ChangedDistrict k v) o e = cc
delete_of (model.ChangedCustomer k v) o e = cc
delete_of (model.ChangedOrder k v) o e = cc
delete_of (model.ChangedOrderLine k v) o e = cc
delete_of (model.ChangedStock k v) o e = cc

-- the key is of one of these NEW-ORDER rows
abbrev pub IsOneOf : Key → List NewOrderKey → Type 0
IsOneOf k [] = ⊥
IsOneOf k (o ∷ os) = (k ≡ key.NewOrder o) ⊎ IsOneOf k os

one_more_of : (k : Key) (z : Option NewOrderKey) (os : List NewOrderKey) → IsOneOf k os → IsOneOf k (cons_option z os)
one_more_of k None os h = h
one_more_of k (Some o) os h = inr h

has_key : (o : NewOrderKey) (bs : List Record) → HasDelete o bs → IsOneOf (key.NewOrder o) (deleted_keys bs)
has_key o [] h = h
has_key o (b ∷ bs) h = elim h [
  | inl d ↦ subst (λ z. IsOneOf (key.NewOrder o) (cons_option z (deleted_keys bs))) (sym (ap deleted_new_order d.1))
      (inl refl)
  | inr rest ↦ one_more_of (key.NewOrder o) (deleted_new_order b) (deleted_keys bs) (has_key o bs rest)
]

deleted_more : (k : Key) (b : Record) (bs : List Record) → IsDeleted k bs → IsDeleted k (b ∷ bs)
deleted_more k b bs d = (d.0, d.1, inr d.2)

one_deleted : (k : Key) (b : Record) (bs : List Record) (z : Option NewOrderKey) → deleted_new_order b ≡ z
    → (IsOneOf k (deleted_keys bs) → IsDeleted k (b ∷ bs))
    → IsOneOf k (cons_option z (deleted_keys bs)) → IsDeleted k (b ∷ bs)
one_deleted k b bs None e rest h = rest h
one_deleted k b bs (Some o) e rest h = elim h [ inl is ↦ (o, is, inl (delete_of b o e)) | inr r ↦ rest r ]

is_deleted : (k : Key) (bs : List Record) → IsOneOf k (deleted_keys bs) → IsDeleted k bs
is_deleted k [] h = absurd h
is_deleted k (b ∷ bs) h = one_deleted k b bs (deleted_new_order b) refl (λ r. deleted_more k b bs (is_deleted k bs r)) h

-- the keys that the records of a commit say were deleted
pub deleted_are : (k : Key) (bs : List Record) → IsOneOf k (deleted_keys bs) ↔ IsDeleted k bs
deleted_are k bs = (is_deleted k bs, λ d. subst (λ j. IsOneOf j (deleted_keys bs)) (sym d.1) (has_key d.0 bs d.2))

-- One key, which goes where E holds of it
module _ (E : Key → Type 0) where
  -- or stays
  pub other_stays : (ts : tables.Places) (o : NewOrderKey) → (E (key.NewOrder o) → ⊥)
      → GivesUpThose ts ts (λ k. (k ≡ key.NewOrder o) × E k)
  other_stays ts o other = none_given_up ts (λ k. (k ≡ key.NewOrder o) × E k) (λ k d. other (subst E d.0 d.1))

-- The keys that a commit deleted: on old those of `all` before `left` have been looked at
pub record LooksAt (E : Key → Type 0) (old now : tables.Places) (all left : List NewOrderKey) : Type 0 where
  pub same : rows now ≡ rows old
  pub rest : (new : tables.Places) → GivesUpThose now new (λ k. IsOneOf k left × E k)
      → GivesUpThose old new (λ k. IsOneOf k all × E k)

pub one_looked_at : (E : Key → Type 0) (old now now' : tables.Places) (all : List NewOrderKey) (o : NewOrderKey)
    (os : List NewOrderKey) → rows now' ≡ rows now
    → GivesUpThose now now' (λ k. (k ≡ key.NewOrder o) × E k) → LooksAt E old now all (o ∷ os)
    → LooksAt E old now' all os
one_looked_at E old now now' all o os same g h =
    record {
      same = same ∙ h.same;
      rest = λ new rest. h.rest new
          (both_given_up now now' new (λ k. (k ≡ key.NewOrder o) × E k) (λ k. IsOneOf k os × E k)
          (λ k. IsOneOf k (o ∷ os) × E k) same
          (λ k. each_with ((λ d. d), (λ d. d))) g rest);
    }

pub all_looked_at : (E : Key → Type 0) (old now : tables.Places) (bs : List Record)
    → LooksAt E old now (deleted_keys bs) []
    → GivesUpThose old now (λ k. IsDeleted k bs × E k)
all_looked_at E old now bs h =
    same_given_up old now (λ k. IsOneOf k (deleted_keys bs) × E k) (λ k. IsDeleted k bs × E k)
    (λ k. (λ d. ((deleted_are k bs).0 d.0, d.1), λ d. ((deleted_are k bs).1 d.0, d.1)))
    (h.rest now (none_given_up now (λ k. IsOneOf k [] × E k) (λ k d. d.0)))

-- The oldest commits: of those of u the newest `left` are there still, and `last` will be
pub record ForgetsOldest (old now : tables.Places) (u u' : SegmentLog) (last left : ℕ) : Type 0 where
  pub log : u' ≡ with_newest left u
  pub same : rows now ≡ rows old
  pub places : GivesUpDeleted old now (drop left (undo_of u).history) (with_newest last u)

abbrev records_in : Committed → List Record
records_in c = model_records c.records

none_left : (cs : List Committed) (n : ℕ) → length cs ≤ n → drop n (map records_in cs) ≡ []
none_left [] zero h = refl
none_left [] (suc n) h = refl
none_left (c ∷ cs) zero h = let no : ⊥ = omega arith in absurd no
none_left (c ∷ cs) (suc n) h = none_left cs n (omega arith)

pub none_forgotten : (ts : tables.Places) (u : SegmentLog) (last : ℕ)
    → ForgetsOldest ts ts u u last (length u.committed - 0)
none_forgotten ts u last = record {
  log = none_cut u;
  same = refl;
  places = subst (λ ss. GivesUpDeleted ts ts ss (with_newest last u))
      (sym (none_left u.committed (length u.committed - 0) (omega arith)))
      (none_given_up ts (λ k. IsDeletedIn k [] × HasNoRecord (with_newest last u) k) (λ k d. d.0.2));
}

-- how many are left
pub left_are : (old now : tables.Places) (u u' : SegmentLog) (last left : ℕ) → ForgetsOldest old now u u' last left
    → left ≤ length u.committed → length u'.committed ≡ left
left_are old now u u' last left h enough = ap (λ z. length z.committed) h.log ∙ length_taken left u.committed enough

-- the records of the oldest of those that are left
abbrev pub oldest_records : SegmentLog → ℕ → List Record
oldest_records u j = model_records (get_or (committed_records u) j [])

found_first : (j k : ℕ) (cs : List Committed) → j < k
    → get_or (map records_of (take k cs)) j [] ≡ get_or (map records_of cs) j []
found_first j zero cs h = let no : ⊥ = omega arith in absurd no
found_first zero (suc k) [] h = refl
found_first (suc j) (suc k) [] h = refl
found_first zero (suc k) (c ∷ cs) h = refl
found_first (suc j) (suc k) (c ∷ cs) h = found_first j k cs (omega arith)

one_more : (j : ℕ) (cs : List Committed) → j < length cs
    → drop j (map records_in cs) ≡ model_records (get_or (map records_of cs) j []) ∷ drop (suc j) (map records_in cs)
one_more j [] h = let no : ⊥ = omega arith in absurd no
one_more zero (c ∷ cs) h = refl
one_more (suc j) (c ∷ cs) h = one_more j cs (omega arith)

one_or_older : (bs : List Record) (ss : List (List Record)) (k : Key)
    → IsDeletedIn k (bs ∷ ss) ↔ (IsDeletedIn k ss ⊎ IsDeleted k bs)
one_or_older bs ss k = (there, back)
  where
    there : IsDeletedIn k (bs ∷ ss) → IsDeletedIn k ss ⊎ IsDeleted k bs
    there d = elim d.2 [
      | inl e ↦ inr (d.0, d.1, e)
      | inr e ↦ inl (d.0, d.1, e)
    ]

    back : (IsDeletedIn k ss ⊎ IsDeleted k bs) → IsDeletedIn k (bs ∷ ss)
    back (inl d) = (d.0, d.1, inr d.2)
    back (inr d) = (d.0, d.1, inl d.2)

-- A link ends at the moment to which is purged exactly where the log that is left then has no record of the key
last_cut : (u u' : SegmentLog) (last left : ℕ) → last ≤ left → u' ≡ with_newest left u
    → with_newest last u' ≡ with_newest last u
last_cut u u' last left less is =
    ap (with_newest last) is
    ∙ (λ i. record {
      terminals = u.terminals;
      committed = take_take last left u.committed less i;
      extents = u.extents;
      layout = u.layout;
    })

newest_is : (u : SegmentLog) → IsWhole u → newest u ≡ total_count u
unfolding terminal_limit
newest_is u whole = totals u whole.terminals

last_moment : (u : SegmentLog) (last : ℕ) → IsWhole (with_newest last u) → last ≤ length u.committed
    → newest u - last ≡ horizon (with_newest last u)
last_moment u last whole enough =
    let all : newest u ≡ total_count u = newest_is (with_newest last u) whole in
    let many : length (take last u.committed) ≡ last = length_taken last u.committed enough in
    ap (λ n. n - last) all ∙ ap (λ n. total_count u - n) (sym many)

pub ends_there : Calls_keep_chains → Ends_without_records
    → (u u' : SegmentLog) (links : Key → Option Link) (m last left : ℕ) → last ≤ left → last ≤ length u.committed
    → m ≡ newest u - last → u' ≡ with_newest left u → IsWhole u' → AreChained u' links → (k : Key)
    → IsEnd m (links k) ↔ HasNoRecord (with_newest last u) k
ends_there keep ends u u' links m last left less enough moment is whole chained k =
    let w : SegmentLog = with_newest last u in
    let cut : with_newest last u' ≡ w = last_cut u u' last left less is in
    let fewer : length (take last u'.committed) ≤ length u'.committed = length_take_le last u'.committed in
    let whole_last : IsWhole w = subst IsWhole cut
    (record { terminals = whole.terminals; commits = omega (arith, fewer, whole.commits) }) in
    let chained_last : AreChained w links = subst (λ z. AreChained z links) cut (keep.purges u' links last chained) in
    subst (λ n. IsEnd n (links k) ↔ HasNoRecord w k) (sym (moment ∙ last_moment u last whole_last enough))
    (ends w links k whole_last chained_last)

pub one_forgotten : (old now now' : tables.Places) (u u' : SegmentLog) (E : Key → Type 0) (last left j : ℕ)
    → left ≤ length u.committed → 0 < left → j ≡ left - 1
    → ((k : Key) → E k ↔ HasNoRecord (with_newest last u) k)
    → rows now' ≡ rows now → GivesUpThose now now' (λ k. IsDeleted k (oldest_records u' j) × E k)
    → ForgetsOldest old now u u' last left → ForgetsOldest old now' u (with_newest (length u'.committed - 1) u') last
    (left - 1)
one_forgotten old now now' u u' E last left j enough some at ends same g h =
    let none : Key → Type 0 = HasNoRecord (with_newest last u) in
    let here : suc (left - 1) ≡ left = omega arith in
    let bs : List Record = model_records (get_or (map records_of u.committed) (left - 1) []) in
    let all : drop (left - 1) (undo_of u).history ≡ bs ∷ drop left (undo_of u).history =
    one_more (left - 1) u.committed (omega arith) ∙ ap (λ n. bs ∷ drop n (undo_of u).history) here in
    let oldest : oldest_records u' j ≡ bs =
    ap (λ n. oldest_records u' n) at ∙ ap (λ z. oldest_records z (left - 1)) h.log
    ∙ ap (λ rs. model_records rs) (found_first (left - 1) left u.committed (omega arith)) in
    let given : GivesUpThose now now' (λ k. IsDeleted k bs × E k) = subst
    (λ z. GivesUpThose now now' (λ k. IsDeleted k z × E k)) oldest g in
    let without : GivesUpThose now now' (λ k. IsDeleted k bs × none k) =
    same_given_up now now' (λ k. IsDeleted k bs × E k) (λ k. IsDeleted k bs × none k)
    (λ k. (λ d. (d.0, (ends k).0 d.1), λ d. (d.0, (ends k).1 d.1))) given in
    record {
      log = one_cut u u' left enough h.log;
      same = same ∙ h.same;
      places = subst (λ ss. GivesUpDeleted old now' ss (with_newest last u)) (sym all)
          (both_given_up old now now' (λ k. IsDeletedIn k (drop left (undo_of u).history) × none k)
          (λ k. IsDeleted k bs × none k)
          (λ k. IsDeletedIn k (bs ∷ drop left (undo_of u).history) × none k) h.same
          (λ k. each_with (one_or_older bs (drop left (undo_of u).history) k)) h.places without);
    }
