-- The laws of the bank's rows.
use Rattle.std.proofs.Common.{◌≡◌, ℕ, ◌==◌, Bool, true, false, cond, Option, None, Some, List, [], ◌∷◌, refl, sym, ap}
use Rattle.std.proofs.Common.{◌∙◌, inl, inr}
use Rattle.std.specs.Prelude.{◌⊎◌, is_some, ◌&&◌}
use Rattle.std.specs.declared.cmp.Ordering.{Ordering}
use Rattle.std.specs.declared.cmp.Ordering.TheVariants.{Less, Equal, Greater}
use Rattle.std.specs.Ordering.{nat_cmp, eq_by_cmp, is_eq}
use Rattle.std.specs.Cmp.{IsTotalOrder, nat_cmp_total, tied_itself}
use Rattle.std.specs.FinMap.{FinMap, get, find, entries, keys, contains_key-keys, get-entries, get-insert, get-remove}
use Rattle.std.specs.FinMap.{get-retain_keys, same_map, IsAntisymmetric, nat_cmp-IsAntisymmetric}
use Rattle.std.specs.FinSet.{from_list, contains, contains-retain, contains-from_list, same_set}
use Rattle.std.proofs.lemmas.Bool.{false≢true, eqb-true, eq-eqb, cases_Bool}
use Rattle.std.proofs.lemmas.Cmp.{on_total, then_total}
use Rattle.std.proofs.lemmas.Map.Lookups.{exact_pairs, exact_unsigned}
use Rattle.oe_theory.proofs.Sets.{some_inj}
use Rattle.oe_theory_example.specs.Rows.{Account, Entry, pair_cmp, Tables, Key, AccountKey, EntryKey, SlipKey, Row}
use Rattle.oe_theory_example.specs.Rows.{AccountRow}
use Rattle.oe_theory_example.specs.Rows.{EntryRow, SlipRow, Change, SetAccount, SetEntry, SetSlip, is_key, is_name}
use Rattle.oe_theory_example.specs.Rows.{under, row_at}
use Rattle.oe_theory_example.specs.Rows.{set_row, key_of, row_of, put, Record, WasAccount, Had, WasEntry, WasSlip}
use Rattle.oe_theory_example.specs.Rows.{account_in}
use Rattle.oe_theory_example.specs.Rows.{entry_in, slip_in, account_record, record_of, record_key, as_it_had}
use Rattle.oe_theory_example.specs.Rows.{restore, put_back}
use Rattle.oe_theory_example.specs.Rows.{redo, Accepts, IsOwned, is_owned, part, head, queue, least, owned_by}
use Rattle.oe_theory_example.specs.declared.Name.{Name}
use Rattle.oe_theory_example.specs.declared.Name.TheVariants.{OfAccount, OfQueue, OfOwner}

pub pair_total : IsTotalOrder pair_cmp
pair_total = then_total (on_total (λ (s : ℕ × ℕ). s.0) nat_cmp_total) (on_total (λ (s : ℕ × ℕ). s.1) nat_cmp_total)

pub pair_exact : IsAntisymmetric pair_cmp
pair_exact a b h = exact_pairs nat_cmp nat_cmp exact_unsigned exact_unsigned a b h

-- one table
module _ {K X : Type 0} {R : K → K → Ordering} (o : IsTotalOrder R) where
  pub get-set_row : (k : K) (v : Option X) (m : FinMap R X) (q : K)
      → get (set_row k v m) q ≡ cond (eq_by_cmp R q k) v (get m q)
  get-set_row k None m q = get-remove o m k q
  get-set_row k (Some v) m q = get-insert o m k v q

pub under-cond : {A B : Type 0} (f : A → B) (b : Bool) (v w : Option A)
    → under f (cond b v w) ≡ cond b (under f v) (under f w)
under-cond f true v w = refl
under-cond f false v w = refl

pub tied : {K : Type 0} {R : K → K → Ordering} → IsAntisymmetric R → (a b : K) → eq_by_cmp R a b ≡ true → a ≡ b
tied {R = R} same a b h = same a b (go (R a b) h)
  where
    go : (r : Ordering) → is_eq r ≡ true → r ≡ Equal
    go Less e = absurd (false≢true e)
    go Equal e = refl
    go Greater e = absurd (false≢true e)

pub tied_self : {K : Type 0} {R : K → K → Ordering} → IsTotalOrder R → (a : K) → eq_by_cmp R a a ≡ true
tied_self o a = ap is_eq (tied_itself o a)

pub key_true : (a b : Key) → is_key a b ≡ true → a ≡ b
key_true (AccountKey a) (AccountKey b) h = ap AccountKey (tied nat_cmp-IsAntisymmetric a b h)
key_true (EntryKey a) (EntryKey b) h = ap EntryKey (tied pair_exact a b h)
key_true (SlipKey a) (SlipKey b) h = ap SlipKey (tied pair_exact a b h)
key_true _ _ h = absurd (false≢true h)

pub key_refl : (a : Key) → is_key a a ≡ true
key_refl (AccountKey a) = tied_self nat_cmp_total a
key_refl (EntryKey a) = tied_self pair_total a
key_refl (SlipKey a) = tied_self pair_total a

pub name_true : (a b : Name) → is_name a b ≡ true → a ≡ b
name_true (OfAccount a) (OfAccount b) h = ap OfAccount (eqb-true a b h)
name_true (OfQueue a) (OfQueue b) h = ap OfQueue (eqb-true a b h)
name_true (OfOwner a) (OfOwner b) h = ap OfOwner (eqb-true a b h)
name_true _ _ h = absurd (false≢true h)

pub name_refl : (a : Name) → is_name a a ≡ true
name_refl (OfAccount a) = eq-eqb a a refl
name_refl (OfQueue a) = eq-eqb a a refl
name_refl (OfOwner a) = eq-eqb a a refl

pub at_put : (c : Change) (r : Tables) (k : Key)
    → row_at (put c r) k ≡ cond (is_key k (key_of c)) (row_of c) (row_at r k)
at_put (SetAccount k v) r (AccountKey q) = ap (under AccountRow) (get-set_row nat_cmp_total k v r.accounts q)
    ∙ under-cond AccountRow (eq_by_cmp nat_cmp q k) v (get r.accounts q)
at_put (SetEntry k v) r (EntryKey q) = ap (under EntryRow) (get-set_row pair_total k v r.queues q)
    ∙ under-cond EntryRow (eq_by_cmp pair_cmp q k) v (get r.queues q)
at_put (SetSlip k v) r (SlipKey q) = ap (under SlipRow) (get-set_row pair_total k v r.journal q)
    ∙ under-cond SlipRow (eq_by_cmp pair_cmp q k) v (get r.journal q)
at_put _ r _ = refl

-- undo records
pub record_key_of : (c : Change) (v : Option Row) → record_key (record_of c v) ≡ key_of c
record_key_of (SetAccount k v) before = go v (account_in before)
  where
    go : (v w : Option Account) → record_key (account_record k v w) ≡ AccountKey k
    go None w = refl
    go (Some a) None = refl
    go (Some a) (Some b) = test (a.owner == b.owner)
      where
        test : (t : Bool) → record_key (cond t (Had k b.visits b.balance) (WasAccount k (Some b))) ≡ AccountKey k
        test true = refl
        test false = refl
record_key_of (SetEntry k v) before = refl
record_key_of (SetSlip k v) before = refl

pub account_back : (v : Option Account) → account_in (under AccountRow v) ≡ v
account_back None = refl
account_back (Some a) = refl

entry_back : (v : Option Entry) → entry_in (under EntryRow v) ≡ v
entry_back None = refl
entry_back (Some a) = refl

slip_back : (v : Option ℕ) → slip_in (under SlipRow v) ≡ v
slip_back None = refl
slip_back (Some a) = refl

pub restores : (c : Change) (r : Tables) → restore (record_of c (row_at r (key_of c))) (row_of c) ≡ row_at r (key_of c)
restores (SetAccount k v) r = ap (λ w. restore (account_record k v w) (under AccountRow v))
    (account_back (get r.accounts k)) ∙ go v (get r.accounts k)
  where
    go : (v w : Option Account) → restore (account_record k v w) (under AccountRow v) ≡ under AccountRow w
    go None w = refl
    go (Some a) None = refl
    go (Some a) (Some b) = test (a.owner == b.owner) refl
      where
        test : (t : Bool) → a.owner == b.owner ≡ t
            → restore (cond t (Had k b.visits b.balance) (WasAccount k (Some b))) (Some (AccountRow a)) ≡ Some
            (AccountRow b)
        test true e = ap (λ (n : ℕ). Some (AccountRow (record { owner = n; visits = b.visits; balance = b.balance })))
            (eqb-true a.owner b.owner e)
        test false e = refl
restores (SetEntry k v) r = ap (under EntryRow) (entry_back (get r.queues k))
restores (SetSlip k v) r = ap (under SlipRow) (slip_back (get r.journal k))

pub at_put_back : (b : Record) (r : Tables) (k : Key)
    → row_at (put_back b r) k ≡ cond (is_key k (record_key b)) (restore b (row_at r k)) (row_at r k)
at_put_back (WasAccount k v) r q = at_put (SetAccount k v) r q
at_put_back (Had k n b) r q = at_put (SetAccount k (under (as_it_had n b) (get r.accounts k))) r q
    ∙ go (is_key q (AccountKey k)) refl
  where
    go : (t : Bool) → is_key q (AccountKey k) ≡ t
        → cond t (under AccountRow (under (as_it_had n b) (get r.accounts k))) (row_at r q) ≡ cond t
        (under AccountRow (under (as_it_had n b) (account_in (row_at r q)))) (row_at r q)
    go true e =
        ap (λ v. under AccountRow (under (as_it_had n b) v))
        (sym (account_back (get r.accounts k)) ∙ ap (λ z. account_in (row_at r z))
        (sym (key_true q (AccountKey k) e)))
    go false e = refl
at_put_back (WasEntry k v) r q = at_put (SetEntry k v) r q
at_put_back (WasSlip k v) r q = at_put (SetSlip k v) r q

-- a row under its constructor is one row
pub under_inj : {A B : Type 0} (f : A → B) → ((a b : A) → f a ≡ f b → a ≡ b) → (v w : Option A) → under f v ≡ under f w
    → v ≡ w
under_inj f i None None e = refl
under_inj f i None (Some b) e = cc
under_inj f i (Some a) None e = cc
under_inj f i (Some a) (Some b) e = ap Some (i a b (let h : f a ≡ f b = cc in h))

pub account_inj : (v w : Option Account) → under AccountRow v ≡ under AccountRow w → v ≡ w
account_inj = under_inj AccountRow (λ a b e. cc)

pub entry_inj : (v w : Option Entry) → under EntryRow v ≡ under EntryRow w → v ≡ w
entry_inj = under_inj EntryRow (λ a b e. cc)

pub slip_inj : (v w : Option ℕ) → under SlipRow v ≡ under SlipRow w → v ≡ w
slip_inj = under_inj SlipRow (λ a b e. cc)

pub same_tables : (r s : Tables) → ((k : Key) → row_at r k ≡ row_at s k) → r ≡ s
same_tables r s h =
    let a : r.accounts ≡ s.accounts = same_map nat_cmp_total nat_cmp-IsAntisymmetric r.accounts s.accounts
    (λ q. account_inj (get r.accounts q) (get s.accounts q) (h (AccountKey q))) in
    let e : r.queues ≡ s.queues = same_map pair_total pair_exact r.queues s.queues
    (λ q. entry_inj (get r.queues q) (get s.queues q) (h (EntryKey q))) in
    let j : r.journal ≡ s.journal = same_map pair_total pair_exact r.journal s.journal
    (λ q. slip_inj (get r.journal q) (get s.journal q) (h (SlipKey q))) in
    λ i. record { accounts = a i; queues = e i; journal = j i }

-- a queue depends on its own entries alone
pub same_queue : (d : ℕ) (r s : Tables) → ((k : ℕ × ℕ) → d ≡ k.0 → row_at r (EntryKey k) ≡ row_at s (EntryKey k))
    → queue d r ≡ queue d s
same_queue d r s h = same_map pair_total pair_exact (queue d r) (queue d s)
    (λ q. kept r q ∙ (go q (cases_Bool (q.0 == d)) ∙ sym (kept s q)))
  where
    kept : (t : Tables) (q : ℕ × ℕ) → get (queue d t) q ≡ cond (q.0 == d) (get t.queues q) None
    kept t q = get-retain_keys t.queues (λ k. k.0 == d) q (λ x e. ap (λ (z : ℕ × ℕ). z.0 == d) (sym (pair_exact q x e)))

    go : (q : ℕ × ℕ) → (q.0 == d ≡ true) ⊎ (q.0 == d ≡ false)
        → cond (q.0 == d) (get r.queues q) None ≡ cond (q.0 == d) (get s.queues q) None
    go q (inl e) = ap (λ (v : Option Entry). cond (q.0 == d) v None)
        (entry_inj (get r.queues q) (get s.queues q) (h q (sym (eqb-true q.0 d e))))
    go q (inr e) = rw e refl

-- an owner's accounts depend on that facet alone
pub same_owned : (n : ℕ) (r s : Tables)
    → ((k : ℕ) → part (IsOwned k n) (row_at r (AccountKey k)) ≡ part (IsOwned k n) (row_at s (AccountKey k)))
    → owned_by n r ≡ owned_by n s
same_owned n r s h = same_set nat_cmp_total nat_cmp-IsAntisymmetric (owned_by n r) (owned_by n s)
    (λ k. kept r k ∙ h k ∙ sym (kept s k))
  where
    there : (v : Option Account) → (is_some v && is_owned n v) ≡ is_owned n (account_in (under AccountRow v))
    there None = refl
    there (Some a) = refl

    kept : (t : Tables) (k : ℕ) → contains (owned_by n t) k ≡ part (IsOwned k n) (row_at t (AccountKey k))
    kept t k =
        contains-retain (from_list (keys t.accounts)) (λ q. is_owned n (get t.accounts q)) k
        (λ q e. ap (λ z. is_owned n (get t.accounts z)) (sym (nat_cmp-IsAntisymmetric k q e)))
        ∙ ap (λ b. b && is_owned n (get t.accounts k))
        (contains-from_list nat_cmp_total (keys t.accounts) k ∙ sym (contains_key-keys t.accounts k))
        ∙ there (get t.accounts k)

pub redoes : (c : Change) (v : Option Row) (r : Tables) → row_at r (key_of c) ≡ row_of c
    → redo (record_of c v) r ≡ Some c
redoes (SetAccount k x) v r h = go x (account_in v) ∙ ap (λ z. Some (SetAccount k z))
    (account_inj (get r.accounts k) x h)
  where
    go : (x w : Option Account) → redo (account_record k x w) r ≡ Some (SetAccount k (get r.accounts k))
    go None w = refl
    go (Some a) None = refl
    go (Some a) (Some b) = test (a.owner == b.owner)
      where
        test : (t : Bool) → redo (cond t (Had k b.visits b.balance) (WasAccount k (Some b))) r ≡ Some
            (SetAccount k (get r.accounts k))
        test true = refl
        test false = refl
redoes (SetEntry k x) v r h = ap (λ z. Some (SetEntry k z)) (entry_inj (get r.queues k) x h)
redoes (SetSlip k x) v r h = ap (λ z. Some (SetSlip k z)) (slip_inj (get r.journal k) x h)

-- whether a change is accepted is told by the row of its key
pub same_accepts : (c : Change) (r s : Tables) → row_at r (key_of c) ≡ row_at s (key_of c) → Accepts c r → Accepts c s
same_accepts (SetAccount k None) r s h a = a
same_accepts (SetAccount k (Some x)) r s h a = ap is_some (sym (account_inj (get r.accounts k) (get s.accounts k) h))
    ∙ a
same_accepts (SetEntry k None) r s h a = ap is_some (sym (entry_inj (get r.queues k) (get s.queues k) h)) ∙ a
same_accepts (SetEntry k (Some x)) r s h a = sym (entry_inj (get r.queues k) (get s.queues k) h) ∙ a
same_accepts (SetSlip k None) r s h a = a
same_accepts (SetSlip k (Some n)) r s h a = sym (slip_inj (get r.journal k) (get s.journal k) h) ∙ a

-- the least entry of a queue is an entry of that queue
pub least_found : (d : ℕ) (r : Tables) (k : ℕ × ℕ) (e : Entry) → least d r ≡ Some (k, e)
    → get r.queues (d, k.1) ≡ Some e
least_found d r k e h = by_queue (cases_Bool (k.0 == d))
  where
    at_head : (es : List ((ℕ × ℕ) × Entry)) → head es ≡ Some (k, e) → find pair_cmp k es ≡ Some e
    at_head [] q = cc
    at_head (y ∷ es) q =
        ap (λ (z : (ℕ × ℕ) × Entry). cond (eq_by_cmp pair_cmp k z.0) (Some z.1) (find pair_cmp k es))
        (some_inj y (k, e) q)
        ∙ ap (λ (b : Bool). cond b (Some e) (find pair_cmp k es)) (tied_self pair_total k)

    there : cond (k.0 == d) (get r.queues k) None ≡ Some e
    there =
        sym (get-retain_keys r.queues (λ k. k.0 == d) k (λ x q. ap (λ (z : ℕ × ℕ). z.0 == d) (sym (pair_exact k x q))))
        ∙ get-entries (queue d r) k ∙ at_head (entries (queue d r)) h

    by_queue : (k.0 == d ≡ true) ⊎ (k.0 == d ≡ false) → get r.queues (d, k.1) ≡ Some e
    by_queue (inl b) = ap (λ (z : ℕ). get r.queues (z, k.1)) (sym (eqb-true k.0 d b)) ∙ rw b at there
    by_queue (inr b) = let z : None ≡ Some e = rw b at there in cc
