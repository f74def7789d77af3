-- A walk along a key's chain reads the key's later records.
use Rattle.std.proofs.Common.{◌≡◌, ℕ, suc, ◌-◌, ◌≤◌, Bool, true, false, cond, List, [], ◌∷◌, ◌++◌, length}
use Rattle.std.proofs.Common.{refl, sym, ap, ◌∙◌, subst, arith}
use Rattle.std.specs.Prelude.{nat_lt}
use Rattle.std.proofs.lemmas.Bool.{ltb-false, le-ltb}
use Rattle.std.proofs.lemmas.List.{append_assoc}
use Rattle.oe_rows.specs.declared.keys.Key.{Key}
use Rattle.oe_model.specs.Rows.{is_key}
use Rattle.oe_model.specs.Changes.{Record, record_key}
use Rattle.oe_model.specs.System.{terminal_limit, system}
use Rattle.oe_theory.specs.Store.{all_below}
use Rattle.oe_log.specs.Records.{Logged}
use Rattle.oe_log.specs.Log.{SegmentLog, Committed as CommitSegment, records_at, total_count}
use Rattle.oe_undo.specs.declared.holders.Holder.{Holder}
use Rattle.oe_undo.specs.declared.holders.Holder.TheVariants.{Open, At}
use Rattle.oe_undo.specs.Held.{Held, held_by, held_open, held_commits, all_held, of_key, is_later, count_later}
use Rattle.oe_undo.specs.Restored.{later_of, has_later}
use Rattle.oe_undo.specs.Chains.{records_after}

pub of_key-append : (k : Key) (xs ys : List Held) → of_key k (xs ++ ys) ≡ of_key k xs ++ of_key k ys
of_key-append k [] ys = refl
of_key-append k (x ∷ xs) ys = go (is_key k (record_key x.logged.before)) (of_key-append k xs ys)
  where
    go : (b : Bool) → of_key k (xs ++ ys) ≡ of_key k xs ++ of_key k ys
        → cond b (x ∷ of_key k (xs ++ ys)) (of_key k (xs ++ ys)) ≡ cond b (x ∷ of_key k xs) (of_key k xs) ++ of_key k ys
    go true i = ap (λ (l : List Held). x ∷ l) i
    go false i = i

-- ---- records up to the first that is not later

module _ (m : ℕ) where
  none_walked : (xs : List Held) → later_of m xs ≡ [] → records_after m xs ≡ []
  none_walked [] e = refl
  none_walked (x ∷ xs) e = go (is_later m x.holder) e
    where
      go : (c : Bool) → cond c (x.logged.before ∷ later_of m xs) (later_of m xs) ≡ []
          → cond c (x.logged.before ∷ records_after m xs) [] ≡ []
      go true e = let no : ⊥ = cc in absurd no
      go false e = refl

  module _ (k : Key) where
    -- what a later holder has is read whole
    later_walked : (h : Holder) (rs : List Logged) (rest : List Held) → is_later m h ≡ true
        → records_after m rest ≡ later_of m rest
        → records_after m (of_key k (held_by h rs) ++ rest) ≡ later_of m (of_key k (held_by h rs) ++ rest)
    later_walked h [] rest e same = same
    later_walked h (r ∷ rs) rest e same = go (is_key k (record_key r.before)) (later_walked h rs rest e same)
      where
        go : (c : Bool) → records_after m (of_key k (held_by h rs) ++ rest)
            ≡ later_of m (of_key k (held_by h rs) ++ rest)
            → records_after m (cond c (record { logged = r; holder = h } ∷ of_key k (held_by h rs))
            (of_key k (held_by h rs))
            ++ rest)
            ≡ later_of m (cond c (record { logged = r; holder = h } ∷ of_key k (held_by h rs))
            (of_key k (held_by h rs)) ++ rest)
        go true i = rw e (ap (λ (bs : List Record). r.before ∷ bs) i)
        go false i = i

    -- what another holder has is none
    pub past_later : (h : Holder) (rs : List Logged) (rest : List Held) → is_later m h ≡ false
        → later_of m rest ≡ [] → later_of m (of_key k (held_by h rs) ++ rest) ≡ []
    past_later h [] rest e none = none
    past_later h (r ∷ rs) rest e none = go (is_key k (record_key r.before)) (past_later h rs rest e none)
      where
        go : (c : Bool) → later_of m (of_key k (held_by h rs) ++ rest) ≡ []
            → later_of m (cond c (record { logged = r; holder = h } ∷ of_key k (held_by h rs))
            (of_key k (held_by h rs)) ++ rest) ≡ []
        go true i = rw e i
        go false i = i

    pub none_later : (n : ℕ) (cs : List CommitSegment) → n ≤ m → later_of m (of_key k (held_commits n cs)) ≡ []
    none_later n [] h = refl
    none_later n (c ∷ cs) h =
        ap (later_of m) (of_key-append k (held_by (At n) c.records) (held_commits (n - 1) cs))
        ∙ past_later (At n) c.records (of_key k (held_commits (n - 1) cs)) (le-ltb m n h)
        (none_later (n - 1) cs (omega (arith, h)))

    commits_walked : (n : ℕ) (cs : List CommitSegment)
        → records_after m (of_key k (held_commits n cs)) ≡ later_of m (of_key k (held_commits n cs))
    commits_walked n [] = refl
    commits_walked n (c ∷ cs) = go (nat_lt m n) refl (commits_walked (n - 1) cs)
      where
        go : (b : Bool) → nat_lt m n ≡ b → records_after m (of_key k (held_commits (n - 1) cs)) ≡ later_of m
            (of_key k (held_commits (n - 1) cs))
            → records_after m (of_key k (held_commits n (c ∷ cs))) ≡ later_of m (of_key k (held_commits n (c ∷ cs)))
        go true e i =
            subst (λ xs. records_after m xs ≡ later_of m xs)
            (sym (of_key-append k (held_by (At n) c.records) (held_commits (n - 1) cs)))
            (later_walked (At n) c.records (of_key k (held_commits (n - 1) cs)) e i)
        go false e i =
            let none = none_later n (c ∷ cs) (ltb-false m n e) in
            none_walked (of_key k (held_commits n (c ∷ cs))) none ∙ sym none

    open_walked : (f : ℕ → List Logged) (ts : List ℕ) (rest : List Held)
        → records_after m (of_key k rest) ≡ later_of m (of_key k rest)
        → records_after m (of_key k (held_open f ts ++ rest)) ≡ later_of m (of_key k (held_open f ts ++ rest))
    open_walked f [] rest same = same
    open_walked f (t ∷ ts) rest same =
        subst (λ xs. records_after m xs ≡ later_of m xs)
        (sym (ap (of_key k) (append_assoc (held_by (Open t) (f t)) (held_open f ts) rest)
        ∙ of_key-append k (held_by (Open t) (f t)) (held_open f ts ++ rest)))
        (later_walked (Open t) (f t) (of_key k (held_open f ts ++ rest)) refl (open_walked f ts rest same))

-- a walk reads the key's records that are later than the moment, and no other
pub walk_reads : (k : Key) (u : SegmentLog) (m : ℕ)
    → records_after m (of_key k (all_held u)) ≡ later_of m (of_key k (all_held u))
walk_reads k u m = open_walked m k (records_at u) (all_below system terminal_limit)
    (held_commits (total_count u) u.committed) (commits_walked m k (total_count u) u.committed)

-- ---- how many there are

pub later_counted : (m : ℕ) (xs : List Held) → length (later_of m xs) ≡ count_later m xs
later_counted m [] = refl
later_counted m (x ∷ xs) = go (is_later m x.holder) (later_counted m xs)
  where
    go : (c : Bool) → length (later_of m xs) ≡ count_later m xs
        → length (cond c (x.logged.before ∷ later_of m xs) (later_of m xs))
        ≡ cond c (suc (count_later m xs)) (count_later m xs)
    go true i = ap suc i
    go false i = i

pub none_has : (m : ℕ) (xs : List Held) → later_of m xs ≡ [] → has_later m xs ≡ false
none_has m [] e = refl
none_has m (x ∷ xs) e = go (is_later m x.holder) e (none_has m xs)
  where
    go : (c : Bool) → cond c (x.logged.before ∷ later_of m xs) (later_of m xs) ≡ []
        → (later_of m xs ≡ [] → has_later m xs ≡ false) → cond c true (has_later m xs) ≡ false
    go true e rest = let no : ⊥ = cc in absurd no
    go false e rest = rest e

-- where no record is later, there is none to put back
pub has_none : (m : ℕ) (xs : List Held) → has_later m xs ≡ false → later_of m xs ≡ []
has_none m [] e = refl
has_none m (x ∷ xs) e = go (is_later m x.holder) e (has_none m xs)
  where
    go : (c : Bool) → cond c true (has_later m xs) ≡ false → (has_later m xs ≡ false → later_of m xs ≡ [])
        → cond c (x.logged.before ∷ later_of m xs) (later_of m xs) ≡ []
    go true e rest = let no : ⊥ = cc in absurd no
    go false e rest = rest e
