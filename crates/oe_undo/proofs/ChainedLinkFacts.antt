-- A key's link leads along the key's records.
use Rattle.std.proofs.Common.{◌≡◌, ℕ, suc, ◌+◌, ◌-◌, ◌≤◌, Bool, true, false, cond, inl, inr, List, [], ◌∷◌, ◌++◌}
use Rattle.std.proofs.Common.{length, map, get_or, Option, None, Some, refl, sym, ap, ◌∙◌, subst, arith}
use Rattle.std.specs.List.{AllByRecursion}
use Rattle.std.proofs.lemmas.Bool.{cases_eq, le-ltb}
use Rattle.oe_rows.specs.declared.keys.Key.{Key}
use Rattle.oe_model.specs.Rows.{is_key}
use Rattle.oe_rows.specs.declared.rows.Row.{Row}
use Rattle.oe_model.specs.Changes.{Record, record_key, restore}
use Rattle.oe_model.specs.System.{terminal_limit, system}
use Rattle.oe_model.proofs.RowFacts.{key_true}
use Rattle.oe_theory.specs.Store.{all_below}
use Rattle.oe_log.specs.Records.{Logged, IsAmong}
use Rattle.oe_log.specs.Log.{SegmentLog, Committed as CommitSegment, records_at, records_of, committed_records}
use Rattle.oe_log.specs.Log.{total_count}
use Rattle.oe_log.specs.Stands.{model_records}
use Rattle.oe_undo.specs.declared.holders.Link.{Link}
use Rattle.oe_undo.specs.declared.holders.Holder.{Holder}
use Rattle.oe_undo.specs.declared.holders.Holder.TheVariants.{Open, At}
use Rattle.oe_undo.specs.Held.{Held, held_by, held_open, held_commits, all_held, of_key, horizon, is_later, count_later}
use Rattle.oe_undo.specs.Chains.{link_to, link_from, IsOwnOrDone, IsSeenBy, HaveNone, IsAlone, IsForgotten, IsEnd}
use Rattle.oe_undo.specs.Chains.{IsChain, AreChained, records_after}
use Rattle.oe_undo.specs.Restored.{later_of, has_later, row_before}
use Rattle.oe_undo.specs.Laws.{IsWhole}
use Rattle.oe_undo.specs.Walks.{records_by, leads_later, Walks, Ends, Reads}
use Rattle.oe_undo.proofs.ChainWalkFacts.{walk_reads, later_counted, none_has}

-- each record is one of its holder's
abbrev pub Stands : SegmentLog → Held → Type 0
Stands u r = IsAmong r.logged (records_by u r.holder)

abbrev pub AllStand : SegmentLog → List Held → Type 0
AllStand u xs = AllByRecursion (Stands u) xs

-- ---- all of them do

stand_both : (u : SegmentLog) (xs ys : List Held) → AllStand u xs → AllStand u ys → AllStand u (xs ++ ys)
stand_both u [] ys a b = b
stand_both u (x ∷ xs) ys a b = (a.0, stand_both u xs ys a.1 b)

-- those of one segment, the last of whose records these are
stand_by : (u : SegmentLog) (h : Holder) (rs : List Logged) → ((r : Logged) → IsAmong r rs → IsAmong r (records_by u h))
    → AllStand u (held_by h rs)
stand_by u h [] among = tt
stand_by u h (r ∷ rs) among = (among r (inl refl), stand_by u h rs (λ x i. among x (inr i)))

stand_open : (u : SegmentLog) (ts : List ℕ) → AllStand u (held_open (records_at u) ts)
stand_open u [] = tt
stand_open u (t ∷ ts) = stand_both u (held_by (Open t) (records_at u t)) (held_open (records_at u) ts)
    (stand_by u (Open t) (records_at u t) (λ r i. i)) (stand_open u ts)

stand_commits : (u : SegmentLog) (n i : ℕ) (cs : List CommitSegment) → n + i ≡ total_count u
    → i + length cs ≤ total_count u
    → ((j : ℕ) → get_or (committed_records u) (j + i) [] ≡ get_or (map records_of cs) j [])
    → AllStand u (held_commits n cs)
stand_commits u n i [] at few look = tt
stand_commits u n i (c ∷ cs) at few look =
    let here : total_count u - n ≡ 0 + i = omega (arith, at) in
    let these : records_by u (At n) ≡ c.records = ap (λ j. get_or (committed_records u) j []) here ∙ look 0 in
    stand_both u (held_by (At n) c.records) (held_commits (n - 1) cs)
    (stand_by u (At n) c.records (λ r a. subst (IsAmong r) (sym these) a))
    (stand_commits u (n - 1) (suc i) cs (omega (arith, at, few)) (omega (arith, few)) (λ j.
    let next : j + suc i ≡ suc j + i = omega arith in
    ap (λ z. get_or (committed_records u) z []) next ∙ look (suc j)))

pub all_stand : (u : SegmentLog) → IsWhole u → AllStand u (all_held u)
all_stand u whole =
    stand_both u (held_open (records_at u) (all_below system terminal_limit)) (held_commits (total_count u) u.committed)
    (stand_open u (all_below system terminal_limit))
    (stand_commits u (total_count u) 0 u.committed (omega arith) (omega (arith, whole.commits)) (λ j.
    let same : j + 0 ≡ j = omega arith in
    ap (λ z. get_or (committed_records u) z []) same))

pub stand_of_key : (u : SegmentLog) (k : Key) (xs : List Held) → AllStand u xs → AllStand u (of_key k xs)
stand_of_key u k [] a = tt
stand_of_key u k (x ∷ xs) a = go (is_key k (record_key x.logged.before)) (stand_of_key u k xs a.1)
  where
    go : (c : Bool) → AllStand u (of_key k xs) → AllStand u (cond c (x ∷ of_key k xs) (of_key k xs))
    go true i = (a.0, i)
    go false i = i

-- ---- the walk

pub end_not_later : (h m : ℕ) (l : Option Link) → h ≤ m → IsEnd h l → leads_later m l ≡ false
end_not_later h m None le e = refl
end_not_later h m (Some l) le e = go l.holder e
  where
    go : (x : Holder) → IsForgotten h x → is_later m x ≡ false
    go (Open t) f = absurd f
    go (At n) f = le-ltb m n (omega (arith, le, f))

module _ (u : SegmentLog) (h m : ℕ) (le : h ≤ m) where
  walks_on : (xs : List Held) (l : Option Link) (now : Option Row) → AllStand u xs → IsChain h l xs
      → Walks u m l now (length (records_after m xs)) (row_before (records_after m xs) now)
  walks_on [] l now stand c = Ends l now (end_not_later h m l le c)
  walks_on (r ∷ rs) l now stand c =
      subst (λ z. Walks u m z now (length (records_after m (r ∷ rs))) (row_before (records_after m (r ∷ rs)) now))
      (sym c.0.leads)
      (go (is_later m r.holder) refl
      (walks_on rs (link_from r.holder r.logged.previous) (restore r.logged.before now) stand.1 c.1))
    where
      go : (b : Bool) → is_later m r.holder ≡ b
          → Walks u m (link_from r.holder r.logged.previous) (restore r.logged.before now) (length (records_after m rs))
          (row_before (records_after m rs) (restore r.logged.before now))
          → Walks u m (Some (link_to r)) now (length (cond b (r.logged.before ∷ records_after m rs) []))
          (row_before (cond b (r.logged.before ∷ records_after m rs) []) now)
      go true e w = Reads r.logged.address r.holder r.logged.previous r.logged.before now (length (records_after m rs))
          (row_before (records_after m rs) (restore r.logged.before now)) e stand.0 w
      go false e w = Ends (Some (link_to r)) now e

  -- the first record tells whether there is a later one
  leads_first : (xs : List Held) (l : Option Link) → records_after m xs ≡ later_of m xs → IsChain h l xs
      → leads_later m l ≡ has_later m xs
  leads_first [] l same c = end_not_later h m l le c
  leads_first (r ∷ rs) l same c = ap (leads_later m) c.0.leads ∙ go (is_later m r.holder) same
    where
      go : (b : Bool) → cond b (r.logged.before ∷ records_after m rs) [] ≡ cond b (r.logged.before ∷ later_of m rs)
          (later_of m rs)
          → b ≡ cond b true (has_later m rs)
      go true e = refl
      go false e = sym (none_has m rs (sym e))

pub chains_are_walked : (u : SegmentLog) (links : Key → Option Link) (k : Key) (m : ℕ) (now : Option Row) → IsWhole u
    → AreChained u links → horizon u ≤ m
    → Walks u m (links k) now (count_later m (of_key k (all_held u)))
    (row_before (later_of m (of_key k (all_held u))) now)
chains_are_walked u links k m now whole c le =
    let xs : List Held = of_key k (all_held u) in
    subst (λ n. Walks u m (links k) now n (row_before (later_of m xs) now)) (later_counted m xs)
    (subst (λ (bs : List Record). Walks u m (links k) now (length bs) (row_before bs now)) (walk_reads k u m)
    (walks_on u (horizon u) m le xs (links k) now (stand_of_key u k (all_held u) (all_stand u whole)) (c k)))

-- a key's link tells whether it has a later record
pub link_tells : (u : SegmentLog) (links : Key → Option Link) (k : Key) (m : ℕ) → AreChained u links → horizon u ≤ m
    → leads_later m (links k) ≡ has_later m (of_key k (all_held u))
link_tells u links k m c le = leads_first u (horizon u) m le (of_key k (all_held u)) (links k) (walk_reads k u m) (c k)

-- ---- who sees a link

all_of_key : (k : Key) (xs : List Held) → AllByRecursion (λ r. record_key r.logged.before ≡ k) (of_key k xs)
all_of_key k [] = tt
all_of_key k (x ∷ xs) = go (is_key k (record_key x.logged.before)) refl (all_of_key k xs)
  where
    go : (c : Bool) → is_key k (record_key x.logged.before) ≡ c
        → AllByRecursion (λ r. record_key r.logged.before ≡ k) (of_key k xs)
        → AllByRecursion (λ r. record_key r.logged.before ≡ k) (cond c (x ∷ of_key k xs) (of_key k xs))
    go true e i = (sym (key_true k (record_key x.logged.before) e), i)
    go false e i = i

not_among : (k : Key) (r : Logged) (rs : List Logged) → HaveNone k (model_records rs) → IsAmong r rs
    → record_key r.before ≡ k → ⊥
not_among k r [] none i e = i
not_among k r (x ∷ xs) none (inl q) e = none.0 (ap (λ (z : Logged). record_key z.before) q ∙ e)
not_among k r (x ∷ xs) none (inr i) e = not_among k r xs none.1 i e

-- the holder of a record of the key
alone_holds : (u : SegmentLog) (t : ℕ) (k : Key) (r : Logged) (h : Holder) → IsAlone u t k → IsAmong r (records_by u h)
    → record_key r.before ≡ k → IsOwnOrDone t h
alone_holds u t k r (At m) alone among e = tt
alone_holds u t k r (Open s) alone among e =
    elim (cases_eq s t) [ inl q ↦ q | inr ne ↦ absurd (not_among k r (records_at u s) (alone s ne) among e) ]

end_seen : (h t : ℕ) (l : Option Link) → IsEnd h l → IsSeenBy t l
end_seen h t None e = tt
end_seen h t (Some l) e = go l.holder e
  where
    go : (x : Holder) → IsForgotten h x → IsOwnOrDone t x
    go (Open s) f = absurd f
    go (At n) f = tt

first_seen : (u : SegmentLog) (t : ℕ) (k : Key) (h : ℕ) (l : Option Link) (xs : List Held) → IsAlone u t k
    → AllStand u xs
    → AllByRecursion (λ r. record_key r.logged.before ≡ k) xs → IsChain h l xs → IsSeenBy t l
first_seen u t k h l [] alone stand keys c = end_seen h t l c
first_seen u t k h l (r ∷ rs) alone stand keys c = subst (IsSeenBy t) (sym c.0.leads)
    (alone_holds u t k r.logged r.holder alone stand.0 keys.0)

pub sees_alone : (u : SegmentLog) (links : Key → Option Link) (t : ℕ) (k : Key) → IsWhole u → AreChained u links
    → IsAlone u t k → IsSeenBy t (links k)
sees_alone u links t k whole c alone =
    first_seen u t k (horizon u) (links k) (of_key k (all_held u)) alone
    (stand_of_key u k (all_held u) (all_stand u whole))
    (all_of_key k (all_held u)) (c k)
