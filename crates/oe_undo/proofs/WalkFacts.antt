-- A walk along a key's records: each read goes on, and fewer are left after it.
use Rattle.std.proofs.Common.{◌≡◌, ℕ, zero, suc, ◌+◌, ◌-◌, ◌^◌, ◌<◌, ◌≤◌, ◌==◌, min, Bool, true, false, cond, not, ◌&&◌}
use Rattle.std.proofs.Common.{◌||◌, List, [], ◌∷◌, Option, None, Some, refl, sym, ap, ◌∙◌, subst, inl, inr, arith}
use Rattle.std.proofs.lemmas.Bool.{both_ways, and_parts, and_from, or_cases, or_left, or_right, not_from_false, eq-eqb}
use Rattle.std.proofs.lemmas.Bool.{eqb-true}
use Rattle.oe_rows.specs.declared.rows.Row.{Row}
use Rattle.oe_model.specs.Changes.{Record, restore}
use Rattle.oe_extent.specs.declared.extents.Address.{Address}
use Rattle.oe_layout.specs.declared.links.Previous.{Previous}
use Rattle.oe_log.specs.Records.{Logged, log_entry, IsAmong, HasAddress, IsRecordAt}
use Rattle.oe_log.specs.Log.{SegmentLog}
use Rattle.oe_undo.specs.declared.holders.Link.{Link}
use Rattle.oe_undo.specs.Held.{is_later}
use Rattle.oe_undo.specs.Chains.{link_from}
use Rattle.oe_undo.specs.Walks.{records_by, leads_later, Walks, Ends, Reads}
use Rattle.oe_log.specs.Ticks.{ticks_with}

-- ---- records at an address

abbrev is_address : Address → Address → Bool
is_address a b = (a.extent == b.extent) && (a.offset == b.offset)

same_address : (a b : Address) → is_address a b ≡ true → a ≡ b
same_address a b e =
    let q = and_parts (a.extent == b.extent) (a.offset == b.offset) e in
    λ i. record { extent = eqb-true a.extent b.extent q.0 i; offset = eqb-true a.offset b.offset q.1 i }

own_address : (a : Address) → is_address a a ≡ true
own_address a = and_from (a.extent == a.extent) (a.offset == a.offset) (eq-eqb a.extent a.extent refl)
    (eq-eqb a.offset a.offset refl)

-- what leads on from one of these records at that address passes a test
abbrev passes : Address → (Previous → Bool) → List Logged → Bool
passes a f [] = false
passes a f (r ∷ rs) = (is_address a r.address && f r.previous) || passes a f rs

passes_among : (a : Address) (f : Previous → Bool) (p : Previous) (b : Record) (rs : List Logged)
    → IsAmong (log_entry a p b) rs → f p ≡ true
    → passes a f rs ≡ true
passes_among a f p b [] there e = absurd there
passes_among a f p b (r ∷ rs) (inl same) e =
    or_left (is_address a r.address && f r.previous) (passes a f rs)
    (subst (λ x. (is_address a x.address && f x.previous) ≡ true) (sym same)
    (and_from (is_address a a) (f p) (own_address a) e))
passes_among a f p b (r ∷ rs) (inr there) e =
    or_right (is_address a r.address && f r.previous) (passes a f rs) (passes_among a f p b rs there e)

-- the record that is told there passes it then
told_passes : (a : Address) (f : Previous → Bool) (told : Previous × Record) (rs : List Logged)
    → IsRecordAt rs a told → passes a f rs ≡ true
    → f told.0 ≡ true
told_passes a f told [] at e = cc
told_passes a f told (r ∷ rs) at e =
    elim (or_cases (is_address a r.address && f r.previous) (passes a f rs) e) [
      | inl q ↦
          let parts = and_parts (is_address a r.address) (f r.previous) q in
          let here : r ≡ log_entry a r.previous r.before =
          λ i. record {
            address = sym (same_address a r.address parts.0) i;
            previous = r.previous;
            before = r.before;
          } in
          subst (λ x. f x.0 ≡ true) (sym (at r.previous r.before (inl here))) parts.1
      | inr q ↦ told_passes a f told rs (λ p b there. at p b (inr there)) q
    ]

-- ---- how many reads are left

-- a walk from the link can end after so many reads
abbrev can_end : SegmentLog → ℕ → ℕ → Option Link → Bool
can_end u m zero l = not (leads_later m l)
can_end u m (suc n) None = false
can_end u m (suc n) (Some l) = passes l.address (λ p. can_end u m n (link_from l.holder p)) (records_by u l.holder)

-- the least number that passes a test, or the limit
abbrev least : (ℕ → Bool) → ℕ → ℕ
least f zero = zero
least f (suc n) = cond (f 0) 0 (suc (least (λ i. f (suc i)) n))

-- the least number of reads after which a walk from the link can end
unfoldable pub reads_left : SegmentLog → ℕ → ℕ → Option Link → ℕ
reads_left u m most l = least (λ n. can_end u m n l) (suc most)

least_below : (n j : ℕ) (f g : ℕ → Bool) → ((i : ℕ) → f i ≡ true → g i ≡ true) → g j ≡ true → j ≤ n
    → least g (suc n) ≤ least f n
least_below n zero f g more e le = rw e (omega arith)
least_below zero (suc j) f g more e le = absurd (omega (arith, le))
least_below (suc n) (suc j) f g more e le = go (f 0) (g 0) refl refl
    (least_below n j (λ i. f (suc i)) (λ i. g (suc i)) (λ i. more (suc i)) e (omega (arith, le)))
  where
    go : (x y : Bool) → f 0 ≡ x → g 0 ≡ y → least (λ i. g (suc i)) (suc n) ≤ least (λ i. f (suc i)) n
        → cond y 0 (suc (least (λ i. g (suc i)) (suc n))) ≤ cond x 0 (suc (least (λ i. f (suc i)) n))
    go x true p q le = omega arith
    go true false p q le = absurd (both_ways (g 0) q (more 0 p))
    go false false p q le = omega (arith, le)

-- What is left of a walk that reads `all` records and is left `past` of a row: from this link on, where `row` is left
-- so far, and `before` records were counted before it and `now` so far
pub record Goes (u : SegmentLog) (m all : ℕ) (past : Option Row) (before : ℕ) (l : Option Link) (row : Option Row)
    (now : ℕ) : Type 0 where
  pub left : ℕ
  pub few : left ≤ all
  pub walks : Walks u m l row left past
  pub counted : ticks_with now left ≡ ticks_with before all
  pub fits : now < 2 ^ 64

-- the first read of a walk, and what follows it
record First (u : SegmentLog) (m : ℕ) (l : Link) (row : Option Row) (left : ℕ) (past : Option Row) : Type 0 where
  pub previous : Previous
  pub record_there : Record
  pub rest : ℕ
  pub one : left ≡ suc rest
  pub there : IsAmong (log_entry l.address previous record_there) (records_by u l.holder)
  pub walks : Walks u m (link_from l.holder previous) (restore record_there row) rest past

ticked_on : (top before n now : ℕ) → now ≡ min (before + 1) top → min (now + n) top ≡ min (before + suc n) top
ticked_on top before n now e = omega (arith, e)

module _ (u : SegmentLog) (m : ℕ) where
  walk_ends : (l : Option Link) (row : Option Row) (n : ℕ) (past : Option Row) → Walks u m l row n past
      → can_end u m n l ≡ true
  walk_ends l row _ _ (Ends _ _ e) = not_from_false (leads_later m l) e
  walk_ends _ row _ past (Reads a h p b _ n _ later there w) =
      passes_among a (λ q. can_end u m n (link_from h q)) p b (records_by u h) there
      (walk_ends (link_from h p) (restore b row) n past w)

  first_read : (l : Link) (row : Option Row) (left : ℕ) (past : Option Row) → is_later m l.holder ≡ true
      → Walks u m (Some l) row left past
      → First u m l row left past
  first_read l row _ past later (Ends _ _ e) = absurd (both_ways (is_later m l.holder) e later)
  first_read _ row _ past later (Reads a h p b _ n _ also there w) =
      record { previous = p; record_there = b; rest = n; one = refl; there = there; walks = w }

  module _ (all : ℕ) (past : Option Row) (before : ℕ) where
    abbrev GoesFrom : Option Link → Option Row → ℕ → Type 0
    GoesFrom l row now = Goes u m all past before l row now

    -- before the first read
    pub goes_first : (l : Option Link) (row : Option Row) (now : ℕ) → Walks u m l row all past → now ≡ before
        → now < 2 ^ 64 → GoesFrom l row now
    goes_first l row now w e fits =
        record { left = all; few = omega arith; walks = w; counted = ap (λ z. ticks_with z all) e; fits = fits }

    at_link : (o : Option Link) (l : Link) (row : Option Row) (now : ℕ) → o ≡ Some l → GoesFrom o row now
        → GoesFrom (Some l) row now
    at_link o l row now e g = subst (λ x. GoesFrom x row now) e g

    -- a record stands where a link leads to a later holder
    pub stands_there : (o : Option Link) (l : Link) (row : Option Row) (now : ℕ) → o ≡ Some l
        → is_later m l.holder ≡ true → GoesFrom o row now
        → HasAddress (records_by u l.holder) l.address
    stands_there o l row now e later g =
        let here = at_link o l row now e g in
        let f = first_read l row here.left past later here.walks in
        record { previous = f.previous; before = f.record_there; there = f.there }

    goes_from : (l : Link) (row : Option Row) (now next : ℕ) (told : Previous × Record)
        → is_later m l.holder ≡ true → GoesFrom (Some l) row now
        → IsRecordAt (records_by u l.holder) l.address told → next ≡ ticks_with now 1
        → GoesFrom (link_from l.holder told.0) (restore told.1 row) next
    goes_from l row now next told later g at e =
        let f = first_read l row g.left past later g.walks in
        let same : told ≡ (f.previous, f.record_there) = at f.previous f.record_there f.there in
        record {
          left = f.rest;
          few = omega (arith, g.few, f.one);
          walks = subst (λ (x : Previous × Record). Walks u m (link_from l.holder x.0) (restore x.1 row) f.rest past)
              (sym same) f.walks;
          counted = ticked_on (2 ^ 64 - 1) now f.rest next e ∙ ap (ticks_with now) (sym f.one) ∙ g.counted;
          fits = omega (arith, e);
        }

    fewer_from : (l : Link) (row : Option Row) (now : ℕ) (told : Previous × Record) → is_later m l.holder ≡ true
        → GoesFrom (Some l) row now
        → IsRecordAt (records_by u l.holder) l.address told
        → reads_left u m all (link_from l.holder told.0) < reads_left u m all (Some l)
    unfolding reads_left
    fewer_from l row now told later g at =
        let then = goes_from l row now (ticks_with now 1) told later g at refl in
        let below = least_below all then.left (λ i. can_end u m (suc i) (Some l))
        (λ i. can_end u m i (link_from l.holder told.0))
        (λ i e. told_passes l.address (λ p. can_end u m i (link_from l.holder p)) told (records_by u l.holder) at e)
        (walk_ends (link_from l.holder told.0) (restore told.1 row) then.left past then.walks) then.few in
        rw later (omega (arith, below))

    -- what is read there is put back, and leads on
    pub goes_on : (o : Option Link) (l : Link) (row left : Option Row) (now next : ℕ) (p : Previous) (b : Record)
        (after : Option Link) → o ≡ Some l
        → is_later m l.holder ≡ true → GoesFrom o row now → IsRecordAt (records_by u l.holder) l.address (p, b)
        → left ≡ restore b row → next ≡ ticks_with now 1
        → after ≡ link_from l.holder p → GoesFrom after left next
    goes_on o l row left now next p b after e later g at put tick a =
        subst (λ x. GoesFrom x left next) (sym a)
        (subst (λ x. GoesFrom (link_from l.holder p) x next) (sym put)
        (goes_from l row now next (p, b) later (at_link o l row now e g) at tick))

    -- and leaves fewer
    pub leaves_fewer : (o : Option Link) (l : Link) (row : Option Row) (now : ℕ) (p : Previous) (b : Record)
        (after : Option Link) → o ≡ Some l
        → is_later m l.holder ≡ true → GoesFrom o row now → IsRecordAt (records_by u l.holder) l.address (p, b)
        → after ≡ link_from l.holder p → reads_left u m all after < reads_left u m all o
    leaves_fewer o l row now p b after e later g at a =
        rw (e, a) (fewer_from l row now (p, b) later (at_link o l row now e g) at)

    -- a link to no later holder is the walk's end
    ended : (l : Option Link) (row : Option Row) (n now : ℕ) → leads_later m l ≡ false → Walks u m l row n past
        → ticks_with now n ≡ ticks_with before all → now < 2 ^ 64
        → (row ≡ past) × (now ≡ ticks_with before all)
    ended l row _ now e (Ends _ _ _) counted fits = (refl, omega (arith, counted, fits))
    ended _ row _ now e (Reads a h p b _ n _ later there w) counted fits = absurd (both_ways (is_later m h) e later)

    pub finds : (l : Option Link) (row : Option Row) (now : ℕ) → leads_later m l ≡ false → GoesFrom l row now
        → row ≡ past
    finds l row now e g = (ended l row g.left now e g.walks g.counted g.fits).0

    pub counts : (l : Option Link) (row : Option Row) (now : ℕ) → leads_later m l ≡ false → GoesFrom l row now
        → now ≡ ticks_with before all
    counts l row now e g = (ended l row g.left now e g.walks g.counted g.fits).1
