-- The newest commits are undone, one after another.
use Rattle.std.proofs.Common.{◌≡◌, ℕ, zero, suc, ◌-◌, ◌<◌, ◌≤◌, refl, sym, ap, ◌∙◌, subst, arith, List, [], ◌∷◌, length}
use Rattle.std.proofs.Common.{map, take, drop, Option, None}
use Rattle.std.proofs.lemmas.List.{length-map}
use Rattle.oe_theory.specs.World.{set}
use Rattle.oe_theory.specs.Undo.{Undo, unwind, unwind_commits}
use Rattle.oe_theory.specs.Store.{Slot, after_rewind}
use Rattle.oe_model.specs.Changes.{Record}
use Rattle.oe_model.specs.System.{system}
use Rattle.oe_store.specs.Places.{rows}
use Rattle.oe_store.specs.Places as tables
use Rattle.oe_log.specs.Records.{Logged}
use Rattle.oe_log.specs.Log.{SegmentLog, Committed, active_at, records_in, records_at, with_reopening, without_segment}
use Rattle.oe_log.proofs.LawFacts as stands
use Rattle.oe_log.specs.Stands.{model_records, undo_of}
use Rattle.oe_journal.specs.GoesBack.{CanUnwind, CanUnwindAll, HavePlaces, AllHavePlaces}
use Rattle.oe_log.specs.Moments.{store_with, newest}
use Rattle.oe_journal.specs.Rewinds.{without_first_commit, without_newest}
use Rattle.oe_journal.specs.ExactNames.{HasExactNames, KeepsExactNames}
use Rattle.oe_journal.specs.Named.{GivesUpUnnamed}
use Rattle.oe_journal.proofs.NamedFacts.{NamesAlike, reopened_names, alike_before, none_given_up, then_given_up}
use Rattle.oe_journal.proofs.NamedFacts.{history_placed}
use Rattle.oe_journal.proofs.KeptNameFacts.{reopened_exact}
use Rattle.oe_journal.proofs.RewindFacts.{rewinds, quiet_still, left_over, IsNewest, newest_records}

-- all of some records, counted by the log's
all_taken : (rs : List Logged) → take (length rs) (model_records rs) ≡ model_records rs
all_taken [] = refl
all_taken (r ∷ rs) = ap (λ z. r.before ∷ z) (all_taken rs)

-- ---- of the newest commit

-- its records are the first of all
first_are : (v : SegmentLog) (t : ℕ) (n : IsNewest v t)
    → (undo_of v).history ≡ model_records n.newest.records ∷ map (λ (c : Committed). model_records c.records) n.older
first_are v t n = ap (map (λ (c : Committed). model_records c.records)) n.are

module _ (ts : tables.Places) (v u : SegmentLog) (t : ℕ) (n : IsNewest v t)
    (is : u ≡ with_reopening v v.committed) where
  own_are : (undo_of u).active t ≡ model_records n.newest.records
  own_are = ap model_records (newest_records v u t n is)

  -- when it is open again, all of its records can be put back
  pub own_places : AllHavePlaces ts (undo_of v).history → HavePlaces ts ((undo_of u).active t)
  own_places h = subst (HavePlaces ts) (sym own_are) (subst (AllHavePlaces ts) (first_are v t n) h).0

  pub own_can : CanUnwindAll (undo_of v).history (rows ts)
      → CanUnwind (take (length (records_at u t)) ((undo_of u).active t)) (rows ts)
  own_can h =
      subst (λ z. CanUnwind z (rows ts)) (sym (all_taken (records_at u t)))
      (subst (λ z. CanUnwind z (rows ts)) (sym own_are) (subst (λ z. CanUnwindAll z (rows ts)) (first_are v t n) h).0)

  -- and that is what undoing it means
  pub newest_undone : (ts' : tables.Places) → rows ts' ≡ unwind system
      (take (length (records_at u t)) ((undo_of u).active t)) (rows ts)
      → rows ts' ≡ unwind_commits system (take 1 (undo_of v).history) (rows ts)
  newest_undone ts' h =
      h ∙ ap (λ z. unwind system z (rows ts)) (all_taken (records_at u t) ∙ own_are)
      ∙ ap (λ z. unwind_commits system (take 1 z) (rows ts)) (sym (first_are v t n))

-- opened again, its records are a terminal's open ones
module _ (v u : SegmentLog) (t : ℕ) (n : IsNewest v t) (is : u ≡ with_reopening v v.committed)
    (quiet : active_at v t ≡ None) where
  abbrev older_commits : List (List Record)
  older_commits = map (λ (c : Committed). model_records c.records) n.older

  none_open : (undo_of v).active n.newest.terminal ≡ []
  none_open = ap (λ k. (undo_of v).active k) n.own ∙ ap (λ a. model_records (records_in a)) quiet

  opened_undo : undo_of u ≡ record {
    active = set n.newest.terminal (model_records n.newest.records) (undo_of v).active;
    history = older_commits;
  }
  opened_undo =
      let within : n.newest.terminal < length v.terminals = subst (λ k. k < length v.terminals) (sym n.own) n.within in
      ap undo_of is ∙ (stands.reopens v n.newest n.older n.are within).undo
      ∙ (λ i. record {
        active = set n.newest.terminal (model_records n.newest.records) (undo_of v).active;
        history = drop 1 (first_are v t n i);
      })

-- they are named as before, so that places go as they are taken back
pub newest_given_up : (ts ts' : tables.Places) (v u w x : SegmentLog) (t : ℕ) (n : IsNewest v t)
    → u ≡ with_reopening v v.committed → active_at v t ≡ None
    → GivesUpUnnamed ts ts' (undo_of u) (undo_of w) → x ≡ without_segment w t → records_at w t ≡ []
    → GivesUpUnnamed ts ts' (undo_of v) (undo_of x)
newest_given_up ts ts' v u w x t n is quiet given_up gone empty =
    subst (λ (z : Undo system). GivesUpUnnamed ts ts' (undo_of v) z)
    (sym (ap undo_of gone ∙ (stands.drops w t empty).undo))
    (alike_before ts ts' (undo_of v) (undo_of u) (undo_of w) alike given_up)
  where
    alike : NamesAlike (undo_of v) (undo_of u)
    alike = subst (λ (d : Undo system). NamesAlike (undo_of v) d) (sym (opened_undo v u t n is quiet))
        (reopened_names (undo_of v) n.newest.terminal (model_records n.newest.records) (older_commits v u t n is quiet)
        (none_open v u t n is quiet) (first_are v t n))

-- and they tell the same names
pub newest_exact : (ts ts' : tables.Places) (v u w x : SegmentLog) (t : ℕ) (n : IsNewest v t)
    → u ≡ with_reopening v v.committed → active_at v t ≡ None
    → KeepsExactNames ts ts' u w → x ≡ without_segment w t → records_at w t ≡ []
    → KeepsExactNames ts ts' v x
newest_exact ts ts' v u w x t n is quiet kept gone empty h =
    subst (HasExactNames ts') (sym (ap undo_of gone ∙ (stands.drops w t empty).undo))
    (kept (subst (HasExactNames ts) (sym (opened_undo v u t n is quiet))
    (reopened_exact ts (undo_of v) n.newest.terminal (model_records n.newest.records) (older_commits v u t n is quiet)
    (none_open v u t n is quiet) (first_are v t n) h)))

-- ---- of the newest commits: of the newest `count` of u on ts, so many are left of u' on ts'
pub record Undoes (ts ts' : tables.Places) (u u' : SegmentLog) (count left : ℕ) : Type 0 where
  pub log : without_newest left u' ≡ without_newest count u
  pub put : unwind_commits system (take left (undo_of u').history) (rows ts') ≡ unwind_commits system
      (take count (undo_of u).history) (rows ts)
  pub quiet : (t : ℕ) → active_at u' t ≡ None
  pub enough : left ≤ length u'.committed
  pub places : AllHavePlaces ts' (undo_of u').history
  pub can : CanUnwindAll (undo_of u').history (rows ts')
  pub given_up : GivesUpUnnamed ts ts' (undo_of u) (undo_of u')

pub none_undone : (ts : tables.Places) (u : SegmentLog) (count : ℕ) → ((t : ℕ) → active_at u t ≡ None)
    → count ≤ length u.committed
    → AllHavePlaces ts (undo_of u).history → CanUnwindAll (undo_of u).history (rows ts)
    → Undoes ts ts u u count (count - 0)
none_undone ts u count quiet enough places can =
    let all : count ≡ count - 0 = omega arith in
    subst (Undoes ts ts u u count) all
    (record {
      log = refl;
      put = refl;
      quiet = quiet;
      enough = enough;
      places = places;
      can = can;
      given_up = none_given_up ts (undo_of u);
    })

-- the first of some lists, and the rest
parted : (ss : List (List Record)) → 0 < length ss → (bs : List Record) × (ss ≡ bs ∷ drop 1 ss)
parted [] h = let no : ⊥ = omega arith in absurd no
parted (bs ∷ ss) h = (bs, refl)

pub one_undone : (ts ts' ts'' : tables.Places) (u u' u'' : SegmentLog) (count left : ℕ) → u'' ≡ without_newest 1 u'
    → rows ts'' ≡ unwind_commits system (take 1 (undo_of u').history) (rows ts')
    → GivesUpUnnamed ts' ts'' (undo_of u') (undo_of u'') → Undoes ts ts' u u' count (suc left)
    → Undoes ts ts'' u u'' count left
one_undone ts ts' ts'' u u' u'' count left gone put given_up h =
    subst (λ z. Undoes ts ts'' u z count left) (sym gone)
    (let step = subst (λ z. GivesUpUnnamed ts' ts'' (undo_of u') (undo_of z)) gone given_up in
    let hist : List (List Record) = (undo_of u').history in
    let many : length hist ≡ length u'.committed = length-map u'.committed
    (λ (c : Committed). model_records c.records) in
    let enough = h.enough in
    let first = parted hist (omega arith) in
    let is : hist ≡ first.0 ∷ drop 1 hist = first.1 in
    let after : (undo_of (without_newest 1 u')).history ≡ drop 1 hist = ap (λ z. z.history) (rewinds u' 1).undo in
    let now : rows ts'' ≡ unwind system first.0 (rows ts') = put ∙ ap (λ z. unwind_commits system (take 1 z) (rows ts'))
    is in
    let places = (subst (AllHavePlaces ts') is h.places).1 in
    let can = (subst (λ z. CanUnwindAll z (rows ts')) is h.can).1 in
    record {
      log = h.log;
      put = ap (λ z. unwind_commits system (take left z) (rows ts'')) after
          ∙ ap (unwind_commits system (take left (drop 1 hist))) now
          ∙ ap (λ z. unwind_commits system (take (suc left) z) (rows ts')) (sym is) ∙ h.put;
      quiet = quiet_still u' u'.committed h.quiet;
      enough = left_over u' u'.committed left refl h.enough;
      places = history_placed ts' ts'' (undo_of u') (undo_of (without_newest 1 u')) step
          (subst (AllHavePlaces ts') (sym after) places);
      can = subst (λ z. CanUnwindAll z (rows ts'')) (sym after) (subst (CanUnwindAll (drop 1 hist)) (sym now) can);
      given_up = then_given_up ts ts' ts'' (undo_of u) (undo_of u') (undo_of (without_newest 1 u')) h.given_up step;
    })

-- in the theory's words
pub rewound_is : (ts ts' : tables.Places) (u : SegmentLog) (m : ℕ) (slots : ℕ → Option (Slot system))
    → rows ts' ≡ unwind_commits system (take (newest u - m) (undo_of u).history) (rows ts)
    → store_with (rows ts') (without_newest (newest u - m) u) slots
    ≡ after_rewind system m (store_with (rows ts) u slots)
rewound_is ts ts' u m slots put =
    let r = rewinds u (newest u - m) in
    λ i. record {
      tables = put i;
      undo = r.undo i;
      slots = slots;
      seals = r.seals i;
      counts = r.counts i;
      extents = extents_are (newest u - m) u i;
      layout = layout_is (newest u - m) u i;
    }
  where
    of_one : (v : SegmentLog) (cs : List Committed) → (without_first_commit v cs).extents ≡ v.extents
    of_one v [] = refl
    of_one v (c ∷ cs) = refl

    extents_are : (n : ℕ) (v : SegmentLog) → (without_newest n v).extents ≡ v.extents
    extents_are zero v = refl
    extents_are (suc n) v = extents_are n (without_first_commit v v.committed) ∙ of_one v v.committed

    layout_of_one : (v : SegmentLog) (cs : List Committed) → (without_first_commit v cs).layout ≡ v.layout
    layout_of_one v [] = refl
    layout_of_one v (c ∷ cs) = refl

    layout_is : (n : ℕ) (v : SegmentLog) → (without_newest n v).layout ≡ v.layout
    layout_is zero v = refl
    layout_is (suc n) v = layout_is n (without_first_commit v v.committed) ∙ layout_of_one v v.committed
