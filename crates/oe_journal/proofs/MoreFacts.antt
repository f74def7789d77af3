-- What is known where a terminal's open segment has a record more, and after that is taken off again.
use Rattle.std.proofs.Common.{◌≡◌, ℕ, refl, sym, ap, ◌∙◌, subst, ◌∷◌, length, Option, None, Some, is_some, true}
use Rattle.std.specs.Prelude.{◌⊎◌}
use Rattle.std.specs.Option.{IsSomeAnd}
use Rattle.oe_theory.specs.Next.{record_on}
use Rattle.oe_theory.proofs.Sets.{some_inj}
use Rattle.oe_rows.specs.declared.keys.Key.{Key}
use Rattle.oe_model.specs.Rows.{row_at}
use Rattle.oe_model.specs.Changes.{Change, Record, record_key, key_of}
use Rattle.oe_model.specs.System.{system}
use Rattle.oe_model.proofs.RowFacts.{in_layout_key}
use Rattle.oe_store.specs.Places.{Places, rows}
use Rattle.oe_change.specs.Applies.{Applies}
use Rattle.oe_log.specs.Records.{Logged, log_entry}
use Rattle.oe_log.specs.Log.{SegmentLog, Open as OpenSegment, active_at, records_at, without_newest}
use Rattle.oe_log.specs.Stands.{model_records}
use Rattle.oe_log.specs.Laws.{StandsWith}
use Rattle.oe_undo.specs.Held.{horizon}
use Rattle.oe_undo.specs.Laws.{IsWhole}
use Rattle.oe_undo.specs.Links.{HasPlace, links_of, Comes, GivesAtMost}
use Rattle.oe_undo.specs.Undo.{UndoState, link_seen, link_above, IsGivenBack, GivesBack}
use Rattle.oe_journal.specs.Linked.{AreLinked, SameLinks}
use Rattle.oe_journal.specs.Recorded.{HasMore, IsRecorded}
use Rattle.oe_log.proofs.StateFacts.{some_of, records_open, records_size, records_are, records_stand, pushed_popped}
use Rattle.oe_undo.proofs.OwnerFacts.{followed_unended}
use Rattle.oe_undo.proofs.LeadFacts.{set_leads}
use Rattle.oe_journal.proofs.LinkedFacts.{given_back, still_linked, one_more_linked}

-- what is said of an option's value
pub of_some : {A : Type 0} (P : A → Type 0) (o : Option A) (x : A) → o ≡ Some x → P x → IsSomeAnd o P
of_some P o x e h = subst (λ z. IsSomeAnd z P) (sym e) h

pub there_is : {A : Type 0} (P : A → Type 0) (o : Option A) → IsSomeAnd o P → (x : A) × (o ≡ Some x) × P x
there_is P None h = absurd h
there_is P (Some x) h = (x, refl, h)

-- ---- a record's key

pub own_key : (a b : Record) → ◌≡◌ {A = Option Record} (Some a) (Some b) → record_key b ≡ record_key a
own_key a b e = ap record_key (sym (some_inj _ _ e))

-- ---- a record more, and the change that it is of

module _ (b : Record) (u u' : UndoState) (t : ℕ) (h : HasMore b u u' t) where
  abbrev pushed_record : Logged
  pushed_record = log_entry h.pushed.address h.previous b

  is_open_still : (x : ℕ) → is_some (active_at u'.log x) ≡ is_some (active_at u.log x)
  is_open_still x = ap (λ z. is_some (active_at z x)) h.pushed.log ∙ records_open u.log t
      (pushed_record ∷ records_at u.log t) x

  -- no place of a link is lost
  has_place_still : (k : Key) → HasPlace u.links k → HasPlace u'.links k
  has_place_still = h.pushed.link.kept

-- in the theory's words
pub more_stands : (b : Record) (c : Change) (old new : Places) (u u' : UndoState) (t : ℕ) (o : OpenSegment)
    → active_at u.log t ≡ Some o
    → b ≡ record_on system u.log.layout c (rows old)
    → Applies u.log.layout c old new (record_on system u.log.layout c (rows old)) → HasMore b u u' t
    → IsRecorded c old new u u' t
more_stands b c old new u u' t o is same applies h =
    let d : Record = record_on system u.log.layout c (rows old) in
    let m : HasMore d u u' t = subst (λ z. HasMore z u u' t) same h in
    let rs = pushed_record d u u' t m ∷ records_at u.log t in
    record {
      applies = applies;
      has_more = m;
      stands = subst (λ z. StandsWith z u.log t (d ∷ model_records (records_at u.log t)))
          (sym m.pushed.log) (records_stand u.log t o rs is);
      is_open = is_open_still d u u' t m;
      size = ap (λ (z : SegmentLog). length z.terminals) m.pushed.log ∙ records_size u.log t rs;
      extents = ap (λ (z : SegmentLog). z.extents) m.pushed.log;
      layout = ap (λ (z : SegmentLog). z.layout) m.pushed.log;
    }

-- each key of the tables has a place for its link
pub recorded_linked : (c : Change) (old new : Places) (u u' : UndoState) (t : ℕ) → AreLinked old u.links
    → IsRecorded c old new u u' t → AreLinked new u'.links
recorded_linked c old new u u' t linked h =
    let b : Record = record_on system u.log.layout c (rows old) in
    let own : record_key b ≡ key_of c = in_layout_key u.log.layout c (row_at (rows old) (key_of c)) in
    one_more_linked old new u.links u'.links (key_of c) (has_place_still b u u' t h.has_more)
    (subst (HasPlace u'.links) own h.has_more.pushed.link.placed) h.applies.places linked

-- ---- and that is taken off again

module _ (o : Option Record) (u u' : UndoState) (t : ℕ) (is : is_some (active_at u.log t) ≡ true)
    (push : IsSomeAnd o (λ b. HasMore b u u' t)) where
  -- the terminal's segment is open still
  pub pushed_open : is_some (active_at u'.log t) ≡ true
  pushed_open =
      let b = there_is (λ b. HasMore b u u' t) o push in
      is_open_still b.0 u u' t b.2 t ∙ is

  -- the log is as it was
  pub unpushed : (v : SegmentLog) → v ≡ without_newest u'.log t → v ≡ u.log
  unpushed v pop =
      let b = there_is (λ b. HasMore b u u' t) o push in
      let a = some_of (active_at u.log t) is in
      pop ∙ ap (λ z. without_newest z t) b.2.pushed.log ∙ pushed_popped u.log t a.0 (pushed_record b.0 u u' t b.2) a.1

  -- the record's key is given its previous link back
  key_given_back : (x : UndoState) → GivesBack u' x t (records_at u'.log t)
      → (b : Record) × (h : HasMore b u u' t) × IsGivenBack u' x t (pushed_record b u u' t h)
  key_given_back x back =
      let b = there_is (λ b. HasMore b u u' t) o push in
      let a = some_of (active_at u.log t) is in
      let rs = pushed_record b.0 u u' t b.2 ∷ records_at u.log t in
      let newest : records_at u'.log t ≡ rs = ap (λ z. records_at z t) b.2.pushed.log
      ∙ records_are u.log t a.0 rs a.1 in
      (b.0, b.2, subst (GivesBack u' x t) newest back)

  -- which leads where it led, since its commit is kept
  pub links_given_back : (x : UndoState) → IsWhole x.log → x.log ≡ without_newest u'.log t
      → GivesBack u' x t (records_at u'.log t) → SameLinks u x
  links_given_back x whole pop back =
      let log : x.log ≡ u.log = unpushed x.log pop in
      let b = key_given_back x back in
      given_back u u' x (record_key b.0) _ b.2.link b.1.pushed.link b.2.set log
      (b.2.leads ∙ ap (link_above (horizon x.log)) b.1.leads
      ∙ ap (λ v. link_above (horizon v) (link_seen u (record_key b.0))) log
      ∙ followed_unended u.log (links_of u.links (record_key b.0)) (subst IsWhole log whole).commits)

  -- no key has a place more but the record's, and those that come with it
  pub unpushed_places : (own : Key) → ((b : Record) → o ≡ Some b → record_key b ≡ own) → (x : UndoState)
      → GivesBack u' x t (records_at u'.log t) → GivesAtMost u.links x.links own
  unfolding key_given_back there_is
  unpushed_places own key_is x back k p =
      let b = key_given_back x back in
      let found = there_is (λ b. HasMore b u u' t) o push in
      let same : record_key b.0 ≡ own = key_is b.0 found.1 in
      let had : HasPlace u'.links k =
      ((set_leads u'.links x.links (record_key b.0) b.2.link b.2.set).same b.1.pushed.link.placed k).0 p in
      subst (λ (j : Key). HasPlace u.links k ⊎ Comes j k) same (b.1.pushed.link.given k had)

  -- and the keys of the tables have their places
  pub unpushed_linked : (ts : Places) (x : UndoState) → GivesBack u' x t (records_at u'.log t) → AreLinked ts u.links
      → AreLinked ts x.links
  unpushed_linked ts x back linked =
      let b = key_given_back x back in
      still_linked ts u.links x.links
      (λ k had. (set_leads u'.links x.links (record_key b.0) b.2.link b.2.set).kept k
      (has_place_still b.0 u u' t b.1 k had)) linked
