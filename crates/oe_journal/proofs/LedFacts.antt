-- Where keys lead as records are put back, and after a write was taken back.
use Rattle.std.proofs.Common.{◌≡◌, ℕ, suc, ◌≤◌, ◌-◌, Bool, true, false, cond, refl, sym, ap, ◌∙◌, subst, inl, arith}
use Rattle.std.proofs.Common.{List, [], ◌∷◌, length, take, drop, Option, Some, is_some}
use Rattle.std.specs.Prelude.{IsSome, option_map}
use mathlib.Core.Path.{fun_ext}
use Rattle.oe_rows.specs.declared.keys.Key.{Key}
use Rattle.oe_theory.specs.Next.{record_on}
use Rattle.oe_model.specs.Changes.{Change, Record, key_of, record_key}
use Rattle.oe_model.specs.Choice.{namesakes}
use Rattle.oe_model.specs.Delivery.{oldest}
use Rattle.oe_model.specs.Meets.{Meets}
use Rattle.oe_model.specs.Queries.{orders_of}
use Rattle.oe_model.specs.Rows.{Rows, is_key, row_at}
use Rattle.oe_model.specs.System.{system}
use Rattle.oe_model.proofs.RowFacts.{key_true, in_layout_key}
use Rattle.oe_theory.specs.Undo.{unwind}
use Rattle.oe_store.specs.Places.{Places, rows, HasPlace}
use Rattle.std.specs.Prelude.{◌⊎◌}
use Rattle.oe_change.specs.declared.writes.Write.{Write}
use Rattle.oe_change.specs.Writes.{key_written, change_of}
use Rattle.oe_change.proofs.UndoFacts.{can_at_once, gone_back}
use Rattle.oe_log.specs.Records.{Logged, log_entry}
use Rattle.oe_log.specs.Log.{SegmentLog, Open as OpenSegment, active_at, records_at, count_at, total_count}
use Rattle.oe_log.specs.Log.{with_records, without_newest}
use Rattle.oe_log.specs.Stands.{model_records, undo_of}
use Rattle.oe_log.proofs.StateFacts.{some_of, records_are, pushed_popped}
use Rattle.oe_undo.specs.declared.holders.Link.{Link}
use Rattle.oe_undo.specs.declared.holders.Holder.TheVariants.{Open}
use Rattle.oe_undo.specs.declared.links.OwnedLink.{OwnedLink}
use Rattle.oe_undo.specs.Chains.{link_from, with_link}
use Rattle.oe_undo.specs.Held.{horizon}
use Rattle.oe_undo.specs.Laws.{IsWhole}
use Rattle.oe_undo.specs.Links.{links_of}
use Rattle.oe_undo.specs.Owners.{link_by_now, next_owner}
use Rattle.oe_undo.specs.Undo.{UndoState, link_seen, link_above, IsGivenBack, GivesBack}
use Rattle.oe_undo.proofs.LeadFacts.{set_leads}
use Rattle.oe_undo.proofs.OwnerFacts.{followed_same, holder_same, count_same, total_kept, followed_unended}
use Rattle.oe_journal.specs.GoesBack.{CanUnwind, HavePlaces}
use Rattle.oe_journal.specs.Linked.{SameLinks}
use Rattle.oe_journal.specs.Unwinds.{TakesBack}
use Rattle.oe_journal.specs.Recorded.{IsRecorded}
use Rattle.oe_journal.specs.Identity.{links_behind, LeadBack, MayTakeBack, IsAsBefore, Write_then_take_back_is_identity}
use Rattle.oe_journal.proofs.BackFacts.{newest_before, more_places}
use Rattle.oe_journal.proofs.ExactFacts.{exactly_back}
use Rattle.oe_journal.proofs.MoreFacts.{there_is}
use Rattle.oe_writes.proofs.RecordFacts.{write_records}
use Rattle.oe_journal.proofs.RecordedFacts.{record_written}

-- ---- other records of one terminal

module _ (u w : SegmentLog) (t : ℕ) (rs : List Logged) (is : w ≡ with_records u t rs) where
  abbrev new_active : Option OpenSegment
  new_active = option_map {T = OpenSegment} (λ o. record o { records = rs }) (active_at u t)

  counts_kept : (s : ℕ) → count_at w s ≡ count_at u s
  counts_kept s = ap (λ v. count_at v s) is ∙ count_same u t new_active s

  total_same : total_count w ≡ total_count u
  total_same = ap total_count is ∙ total_kept u t new_active

  commits_kept : w.committed ≡ u.committed
  commits_kept = ap (λ (v : SegmentLog). v.committed) is

  followed_kept : (l : Option OwnedLink) → link_by_now w l ≡ link_by_now u l
  followed_kept l = followed_same u w l (holder_same u w counts_kept total_same commits_kept)

  pub horizon_kept : horizon w ≡ horizon u
  horizon_kept = ap (λ n. n - length w.committed) total_same ∙ ap (λ cs. total_count u - length cs) commits_kept

-- ---- one record after another

-- the newest is taken off
one_led : (old new : UndoState) (t : ℕ) (r : Logged) → new.log ≡ without_newest old.log t → IsGivenBack old new t r
    → (k : Key) → link_seen new k ≡ with_link (link_seen old) (record_key r.before)
    (link_above (horizon old.log) (link_from (Open t) r.previous)) k
one_led old new t r pop back k =
    ap (link_by_now new.log) ((set_leads old.links new.links own back.link back.set).links k) ∙ go (is_key own k)
  where
    own : Key
    own = record_key r.before

    go : (b : Bool) → link_by_now new.log (cond b back.link (links_of old.links k)) ≡ cond b
        (link_above (horizon old.log) (link_from (Open t) r.previous)) (link_seen old k)
    go true = back.leads ∙ ap (λ h. link_above h (link_from (Open t) r.previous))
        (horizon_kept old.log new.log t (drop 1 (records_at old.log t)) pop)
    go false = followed_kept old.log new.log t (drop 1 (records_at old.log t)) pop (links_of old.links k)

led_same : (h t : ℕ) (rs : List Logged) (f g : Key → Option Link) → ((k : Key) → f k ≡ g k) → (k : Key)
    → links_behind h t rs f k ≡ links_behind h t rs g k
led_same h t rs f g same k = ap (λ z. links_behind h t rs z k) (fun_ext same)

-- of two that lead alike
pub led_alike : (h t n : ℕ) (u w : UndoState) → w.log ≡ u.log → SameLinks u w → (k : Key)
    → links_behind h t (take n (records_at w.log t)) (link_seen w) k
    ≡ links_behind h t (take n (records_at u.log t)) (link_seen u) k
led_alike h t n u w log same k =
    ap (λ v. links_behind h t (take n (records_at v t)) (link_seen w) k) log
    ∙ led_same h t (take n (records_at u.log t))
    (link_seen w) (link_seen u) same k

-- what is left to do makes of this what all of it makes of the first
pub led_on : (first old new : UndoState) (t left count : ℕ) (b : Record) → is_some (active_at old.log t) ≡ true
    → horizon old.log ≡ horizon first.log
    → newest_before (records_at old.log t) ≡ Some b → new.log ≡ without_newest old.log t
    → GivesBack old new t (records_at old.log t)
    → ((k : Key) → links_behind (horizon first.log) t (take (suc left) (records_at old.log t)) (link_seen old) k
    ≡ links_behind
    (horizon first.log) t (take count (records_at first.log t)) (link_seen first) k)
    → (k : Key) → links_behind (horizon first.log) t (take left (records_at new.log t)) (link_seen new) k ≡ links_behind
    (horizon first.log) t (take count (records_at first.log t)) (link_seen first) k
led_on first old new t left count b open_is same newest pop back so_far k = go (records_at old.log t) refl newest back
  where
    h : ℕ
    h = horizon first.log

    go : (rs : List Logged) → records_at old.log t ≡ rs → newest_before rs ≡ Some b → GivesBack old new t rs
        → links_behind h t (take left (records_at new.log t)) (link_seen new) k ≡ links_behind h t
        (take count (records_at first.log t)) (link_seen first) k
    go [] e some given = cc
    go (r ∷ rs) e some given =
        let o = some_of (active_at old.log t) open_is in
        let rest : records_at new.log t ≡ rs = ap (λ z. records_at z t) pop
        ∙ records_are old.log t o.0 (drop 1 (records_at old.log t)) o.1 ∙ ap (drop 1) e in
        let here = subst (λ z. (j : Key) → link_seen new j ≡ with_link (link_seen old) (record_key r.before)
        (link_above z (link_from (Open t) r.previous)) j) same (one_led old new t r pop given) in
        ap (λ z. links_behind h t (take left z) (link_seen new) k) rest
        ∙ led_same h t (take left rs) (link_seen new)
        (with_link (link_seen old) (record_key r.before) (link_above h (link_from (Open t) r.previous))) here k
        ∙ ap (λ z. links_behind h t (take (suc left) z) (link_seen old) k) (sym e)
        ∙ so_far k

-- ---- a write that is taken back

module _ (w : Write) (ts ts' : Places) (u u' : UndoState) (t : ℕ) (is : IsSome (active_at u.log t)) (c : Change)
    (made : change_of w (rows ts) ≡ Some c) (h : IsRecorded c ts ts' u u' t) where
  abbrev own_record : Record
  own_record = record_on system u.log.layout c (rows ts)

  abbrev pushed_record : Logged
  pushed_record = log_entry h.has_more.pushed.address h.has_more.previous own_record

  newest_is : records_at u'.log t ≡ pushed_record ∷ records_at u.log t
  newest_is =
      let o = some_of (active_at u.log t) is in
      ap (λ z. records_at z t) h.has_more.pushed.log ∙ records_are u.log t o.0 (pushed_record ∷ records_at u.log t) o.1

  own_written : key_of c ≡ key_written w
  own_written = sym (in_layout_key u.log.layout c (row_at (rows ts) (key_of c)))
      ∙ record_written u.log.layout w (rows ts) own_record
      (write_records u.log.layout w c (rows ts) made h.applies.accepted)

  pub may_take_back : Meets (rows ts) → HavePlaces ts ((undo_of u.log).active t) → MayTakeBack ts' u'.log t
  may_take_back schema had =
      let can = can_at_once u.log.layout c ts ts' own_record schema h.applies in
      let more : (k : Key) → HasPlace ts k → HasPlace ts' k = λ k p. (h.applies.places k).1 (inl p) in
      record {
        is_open = h.is_open t ∙ is;
        enough = subst (λ rs. 1 ≤ length {A = Logged} rs) (sym newest_is) (omega arith);
        places = subst (λ rs. HavePlaces ts' (model_records rs)) (sym newest_is)
            (can.place, more_places ts ts' more (model_records (records_at u.log t)) had);
        unwinds = subst (λ rs. CanUnwind (take 1 (model_records rs)) (rows ts')) (sym newest_is)
            (can.stands, can.schema, tt);
      }

  module _ (ts'' : Places) (u'' : UndoState) (whole : IsWhole u.log) (back : TakesBack ts' u'.log t 1 ts'' u''.log)
      (pop : u''.log ≡ without_newest u'.log t) (lead : LeadBack u' u'' t 1) where
    same_rows : rows ts'' ≡ rows ts
    same_rows = back.rows ∙ ap (λ rs. unwind system (take 1 (model_records rs)) (rows ts')) newest_is
        ∙ gone_back u.log.layout c ts ts' own_record h.applies

    same_log : u''.log ≡ u.log
    same_log =
        let o = some_of (active_at u.log t) is in
        pop ∙ ap (λ z. without_newest z t) h.has_more.pushed.log ∙ pushed_popped u.log t o.0 pushed_record o.1

    same_links : SameLinks u u''
    same_links k = lead k ∙ ap (λ rs. links_behind (horizon u'.log) t (take 1 rs) (link_seen u') k) newest_is
        ∙ go (is_key (record_key own_record) k) refl
      where
        go : (b : Bool) → is_key (record_key own_record) k ≡ b
            → cond b (link_above (horizon u'.log) (link_from (Open t) h.has_more.previous)) (link_seen u' k)
            ≡ link_seen u k
        go true e =
            ap (λ n. link_above n (link_from (Open t) h.has_more.previous))
            (horizon_kept u.log u'.log t (pushed_record ∷ records_at u.log t) h.has_more.pushed.log)
            ∙ ap (link_above (horizon u.log)) h.has_more.leads
            ∙ followed_unended u.log (links_of u.links (record_key own_record)) whole.commits
            ∙ ap (link_seen u) (key_true (record_key own_record) k e)
        go false e =
            followed_kept u.log u'.log t (pushed_record ∷ records_at u.log t) h.has_more.pushed.log
            (links_of u'.links k)
            ∙ ap (link_by_now u.log)
            (h.has_more.pushed.link.links k
            ∙ ap (λ b. cond b (Some (record { address = h.has_more.pushed.address; owner = next_owner u.log t }))
            (links_of u.links k)) e)

    pub as_before : IsAsBefore ts ts'' u u'' (key_written w)
    as_before = record {
      same_rows = same_rows;
      same_links = same_links;
      same_log = same_log;
      fewer = λ k p. subst (λ (j : Key). HasPlace ts k ⊎ (k ≡ j)) own_written
          ((h.applies.places k).0 (back.others.places.fewer k p));
      places = λ exact. exactly_back u.log.layout ts ts' ts'' u.log u'.log u''.log t c h.applies.places
          h.applies.changes h.stands.undo exact back.others.places same_rows (ap undo_of same_log);
      by_name = λ d last. ap (λ (r : Rows). namesakes d last r.customers) same_rows;
      by_customer = λ d. ap (λ (r : Rows). orders_of d r.orders) same_rows;
      by_age = λ d. ap (λ (r : Rows). oldest d r.new_orders) same_rows;
    }

pub write_then_take_back_is_identity : Write_then_take_back_is_identity
write_then_take_back_is_identity = record {
  may = λ w ts ts' u u' t is schema had h.
      let (c, made, r) = there_is (λ c. IsRecorded c ts ts' u u' t) (change_of w (rows ts)) h in
      may_take_back w ts ts' u u' t is c made r schema had;
  identity = λ w ts ts' ts'' u u' u'' t is whole h back pop lead.
      let (c, made, r) = there_is (λ c. IsRecorded c ts ts' u u' t) (change_of w (rows ts)) h in
      as_before w ts ts' u u' t is c made r ts'' u'' whole back pop lead;
}
