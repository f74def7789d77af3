-- Records are put back one after another, the newest first.
use Rattle.std.proofs.Common.{◌≡◌, ℕ, suc, ◌<◌, ◌≤◌, true, refl, sym, ap, ◌∙◌, subst, arith, List, [], ◌∷◌, length}
use Rattle.std.proofs.Common.{take, drop, Option, None, Some}
use Rattle.std.specs.Prelude.{is_some, option_map}
use Rattle.std.specs.List.{drop-map}
use Rattle.oe_theory.proofs.Sets.{some_inj}
use Rattle.oe_rows.specs.declared.keys.Key.{Key}
use Rattle.oe_layout.specs.declared.links.Previous.{Previous}
use Rattle.oe_theory.specs.Undo.{Undo, unwind, put_records, HasRecord}
use Rattle.oe_theory.proofs.Sets.{set_twice}
use Rattle.oe_layout.specs.declared.records.OwnRecord.{OwnRecord}
use Rattle.oe_layout.specs.Records.{record_of_own}
use Rattle.oe_model.specs.Changes.{Record, put_back, record_key}
use Rattle.oe_model.specs.System.{system, terminal_limit}
use Rattle.oe_store.specs.Places.{rows, HasPlace}
use Rattle.oe_store.specs.Places as tables
use Rattle.oe_change.specs.PutBack.{CanPutBack, Stands}
use Rattle.oe_log.specs.Records.{Logged, newest_of}
use Rattle.oe_log.specs.Log.{SegmentLog, Open, active_at, records_at, with_records, without_newest}
use Rattle.oe_log.specs.Stands.{model_records, undo_of, seals_of, counts_of}
use Rattle.oe_journal.specs.GoesBack.{CanUnwind, HavePlaces}
use Rattle.oe_journal.specs.Named.{GivesUpUnnamed, PutsBack}
use Rattle.oe_journal.specs.Unwinds.{TakesBack}
use Rattle.oe_journal.proofs.NamedFacts.{still_placed, none_given_up, then_given_up, one_given_up}
use Rattle.oe_log.proofs.StateFacts.{some_of, records_open, records_size, records_are, own_records, one_popped}
use Rattle.oe_log.proofs.StateFacts.{records_stand}

-- keys that had places have them in tables in which none was lost
pub more_places : (ts ts' : tables.Places) → ((k : Key) → HasPlace ts k → HasPlace ts' k) → (bs : List Record)
    → HavePlaces ts bs → HavePlaces ts' bs
more_places ts ts' more [] h = tt
more_places ts ts' more (b ∷ bs) h = (more (record_key b) h.0, more_places ts ts' more bs h.1)

-- On the way back from v on ts, of which the newest `count` records are to go: the terminal has the records rs in v' on
-- ts', of which
-- the newest `left` are still to go
pub record GoesBack (ts ts' : tables.Places) (v v' : SegmentLog) (t count : ℕ) (rs : List Logged) (left : ℕ) : Type
    0 where
  pub log : v' ≡ with_records v t rs
  pub rest : drop left rs ≡ drop count (records_at v t)
  pub enough : left ≤ length rs
  pub put : unwind system (take left (model_records rs)) (rows ts') ≡ unwind system (take count ((undo_of v).active t))
      (rows ts)
  pub can : CanUnwind (take left (model_records rs)) (rows ts')
  pub own : HavePlaces ts' (model_records rs)
  pub given_up : GivesUpUnnamed ts ts' (undo_of v) (undo_of v')

pub put_twice : (t : ℕ) (bs cs : List Record) (d : Undo system)
    → put_records system t bs (put_records system t cs d) ≡ put_records system t bs d
put_twice t bs cs d = λ i. record { active = set_twice t bs cs d.active i; history = d.history }

-- at the beginning
pub begins : (ts : tables.Places) (v : SegmentLog) (t count : ℕ) → count ≤ length (records_at v t)
    → HavePlaces ts ((undo_of v).active t)
    → CanUnwind (take count ((undo_of v).active t)) (rows ts) → GoesBack ts ts v v t count (records_at v t) count
begins ts v t count enough own can =
    record {
      log = sym (own_records v t);
      rest = refl;
      enough = enough;
      put = refl;
      can = can;
      own = own;
      given_up = none_given_up ts (undo_of v);
    }

-- the terminal's segment stays open
pub still_open : (ts ts' : tables.Places) (v v' : SegmentLog) (t count : ℕ) (rs : List Logged) (left : ℕ)
    → GoesBack ts ts' v v' t count rs left
    → (x : ℕ) → is_some (active_at v' x) ≡ is_some (active_at v x)
still_open ts ts' v v' t count rs left h x = ap (λ z. is_some (active_at z x)) h.log ∙ records_open v t rs x

-- the newest of some records, if there is one
abbrev pub newest_before : List Logged → Option Record
newest_before rs = option_map (λ (z : Previous × Record). z.1) (newest_of rs)

-- the next record can be put back
pub can_go : (ts ts' : tables.Places) (v v' : SegmentLog) (t count : ℕ) (rs : List Logged) (left : ℕ) (b : Record)
    → newest_before rs ≡ Some b
    → GoesBack ts ts' v v' t count rs (suc left) → CanPutBack ts' b
can_go ts ts' v v' t count [] left b e h = cc
can_go ts ts' v v' t count (r ∷ rs) left b e h =
    subst (CanPutBack ts') (some_inj _ _ e) (record { stands = h.can.0; place = h.own.0; schema = h.can.1 })

-- and what is then left
pub goes : (ts ts' ts'' : tables.Places) (v v' : SegmentLog) (t count : ℕ) (o : Open) (rs : List Logged) (left : ℕ)
    (b : OwnRecord) → length v'.terminals ≡ terminal_limit
    → active_at v t ≡ Some o → newest_before rs ≡ Some (record_of_own b)
    → rows ts'' ≡ put_back (record_of_own b) (rows ts')
    → PutsBack (record_of_own b) (record_key (record_of_own b)) ts' ts'' (without_newest v' t)
    → GoesBack ts ts' v v' t count rs (suc left) → GoesBack ts ts'' v (without_newest v' t) t count (drop 1 rs) left
goes ts ts' ts'' v v' t count o [] left b size is e put back h = cc
goes ts ts' ts'' v v' t count o (r ∷ rs) left b size is e put back h =
    let same : r.before ≡ record_of_own b = some_inj _ _ e in
    let now : rows ts'' ≡ put_back r.before (rows ts') = put ∙ ap (λ z. put_back z (rows ts')) (sym same) in
    let gone : without_newest v' t ≡ with_records v t rs = ap (λ z. without_newest z t) h.log
    ∙ one_popped v t o (r ∷ rs) is in
    let active : (undo_of v').active t ≡ record_of_own b ∷ model_records rs =
    ap (λ z. (undo_of z).active t) h.log ∙ ap model_records (records_are v t o (r ∷ rs) is)
    ∙ ap (λ z. z ∷ model_records rs) same in
    let after : undo_of (without_newest v' t) ≡ put_records system t (model_records rs) (undo_of v') =
    ap undo_of gone ∙ (records_stand v t o rs is).undo
    ∙ sym (put_twice t (model_records rs) (model_records (r ∷ rs)) (undo_of v))
    ∙ ap (put_records system t (model_records rs)) (sym (ap undo_of h.log ∙ (records_stand v t o (r ∷ rs) is).undo)) in
    let sized : length (without_newest v' t).terminals ≡ terminal_limit = records_size v' t (drop 1 (records_at v' t))
    ∙ size in
    let step = one_given_up b ts' ts'' v' (without_newest v' t) t (model_records rs) sized active after
    (subst (λ z. Stands z (rows ts')) same h.can.0) put back in
    record {
      log = gone;
      rest = h.rest;
      enough = let enough = h.enough in omega arith;
      put = ap (unwind system (take left (model_records rs))) now ∙ h.put;
      can = subst (CanUnwind (take left (model_records rs))) (sym now) h.can.2;
      own = still_placed ts' ts'' (model_records rs)
          (λ k has p. step.named k p
          (λ none. none.0 t (subst (λ (bs : List Record). HasRecord system k bs)
          (sym (ap (λ (z : SegmentLog). (undo_of z).active t) gone ∙ ap model_records (records_are v t o rs is)))
          has)))
          h.own.1;
      given_up = then_given_up ts ts' ts'' (undo_of v) (undo_of v') (undo_of (without_newest v' t)) h.given_up step;
    }

-- they are what the terminal then has
pub goes_on : (ts ts' ts'' : tables.Places) (v v' w : SegmentLog) (t count left : ℕ) (b : OwnRecord)
    → length v'.terminals ≡ terminal_limit
    → is_some (active_at v t) ≡ true → newest_before (records_at v' t) ≡ Some (record_of_own b)
    → rows ts'' ≡ put_back (record_of_own b) (rows ts')
    → PutsBack (record_of_own b) (record_key (record_of_own b)) ts' ts'' w → w ≡ without_newest v' t
    → GoesBack ts ts' v v' t count (records_at v' t) (suc left) → GoesBack ts ts'' v w t count (records_at w t) left
goes_on ts ts' ts'' v v' w t count left b size open_is e put back pop h =
    let o = some_of (active_at v t) open_is in
    let g : GoesBack ts ts'' v w t count (drop 1 (records_at v' t)) left =
    subst (λ z. GoesBack ts ts'' v z t count (drop 1 (records_at v' t)) left) (sym pop)
    (goes ts ts' ts'' v v' t count o.0 (records_at v' t) left b size o.1 e put
    (subst (PutsBack (record_of_own b) (record_key (record_of_own b)) ts' ts'') pop back) h) in
    let own : drop 1 (records_at v' t) ≡ records_at w t =
    sym (ap (λ z. records_at z t) g.log ∙ records_are v t o.0 (drop 1 (records_at v' t)) o.1) in
    subst (λ rs. GoesBack ts ts'' v w t count rs left) own g

-- there is one as long as any are to go
pub none_left : (ts ts' : tables.Places) (v v' : SegmentLog) (t count : ℕ) (rs : List Logged) (left : ℕ) → 0 < left
    → newest_before rs ≡ None
    → GoesBack ts ts' v v' t count rs left → ⊥
none_left ts ts' v v' t count [] left some e h = let enough = h.enough in omega arith
none_left ts ts' v v' t count (r ∷ rs) left some e h = cc

-- at the end
pub ends : (ts ts' : tables.Places) (v v' : SegmentLog) (t count : ℕ) (o : Open) (rs : List Logged)
    → active_at v t ≡ Some o
    → GoesBack ts ts' v v' t count rs 0 → TakesBack ts v t count ts' v'
ends ts ts' v v' t count o rs is h =
    let stands = records_stand v t o rs is in
    let records : (undo_of v').active t ≡ model_records rs = ap (λ z. (undo_of z).active t) h.log
    ∙ ap model_records (records_are v t o rs is) in
    record {
      rows = h.put;
      records = records ∙ ap model_records h.rest ∙ sym (drop-map (λ (r : Logged). r.before) count (records_at v t));
      others = record {
        is_open = still_open ts ts' v v' t count rs 0 h;
        undo = ap undo_of h.log ∙ stands.undo ∙ ap (λ z. put_records system t z (undo_of v)) (sym records);
        seals = ap seals_of h.log ∙ stands.seals;
        counts = ap counts_of h.log ∙ stands.counts;
        size = ap (λ (z : SegmentLog). length z.terminals) h.log ∙ records_size v t rs;
        extents = ap (λ (z : SegmentLog). z.extents) h.log;
        layout = ap (λ (z : SegmentLog). z.layout) h.log;
        places = h.given_up;
        own = subst (HavePlaces ts') (sym records) h.own;
      };
    }
