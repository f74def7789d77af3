-- What the calls make of heads and of the records beside them.
use Rattle.std.proofs.Common.{◌≡◌, ℕ, zero, suc, ◌+◌, ◌-◌, ◌<◌, ◌≤◌, refl, sym, ap, ◌∙◌, subst, inl, inr, arith, rules}
use Rattle.std.proofs.Common.{List, [], ◌∷◌, length, get_or, set, take, drop, replicate, Bool, false, Option, None}
use Rattle.std.proofs.Common.{Some, is_some}
use Rattle.std.specs.Option.{IsSome}
use Rattle.std.specs.Prelude.{slice_get, option_map}
use Rattle.std.proofs.lemmas.Bool.{cases_eq, cases_lt}
use Rattle.std.proofs.lemmas.Option.{slice_get_within, get_or_from_slice_get}
use Rattle.std.proofs.lemmas.List.Elements.{All-get_or}
use Rattle.std.proofs.lemmas.List.{length-map, length-set, get_or-set_same, get_or-set_other, get_or_read, set-get_or}
use Rattle.std.proofs.lemmas.List.{length-replicate, get_or_past}
use Rattle.oe_values.specs.declared.numbers.TheConstants.{TERMINALS}
use Rattle.oe_rows.specs.declared.layouts.Layout.{Layout}
use Rattle.oe_extent.specs.Ring as ring
use Rattle.oe_log.specs.Records.{Logged}
use Rattle.oe_log.specs.Strings.{records_in}
use Rattle.oe_log.proofs.Lists as log
use Rattle.oe_log.proofs.Lists.{RecordLists, no_lists, lists_of}
use Rattle.oe_log.specs.declared.heads.SegmentOwner.{SegmentOwner}
use Rattle.oe_log.specs.declared.heads.TerminalHead.{TerminalHead}
use Rattle.oe_log.specs.Log as seen
use Rattle.oe_log.specs.Log.{SegmentLog, Open, TerminalState, idle_terminals}
use Rattle.oe_log.specs.Kept.{Head, idle_head, idle_heads, head_at, open_with, state_with, states, commits, IsCounted}
use Rattle.oe_log.specs.Kept.{CommitsTell, AreHeads, IsKept}
use Rattle.oe_log.specs.Stands.{model_records, DeletesNothing}
use Rattle.oe_layout.specs.Stored.{deleted_new_order}
use Rattle.oe_log.proofs.HeadFacts as heads
use Rattle.oe_log.proofs.StateFacts as states_of
use Rattle.oe_log.proofs.ZipFacts.{states-set, states-length, states-at, states-total, states-opens, seen_records}
use Rattle.oe_log.proofs.ZipFacts.{seen_other, commits-length, commits-take, commits-records, commits-count}
use Rattle.oe_log.proofs.ZipFacts.{commits-owner, head_owner}

-- what is seen of lists of records beside their heads
abbrev pub seen_as : Layout → List TerminalHead → List Head → RecordLists → SegmentLog
seen_as y hs cs l = record {
  terminals = states hs l.active;
  committed = commits cs l.committed;
  extents = l.extents;
  layout = y;
}

-- heads stand beside the records of each
pub record AreBeside (hs : List TerminalHead) (cs : List Head) (active committed : List (List Logged)) : Type 0 where
  pub slots : length active ≡ suc TERMINALS
  pub one_by_one : length committed ≡ length cs
  -- a terminal without an open segment has no records
  pub empty : (t : ℕ) → (head_at hs t).active ≡ None → get_or active t [] ≡ []
  -- what does not say that it deletes has no record of a deleted row
  pub open_deletes : (t : ℕ) → (head_at hs t).deletes ≡ false → DeletesNothing (model_records (get_or active t []))
  pub commit_deletes : CommitsTell cs committed

-- the heads keep their promise beside these lists
pub record Keeps (hs : List TerminalHead) (cs : List Head) (capacity : ℕ) (l : RecordLists) : Type 0 where
  pub heads : AreHeads hs cs capacity l.newest l.opens
  pub records : AreBeside hs cs l.active l.committed

-- and they are seen so
pub record Stands (y : Layout) (hs : List TerminalHead) (cs : List Head) (capacity : ℕ) (l : RecordLists)
    (v : SegmentLog) : Type
    0 where
  pub kept : Keeps hs cs capacity l
  pub view : seen_as y hs cs l ≡ v

-- all that is kept, where the records lie in the ring
pub inside : {hs : List TerminalHead} {cs : List Head} {capacity : ℕ} {r : ring.RingStrings} {opens newest : ℕ}
    → IsKept hs cs capacity r opens newest
    → Keeps hs cs capacity (lists_of r opens newest)
inside {hs} {cs} {capacity} {r} {opens} {newest} K = record {
  heads = K.heads;
  records = record {
    slots = length-map r.active records_in ∙ K.lie.slots;
    one_by_one = length-map r.committed records_in
        ∙ sym (length-map r.committed (λ (ss : List (ring.Addressed)). length ss))
        ∙ sym (ap length K.lie.committed_lens_are) ∙ length-map cs (λ (c : Head). c.len);
    empty = K.empty;
    open_deletes = K.open_deletes;
    commit_deletes = K.commit_deletes;
  };
}

-- a head with another number of records, of which it is said whether any is of a deleted row
abbrev pub head_told : TerminalHead → Bool → ℕ → TerminalHead
head_told x m n = record { count = x.count; active = x.active; deletes = m; len = n }

past_all : (cs : List Head) (later : ℕ) → None ≡ slice_get cs later → length cs ≤ later
past_all [] later e = omega arith
past_all (c ∷ cs) zero e = let no : ⊥ = cc in absurd no
past_all (c ∷ cs) (suc later) e = omega (arith, past_all cs later e)

module _ (y : Layout) {hs : List TerminalHead} {cs : List Head} {capacity : ℕ} {l : RecordLists}
    (K : Keeps hs cs capacity l) where
  pub as_many : length l.active ≡ length hs
  as_many = K.records.slots ∙ sym K.heads.size

  pub within : (t : ℕ) → t ≤ 64 → t < length hs
  within t high = let size : length hs ≡ 65 = K.heads.size in omega arith

  pub is_head : (t : ℕ) (x : TerminalHead) → t ≤ 64 → x ≡ get_or hs t x → x ≡ head_at hs t
  is_head t x high read = get_or_read hs t x (within t high) read idle_head

  pub total_is : seen.total_count (seen_as y hs cs l) ≡ l.newest
  total_is = states-total hs l.active as_many ∙ sym K.heads.moments

  pub opens_is : seen.open_total (seen_as y hs cs l) ≡ l.opens
  opens_is = states-opens hs l.active as_many ∙ sym K.heads.opens_are

  pub records_are : (t : ℕ) → seen.records_at (seen_as y hs cs l) t ≡ log.records_at l t
  records_are t = ap (λ (s : TerminalState). seen.records_in s.active) (states-at hs l.active t as_many)
      ∙ seen_records (log.records_at l t) (head_at hs t).active (K.records.empty t)

  pub count_is : (t : ℕ) → seen.count_at (seen_as y hs cs l) t ≡ (head_at hs t).count
  count_is t = ap (λ (s : TerminalState). s.count) (states-at hs l.active t as_many)

  pub seen_size : length (seen_as y hs cs l).terminals ≡ 65
  seen_size = states-length hs l.active as_many ∙ K.heads.size

  pub seen_commits : length (seen_as y hs cs l).committed ≡ length cs
  seen_commits = commits-length cs l.committed K.records.one_by_one

  pub seen_committed : seen.committed_records (seen_as y hs cs l) ≡ l.committed
  seen_committed = commits-records cs l.committed K.records.one_by_one

  open_as : (rs : List Logged) (a : Option SegmentOwner) → is_some (option_map (open_with rs) a) ≡ is_some a
  open_as rs None = refl
  open_as rs (Some n) = refl

  pub open_is : (t : ℕ) → is_some (seen.active_at (seen_as y hs cs l) t) ≡ is_some (head_at hs t).active
  open_is t = ap (λ (s : TerminalState). is_some s.active) (states-at hs l.active t as_many)
      ∙ open_as (log.records_at l t) (head_at hs t).active

  open_not_none : (a : Option SegmentOwner) → IsSome a → a ≡ None → ⊥
  open_not_none None some e = search (rules, some)
  open_not_none (Some n) some e = cc

  some_as : (rs : List Logged) (a : Option SegmentOwner) → IsSome (option_map (open_with rs) a) → IsSome a
  some_as rs None h = search (rules, h)
  some_as rs (Some n) h = search rules

  none_as : (rs : List Logged) (a : Option SegmentOwner) → option_map (open_with rs) a ≡ None → a ≡ None
  none_as rs None h = refl
  none_as rs (Some n) h = cc

  -- a terminal whose segment is seen open has it open
  pub some_open : (t : ℕ) → IsSome (seen.active_at (seen_as y hs cs l) t) → IsSome (head_at hs t).active
  some_open t h = some_as (log.records_at l t) (head_at hs t).active
      (subst (λ (s : TerminalState). IsSome s.active) (states-at hs l.active t as_many) h)

  -- and is one of the 64
  known : (t : ℕ) → IsSome (head_at hs t).active → t ≤ 64
  known t some =
      let size : length hs ≡ 65 = K.heads.size in
      elim (cases_lt t (length hs)) [
        | inl less ↦ omega arith
        | inr past ↦ absurd (open_not_none (head_at hs t).active some
            (ap (λ (z : TerminalHead). z.active) (get_or_past hs t idle_head past)))
      ]

  pub none_open : (t : ℕ) → seen.active_at (seen_as y hs cs l) t ≡ None → (head_at hs t).active ≡ None
  none_open t h = none_as (log.records_at l t) (head_at hs t).active
      (ap (λ (s : TerminalState). s.active) (sym (states-at hs l.active t as_many)) ∙ h)

  -- a terminal's head and its records are replaced
  terminals_set : (t : ℕ) (h : TerminalHead) (rs : List Logged)
      → states (set hs t h) (set l.active t rs) ≡ set (states hs l.active) t (state_with h rs)
  terminals_set t h rs = states-set hs l.active t h rs

  -- its head alone
  head_set : (t : ℕ) (h : TerminalHead) → states (set hs t h) l.active ≡ set (states hs l.active) t
      (state_with h (log.records_at l t))
  head_set t h = ap (λ rss. states (set hs t h) rss) (sym (set-get_or l.active t []))
      ∙ states-set hs l.active t h (log.records_at l t)

  -- of the others what was so is so still
  empty_still : (t : ℕ) (h : TerminalHead) (rs : List Logged) → t ≤ 64 → (h.active ≡ None → rs ≡ [])
      → (u : ℕ) → (head_at (set hs t h) u).active ≡ None → get_or (set l.active t rs) u [] ≡ []
  empty_still t h rs high now u none =
      elim (cases_eq u t) [
        | inl e ↦
            ap (λ w. get_or (set l.active t rs) w []) e
            ∙ get_or-set_same l.active t rs [] (let slots : length l.active ≡ 65 = K.records.slots in omega arith)
            ∙ now (ap (λ z. z.active) (sym (get_or-set_same hs t h idle_head (within t high)))
            ∙ ap (λ w. (head_at (set hs t h) w).active) (sym e) ∙ none)
        | inr ne ↦
            get_or-set_other l.active t u rs [] ne
            ∙ K.records.empty u (ap (λ z. z.active) (sym (get_or-set_other hs t u h idle_head ne)) ∙ none)
      ]

  deletes_still : (t : ℕ) (h : TerminalHead) (rs : List Logged) → t ≤ 64
      → (h.deletes ≡ false → DeletesNothing (model_records rs))
      → (u : ℕ) → (head_at (set hs t h) u).deletes ≡ false
      → DeletesNothing (model_records (get_or (set l.active t rs) u []))
  deletes_still t h rs high now u none =
      elim (cases_eq u t) [
        | inl e ↦
            subst (λ w. DeletesNothing (model_records (get_or (set l.active t rs) w []))) (sym e)
            (subst (λ (qs : List Logged). DeletesNothing (model_records qs))
            (sym (get_or-set_same l.active t rs [] (let slots : length l.active ≡ 65 = K.records.slots in omega arith)))
            (now (ap (λ z. z.deletes) (sym (get_or-set_same hs t h idle_head (within t high)))
            ∙ ap (λ w. (head_at (set hs t h) w).deletes) (sym e) ∙ none)))
        | inr ne ↦
            subst (λ (qs : List Logged). DeletesNothing (model_records qs))
            (sym (get_or-set_other l.active t u rs [] ne))
            (K.records.open_deletes u (ap (λ z. z.deletes) (sym (get_or-set_other hs t u h idle_head ne)) ∙ none))
      ]

  -- the records stay
  deletes_kept : (t : ℕ) (h : TerminalHead) → t ≤ 64
      → (h.deletes ≡ false → DeletesNothing (model_records (log.records_at l t)))
      → (u : ℕ) → (head_at (set hs t h) u).deletes ≡ false → DeletesNothing (model_records (get_or l.active u []))
  deletes_kept t h high now u none =
      subst (λ (rss : List (List Logged)). DeletesNothing (model_records (get_or rss u []))) (set-get_or l.active t [])
      (deletes_still t h (log.records_at l t) high now u none)

  -- nothing is deleted by no records
  none_deleted : (rs : List Logged) → rs ≡ [] → DeletesNothing (model_records rs)
  none_deleted rs e = subst (λ (qs : List Logged). DeletesNothing (model_records qs)) (sym e) tt

  -- a commit that does not say that it deletes has no record of a deleted row
  pub told_deletes : (later : ℕ) (c : Head) → slice_get cs later ≡ Some c → c.deletes ≡ false
      → DeletesNothing (model_records (get_or (seen.committed_records (seen_as y hs cs l)) later []))
  told_deletes later c found none =
      subst (λ (rss : List (List Logged)). DeletesNothing (model_records (get_or rss later []))) (sym seen_committed)
      (K.records.commit_deletes later c found none)

  -- and so has none past the last
  pub none_past : (later : ℕ) → None ≡ slice_get cs later
      → DeletesNothing (model_records (get_or (seen.committed_records (seen_as y hs cs l)) later []))
  none_past later past =
      let all : length (seen.committed_records (seen_as y hs cs l)) ≤ later =
      (let n = ap length seen_committed in let m = K.records.one_by_one in let q = past_all cs later past in
      omega arith) in
      none_deleted _ (get_or_past (seen.committed_records (seen_as y hs cs l)) later [] all)

  -- ---- what calls ask for

  pub some_opens : (u : ℕ) → IsSome (seen.active_at (seen_as y hs cs l) u) → 0 < l.opens
  some_opens u some =
      let active = some_open u some in
      heads.some_open hs cs capacity l.newest l.opens u K.heads (known u active) active

  pub few_opens : (t u : ℕ) → t ≡ u → 1 ≤ t → t ≤ 64 → seen.active_at (seen_as y hs cs l) u ≡ None → l.opens < 64
  few_opens t u tu low high none =
      heads.few_open hs cs capacity l.newest l.opens t K.heads low high
      (none_open t (ap (λ z. seen.active_at (seen_as y hs cs l) z) tu ∙ none))

  pub below_count : (t u n : ℕ) (x : TerminalHead) → t ≡ u → t ≤ 64 → x ≡ get_or hs t x
      → seen.count_at (seen_as y hs cs l) u < n → x.count < n
  below_count t u n x tu high read less =
      subst (λ k. k < n) (ap (λ z. seen.count_at (seen_as y hs cs l) z) (sym tu) ∙ count_is t
      ∙ ap (λ z. z.count) (sym (is_head t x high read))) less

  pub below_open : (t : ℕ) (x : TerminalHead) (a : SegmentOwner) → t ≤ 64 → x ≡ get_or hs t x → x.active ≡ Some a
      → x.count < 4_294_967_295
  below_open t x a high read active =
      (heads.is_of hs cs capacity l.newest l.opens t x a K.heads (is_head t x high read) active).below

  pub never_none : (t u : ℕ) (x : TerminalHead) → t ≡ u → t ≤ 64 → x ≡ get_or hs t x
      → IsSome (seen.active_at (seen_as y hs cs l) u) → x.active ≡ None → ⊥
  never_none t u x tu high read some none =
      open_not_none (head_at hs t).active
      (some_open t (subst (λ z. IsSome (seen.active_at (seen_as y hs cs l) z)) (sym tu) some))
      (ap (λ z. z.active) (sym (is_head t x high read)) ∙ none)

  -- the open transaction of a terminal is its next
  pub owner_is : (t u : ℕ) (x : TerminalHead) (a : SegmentOwner) → t ≡ u → t ≤ 64 → x ≡ get_or hs t x
      → x.active ≡ Some a
      → a ≡ record { terminal = u; number = suc (seen.count_at (seen_as y hs cs l) u) }
  owner_is t u x a tu high read active =
      let is = is_head t x high read in
      let of = heads.is_of hs cs capacity l.newest l.opens t x a K.heads is active in
      let count : x.count ≡ seen.count_at (seen_as y hs cs l) u =
      ap (λ z. z.count) is ∙ sym (count_is t) ∙ ap (λ z. seen.count_at (seen_as y hs cs l) z) tu in
      λ i. record { terminal = (of.terminal ∙ tu) i; number = (of.number ∙ ap suc count) i }

  pub moment_fits : l.newest < 999_999_999_999
  moment_fits = let most = heads.moment_fits hs cs capacity l.newest l.opens K.heads in omega arith

  -- a commit's number
  pub number_is : (n : ℕ) (d : Head) → Some d ≡ slice_get cs n
      → d.number + seen.commits_of d.terminal (take n (commits cs l.committed)) ≡ seen.count_at (seen_as y hs cs l)
      d.terminal
  number_is n d found =
      ap (λ k. d.number + k) (commits-count d.terminal n cs l.committed K.records.one_by_one)
      ∙ K.heads.numbers n d (sym found) ∙ sym (count_is d.terminal)

  pub number_low : (n : ℕ) (d : Head) → Some d ≡ slice_get cs n → 1 ≤ d.number
  number_low n d found =
      let counted = All-get_or (IsCounted hs) cs n d (slice_get_within cs n d (sym found)) K.heads.commits in
      subst (λ (z : Head). 1 ≤ z.number) (get_or_from_slice_get cs n d d (sym found)) counted.first

  -- whose a commit was
  pub owner_found : (now : Option Head) (n : ℕ) → now ≡ slice_get cs n
      → option_map head_owner now ≡ option_map seen.owner_of (slice_get (commits cs l.committed) n)
  owner_found now n found = ap (option_map head_owner) found ∙ sym (commits-owner n cs l.committed K.records.one_by_one)

  pub oldest_found : (now : Option Head) → now ≡ slice_get cs (length cs - 1)
      → option_map head_owner now ≡ option_map seen.owner_of
      (slice_get (seen_as y hs cs l).committed (length (seen_as y hs cs l).committed - 1))
  oldest_found now found =
      owner_found now (length cs - 1) found
      ∙ ap (λ n. option_map seen.owner_of (slice_get (commits cs l.committed) (n - 1)))
      (sym (commits-length cs l.committed K.records.one_by_one))

  -- ---- an open segment

  pub opened : (t u capacity' more : ℕ) (x : TerminalHead) (b : SegmentOwner) (hs' : List TerminalHead)
      (cs' : List Head) (l' : RecordLists)
      → t ≡ u → 1 ≤ t → t ≤ 64 → x ≡ get_or hs t x → seen.active_at (seen_as y hs cs l) u ≡ None
      → seen.count_at (seen_as y hs cs l) u < 4_294_967_295
      → b.terminal ≡ u → b.number ≡ x.count + 1
      → hs' ≡ set hs t (record { count = x.count; active = Some b; deletes = false; len = x.len }) → cs' ≡ cs
      → more ≡ l.opens + 1 → length cs' + more ≤ capacity' → l' ≡ log.with_one_open_more l
      → Stands y hs' cs' capacity' l' (seen.with_segment (seen_as y hs cs l) u)
  opened t u capacity' more x b hs' cs' l' tu low high read none below whose which eh ec em room el =
      let is = is_head t x high read in
      let closed : (head_at hs t).active ≡ None =
      none_open t (ap (λ z. seen.active_at (seen_as y hs cs l) z) tu ∙ none) in
      let few : (head_at hs t).count < 4_294_967_295 = subst (λ n. n < 4_294_967_295)
      (ap (λ z. seen.count_at (seen_as y hs cs l) z) (sym tu) ∙ count_is t) below in
      let b_is : b ≡ record { terminal = t; number = suc (seen.count_at (seen_as y hs cs l) t) } =
      (λ i. record {
        terminal = (whose ∙ sym tu) i;
        number = (which ∙ one_more x.count ∙ ap suc (ap (λ z. z.count) is ∙ sym (count_is t))) i;
      }) in
      let h : TerminalHead = record { count = x.count; active = Some b; deletes = false; len = x.len } in
      let heads' = heads.opened hs cs capacity l.newest l.opens capacity' (suc l.opens) t x false x.len b K.heads low
      high is closed few (whose ∙ sym tu) (which ∙ one_more x.count) refl
      (omega (arith, room, em, ap length ec)) in
      rw (eh, ec, el, ← tu)
      record {
        kept = record {
          heads = heads';
          records = record {
            slots = K.records.slots;
            one_by_one = K.records.one_by_one;
            empty = λ w none.
                ap (λ rss. get_or rss w []) (sym (set-get_or l.active t []))
                ∙ empty_still t h (log.records_at l t) high (λ e. cc) w none;
            open_deletes = deletes_kept t h high (λ e. none_deleted (log.records_at l t) (K.records.empty t closed));
            commit_deletes = K.records.commit_deletes;
          };
        };
        view = ap (λ z. record (seen_as y hs cs l) { terminals = z })
            (head_set t h ∙ (λ i. set (states hs l.active) t
            (record {
              count = (ap (λ z. z.count) is ∙ sym (count_is t)) i;
              active = Some (open_with (K.records.empty t closed i) (b_is i));
            })));
      }
    where
      one_more : (n : ℕ) → n + 1 ≡ suc n
      one_more n = omega arith

  pub dropped : (t u : ℕ) (x : TerminalHead) (hs' : List TerminalHead) (l' : RecordLists)
      → t ≡ u → 1 ≤ t → t ≤ 64 → x ≡ get_or hs t x → IsSome (seen.active_at (seen_as y hs cs l) u)
      → seen.records_at (seen_as y hs cs l) u ≡ []
      → hs' ≡ set hs t (record { count = x.count; active = None; deletes = x.deletes; len = x.len }) → l'
      ≡ log.with_one_open_less l
      → Stands y hs' cs capacity l' (seen.without_segment (seen_as y hs cs l) u)
  dropped t u x hs' l' tu low high read some none eh el =
      let is = is_head t x high read in
      let active = some_open t (subst (λ z. IsSome (seen.active_at (seen_as y hs cs l) z)) (sym tu) some) in
      let empty : log.records_at l t ≡ [] = sym (records_are t) ∙ ap (λ z. seen.records_at (seen_as y hs cs l) z) tu
      ∙ none in
      let h : TerminalHead = record { count = x.count; active = None; deletes = x.deletes; len = x.len } in
      rw (eh, el, ← tu)
      record {
        kept = record {
          heads = heads.closed hs cs capacity l.newest l.opens t x x.deletes x.len K.heads low high is active;
          records = record {
            slots = K.records.slots;
            one_by_one = K.records.one_by_one;
            empty = λ w gone.
                ap (λ rss. get_or rss w []) (sym (set-get_or l.active t []))
                ∙ empty_still t h (log.records_at l t) high (λ e. empty) w gone;
            open_deletes = deletes_kept t h high (λ e. none_deleted (log.records_at l t) empty);
            commit_deletes = K.records.commit_deletes;
          };
        };
        view = ap (λ z. record (seen_as y hs cs l) { terminals = z })
            (head_set t h ∙ (λ i. set (states hs l.active) t
            (record { count = (ap (λ z. z.count) is ∙ sym (count_is t)) i; active = None })));
      }

  -- other records in an open segment, of whose terminal it is said whether any is of a deleted row
  recorded : (t : ℕ) (x : TerminalHead) (m : Bool) (n : ℕ) (rs : List Logged) → 1 ≤ t → t ≤ 64 → x ≡ head_at hs t
      → IsSome (head_at hs t).active
      → (m ≡ false → DeletesNothing (model_records rs))
      → Stands y (set hs t (head_told x m n)) cs capacity (log.with_records l t rs)
      (seen.with_records (seen_as y hs cs l) t rs)
  recorded t x m n rs low high is some none =
      let h = head_told x m n in
      record {
        kept = record {
          heads = heads.told hs cs capacity l.newest l.opens t x m n K.heads low high is;
          records = record {
            slots = length-set l.active t rs ∙ K.records.slots;
            one_by_one = K.records.one_by_one;
            empty = empty_still t h rs high
                (λ e. absurd (open_not_none (head_at hs t).active some (ap (λ z. z.active) (sym is) ∙ e)));
            open_deletes = deletes_still t h rs high none;
            commit_deletes = K.records.commit_deletes;
          };
        };
        view = ap (λ z. record (seen_as y hs cs l) { terminals = z })
            (terminals_set t h rs ∙ (λ i. set (states hs l.active) t
            (record {
              count = (ap (λ z. z.count) is ∙ sym (count_is t)) i;
              active = (ap (λ (z : TerminalHead). option_map (open_with rs) z.active) is
                  ∙ seen_other (log.records_at l t) rs (head_at hs t).active
                  ∙ ap (λ (s : TerminalState). option_map {T = Open} (λ o. record o { records = rs }) s.active)
                  (sym (states-at hs l.active t as_many))) i;
            })));
      }

  pub pushed : (t u : ℕ) (x : TerminalHead) (m : Bool) (n : ℕ) (r : Logged) (l' : RecordLists) → t ≡ u → 1 ≤ t → t ≤ 64
      → x ≡ get_or hs t x
      → IsSome (seen.active_at (seen_as y hs cs l) u) → (m ≡ false → x.deletes ≡ false)
      → (m ≡ false → deleted_new_order r.before ≡ None) → l' ≡ log.with_newest_at l t r
      → Stands y (set hs t (head_told x m n)) cs capacity l' (seen.with_record (seen_as y hs cs l) u r)
  pushed t u x m n r l' tu low high read some before none el =
      let is = is_head t x high read in
      rw (el, ← tu, records_are t)
      (recorded t x m n (r ∷ log.records_at l t) low high is
      (some_open t (subst (λ z. IsSome (seen.active_at (seen_as y hs cs l) z)) (sym tu) some))
      (λ e. (none e, K.records.open_deletes t (ap (λ z. z.deletes) (sym is) ∙ before e))))

  -- the newest record of an open segment is taken off
  pub popped : (t u : ℕ) (x : TerminalHead) (n : ℕ) (l' : RecordLists) → t ≡ u → 1 ≤ t → t ≤ 64 → x ≡ get_or hs t x
      → IsSome (seen.active_at (seen_as y hs cs l) u) → l' ≡ log.without_newest_at l t
      → Stands y (set hs t (head_told x x.deletes n)) cs capacity l' (seen.without_newest (seen_as y hs cs l) u)
  popped t u x n l' tu low high read some el =
      let is = is_head t x high read in
      rw (el, ← tu, records_are t)
      (recorded t x x.deletes n (drop 1 (log.records_at l t)) low high is
      (some_open t (subst (λ z. IsSome (seen.active_at (seen_as y hs cs l) z)) (sym tu) some))
      (λ e. fewer (log.records_at l t) (K.records.open_deletes t (ap (λ z. z.deletes) (sym is) ∙ e))))
    where
      fewer : (rs : List Logged) → DeletesNothing (model_records rs) → DeletesNothing (model_records (drop 1 rs))
      fewer [] h = tt
      fewer (r ∷ rs) h = h.1

  -- where it has none, there is nothing to be taken off
  pub none_popped : (u : ℕ) → seen.records_at (seen_as y hs cs l) u ≡ []
      → seen_as y hs cs l ≡ seen.without_newest (seen_as y hs cs l) u
  none_popped u none = sym (states_of.none_popped (seen_as y hs cs l) u none)

  -- ---- commits

  pub sealed : (t u m : ℕ) (x : TerminalHead) (a : SegmentOwner) (left : Option SegmentOwner) (d : Head) (capacity' : ℕ)
      (hs' : List TerminalHead) (cs' : List Head) (l' : RecordLists)
      → t ≡ u → 1 ≤ t → t ≤ 64 → x ≡ get_or hs t x → x.active ≡ Some a → left ≡ None → m ≡ x.count + 1
      → d.terminal ≡ a.terminal → d.number ≡ a.number → d.deletes ≡ x.deletes
      → hs' ≡ set hs t (record { count = m; active = left; deletes = x.deletes; len = 0 }) → cs' ≡ d ∷ cs
      → capacity' ≡ capacity
      → l' ≡ log.lists_after_seal l t
      → Stands y hs' cs' capacity' l' (seen.after_seal (seen_as y hs cs l) u d.request d.reply)
  sealed t u m x a left d capacity' hs' cs' l' tu low high read active none more whose which says eh ec ecap el =
      let is = is_head t x high read in
      let of = heads.is_of hs cs capacity l.newest l.opens t x a K.heads is active in
      let count : m ≡ suc x.count = more ∙ one_more x.count in
      let h : TerminalHead = record { count = suc x.count; active = None; deletes = x.deletes; len = 0 } in
      let counted : x.count ≡ seen.count_at (seen_as y hs cs l) t = ap (λ z. z.count) is ∙ sym (count_is t) in
      let heads' = heads.sealed hs cs capacity l.newest l.opens capacity (suc l.newest) t x x.deletes 0 a d K.heads low
      high is active whose which refl refl in
      rw (eh, ec, ecap, el, ← tu, none, count)
      record {
        kept = record {
          heads = heads';
          records = record {
            slots = length-set l.active t [] ∙ K.records.slots;
            one_by_one = ap suc K.records.one_by_one;
            empty = empty_still t h [] high (λ e. refl);
            open_deletes = deletes_still t h [] high (λ e. tt);
            commit_deletes = tells_more (λ e. K.records.open_deletes t (ap (λ z. z.deletes) (sym is) ∙ sym says ∙ e));
          };
        };
        view = λ i. record {
          terminals = (terminals_set t h []
              ∙ (λ j. set (states hs l.active) t (record { count = suc (counted j); active = None }))) i;
          committed = record {
            terminal = (whose ∙ of.terminal) i;
            number = (which ∙ of.number ∙ ap suc counted) i;
            request = d.request;
            reply = d.reply;
            records = sym (records_are t) i;
          } ∷ commits cs l.committed;
          extents = l.extents;
          layout = y;
        };
      }
    where
      one_more : (n : ℕ) → n + 1 ≡ suc n
      one_more n = omega arith

      tells_more : (d.deletes ≡ false → DeletesNothing (model_records (log.records_at l t)))
          → CommitsTell (d ∷ cs) (log.records_at l t ∷ l.committed)
      tells_more new zero c found e = let same : d ≡ c = cc in new (ap (λ (z : Head). z.deletes) same ∙ e)
      tells_more new (suc later) c found e = K.records.commit_deletes later c found e

  pub cut : (m capacity' : ℕ) (cs' : List Head) (l' : RecordLists) → m ≡ length cs → cs' ≡ take (m - 1) cs
      → capacity' ≡ capacity → l' ≡ log.without_oldest l
      → Stands y hs cs' capacity' l' (seen.with_newest (length (seen_as y hs cs l).committed - 1) (seen_as y hs cs l))
  cut m capacity' cs' l' em ec ecap el =
      let n : ℕ = length cs - 1 in
      let fewer : length l.committed - 1 ≡ n = ap (λ z. z - 1) K.records.one_by_one in
      let seen_fewer : length (commits cs l.committed) - 1 ≡ n = ap (λ z. z - 1)
      (commits-length cs l.committed K.records.one_by_one) in
      let taken : cs' ≡ take n cs = ec ∙ ap (λ z. take (z - 1) cs) em in
      let log_taken : l' ≡ record l { committed = take n l.committed } = el
      ∙ ap (λ z. record l { committed = take z l.committed }) fewer in
      rw (taken, ecap, log_taken, seen_fewer)
      record {
        kept = record {
          heads = heads.cut hs cs capacity l.newest l.opens capacity n K.heads refl;
          records = record {
            slots = K.records.slots;
            one_by_one = both_taken n l.committed cs K.records.one_by_one;
            empty = K.records.empty;
            open_deletes = K.records.open_deletes;
            commit_deletes = λ later c found e. fewer_commits n l.committed later
                (K.records.commit_deletes later c (heads.found_in_front cs n later c found) e);
          };
        };
        view = ap (λ z. record (seen_as y hs cs l) { committed = z }) (commits-take n cs l.committed);
      }
    where
      fewer_commits : (n : ℕ) (rss : List (List Logged)) (later : ℕ)
          → DeletesNothing (model_records (get_or rss later []))
          → DeletesNothing (model_records (get_or (take n rss) later []))
      fewer_commits zero rss later h = tt
      fewer_commits (suc n) [] later h = tt
      fewer_commits (suc n) (rs ∷ rss) zero h = h
      fewer_commits (suc n) (rs ∷ rss) (suc later) h = fewer_commits n rss later h

      both_taken : (n : ℕ) (rss : List (List Logged)) (ds : List Head) → length rss ≡ length ds
          → length (take n rss) ≡ length (take n ds)
      both_taken zero rss ds e = refl
      both_taken (suc n) [] [] e = refl
      both_taken (suc n) [] (d ∷ ds) e = absurd (omega (arith, e))
      both_taken (suc n) (rs ∷ rss) [] e = absurd (omega (arith, e))
      both_taken (suc n) (rs ∷ rss) (d ∷ ds) e = ap suc (both_taken n rss ds (omega (arith, e)))

-- the newest commit is opened again
module _ (y : Layout) (hs : List TerminalHead) (d : Head) (cs : List Head) (rs : List Logged)
    (rss : List (List Logged)) (capacity extents opens newest : ℕ) (active : List (List Logged))
    (K : Keeps hs (d ∷ cs) capacity
    (record { extents = extents; opens = opens; active = active; committed = rs ∷ rss; newest = newest })) where
  abbrev below : RecordLists
  below = record { extents = extents; opens = opens; active = active; committed = rs ∷ rss; newest = newest }

  reopened_at : (t n : ℕ) (x : TerminalHead) (b : SegmentOwner)
      → 1 ≤ t → t ≤ 64 → d.terminal ≡ t → x ≡ get_or hs t x → (head_at hs t).active ≡ None → b ≡ head_owner d
      → Stands y (set hs t (record { count = x.count - 1; active = Some b; deletes = d.deletes; len = n })) cs capacity
      (log.lists_with_reopening below t)
      (seen.with_reopening (seen_as y hs (d ∷ cs) below) (seen_as y hs (d ∷ cs) below).committed)
  reopened_at t n x b low high whose read closed same =
      let is = is_head y K t x high read in
      let counted : x.count ≡ seen.count_at (seen_as y hs (d ∷ cs) below) t = ap (λ z. z.count) is ∙ sym
      (count_is y K t) in
      let h : TerminalHead = record { count = x.count - 1; active = Some b; deletes = d.deletes; len = n } in
      record {
        kept = record {
          heads = heads.reopened hs cs capacity newest opens capacity (newest - 1) (suc opens) t x d.deletes n b d
              K.heads low high whose is closed (ap (λ z. z.terminal) same) (ap (λ z. z.number) same) refl refl refl;
          records = record {
            slots = length-set active t rs ∙ K.records.slots;
            one_by_one = let both : suc (length rss) ≡ suc (length cs) = K.records.one_by_one in omega arith;
            empty = empty_still y K t h rs high (λ e. cc);
            open_deletes = deletes_still y K t h rs high (λ e. K.records.commit_deletes 0 d refl e);
            commit_deletes = λ later c found e. K.records.commit_deletes (suc later) c found e;
          };
        };
        view = λ i. record {
          terminals = (states-set hs active t h rs
              ∙ (λ j. set (states hs active) (sym whose j)
              (record {
                count = (counted ∙ ap (λ z. seen.count_at (seen_as y hs (d ∷ cs) below) z) (sym whose)) j - 1;
                active = Some (open_with rs (same j));
              }))) i;
          committed = commits cs rss;
          extents = extents;
          layout = y;
        };
      }

pub reopened : (y : Layout) (hs hs' : List TerminalHead) (cs cs' : List Head) (d : Head)
    (capacity capacity' extents opens newest : ℕ) (active committed : List (List Logged)) (t u n : ℕ) (x : TerminalHead)
    (m : Bool) (b : SegmentOwner) (l' : RecordLists)
    → Keeps hs cs capacity
    (record { extents = extents; opens = opens; active = active; committed = committed; newest = newest })
    → cs ≡ d ∷ cs' → capacity' ≡ capacity → t ≡ u → 1 ≤ t → t ≤ 64 → d.terminal ≡ u → x ≡ get_or hs t x
    → (head_at hs t).active ≡ None → b ≡ head_owner d
    → m ≡ d.deletes → hs' ≡ set hs t (record { count = x.count - 1; active = Some b; deletes = m; len = n })
    → l' ≡ log.lists_with_reopening (record {
      extents = extents;
      opens = opens;
      active = active;
      committed = committed;
      newest = newest;
    }) t
    → Stands y hs' cs' capacity' l'
    (seen.with_reopening (seen_as y hs cs
    (record { extents = extents; opens = opens; active = active; committed = committed; newest = newest })) (commits
    cs committed))
reopened y hs hs' cs cs' d capacity capacity' extents opens newest active [] t u n x m b l' K ec ecap tu low high whose
    read closed same says eh el =
    absurd (let none : 0 ≡ length cs = K.records.one_by_one in omega (arith, none, ap length ec))
reopened y hs hs' cs cs' d capacity capacity' extents opens newest active (rs ∷ rss) t u n x m b l' K ec ecap tu low
    high
    whose read closed same says eh el =
    let l : RecordLists =
    record { extents = extents; opens = opens; active = active; committed = rs ∷ rss; newest = newest } in
    let now : hs' ≡ set hs t (record { count = x.count - 1; active = Some b; deletes = d.deletes; len = n }) =
    eh ∙ ap (λ z. set hs t (record { count = x.count - 1; active = Some b; deletes = z; len = n })) says in
    rw (now, ecap, el)
    (subst (λ ds. Stands y (set hs t (record { count = x.count - 1; active = Some b; deletes = d.deletes; len = n }))
    cs'
    capacity (log.lists_with_reopening l t) (seen.with_reopening (seen_as y hs ds l) (commits ds (rs ∷ rss)))) (sym ec)
    (reopened_at y hs d cs' rs rss capacity extents opens newest active (subst (λ ds. Keeps hs ds capacity l) ec K) t n
    x
    b low high (whose ∙ sym tu) read closed same))

-- a new log, and no terminal's state
new_at : (y : Layout) (m e k : ℕ) (hs : List TerminalHead) → m ≡ 65 → AreHeads hs [] k 0 0 → hs ≡ replicate m idle_head
    → Stands y hs [] k (record { extents = e; opens = 0; active = replicate m []; committed = []; newest = 0 })
    (record { terminals = replicate m seen.idle; committed = []; extents = e; layout = y })
new_at y m e k hs size H eh =
    record {
      kept = record {
        heads = H;
        records = record {
          slots = length-replicate m [] ∙ size;
          one_by_one = refl;
          empty = λ t none. none_at m t;
          open_deletes = λ t e. subst (λ (rs : List Logged). DeletesNothing (model_records rs)) (sym (none_at m t)) tt;
          commit_deletes = λ later c found e. let no : ⊥ = cc in absurd no;
        };
      };
      view = ap (λ z. record { terminals = z; committed = []; extents = e; layout = y })
          (ap (λ ks. states ks (replicate m [])) eh ∙ all_idle m);
    }
  where
    all_idle : (m : ℕ) → states (replicate m idle_head) (replicate m []) ≡ replicate m seen.idle
    all_idle zero = refl
    all_idle (suc m) = ap (λ (z : List TerminalState). seen.idle ∷ z) (all_idle m)

    none_at : (m t : ℕ) → get_or {A = List Logged} (replicate m []) t [] ≡ []
    none_at zero t = refl
    none_at (suc m) zero = refl
    none_at (suc m) (suc t) = none_at m t

pub new_is : (y : Layout) (e k : ℕ) (hs : List TerminalHead) (cs : List Head) (l : RecordLists) → hs ≡ idle_heads → cs ≡
    []
    → l ≡ log.no_records e
    → Stands y hs cs k l (seen.no_segments e y)
unfolding idle_heads no_lists idle_terminals
new_is y e k hs cs l eh ec el =
    rw (ec, el) (new_at y 65 e k hs refl (subst (λ ks. AreHeads ks [] k 0 0) (sym eh) (heads.first k)) eh)
