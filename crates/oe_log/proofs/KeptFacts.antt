-- What the calls make of heads and of the strings of the ring together.
use Rattle.std.proofs.Common.{◌≡◌, ℕ, zero, suc, ◌+◌, ◌-◌, ◌<◌, ◌≤◌, refl, sym, ap, ◌∙◌, subst, arith, List, [], ◌∷◌}
use Rattle.std.proofs.Common.{length, map, get_or, set, take, replicate, Bool, false, Option, None, Some}
use Rattle.std.specs.Option.{IsSome}
use Rattle.std.proofs.lemmas.List.{length-map, map-set, get_or-map, set-get_or}
use Rattle.oe_extent.specs.declared.extents.Address.{Address}
use Rattle.oe_extent.specs.Ring as ring
use Rattle.oe_rows.specs.declared.layouts.Layout.{Layout}
use Rattle.oe_layout.specs.declared.links.Previous.{Previous}
use Rattle.oe_layout.specs.declared.loans.LentRecord.{LentRecord}
use Rattle.oe_layout.specs.Links.{IsPrevious}
use Rattle.oe_layout.specs.Records.{record_image, record_of_lent, IsInRanges}
use Rattle.oe_layout.specs.Stored.{deleted_new_order}
use Rattle.oe_log.specs.Records.{log_entry, newest_of}
use Rattle.oe_log.specs.Strings.{records_in, HoldsRecords}
use Rattle.oe_log.specs.declared.heads.SegmentOwner.{SegmentOwner}
use Rattle.oe_log.specs.declared.heads.TerminalHead.{TerminalHead}
use Rattle.oe_log.specs.Log as seen
use Rattle.oe_log.specs.Log.{SegmentLog}
use Rattle.oe_log.specs.Kept.{Head, idle_head, idle_heads, head_at, log_from, lens_of, committed_lens_of, IsKept}
use Rattle.oe_log.proofs.Lists as log
use Rattle.oe_log.proofs.Lists.{no_lists, lists_of}
use Rattle.oe_log.proofs.LogFacts as lists
use Rattle.oe_log.proofs.CommitFacts as commits
use Rattle.oe_log.proofs.ZipFacts.{head_owner}
use Rattle.oe_log.proofs.CallFacts as calls
use Rattle.oe_log.proofs.CallFacts.{inside, head_told}

-- the log keeps its promise, and is seen so
pub record Stands (y : Layout) (hs : List TerminalHead) (cs : List Head) (capacity : ℕ) (r : ring.RingStrings)
    (opens newest : ℕ)
    (v : SegmentLog) : Type 0 where
  pub kept : IsKept hs cs capacity r opens newest
  pub view : log_from y hs cs r ≡ v

both : (y : Layout) (hs : List TerminalHead) (cs : List Head) (capacity : ℕ) (r : ring.RingStrings) (opens newest : ℕ)
    (v : SegmentLog)
    → calls.Stands y hs cs capacity (lists_of r opens newest) v → HoldsRecords r (lens_of hs) (committed_lens_of cs)
    opens
    → Stands y hs cs capacity r opens newest v
both y hs cs capacity r opens newest v s h = record {
  kept = record {
    heads = s.kept.heads;
    lie = h;
    empty = s.kept.records.empty;
    open_deletes = s.kept.records.open_deletes;
    commit_deletes = s.kept.records.commit_deletes;
  };
  view = s.view;
}

-- how many records a head says
len_there : (hs : List TerminalHead) (t : ℕ) (x : TerminalHead) → t < length hs → x ≡ get_or hs t x
    → x.len ≡ get_or (lens_of hs) t x.len
len_there hs t x within e = ap (λ (z : TerminalHead). z.len) e ∙ sym
    (get_or-map (λ (z : TerminalHead). z.len) hs t x x.len within)

lens_set : (hs : List TerminalHead) (t : ℕ) (h : TerminalHead) → lens_of (set hs t h) ≡ set (lens_of hs) t h.len
lens_set hs t h = map-set (λ (z : TerminalHead). z.len) hs t h

-- a head that says the same
lens_same : (hs : List TerminalHead) (t : ℕ) (x h : TerminalHead) → t < length hs → x ≡ get_or hs t x → h.len ≡ x.len
    → lens_of (set hs t h) ≡ lens_of hs
lens_same hs t x h within e same =
    lens_set hs t h ∙ ap (set (lens_of hs) t) (same ∙ len_there hs t x within e) ∙ set-get_or (lens_of hs) t x.len

-- the same strings, and room for other commits
moved : (r : ring.RingStrings) (ls cls ls' cls' : List ℕ) (opens room' opens' : ℕ) → HoldsRecords r ls cls opens
    → ls' ≡ ls → cls' ≡ cls → opens' ≤ room'
    → HoldsRecords (record r { room = room' }) ls' cls' opens'
moved r ls cls ls' cls' opens room' opens' k el ec h = record {
  slots = k.slots;
  extents = k.extents;
  lens_are = el ∙ k.lens_are;
  committed_lens_are = ec ∙ k.committed_lens_are;
  active_are = k.active_are;
  committed_are = k.committed_are;
  room = h;
}

module _ (y : Layout) {hs : List TerminalHead} {cs : List Head} {capacity : ℕ} {r : ring.RingStrings}
    {opens newest : ℕ} (K : IsKept hs cs capacity r opens newest) where
  pub within : (t : ℕ) → t ≤ 64 → t < length hs
  within t high = calls.within y (inside K) t high

  -- as many strings lie in the ring as the head says
  pub len_lies : (t : ℕ) (x : TerminalHead) → t ≤ 64 → x ≡ get_or hs t x → x.len ≡ length (get_or r.active t [])
  len_lies t x high read = lists.len_at newest K.lie t x.len (omega (arith, high))
      (len_there hs t x (within t high) read)

  pub len_is : (t u : ℕ) (x : TerminalHead) → t ≡ u → t ≤ 64 → x ≡ get_or hs t x
      → x.len ≡ length (seen.records_at (log_from y hs cs r) u)
  len_is t u x tu high read =
      lists.len_is newest K.lie t x.len (omega (arith, high)) (len_there hs t x (within t high) read)
      ∙ ap length (sym (calls.records_are y (inside K) t))
      ∙ ap (λ z. length (seen.records_at (log_from y hs cs r) z)) tu

  -- where the head says none, there is none
  pub none_newest : (t u : ℕ) (x : TerminalHead) → t ≡ u → t ≤ 64 → x ≡ get_or hs t x → x.len ≡ 0
      → None ≡ newest_of (seen.records_at (log_from y hs cs r) u)
  none_newest t u x tu high read none = lists.none_there (seen.records_at (log_from y hs cs r) u)
      (sym (len_is t u x tu high read) ∙ none)

  -- each commit that is seen has its strings
  pub commit_there : (later : ℕ) → later < length (log_from y hs cs r).committed → later < length r.committed
  commit_there later h =
      omega (
        arith,
        h,
        calls.seen_commits y (inside K),
        (inside K).records.one_by_one,
        length-map r.committed
            records_in,
      )

  -- as many moments before the newest as commits are kept
  pub horizon_value : (n m : ℕ) → m ≡ length cs → n ≡ newest - m
      → n + length (log_from y hs cs r).committed ≡ seen.total_count (log_from y hs cs r)
  horizon_value n m em en =
      let size : length (log_from y hs cs r).committed ≡ length cs = calls.seen_commits y (inside K) in
      let total : seen.total_count (log_from y hs cs r) ≡ newest = calls.total_is y (inside K) in
      let kept : length cs ≤ newest = K.heads.kept in
      omega (arith, size, total, kept, em, en)

  -- a terminal without an open segment has no strings
  pub strings_none : (t : ℕ) → seen.active_at (log_from y hs cs r) t ≡ None → get_or r.active t [] ≡ []
  strings_none t none = commits.empty_slot newest K.lie t (K.empty t (calls.none_open y (inside K) t none))

  -- where there is a commit, there are strings of one, and a moment before it
  pub some_strings : (d : Head) (cs' : List Head) → cs ≡ d ∷ cs' → 0 < length r.committed
  some_strings d cs' e = omega (arith, ap length e, (inside K).records.one_by_one, length-map r.committed records_in)

  pub some_moment : (d : Head) (cs' : List Head) → cs ≡ d ∷ cs' → 0 < newest
  some_moment d cs' e = omega (arith, ap length e, K.heads.kept)

  -- another list of commits, and room for more in the ring
  pub same : (capacity' room' : ℕ) (cs' : List Head) (r' : ring.RingStrings) → cs' ≡ cs → length cs' + opens ≤ capacity'
      → r' ≡ record r { room = room' } → opens ≤ room'
      → Stands y hs cs' capacity' r' opens newest (log_from y hs cs r)
  same capacity' room' cs' r' ec spare er room =
      rw (ec, er)
      record {
        kept = record {
          heads = record {
            size = K.heads.size;
            nobody = K.heads.nobody;
            counts = K.heads.counts;
            active = K.heads.active;
            commits = K.heads.commits;
            numbers = K.heads.numbers;
            moments = K.heads.moments;
            kept = K.heads.kept;
            opens_are = K.heads.opens_are;
            spare = omega (arith, spare, ap length ec);
          };
          lie = moved r (lens_of hs) (committed_lens_of cs) (lens_of hs) (committed_lens_of cs) opens room' opens K.lie
              refl refl room;
          empty = K.empty;
          open_deletes = K.open_deletes;
          commit_deletes = K.commit_deletes;
        };
        view = refl;
      }

  pub opened : (t u capacity' more room' : ℕ) (x : TerminalHead) (b : SegmentOwner) (hs' : List TerminalHead)
      (cs' : List Head) (r' : ring.RingStrings)
      → t ≡ u → 1 ≤ t → t ≤ 64 → x ≡ get_or hs t x → seen.active_at (log_from y hs cs r) u ≡ None
      → seen.count_at (log_from y hs cs r) u < 4_294_967_295
      → b.terminal ≡ u → b.number ≡ x.count + 1
      → hs' ≡ set hs t (record { count = x.count; active = Some b; deletes = false; len = x.len }) → cs' ≡ cs
      → more ≡ opens + 1 → length cs' + more ≤ capacity' → r' ≡ record r { room = room' } → more ≤ room'
      → Stands y hs' cs' capacity' r' more newest (seen.with_segment (log_from y hs cs r) u)
  opened t u capacity' more room' x b hs' cs' r' tu low high read none below whose which eh ec em spare er room =
      let h : TerminalHead = record { count = x.count; active = Some b; deletes = false; len = x.len } in
      let lists_are : lists_of r' more newest ≡ log.with_one_open_more (lists_of r opens newest) =
      (λ i. lists_of (er i) ((em ∙ one_more opens) i) newest) in
      both y hs' cs' capacity' r' more newest (seen.with_segment (log_from y hs cs r) u)
      (calls.opened y (inside K) t u capacity' more x b hs' cs' (lists_of r' more newest) tu low high read none below
      whose which eh ec em spare lists_are)
      (subst (λ z. HoldsRecords z (lens_of hs') (committed_lens_of cs') more) (sym er)
      (moved r (lens_of hs) (committed_lens_of cs) (lens_of hs') (committed_lens_of cs') opens room' more K.lie
      (ap lens_of eh ∙ lens_same hs t x h (within t high) read refl) (ap committed_lens_of ec) room))
    where
      one_more : (n : ℕ) → n + 1 ≡ suc n
      one_more n = omega arith

  pub dropped : (t u : ℕ) (x : TerminalHead) (hs' : List TerminalHead)
      → t ≡ u → 1 ≤ t → t ≤ 64 → x ≡ get_or hs t x → IsSome (seen.active_at (log_from y hs cs r) u)
      → seen.records_at (log_from y hs cs r) u ≡ []
      → hs' ≡ set hs t (record { count = x.count; active = None; deletes = x.deletes; len = x.len })
      → Stands y hs' cs capacity r (opens - 1) newest (seen.without_segment (log_from y hs cs r) u)
  dropped t u x hs' tu low high read some none eh =
      let h : TerminalHead = record { count = x.count; active = None; deletes = x.deletes; len = x.len } in
      both y hs' cs capacity r (opens - 1) newest (seen.without_segment (log_from y hs cs r) u)
      (calls.dropped y (inside K) t u x hs' (lists_of r (opens - 1) newest) tu low high read some none eh refl)
      (moved r (lens_of hs) (committed_lens_of cs) (lens_of hs') (committed_lens_of cs) opens r.room (opens - 1) K.lie
      (ap lens_of eh ∙ lens_same hs t x h (within t high) read refl) refl (omega (arith, K.lie.room)))

  pub pushed : (t u : ℕ) (x : TerminalHead) (m : Bool) (a : Address) (p : Previous) (l : LentRecord)
      (r' : ring.RingStrings) → t ≡ u → 1 ≤ t → t ≤ 64 → x ≡ get_or hs t x
      → IsSome (seen.active_at (log_from y hs cs r) u) → (m ≡ false → x.deletes ≡ false)
      → (m ≡ false → deleted_new_order (record_of_lent l) ≡ None)
      → IsPrevious p → IsInRanges (record_of_lent l) → r'
      ≡ ring.with_string_at r t a (record_image p (record_of_lent l))
      → Stands y (set hs t (head_told x m (x.len + 1))) cs capacity r' opens newest
      (seen.with_record (log_from y hs cs r) u (log_entry a p (record_of_lent l)))
  pushed t u x m a p l r' tu low high read some before none hp hb er =
      let there = lists.pushed newest K.lie t x.len r' a p l (omega (arith, high))
      (len_there hs t x (within t high) read) hp hb er in
      let v = seen.with_record (log_from y hs cs r) u (log_entry a p (record_of_lent l)) in
      both y (set hs t (head_told x m (x.len + 1))) cs capacity r' opens newest v
      (calls.pushed y (inside K) t u x m (x.len + 1) (log_entry a p (record_of_lent l))
      (lists_of r' opens newest) tu low high read some before none there.view)
      (subst (λ (ls : List ℕ). HoldsRecords r' ls (committed_lens_of cs) opens)
      (sym (lens_set hs t (head_told x m (x.len + 1)))) there.kept)

  pub few : (t : ℕ) (x : TerminalHead) (a : Address) (p : Previous) (l : LentRecord) (r' : ring.RingStrings) → t ≤ 64
      → x ≡ get_or hs t x
      → IsPrevious p → IsInRanges (record_of_lent l) → r'
      ≡ ring.with_string_at r t a (record_image p (record_of_lent l))
      → ring.used_of r' ≤ r'.extents
      → x.len + 1 ≤ 16_777_216
  few t x a p l r' high read hp hb er used =
      lists.pushed_few newest K.lie t x.len r' a p l (omega (arith, high)) (len_there hs t x (within t high) read) hp hb
      er used

  pub popped : (t u n : ℕ) (x : TerminalHead) (r' : ring.RingStrings) → t ≡ u → 1 ≤ t → t ≤ 64 → x ≡ get_or hs t x
      → IsSome (seen.active_at (log_from y hs cs r) u) → n ≡ x.len - 1 → r' ≡ ring.without_string_at r t
      → Stands y (set hs t (head_told x x.deletes n)) cs capacity r' opens newest
      (seen.without_newest (log_from y hs cs r) u)
  popped t u n x r' tu low high read some en er =
      let there = lists.popped newest K.lie t x.len r' (omega (arith, high)) (len_there hs t x (within t high) read)
      er in
      both y (set hs t (head_told x x.deletes n)) cs capacity r' opens newest
      (seen.without_newest (log_from y hs cs r) u)
      (calls.popped y (inside K) t u x n (lists_of r' opens newest) tu low high read some there.view)
      (subst (λ (ls : List ℕ). HoldsRecords r' ls (committed_lens_of cs) opens)
      (sym (lens_set hs t (head_told x x.deletes n) ∙ ap (set (lens_of hs) t) en)) there.kept)

  pub not_popped : (t u : ℕ) (x : TerminalHead) → t ≡ u → t ≤ 64 → x ≡ get_or hs t x → x.len ≡ 0
      → log_from y hs cs r ≡ seen.without_newest (log_from y hs cs r) u
  not_popped t u x tu high read none =
      calls.none_popped y (inside K) u
      (lists.none_of (seen.records_at (log_from y hs cs r) u) (sym (len_is t u x tu high read) ∙ none))

  -- ---- commits

  pub sealed : (t u m k newest' opens' room' : ℕ) (x : TerminalHead) (a : SegmentOwner) (left : Option SegmentOwner)
      (d : Head) (capacity' : ℕ) (hs' : List TerminalHead) (cs' : List Head) (r' : ring.RingStrings)
      → t ≡ u → 1 ≤ t → t ≤ 64 → x ≡ get_or hs t x → x.active ≡ Some a → left ≡ None → m ≡ x.count + 1
      → d.terminal ≡ a.terminal → d.number ≡ a.number → d.deletes ≡ x.deletes → d.len ≡ x.len
      → hs' ≡ set hs t (record { count = m; active = left; deletes = x.deletes; len = k }) → k ≡ 0 → cs' ≡ d ∷ cs
      → capacity' ≡ capacity
      → r' ≡ record (ring.after_seal_at r t) { room = room' } → room' + 1 ≡ r.room → newest' ≡ newest + 1
      → opens' ≡ opens - 1 → 0 < opens
      → Stands y hs' cs' capacity' r' opens' newest' (seen.after_seal (log_from y hs cs r) u d.request d.reply)
  sealed t u m k newest' opens' room' x a left d capacity' hs' cs' r' tu low high read active none more whose which says
      long eh ek ec ecap er room en eo some =
      let emptied : hs' ≡ set hs t (record { count = m; active = left; deletes = x.deletes; len = 0 }) =
      eh ∙ ap (λ z. set hs t (record { count = m; active = left; deletes = x.deletes; len = z })) ek in
      let there = commits.sealed newest K.lie t x.len room' opens' newest' r' (lens_of hs') (committed_lens_of cs')
      (omega (arith, high)) (len_there hs t x (within t high) read) some
      er room (ap lens_of emptied ∙ lens_set hs t _)
      (ap committed_lens_of ec ∙ ap (λ (n : ℕ). n ∷ committed_lens_of cs) long) eo (en ∙ one_more newest) in
      both y hs' cs' capacity' r' opens' newest' (seen.after_seal (log_from y hs cs r) u d.request d.reply)
      (calls.sealed y (inside K) t u m x a left d capacity' hs' cs' (lists_of r' opens' newest') tu low high read active
      none more whose which says emptied ec ecap there.view)
      there.kept
    where
      one_more : (n : ℕ) → n + 1 ≡ suc n
      one_more n = omega arith

  pub cut : (m room' capacity' : ℕ) (cs' : List Head) (r' : ring.RingStrings) → m ≡ length cs → cs' ≡ take (m - 1) cs
      → capacity' ≡ capacity
      → r' ≡ ring.without_oldest r room' → ring.capacity_of r' ≡ ring.capacity_of r
      → Stands y hs cs' capacity' r' opens newest
      (seen.with_newest (length (log_from y hs cs r).committed - 1) (log_from y hs cs r))
  cut m room' capacity' cs' r' em ec ecap er room =
      let taken : committed_lens_of cs' ≡ take (length (committed_lens_of cs) - 1) (committed_lens_of cs) =
      ap committed_lens_of (ec ∙ ap (λ n. take (n - 1) cs) em) ∙ commits.take_map (λ (c : Head). c.len) (length cs - 1)
      cs
      ∙ ap (λ n. take (n - 1) (committed_lens_of cs)) (sym (length-map cs (λ (c : Head). c.len))) in
      let there = commits.without_oldest newest K.lie room' r' (committed_lens_of cs') er room taken in
      both y hs cs' capacity' r' opens newest (seen.with_newest (length (log_from y hs cs r).committed - 1)
      (log_from y hs cs r))
      (calls.cut y (inside K) m capacity' cs' (lists_of r' opens newest) em ec ecap there.view) there.kept

  pub reopened : (hs' : List TerminalHead) (cs' : List Head) (d : Head) (capacity' room' newest' opens' t u n : ℕ)
      (x : TerminalHead) (m : Bool) (b : SegmentOwner) (r' : ring.RingStrings)
      → cs ≡ d ∷ cs' → capacity' ≡ capacity → t ≡ u → 1 ≤ t → t ≤ 64 → d.terminal ≡ u → x ≡ get_or hs t x
      → (head_at hs t).active ≡ None → b ≡ head_owner d
      → m ≡ d.deletes → n ≡ d.len
      → hs' ≡ set hs t (record { count = x.count - 1; active = Some b; deletes = m; len = n })
      → r' ≡ record (ring.after_reopening_at r t) { room = room' } → ring.capacity_of r' ≡ ring.capacity_of r
      → newest' ≡ newest - 1 → opens' ≡ opens + 1
      → Stands y hs' cs' capacity' r' opens' newest'
      (seen.with_reopening (log_from y hs cs r) (log_from y hs cs r).committed)
  reopened hs' cs' d capacity' room' newest' opens' t u n x m b r' ec ecap tu low high whose read closed same says long
      eh er room en eo =
      let there = commits.reopened newest K.lie t d.len room' opens' newest' r' (lens_of hs') (committed_lens_of cs')
      (ap committed_lens_of ec) er room
      (ap lens_of eh ∙ lens_set hs t _ ∙ ap (set (lens_of hs) t) long) (eo ∙ one_more opens) en in
      both y hs' cs' capacity' r' opens' newest'
      (seen.with_reopening (log_from y hs cs r) (log_from y hs cs r).committed)
      (calls.reopened y hs hs' cs cs' d capacity capacity' r.extents opens newest (map records_in r.active)
      (map records_in r.committed) t u n x m b (lists_of r' opens' newest') (inside K)
      ec ecap tu low high whose read closed same says eh there.view) there.kept
    where
      one_more : (n : ℕ) → n + 1 ≡ suc n
      one_more n = omega arith

-- a new log
idle_lens : (n : ℕ) → lens_of (replicate n idle_head) ≡ replicate n 0
idle_lens zero = refl
idle_lens (suc n) = ap (λ (l : List ℕ). 0 ∷ l) (idle_lens n)

pub new_is : (y : Layout) (extents room capacity : ℕ) (hs : List TerminalHead) (cs : List Head) (r : ring.RingStrings)
    → extents ≤ 4096 → hs ≡ idle_heads → cs ≡ []
    → r ≡ record (ring.no_strings extents 65) { room = room } → Stands y hs cs capacity r 0 0
    (seen.no_segments extents y)
unfolding idle_heads no_lists
new_is y extents room capacity hs cs r most eh ec er =
    let there = lists.new_at 65 extents room r refl most er in
    both y hs cs capacity r 0 0 (seen.no_segments extents y)
    (calls.new_is y extents capacity hs cs (lists_of r 0 0) eh ec there.view)
    (subst (λ (ls : List ℕ). HoldsRecords r ls (committed_lens_of cs) 0) (sym (ap lens_of eh ∙ idle_lens 65))
    (subst (λ (ls : List ℕ). HoldsRecords r (replicate 65 0) ls 0) (sym (ap committed_lens_of ec)) there.kept))
