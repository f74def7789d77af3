-- What each call makes of the links and of the moments, and that the chains are kept.
use Rattle.std.proofs.Common.{◌≡◌, ℕ, zero, suc, ◌+◌, ◌-◌, ◌<◌, ◌≤◌, Bool, true, false, cond, List, [], ◌∷◌, ◌++◌}
use Rattle.std.proofs.Common.{length, take, drop, set, Option, None, Some, is_some, get_or, refl, sym, ap, ◌∙◌, subst}
use Rattle.std.proofs.Common.{inl, inr, arith}
use Rattle.std.specs.Prelude.{◌⊎◌, ◌≢◌, IsSome, IfSome, option_map, slice_get, Result, Ok, Err, OnOk, OnErr}
use Rattle.std.proofs.lemmas.Bool.{cases_eq, cases_lt}
use Rattle.std.proofs.lemmas.List.{get_or-set_same, get_or-set_other, get_or_read, set_past, length-set}
use mathlib.Core.Path.{fun_ext}
use Rattle.oe_values.specs.declared.numbers.TheConstants.{TERMINALS}
use Rattle.oe_rows.specs.declared.keys.Key.{Key}
use Rattle.oe_rows.specs.declared.layouts.Layout.{Layout}
use Rattle.oe_requests.specs.declared.requests.Request.{Request}
use Rattle.oe_requests.specs.declared.replies.Reply.{Reply}
use Rattle.oe_model.specs.Rows.{is_key}
use Rattle.oe_model.specs.Changes.{Record, record_key}
use Rattle.oe_model.specs.System.{system, terminal_limit}
use Rattle.oe_model.proofs.RowFacts.{key_refl}
use Rattle.oe_theory.specs.Store.{all_below}
use Rattle.oe_extent.specs.declared.extents.Address.{Address}
use Rattle.oe_layout.specs.declared.links.Previous.{Previous}
use Rattle.oe_layout.specs.declared.links.Previous.TheVariants.{Committed}
use Rattle.oe_log.specs.Records.{Logged, log_entry, newest_of}
use Rattle.oe_log.specs.Log.{SegmentLog, Open as OpenSegment, TerminalState, Committed as CommitSegment, idle}
use Rattle.oe_log.specs.Log.{idle_terminals, active_at, records_at, count_at, total_count, commits_of, no_segments}
use Rattle.oe_log.specs.Log.{with_active, with_records, with_segment, without_segment, with_record, without_newest}
use Rattle.oe_log.specs.Log.{after_seal, with_newest, with_reopening}
use Rattle.oe_log.specs.Log.{owner_of}
use Rattle.oe_log.specs.declared.heads.SegmentOwner.{SegmentOwner}
use Rattle.oe_log.proofs.LawFacts.{idle_at}
use Rattle.oe_undo.specs.declared.holders.Link.{Link}
use Rattle.oe_undo.specs.declared.holders.Holder.{Holder}
use Rattle.oe_undo.specs.declared.holders.Holder.TheVariants.{Open, At}
use Rattle.oe_undo.specs.Held.{Held, held_by, held_open, held_commits, all_held, of_key, horizon}
use Rattle.oe_undo.specs.Chains.{link_to, link_from, previous_of, IsEnd, IsChain, IsAlone, AreChained, with_link}
use Rattle.oe_undo.specs.Laws.{IsWhole}
use Rattle.oe_undo.proofs.ChainFacts.{own, chain_open, chain-open, seen_again}
use Rattle.oe_undo.proofs.ChainedLinkFacts.{sees_alone}
use Rattle.oe_undo.proofs.CallFacts as calls
use Rattle.oe_undo.specs.declared.links.OwnedLink.{OwnedLink}
use Rattle.oe_undo.specs.Links.{LinkMaps, place_of, links_of, link_in, no_links, HasPlace, SetsLink, GivesPlaces}
use Rattle.oe_undo.specs.Links.{GivesUpLink, LeadsTo}
use Rattle.oe_undo.proofs.LinkFacts.{no_link}
use Rattle.oe_undo.proofs.LeadFacts.{set_leads, given_links, given_up_links}
use Rattle.oe_undo.specs.Owners.{MomentList, no_moments, moments_at, moments_of, holder_of, link_by_now, next_owner}
use Rattle.oe_undo.specs.Owners.{IsOwner, AreOwned, AreIdle, AreMoments, IsLinked, IsMadeBy, IsMade}
use Rattle.oe_undo.specs.Undo.{link_above, GivesBack}
use Rattle.oe_log.proofs.StateFacts.{some_of, known, pushed_popped}
use Rattle.oe_undo.proofs.OwnerFacts as owner

-- ---- what the log keeps of itself

pub is_whole : (u : SegmentLog) (h : ℕ) → length u.terminals ≡ suc TERMINALS → h + length u.committed ≡ total_count u
    → IsWhole u
unfolding terminal_limit
is_whole u h size sum = record { terminals = size; commits = omega (arith, sum) }

no_owned : (l : OwnedLink) (P : Type 0) → None ≡ Some l → P
no_owned l P e = cc

-- nothing recorded, nothing committed
pub none_linked : (e : ℕ) (l : Layout) (u : SegmentLog) (maps : LinkMaps) (ms : List MomentList)
    → u ≡ no_segments e l → maps ≡ no_links → AreIdle ms → IsLinked u (links_of maps) ms
unfolding idle_terminals
none_linked e l u maps ms empty none idle_ms =
    subst (λ v. IsLinked v (links_of maps) ms) (sym empty)
    (subst (λ (m : LinkMaps). IsLinked (no_segments e l) (links_of m) ms) (sym none)
    record {
      chained = subst (AreChained (no_segments e l))
          (sym (fun_ext (λ k. ap (link_by_now (no_segments e l)) (no_link k))))
          (calls.none e l);
      owned = λ k o is. no_owned o (IsOwner (no_segments e l) o.owner) (sym (no_link k) ∙ is);
      moments = record {
        size = idle_ms.size;
        kept = λ t less. idle_ms.idle t no_moments (subst (λ n. t < n) (sym idle_ms.size) less);
        room = λ t some. let off : IsSome {T = OpenSegment} None = subst (λ (z : TerminalState). IsSome z.active)
            (idle_at 65 t) some in cc;
      };
    })

-- ---- a log of which counts and commits stay

pub same_chained : (u w : SegmentLog) (links : Key → Option OwnedLink) → ((s : ℕ) → count_at w s ≡ count_at u s)
    → total_count w ≡ total_count u
    → w.committed ≡ u.committed → AreChained w (λ k. link_by_now u (links k))
    → AreChained w (λ k. link_by_now w (links k))
same_chained u w links counts total commits c =
    subst (AreChained w) (sym
    (fun_ext (λ k. owner.followed_same u w (links k) (owner.holder_same u w counts total commits)))) c

pub same_owned : (u w : SegmentLog) (links : Key → Option OwnedLink) → ((s : ℕ) → count_at w s ≡ count_at u s)
    → ((s : ℕ) → IsSome (active_at u s) → IsSome (active_at w s)) → AreOwned u links → AreOwned w links
same_owned u w links counts opens owned k l is =
    let own = owned k l is in
    let c = counts l.owner.terminal in
    let few = own.number in
    record {
      number = omega (arith, c, few);
      is_open = λ less. opens l.owner.terminal
          (own.is_open (omega (arith, c, less)));
    }

pub same_moments : (u w : SegmentLog) (ms : List MomentList) → total_count w ≡ total_count u → w.committed ≡ u.committed
    → ((s : ℕ) → IsSome (active_at w s) → IsSome (active_at u s)) → AreMoments u ms → AreMoments w ms
same_moments u w ms total commits opens m =
    record {
      size = m.size;
      kept = λ t less. m.kept t less ∙ ap (λ n. moments_of t n u.committed) (sym total)
          ∙ ap (moments_of t (total_count w)) (sym commits);
      room = λ t some. m.room t (opens t some);
    }

-- ---- a terminal's segment

active_here : (u : SegmentLog) (t : ℕ) (a : Option OpenSegment) → t < length u.terminals
    → active_at (with_active u t a) t ≡ a
active_here u t a within = ap (λ (z : TerminalState). z.active)
    (get_or-set_same u.terminals t (record { count = count_at u t; active = a }) idle within)

active_there : (u : SegmentLog) (t : ℕ) (a : Option OpenSegment) (s : ℕ) → s ≢ t
    → active_at (with_active u t a) s ≡ active_at u s
active_there u t a s ne = ap (λ (z : TerminalState). z.active)
    (get_or-set_other u.terminals t s (record { count = count_at u t; active = a }) idle ne)

-- which segments are open, where one is replaced
opens_same : (u : SegmentLog) (t : ℕ) (a : Option OpenSegment) → is_some a ≡ is_some (active_at u t) → (s : ℕ)
    → is_some (active_at (with_active u t a) s) ≡ is_some (active_at u s)
opens_same u t a same s =
    elim (cases_lt t (length u.terminals)) [
      | inl within ↦ elim (cases_eq s t) [
        | inl e ↦ ap (λ x. is_some (active_at (with_active u t a) x)) e
            ∙ ap (λ z. is_some {T = OpenSegment} z) (active_here u t a within) ∙ same
            ∙ ap (λ x. is_some (active_at u x)) (sym e)
        | inr ne ↦ ap (λ z. is_some {T = OpenSegment} z) (active_there u t a s ne)
      ]
      | inr past ↦ ap (λ z. is_some (get_or z s idle).active)
          (set_past u.terminals t (record { count = count_at u t; active = a }) past)
    ]

records_kept : (rs : List Logged) (a : Option OpenSegment)
    → is_some (option_map {T = OpenSegment} (λ o. record o { records = rs }) a) ≡ is_some a
records_kept rs None = refl
records_kept rs (Some o) = refl

-- a terminal's records replaced
module _ (u w : SegmentLog) (t : ℕ) (rs : List Logged) (is : w ≡ with_records u t rs) where
  abbrev new_active : Option OpenSegment
  new_active = option_map {T = OpenSegment} (λ o. record o { records = rs }) (active_at u t)

  counts_are : (s : ℕ) → count_at w s ≡ count_at u s
  counts_are s = ap (λ v. count_at v s) is ∙ owner.count_same u t new_active s

  total_is : total_count w ≡ total_count u
  total_is = ap total_count is ∙ owner.total_kept u t new_active

  commits_are : w.committed ≡ u.committed
  commits_are = ap (λ (v : SegmentLog). v.committed) is

  opens_are : (s : ℕ) → is_some (active_at w s) ≡ is_some (active_at u s)
  opens_are s = ap (λ v. is_some (active_at v s)) is ∙ opens_same u t new_active (records_kept rs (active_at u t)) s

  pub replaced_chained : (links : Key → Option OwnedLink) → AreChained w (λ k. link_by_now u (links k))
      → AreChained w (λ k. link_by_now w (links k))
  replaced_chained links c = same_chained u w links counts_are total_is commits_are c

  pub replaced_followed : (l : Option OwnedLink) → link_by_now w l ≡ link_by_now u l
  replaced_followed l = owner.followed_same u w l (owner.holder_same u w counts_are total_is commits_are)

  pub replaced_owned : (links : Key → Option OwnedLink) → AreOwned u links → AreOwned w links
  replaced_owned links owned = same_owned u w links counts_are (λ s some. opens_are s ∙ some) owned

  pub replaced_moments : (ms : List MomentList) → AreMoments u ms → AreMoments w ms
  replaced_moments ms m = same_moments u w ms total_is commits_are (λ s some. sym (opens_are s) ∙ some) m

  pub replaced_horizon : horizon w ≡ horizon u
  replaced_horizon = ap (λ n. n - length w.committed) total_is ∙ ap
      (λ (cs : List CommitSegment). total_count u - length cs) commits_are

-- ---- a key's link is set

-- a key gets a place, and those that come with it; each keeps its link, if it has one
pub add_linked : {T E : Type 0} (r : Result T E) (u : SegmentLog) (old new : LinkMaps) (ms : List MomentList) (k : Key)
    → OnOk r (GivesPlaces old new k) → OnErr r (new ≡ old)
    → IsLinked u (links_of old) ms → IsLinked u (links_of new) ms
add_linked (Ok x) u old new ms k given same c =
    let all : links_of new ≡ links_of old = fun_ext (given_links old new k given) in
    subst (λ ls. IsLinked u ls ms) (sym all) c
add_linked (Err e) u old new ms k given same c = subst (λ maps. IsLinked u (links_of maps) ms) (sym same) c

-- a key gives its empty place up; each keeps its link, if it has one
pub given_up_linked : (u : SegmentLog) (old new : LinkMaps) (ms : List MomentList) (k : Key) → GivesUpLink old new k
    → IsLinked u (links_of old) ms → IsLinked u (links_of new) ms
given_up_linked u old new ms k given_up c =
    let all : links_of new ≡ links_of old = fun_ext (given_up_links old new k given_up) in
    subst (λ ls. IsLinked u ls ms) (sym all) c

-- that of each key which has one
set_owned : (u : SegmentLog) (old new : LinkMaps) (k : Key) (l : Option OwnedLink) → LeadsTo old new k l
    → ((x : OwnedLink) → l ≡ Some x → IsOwner u x.owner)
    → AreOwned u (links_of old) → AreOwned u (links_of new)
set_owned u old new k l leads this owned j x is = go (is_key k j) (sym (leads.links j) ∙ is)
  where
    go : (b : Bool) → cond b l (links_of old j) ≡ Some x → IsOwner u x.owner
    go true e = this x e
    go false e = owned j x e

followed_cond : (u : SegmentLog) (b : Bool) (l p : Option OwnedLink)
    → link_by_now u (cond b l p) ≡ cond b (link_by_now u l) (link_by_now u p)
followed_cond u true l p = refl
followed_cond u false l p = refl

-- ---- a record more

next_is_owner : (u : SegmentLog) (t : ℕ) → IsSome (active_at u t) → IsOwner u (next_owner u t)
next_is_owner u t some = record { number = omega arith; is_open = λ less. some }

next_followed : (u : SegmentLog) (t : ℕ) (a : Address)
    → link_by_now u (Some (record { address = a; owner = next_owner u t })) ≡ Some
    (record { address = a; holder = Open t })
next_followed u t a =
    ap (λ (o : Option Holder). option_map {T = Holder} (λ h. record { address = a; holder = h }) o)
    (owner.opened_holder u (next_owner u t) (omega arith))

module _ (u w : SegmentLog) (t : ℕ) (a : Address) (p : Previous) (b : Record) (some : IsSome (active_at u t))
    (is : w ≡ with_record u t (log_entry a p b)) where
  abbrev more : List Logged
  more = log_entry a p b ∷ records_at u t

  -- a record more, to which its key's link leads
  pub push_linked : (old new : LinkMaps) (ms : List MomentList) (k : Key) (n : SegmentOwner) → IsWhole u
      → link_from (Open t) p ≡ link_by_now u (links_of old (record_key b)) → k ≡ record_key b
      → n ≡ next_owner u t → LeadsTo old new k (Some (record { address = a; owner = n })) → IsLinked u (links_of old) ms
      → IsLinked w (links_of new) ms
  push_linked old new ms k n whole leads own_key by any_sets c =
      let o = some_of (active_at u t) some in
      let l : Option OwnedLink = Some (record { address = a; owner = next_owner u t }) in
      let keyed : LeadsTo old new (record_key b) (Some (record { address = a; owner = n })) =
      subst (λ (j : Key). LeadsTo old new j (Some (record { address = a; owner = n }))) own_key any_sets in
      let sets : LeadsTo old new (record_key b) l =
      subst (λ (x : SegmentOwner). LeadsTo old new (record_key b) (Some (record { address = a; owner = x })))
      by keyed in
      let links : ◌≡◌ {A = Key → Option Link}
      (with_link (λ j. link_by_now u (links_of old j)) (record_key b) (Some (record { address = a; holder = Open t })))
      (λ j. link_by_now u (links_of new j)) =
      fun_ext (λ j. ap (λ z. cond (is_key (record_key b) j) z (link_by_now u (links_of old j)))
      (sym (next_followed u t a))
      ∙ sym (followed_cond u (is_key (record_key b) j) l (links_of old j))
      ∙ ap (link_by_now u) (sym (sets.links j))) in
      let chained : AreChained w (λ j. link_by_now u (links_of new j)) =
      subst (λ v. AreChained v (λ j. link_by_now u (links_of new j))) (sym is)
      (subst (AreChained (with_record u t (log_entry a p b))) links
      (calls.pushes u (λ j. link_by_now u (links_of old j)) t o.0 (log_entry a p b) whole o.1 leads c.chained)) in
      record {
        chained = replaced_chained u w t more is (links_of new) chained;
        owned = replaced_owned u w t more is (links_of new)
            (set_owned u old new (record_key b) l sets
            (λ x e. subst (λ (y : OwnedLink). IsOwner u y.owner) (owner.some_is _ x e) (next_is_owner u t some))
            c.owned);
        moments = replaced_moments u w t more is ms c.moments;
      }

  -- and taken off again
  pub push_undone : (v : SegmentLog) → v ≡ without_newest w t → v ≡ u
  push_undone v gone =
      let o = some_of (active_at u t) some in
      gone ∙ ap (λ z. without_newest z t) is ∙ pushed_popped u t o.0 (log_entry a p b) o.1

-- ---- whose records there are

abbrev AllHeld : (Holder → Type 0) → List Held → Type 0
AllHeld P [] = Unit {0}
AllHeld P (r ∷ rs) = P r.holder × AllHeld P rs

held_append : (P : Holder → Type 0) (xs ys : List Held) → AllHeld P xs → AllHeld P ys → AllHeld P (xs ++ ys)
held_append P [] ys a b = b
held_append P (x ∷ xs) ys a b = (a.0, held_append P xs ys a.1 b)

held_by_all : (P : Holder → Type 0) (h : Holder) (rs : List Logged) → P h → AllHeld P (held_by h rs)
held_by_all P h [] p = tt
held_by_all P h (r ∷ rs) p = (p, held_by_all P h rs p)

held_open_all : (P : Holder → Type 0) (active : ℕ → List Logged) (ts : List ℕ)
    → ((s : ℕ) → (active s ≡ []) ⊎ P (Open s)) → AllHeld P (held_open active ts)
held_open_all P active [] each = tt
held_open_all P active (s ∷ ts) each =
    held_append P (held_by (Open s) (active s)) (held_open active ts)
    (elim (each s) [
      | inl none ↦ subst (λ rs. AllHeld P (held_by (Open s) rs)) (sym none) tt
      | inr p ↦ held_by_all P (Open s) (active s) p
    ])
    (held_open_all P active ts each)

held_commits_all : (P : Holder → Type 0) (m : ℕ) (cs : List CommitSegment) → ((n : ℕ) → n ≤ m → P (At n))
    → AllHeld P (held_commits m cs)
held_commits_all P m [] each = tt
held_commits_all P m (c ∷ cs) each =
    held_append P (held_by (At m) c.records) (held_commits (m - 1) cs)
    (held_by_all P (At m) c.records (each m (omega arith)))
    (held_commits_all P (m - 1) cs (λ n low. each n (omega (arith, low))))

held_key : (P : Holder → Type 0) (k : Key) (xs : List Held) → AllHeld P xs → AllHeld P (of_key k xs)
held_key P k [] a = tt
held_key P k (x ∷ xs) a = go (is_key k (record_key x.logged.before)) (held_key P k xs a.1)
  where
    go : (b : Bool) → AllHeld P (of_key k xs) → AllHeld P (cond b (x ∷ of_key k xs) (of_key k xs))
    go true rest = (a.0, rest)
    go false rest = rest

-- what holds of all holders holds of a link that leads to a record
met_holder : (P : Holder → Type 0) (h : ℕ) (l : Link) (xs : List Held) → AllHeld P xs → IsChain h (Some l) xs
    → IsEnd h (Some l) ⊎ P l.holder
met_holder P h l [] a c = inl c
met_holder P h l (x ∷ xs) a c =
    inr (subst P (sym (ap (λ (z : Link). z.holder) (owner.some_is l (link_to x) c.0.leads))) a.0)

end_made : (u : SegmentLog) (h : Holder)
    → IsEnd (horizon u) (Some (record { address = record { extent = 0; offset = 0 }; holder = h })) → IsMadeBy u h
end_made u (Open t) e = tt
end_made u (At m) e = omega (arith, e)

pub chain_made : (u : SegmentLog) (links : Key → Option Link) (k : Key) → AreChained u links → IsMade u (links k)
chain_made u links k c = go (links k) (c k)
  where
    all : AllHeld (IsMadeBy u) (of_key k (all_held u))
    all = held_key (IsMadeBy u) k (all_held u)
        (held_append (IsMadeBy u) (held_open (records_at u) (all_below system terminal_limit))
        (held_commits (total_count u) u.committed)
        (held_open_all (IsMadeBy u) (records_at u) (all_below system terminal_limit) (λ s. inr tt))
        (held_commits_all (IsMadeBy u) (total_count u) u.committed (λ n low. low)))

    go : (l : Option Link) → IsChain (horizon u) l (of_key k (all_held u)) → IsMade u l
    go None chain = tt
    go (Some l) chain =
        elim (met_holder (IsMadeBy u) (horizon u) l (of_key k (all_held u)) all chain) [
          | inl end ↦ end_made u l.holder end
          | inr made ↦ made
        ]

made_same : (w u : SegmentLog) (l : Option Link) → total_count w ≡ total_count u → IsMade w l → IsMade u l
made_same w u None total made = tt
made_same w u (Some l) total made = go l.holder made
  where
    go : (h : Holder) → IsMadeBy w h → IsMadeBy u h
    go (Open t) m = tt
    go (At n) m = subst (λ x. n ≤ x) total m

-- no link leads to a record of a terminal that has none
not_open : (u : SegmentLog) (links : Key → Option Link) (k : Key) (t : ℕ) (l : Link) → records_at u t ≡ []
    → AreChained u links → links k ≡ Some l → l.holder ≡ Open t → ⊥
not_open u links k t l empty c is opens =
    let all : AllHeld (λ h. h ≢ Open t) (of_key k (all_held u)) =
    held_key (λ h. h ≢ Open t) k (all_held u)
    (held_append (λ h. h ≢ Open t) (held_open (records_at u) (all_below system terminal_limit))
    (held_commits (total_count u) u.committed)
    (held_open_all (λ h. h ≢ Open t) (records_at u) (all_below system terminal_limit) (λ s. other s))
    (held_commits_all (λ h. h ≢ Open t) (total_count u) u.committed (λ n low e. cc))) in
    elim (met_holder (λ h. h ≢ Open t) (horizon u) l (of_key k (all_held u)) all
    (subst (λ z. IsChain (horizon u) z (of_key k (all_held u))) is (c k))) [
      | inl end ↦ open_end l.holder opens end
      | inr ne ↦ ne opens
    ]
  where
    same_terminal : (s : ℕ) → Open s ≡ Open t → s ≡ t
    same_terminal s e = cc

    other : (s : ℕ) → (records_at u s ≡ []) ⊎ (Open s ≢ Open t)
    other s = elim (cases_eq s t) [
      | inl e ↦ inl (ap (records_at u) e ∙ empty)
      | inr ne ↦ inr (λ e. ne (same_terminal s e))
    ]

    open_end : (h : Holder) → h ≡ Open t → IsEnd (horizon u) (Some (record { address = l.address; holder = h })) → ⊥
    open_end (Open s) e end = end
    open_end (At m) e end = cc

whole_still : (u w : SegmentLog) (t : ℕ) (rs : List Logged) → w ≡ with_records u t rs → IsWhole u → IsWhole w
whole_still u w t rs is whole =
    let total = total_is u w t rs is in
    let commits = ap length (commits_are u w t rs is) in
    let few = whole.commits in
    record {
      terminals = ap (λ (v : SegmentLog). length v.terminals) is ∙ length-set u.terminals t _ ∙ whole.terminals;
      commits = omega (arith, total, commits, few);
    }

-- ---- a key with a record has a link

append_none : {A : Type 0} (xs ys : List A) → xs ++ ys ≡ [] → (xs ≡ []) × (ys ≡ [])
append_none [] ys e = (refl, e)
append_none (x ∷ xs) ys e = cc

none_own : (k : Key) (f : ℕ → List Logged) (t n : ℕ) (rest : List Held) → t < n → chain_open k f n rest ≡ []
    → own k (Open t) (f t) ≡ []
none_own k f t zero rest less e = absurd (omega (arith, less))
none_own k f t (suc m) rest less e =
    let parts = append_none (own k (Open m) (f m)) (chain_open k f m rest) e in
    elim (cases_eq t m) [
      | inl q ↦ subst (λ s. own k (Open s) (f s) ≡ []) (sym q) parts.0
      | inr ne ↦ none_own k f t m rest (omega (arith, less, ne)) parts.1
    ]

first_own : (r : Logged) (rs : List Logged) (h : Holder) → own (record_key r.before) h (r ∷ rs) ≡ [] → ⊥
first_own r rs h e = go (is_key (record_key r.before) (record_key r.before)) (key_refl (record_key r.before)) e
  where
    go : (b : Bool) → b ≡ true → cond b (record { logged = r; holder = h } ∷ own (record_key r.before) h rs)
        (own (record_key r.before) h rs) ≡ [] → ⊥
    go true q e = cc
    go false q e = cc

met_link : (u : SegmentLog) (links : Key → Option Link) (t : ℕ) (r : Logged) (rs : List Logged) → IsWhole u
    → t < terminal_limit → records_at u t ≡ r ∷ rs
    → AreChained u links → IsSome (links (record_key r.before))
met_link u links t r rs whole less are c = go (links (record_key r.before)) refl
  where
    go : (l : Option Link) → links (record_key r.before) ≡ l → IsSome l
    go (Some l) q = refl
    go None q =
        let k : Key = record_key r.before in
        let commits : List Held = held_commits (total_count u) u.committed in
        let none : of_key k (all_held u) ≡ [] = calls.ends u links k whole c (subst (IsEnd (horizon u)) (sym q) tt) in
        let apart : chain_open k (records_at u) terminal_limit (of_key k commits) ≡ [] =
        sym (chain-open k (records_at u) terminal_limit commits) ∙ none in
        absurd (first_own r rs (Open t)
        (subst (λ xs. own k (Open t) xs ≡ []) are
        (none_own k (records_at u) t terminal_limit (of_key k commits) less apart)))

link_placed : (u : SegmentLog) (p : Option (Option OwnedLink)) → IsSome (link_by_now u (link_in p)) → IsSome p
link_placed u None e = e
link_placed u (Some l) e = refl

-- ---- the newest record

-- the first of these records is this one
record IsNewest (rs : List Logged) (p : Previous) (b : Record) : Type 0 where
  pub first : Logged
  pub older : List Logged
  pub are : rs ≡ first ∷ older
  pub previous : first.previous ≡ p
  pub before : first.before ≡ b

newest_is : (rs : List Logged) (p : Previous) (b : Record) → Some (p, b) ≡ newest_of rs → IsNewest rs p b
newest_is [] p b e = cc
newest_is (r ∷ rs) p b e =
    let both : ◌≡◌ {A = Previous × Record} (p, b) (r.previous, r.before) = cc in
    record {
      first = r;
      older = rs;
      are = refl;
      previous = sym (ap (λ (x : Previous × Record). x.0) both);
      before = sym (ap (λ (x : Previous × Record). x.1) both);
    }

pub none_newest : (rs : List Logged) → None ≡ newest_of rs → rs ≡ []
none_newest [] e = refl
none_newest (r ∷ rs) e = cc

module _ (u : SegmentLog) (old : LinkMaps) (t : ℕ) (p : Previous) (b : Record) (some : IsSome (active_at u t))
    (is : Some (p, b) ≡ newest_of (records_at u t)) where
  abbrev newest : IsNewest (records_at u t) p b
  newest = newest_is (records_at u t) p b is

  -- its key has a place for a link
  pub newest_placed : (k : Key) → k ≡ record_key b → IsWhole u → AreChained u (λ j. link_by_now u (links_of old j))
      → HasPlace old k
  newest_placed k own whole c =
      let o = some_of (active_at u t) some in
      let less : t < terminal_limit = subst (λ n. t < n) whole.terminals (known u t o.0 o.1) in
      let n = newest in
      let key : record_key n.first.before ≡ k = ap (λ (x : Record). record_key x) n.before ∙ sym own in
      subst (HasPlace old) key
      (link_placed u (place_of old (record_key n.first.before))
      (met_link u (λ j. link_by_now u (links_of old j)) t n.first n.older whole less n.are c))

  -- what its previous leads to was made
  pub newest_made : IsWhole u → AreChained u (λ j. link_by_now u (links_of old j)) → IsMade u (link_from (Open t) p)
  newest_made whole c =
      let n = newest in
      let popped_chained = calls.pops u (λ j. link_by_now u (links_of old j)) t n.first n.older whole n.are c in
      let total : total_count (without_newest u t)
      ≡ total_count u = total_is u (without_newest u t) t (drop 1 (records_at u t)) refl in
      let at_key : with_link (λ j. link_by_now u (links_of old j)) (record_key n.first.before)
      (link_from (Open t) n.first.previous) (record_key n.first.before) ≡ link_from (Open t) n.first.previous =
      ap (λ z. cond z (link_from (Open t) n.first.previous) (link_by_now u (links_of old (record_key n.first.before))))
      (key_refl (record_key n.first.before)) in
      let made : IsMade (without_newest u t) (link_from (Open t) n.first.previous) =
      subst (IsMade (without_newest u t)) at_key
      (chain_made (without_newest u t) _ (record_key n.first.before) popped_chained) in
      subst (λ (x : Previous). IsMade u (link_from (Open t) x)) n.previous
      (made_same (without_newest u t) u (link_from (Open t) n.first.previous) total made)

  pub given_back : (new : LinkMaps) (w : SegmentLog) (l : Option OwnedLink) → w ≡ without_newest u t
      → SetsLink old new (record_key b) l
      → link_by_now u l ≡ link_above (horizon u) (link_from (Open t) p)
      → GivesBack (record { log = u; links = old }) (record { log = w; links = new }) t (records_at u t)
  given_back new w l gone sets leads =
      let n = newest in
      let now : link_by_now w l ≡ link_above (horizon w) (link_from (Open t) p) =
      replaced_followed u w t (drop 1 (records_at u t)) gone l ∙ leads
      ∙ ap (λ h. link_above h (link_from (Open t) p)) (sym (replaced_horizon u w t (drop 1 (records_at u t)) gone)) in
      subst (GivesBack (record { log = u; links = old }) (record { log = w; links = new }) t) (sym n.are)
      record {
        link = l;
        set = subst (λ (x : Record). SetsLink old new (record_key x) l) (sym n.before) sets;
        leads = subst (λ (x : Previous). link_by_now w l ≡ link_above (horizon w) (link_from (Open t) x))
            (sym n.previous)
            now;
      }

  pub pop_linked : (w : SegmentLog) (new : LinkMaps) (ms : List MomentList) (l : Option OwnedLink) → IsWhole u
      → w ≡ without_newest u t → SetsLink old new (record_key b) l
      → link_by_now u l ≡ link_above (horizon u) (link_from (Open t) p)
      → ((x : OwnedLink) → l ≡ Some x → IsOwner u x.owner)
      → IsLinked u (links_of old) ms → IsLinked w (links_of new) ms
  pop_linked w new ms l whole gone sets leads owner_of_l c =
      let n = newest in
      let rs = drop 1 (records_at u t) in
      let total = total_is u w t rs gone in
      let commits = commits_are u w t rs gone in
      let left : IsWhole w = whole_still u w t rs gone whole in
      let before : Key → Option Link = with_link (λ j. link_by_now u (links_of old j)) (record_key b)
      (link_from (Open t) p) in
      let links : ◌≡◌ {A = Key → Option Link}
      (with_link (λ j. link_by_now u (links_of old j)) (record_key n.first.before)
      (link_from (Open t) n.first.previous))
      before =
      ap (λ (x : Record). with_link (λ j. link_by_now u (links_of old j)) (record_key x)
      (link_from (Open t) n.first.previous)) n.before
      ∙ ap (λ (x : Previous). with_link (λ j. link_by_now u (links_of old j)) (record_key b) (link_from (Open t) x))
      n.previous in
      let chained : AreChained w before =
      subst (λ v. AreChained v before) (sym gone)
      (subst (AreChained (without_newest u t)) links
      (calls.pops u (λ j. link_by_now u (links_of old j)) t n.first n.older whole n.are c.chained)) in
      record {
        chained = owner.chained_anew w before (λ j. link_by_now w (links_of new j)) left chained
            (λ j. by_key (is_key (record_key b) j) j ((set_leads old new (record_key b) l sets).links j));
        owned = replaced_owned u w t rs gone (links_of new)
            (set_owned u old new (record_key b) l (set_leads old new (record_key b) l sets) owner_of_l c.owned);
        moments = replaced_moments u w t rs gone ms c.moments;
      }
    where
      by_key : (x : Bool) (j : Key) → links_of new j ≡ cond x l (links_of old j)
          → (link_by_now w (links_of new j) ≡ cond x (link_from (Open t) p) (link_by_now u (links_of old j)))
          ⊎ (IsEnd (horizon w) (cond x (link_from (Open t) p) (link_by_now u (links_of old j)))
          × (link_by_now w (links_of new j) ≡ None))
      by_key true j e =
          owner.unended_or_end (horizon w) (link_from (Open t) p) (link_by_now w (links_of new j))
          (ap (link_by_now w) e ∙ replaced_followed u w t (drop 1 (records_at u t)) gone l ∙ leads
          ∙ ap (λ h. link_above h (link_from (Open t) p)) (sym (replaced_horizon u w t (drop 1 (records_at u t)) gone)))
      by_key false j e = inl
          (ap (link_by_now w) e ∙ replaced_followed u w t (drop 1 (records_at u t)) gone (links_of old j))

-- the commit that this is of
pub record IsCommit (found : Option CommitSegment) (n : SegmentOwner) : Type 0 where
  pub commit : CommitSegment
  pub are : found ≡ Some commit
  pub terminal : commit.terminal ≡ n.terminal
  pub number : commit.number ≡ n.number

pub commit_is : (o : Option CommitSegment) (n : SegmentOwner) → Some n ≡ option_map owner_of o → IsCommit o n
commit_is None n e = cc
commit_is (Some c) n e =
    let same : n ≡ owner_of c = owner.some_is n (owner_of c) e in
    record {
      commit = c;
      are = refl;
      terminal = sym (ap (λ (x : SegmentOwner). x.terminal) same);
      number = sym (ap (λ (x : SegmentOwner). x.number) same);
    }

-- ---- the newest commit

-- the newest commit is this terminal's
pub record IsLast (cs : List CommitSegment) (n : SegmentOwner) : Type 0 where
  pub newest : CommitSegment
  pub older : List CommitSegment
  pub are : cs ≡ newest ∷ older
  pub terminal : newest.terminal ≡ n.terminal

pub last_is : (cs : List CommitSegment) (n : SegmentOwner) → Some n ≡ option_map owner_of (slice_get cs 0) → IsLast cs n
last_is [] n e = cc
last_is (c ∷ cs) n e =
    let same : n ≡ owner_of c = owner.some_is n (owner_of c) e in
    record { newest = c; older = cs; are = refl; terminal = sym (ap (λ (x : SegmentOwner). x.terminal) same) }

none_past : (cs : List CommitSegment) (i : ℕ) → None ≡ option_map owner_of (slice_get cs i) → length cs ≤ i
none_past [] i e = omega arith
none_past (c ∷ cs) zero e = cc
none_past (c ∷ cs) (suc i) e = let past = none_past cs i e in omega (arith, past)

some_inside : (cs : List CommitSegment) (i : ℕ) (c : CommitSegment) → slice_get cs i ≡ Some c → i < length cs
some_inside [] i c e = cc
some_inside (d ∷ cs) zero c e = omega arith
some_inside (d ∷ cs) (suc i) c e = let inside = some_inside cs i c e in omega (arith, inside)

-- ---- the moments of one terminal replaced

module _ (u : SegmentLog) (links : Key → Option OwnedLink) (ms : List MomentList) (c : IsLinked u links ms) (t i : ℕ)
    (at : i ≡ t) (high : i ≤ 64) where
  inside : i < length ms
  inside = let size = c.moments.size in omega (arith, size, high)

  known_terminal : t < suc TERMINALS
  known_terminal = omega (arith, at, high)

  moments_read : (x : MomentList) → x ≡ get_or ms i x → x ≡ moments_at ms t
  moments_read x read = get_or_read ms i x inside read no_moments ∙ ap (moments_at ms) at

  pub moments_are : (x : MomentList) → x ≡ get_or ms i x → x.moments ≡ moments_of t (total_count u) u.committed
  moments_are x read = ap (λ (z : MomentList). z.moments) (moments_read x read) ∙ c.moments.kept t known_terminal

  pub has_room : (x : MomentList) → x ≡ get_or ms i x → IsSome (active_at u t) → 1 ≤ x.room
  has_room x read some = subst (λ (z : MomentList). 1 ≤ z.room) (sym (moments_read x read)) (c.moments.room t some)

  replaced_list : (w : SegmentLog) (y : MomentList) → y.moments ≡ moments_of t (total_count w) w.committed
      → ((s : ℕ) → s ≢ t → moments_of s (total_count w) w.committed ≡ moments_of s (total_count u) u.committed)
      → (IsSome (active_at w t) → 1 ≤ y.room) → ((s : ℕ) → s ≢ t → IsSome (active_at w s) → IsSome (active_at u s))
      → AreMoments w (set ms i y)
  replaced_list w y here there room others =
      let now : moments_at (set ms i y) t ≡ y = ap (moments_at (set ms i y)) (sym at)
      ∙ get_or-set_same ms i y no_moments inside in
      let still : (s : ℕ) → s ≢ t → moments_at (set ms i y) s ≡ moments_at ms s =
      (λ s ne. get_or-set_other ms i s y no_moments (λ e. ne (e ∙ at))) in
      record {
        size = length-set ms i y ∙ c.moments.size;
        kept = λ s less. elim (cases_eq s t) [
          | inl e ↦ subst (λ z. (moments_at (set ms i y) z).moments ≡ moments_of z (total_count w) w.committed) (sym e)
              (ap (λ (z : MomentList). z.moments) now ∙ here)
          | inr ne ↦ ap (λ (z : MomentList). z.moments) (still s ne) ∙ c.moments.kept s less ∙ sym (there s ne)
        ];
        room = λ s some. elim (cases_eq s t) [
          | inl e ↦ subst (λ z. 1 ≤ (moments_at (set ms i y) z).room) (sym e)
              (subst (λ (z : MomentList). 1 ≤ z.room) (sym now) (room (subst (λ z. IsSome (active_at w z)) e some)))
          | inr ne ↦ subst (λ (z : MomentList). 1 ≤ z.room) (sym (still s ne)) (c.moments.room s (others s ne some))
        ];
      }

  -- ---- a segment opened, with room for its commit

  opens_all : (s : ℕ) → IsSome (active_at u s) → active_at u t ≡ None → IsSome (active_at (with_segment u t) s)
  opens_all s some closed =
      elim (cases_eq s t) [
        | inl e ↦ let none = subst (λ z. IsSome {T = OpenSegment} z) (ap (active_at u) e ∙ closed) some in cc
        | inr ne ↦ subst (λ z. IsSome {T = OpenSegment} z)
            (sym (active_there u t (Some (record { terminal = t; number = suc (count_at u t); records = [] })) s ne))
            some
      ]

  pub open_linked : (w : SegmentLog) (x y : MomentList) → active_at u t ≡ None → w ≡ with_segment u t → x
      ≡ get_or ms i x
      → y.moments ≡ x.moments → 1 ≤ y.room
      → IsLinked w links (set ms i y)
  open_linked w x y closed is read same room =
      let a : Option OpenSegment = Some (record { terminal = t; number = suc (count_at u t); records = [] }) in
      subst (λ v. IsLinked v links (set ms i y)) (sym is)
      record {
        chained = same_chained u (with_segment u t) links (owner.count_same u t a) (owner.total_kept u t a) refl
            (calls.opens u (λ k. link_by_now u (links k)) t closed c.chained);
        owned = same_owned u (with_segment u t) links (owner.count_same u t a)
            (λ s some. opens_all s some closed) c.owned;
        moments = replaced_list (with_segment u t) y (same ∙ moments_are x read
            ∙ ap (λ n. moments_of t n u.committed) (sym (owner.total_kept u t a)))
            (λ s ne. ap (λ n. moments_of s n u.committed) (owner.total_kept u t a)) (λ some. room)
            (λ s ne some. subst (λ z. IsSome {T = OpenSegment} z) (active_there u t a s ne) some);
      }

  -- or not: memory was refused
  pub open_refused : (w : SegmentLog) (x y : MomentList) → w ≡ u → x ≡ get_or ms i x → y.moments ≡ x.moments
      → (IsSome (active_at u t) → 1 ≤ y.room) → IsLinked w links (set ms i y)
  open_refused w x y is read same room =
      subst (λ v. IsLinked v links (set ms i y)) (sym is)
      record {
        chained = c.chained;
        owned = c.owned;
        moments = replaced_list u y (same ∙ moments_are x read) (λ s ne. refl) room (λ s ne some. some);
      }

  pub open_either : {T E : Type 0} (r : Result T E) (w : SegmentLog) (x y : MomentList) → active_at u t ≡ None
      → OnOk r (w ≡ with_segment u t) → OnErr r (w ≡ u)
      → x ≡ get_or ms i x → y.moments ≡ x.moments → 1 ≤ y.room → IsLinked w links (set ms i y)
  open_either (Ok v) w x y closed ok err read same room = open_linked w x y closed ok read same room
  open_either (Err e) w x y closed ok err read same room = open_refused w x y err read same (λ s. room)

  -- ---- a commit

  pub seal_linked : (w : SegmentLog) (x y : MomentList) (m : ℕ) (q : Request) (r : Reply) → IsWhole u
      → IsSome (active_at u t) → w ≡ after_seal u t q r → m ≡ total_count u + 1
      → x ≡ get_or ms i x → y.moments ≡ m ∷ x.moments → IsLinked w links (set ms i y)
  seal_linked w x y m q r whole some is moment read more =
      let o = some_of (active_at u t) some in
      let next : m ≡ suc (total_count u) = omega (arith, moment) in
      subst (λ v. IsLinked v links (set ms i y)) (sym is)
      record {
        chained = owner.sealed_chained u t o.0 q r o.1 links whole c.owned c.chained;
        owned = owner.sealed_owned u t o.0 q r o.1 links c.owned;
        moments = replaced_list (after_seal u t q r) y
            (more ∙ ap (λ n. n ∷ x.moments) next ∙ ap (λ xs. suc (total_count u) ∷ xs) (moments_are x read)
            ∙ sym (owner.sealed_moments u t o.0 q r o.1 t refl))
            (λ s ne. owner.sealed_others u t o.0 q r o.1 s ne)
            (λ now. let none : active_at (after_seal u t q r) t ≡ None = owner.sealed_closed u t o.0 q r o.1 in
            let off = subst (λ z. IsSome {T = OpenSegment} z) none now in cc)
            (λ s ne now. subst (λ z. IsSome {T = OpenSegment} z) (owner.sealed_active u t o.0 q r o.1 s ne) now);
      }

  -- ---- the oldest commit given up

  pub oldest_linked : (w : SegmentLog) (x y : MomentList) (n : SegmentOwner) → IsWhole u
      → Some n ≡ option_map owner_of (slice_get u.committed (length u.committed - 1)) → n.terminal ≡ t
      → w ≡ with_newest (length u.committed - 1) u → x ≡ get_or ms i x
      → y.moments ≡ take (length x.moments - 1) x.moments → x.room ≤ y.room → IsLinked w links (set ms i y)
  oldest_linked w x y n whole found by is read less room =
      let oldest = commit_is (slice_get u.committed (length u.committed - 1)) n found in
      let gone = owner.oldest_gone t (total_count u) u.committed oldest.commit oldest.are in
      let whose : t ≡ oldest.commit.terminal = sym by ∙ sym oldest.terminal in
      subst (λ v. IsLinked v links (set ms i y)) (sym is)
      record {
        chained = owner.newest_chained u links (length u.committed - 1) whole (omega arith) c.chained;
        owned = same_owned u (with_newest (length u.committed - 1) u) links (λ s. refl) (λ s some. some) c.owned;
        moments = replaced_list (with_newest (length u.committed - 1) u) y
            (less ∙ ap (λ (xs : List ℕ). take (length xs - 1) xs) (moments_are x read) ∙ sym (gone.0 whose).less)
            (λ s ne. (owner.oldest_gone s (total_count u) u.committed oldest.commit oldest.are).1
            (λ e. ne (e ∙ sym whose)))
            (λ some. let before = has_room x read some in omega (arith, before, room)) (λ s ne some. some);
      }

  -- ---- a commit opened again

  pub reopen_linked : (w : SegmentLog) (x y : MomentList) (n : SegmentOwner) (later : ℕ) → IsWhole u
      → ((s : ℕ) → active_at u s ≡ None) → Some n ≡ option_map owner_of (slice_get u.committed 0)
      → n.terminal ≡ t → 1 ≤ n.number → n.number + later ≡ count_at u n.terminal → w ≡ with_reopening u u.committed
      → x ≡ get_or ms i x → y.moments ≡ drop 1 x.moments → y.room + length y.moments ≡ x.room + length x.moments
      → IsLinked w links (set ms i y)
  reopen_linked w x y n later whole closed found by first sum is read less room =
      let last = last_is u.committed n found in
      let d = last.newest in
      let whose : t ≡ d.terminal = sym by ∙ sym last.terminal in
      let counted : 1 ≤ count_at u n.terminal = omega (arith, first, sum) in
      let some : 1 ≤ count_at u d.terminal = subst (λ s. 1 ≤ count_at u s) (sym last.terminal) counted in
      let was : x.moments ≡ total_count u ∷ moments_of t (total_count (with_reopening u (d ∷ last.older))) last.older =
      moments_are x read ∙ owner.was_moments u d last.older last.are whole some closed t whose in
      let longer = ap length was in
      let shorter = ap length (less ∙ ap (drop 1) was) in
      subst (λ v. IsLinked v links (set ms i y)) (sym (is ∙ ap (with_reopening u) last.are))
      record {
        chained = owner.back_chained u d last.older last.are whole some closed links c.owned c.chained;
        owned = owner.back_owned u d last.older last.are whole some closed links c.owned;
        moments = replaced_list (with_reopening u (d ∷ last.older)) y (less ∙ ap (drop 1) was)
            (λ s ne. sym (owner.was_others u d last.older last.are whole some closed s (λ e. ne (e ∙ sym whose))))
            (λ now. omega (arith, longer, shorter, room))
            (λ s ne now. subst (λ z. IsSome {T = OpenSegment} z)
            (owner.back_active u d last.older last.are whole some closed s (λ e. ne (e ∙ sym whose))) now);
      }
  -- ---- what became of a transaction

-- ---- a segment given up

drop_owned : (u : SegmentLog) (t : ℕ) (links : Key → Option OwnedLink) → records_at u t ≡ []
    → AreChained u (λ k. link_by_now u (links k)) → AreOwned u links → AreOwned (without_segment u t) links
drop_owned u t links empty c owned k l is =
    let own = owned k l is in
    let count = owner.count_same u t None l.owner.terminal in
    let few = own.number in
    record {
      number = omega (arith, count, few);
      is_open = λ less. elim (cases_eq l.owner.terminal t) [
        | inl e ↦ absurd
            (not_open u (λ j. link_by_now u (links j)) k t
            (record { address = l.address; holder = Open l.owner.terminal })
            empty c
            (ap (link_by_now u) is ∙ ap
            (λ (o : Option Holder). option_map {T = Holder} (λ h. record { address = l.address; holder = h }) o)
            (owner.opened_holder u l.owner (omega (arith, count, less))))
            (ap (λ s. Open s) e))
        | inr ne ↦ subst (λ z. IsSome {T = OpenSegment} z) (sym (active_there u t None l.owner.terminal ne))
            (own.is_open (omega (arith, count, less)))
      ];
    }

drop_opens : (u : SegmentLog) (t s : ℕ) → IsSome (active_at (without_segment u t) s) → IsSome (active_at u s)
drop_opens u t s some =
    elim (cases_eq s t) [
      | inl e ↦ elim (cases_lt t (length u.terminals)) [
        | inl within ↦ let none = subst (λ z. IsSome {T = OpenSegment} z)
            (ap (active_at (without_segment u t)) e ∙ active_here u t None within) some in cc
        | inr past ↦ subst (λ z. IsSome (get_or z s idle).active)
            (set_past u.terminals t (record { count = count_at u t; active = None }) past) some
      ]
      | inr ne ↦ subst (λ z. IsSome {T = OpenSegment} z) (active_there u t None s ne) some
    ]

pub drop_linked : (u w : SegmentLog) (t : ℕ) (links : Key → Option OwnedLink) (ms : List MomentList)
    → records_at u t ≡ [] → w ≡ without_segment u t → IsLinked u links ms → IsLinked w links ms
drop_linked u w t links ms empty is c =
    subst (λ v. IsLinked v links ms) (sym is)
    record {
      chained = same_chained u (without_segment u t) links (owner.count_same u t None) (owner.total_kept u t None) refl
          (calls.drops u (λ k. link_by_now u (links k)) t empty c.chained);
      owned = drop_owned u t links empty c.chained c.owned;
      moments = same_moments u (without_segment u t) ms (owner.total_kept u t None) refl (drop_opens u t) c.moments;
    }

-- ---- no commit is kept

last_some : (c : CommitSegment) (cs : List CommitSegment) → None ≡ option_map owner_of (slice_get (c ∷ cs) (length cs))
    → ⊥
last_some c [] e = cc
last_some c (d ∷ cs) e = last_some d cs e

none_kept : (cs : List CommitSegment) → None ≡ option_map owner_of (slice_get cs (length cs - 1)) → cs ≡ []
none_kept [] e = refl
none_kept (c ∷ cs) e =
    let last : suc (length cs) - 1 ≡ length cs = omega arith in
    absurd (last_some c cs (e ∙ ap (λ i. option_map owner_of (slice_get (c ∷ cs) i)) last))

pub none_linked_still : (u w : SegmentLog) (links : Key → Option OwnedLink) (ms : List MomentList)
    → None ≡ option_map owner_of (slice_get u.committed (length u.committed - 1))
    → w ≡ with_newest (length u.committed - 1) u → IsLinked u links ms → IsLinked w links ms
none_linked_still u w links ms none is c =
    let empty = none_kept u.committed none in
    let taken : take (length u.committed - 1) u.committed ≡ u.committed =
    ap (λ (cs : List CommitSegment). take (length cs - 1) cs) empty ∙ sym empty in
    let same : with_newest (length u.committed - 1) u ≡ u =
    (λ j. record u { committed = taken j }) in
    subst (λ v. IsLinked v links ms) (sym (is ∙ same)) c

-- ---- the link where a previous one leads

module _ (u : SegmentLog) (t : ℕ) (whole : IsWhole u) where
  pub committed_given : (a : Address) (m later : ℕ) (n : SegmentOwner) → m ≤ total_count u
      → later ≡ total_count u - m → Some n ≡ option_map owner_of (slice_get u.committed later)
      → n.number + commits_of n.terminal (take later u.committed) ≡ count_at u n.terminal
      → link_by_now u (Some (record { address = a; owner = n }))
      ≡ link_above (horizon u) (link_from (Open t) (Committed a m))
  committed_given a m later n made is found sum =
      let d = commit_is (slice_get u.committed later) n found in
      let inside = some_inside u.committed later d.commit d.are in
      let few = whole.commits in
      let index : count_at u n.terminal - n.number ≡ commits_of n.terminal (take later u.committed) =
      omega (arith, sum) in
      let moment : total_count u - later ≡ m = omega (arith, is, made) in
      let holder : holder_of u n ≡ Some (At m) =
      owner.made_holder u n (omega (arith, sum))
      ∙ ap (λ i. option_map At (slice_get (moments_of n.terminal (total_count u) u.committed) i)) index
      ∙ ap (option_map At) (owner.moment_found n.terminal (total_count u) u.committed later d.commit d.are
      (sym d.terminal))
      ∙ ap (λ x. Some (At x)) moment in
      ap (λ (o : Option Holder). option_map {T = Holder} (λ h. record { address = a; holder = h }) o) holder
      ∙ sym (owner.not_ended (horizon u) a m (omega (arith, inside, is, made, few)))

pub of_some : {A : Type 0} (P : A → Type 0) (o : Option A) → IfSome o P → (x : A) → o ≡ Some x → P x
of_some P None h x e = cc
of_some P (Some y) h x e = subst P (owner.some_is y x e) h

-- ---- what leads to the previous record

pub leads_previous : (u : SegmentLog) (links : Key → Option Link) (t : ℕ) (k : Key) → IsWhole u → AreChained u links
    → IsAlone u t k
    → link_from (Open t) (previous_of (links k)) ≡ links k
leads_previous u links t k whole c alone = seen_again t (links k) (sees_alone u links t k whole c alone)

-- a record is led to where its key's link in its place leads
pub push_leads : (u : SegmentLog) (links : LinkMaps) (t : ℕ) (k key : Key) (place : Option OwnedLink) (l : Option Link)
    (p : Previous) → k ≡ key → Some place ≡ place_of links k
    → l ≡ link_by_now u place → p ≡ previous_of l → IsWhole u → AreChained u (λ j. link_by_now u (links_of links j))
    → IsAlone u t key → link_from (Open t) p ≡ link_by_now u (links_of links key)
push_leads u links t k key place l p own found is by whole chained alone =
    ap (λ q. link_from (Open t) q)
    (by ∙ ap previous_of (is ∙ ap (λ o. link_by_now u (link_in o)) (found ∙ ap (place_of links) own)))
    ∙ leads_previous u (λ j. link_by_now u (links_of links j)) t key whole chained alone
