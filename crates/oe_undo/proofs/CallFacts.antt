-- Each call of a log keeps the chains.
use Rattle.std.proofs.Common.{◌≡◌, ℕ, suc, ◌-◌, ◌<◌, ◌≤◌, Bool, true, false, cond, List, [], ◌∷◌, ◌++◌, length, take}
use Rattle.std.proofs.Common.{drop, get_or, set, Option, None, Some, refl, sym, ap, ◌∙◌, subst, inl, inr, arith}
use Rattle.std.specs.Prelude.{◌≢◌, ◌↔◌, option_map}
use Rattle.std.specs.List.{sum_by}
use Rattle.std.proofs.lemmas.Bool.{cases_eq, cases_lt, cond-false}
use Rattle.std.proofs.lemmas.List.{get_or-set_same, get_or-set_other, get_or_past, set_past, take_all, length-take-le}
use Rattle.std.proofs.lemmas.List.Sums.{sum_by-set}
use Rattle.oe_rows.specs.declared.keys.Key.{Key}
use Rattle.oe_rows.specs.declared.layouts.Layout.{Layout}
use Rattle.oe_model.specs.Rows.{is_key}
use Rattle.oe_model.specs.Changes.{record_key}
use Rattle.oe_model.specs.System.{terminal_limit, system}
use Rattle.oe_theory.specs.Store.{all_below}
use Rattle.oe_requests.specs.declared.requests.Request.{Request}
use Rattle.oe_requests.specs.declared.replies.Reply.{Reply}
use Rattle.oe_log.specs.Records.{Logged}
use Rattle.oe_log.specs.Log.{SegmentLog, TerminalState, Open as OpenSegment, Committed as CommitSegment, idle}
use Rattle.oe_log.specs.Log.{idle_terminals, records_in, active_at, records_at, count_at, total_count, no_segments}
use Rattle.oe_log.specs.Log.{with_segment, with_record, without_newest, after_seal, without_segment, with_newest}
use Rattle.oe_log.specs.Log.{with_reopening}
use Rattle.oe_log.proofs.StateFacts.{known}
use Rattle.oe_log.proofs.LawFacts.{idle_at}
use Rattle.oe_undo.specs.declared.holders.Link.{Link}
use Rattle.oe_undo.specs.declared.holders.Holder.{Holder}
use Rattle.oe_undo.specs.declared.holders.Holder.TheVariants.{Open, At}
use Rattle.oe_undo.specs.Held.{Held, held_open, held_commits, all_held, of_key, horizon}
use Rattle.oe_undo.specs.Chains.{link_from, IsEnd, IsChain, AreChained, with_link, holder_after_seal}
use Rattle.oe_undo.specs.Chains.{holder_after_reopening}
use Rattle.oe_undo.specs.Chains.{with_holder}
use Rattle.oe_undo.specs.Laws.{IsWhole}
use Rattle.oe_model.proofs.RowFacts.{key_true, key_refl}
use Rattle.oe_undo.proofs.ChainFacts.{chain_open, chain-open, chain-same, own, commits-append, commits-up, nobody}
use Rattle.oe_undo.proofs.ChainFacts.{no_record}
use Rattle.oe_undo.proofs.ChainFacts as chain

-- ---- terminals' states

known_by_record : (v : SegmentLog) (t : ℕ) (r : Logged) (rs : List Logged) → records_at v t ≡ r ∷ rs
    → t < length v.terminals
known_by_record v t r rs e =
    elim (cases_lt t (length v.terminals)) [
      | inl within ↦ within
      | inr past ↦ let none : ◌≡◌ {A = List Logged} [] (r ∷ rs) = ap (λ z. records_in z.active)
          (sym (get_or_past v.terminals t idle past)) ∙ e in cc
    ]

module _ (v : SegmentLog) (t : ℕ) (s : TerminalState) where
  abbrev after : SegmentLog
  after = record v { terminals = set v.terminals t s }

  records_here : t < length v.terminals → records_at after t ≡ records_in s.active
  records_here within = ap (λ (z : TerminalState). records_in z.active) (get_or-set_same v.terminals t s idle within)

  pub records_there : (u : ℕ) → u ≢ t → records_at after u ≡ records_at v u
  records_there u ne = ap (λ (z : TerminalState). records_in z.active) (get_or-set_other v.terminals t u s idle ne)

  records_same : records_in s.active ≡ records_at v t → (u : ℕ) → records_at after u ≡ records_at v u
  records_same same u =
      elim (cases_lt t (length v.terminals)) [
        | inl within ↦ elim (cases_eq u t) [
          | inl e ↦ ap (λ z. records_at after z) e ∙ records_here within ∙ same ∙ ap (λ z. records_at v z) (sym e)
          | inr ne ↦ records_there u ne
        ]
        | inr past ↦ ap (λ z. records_in (get_or z u idle).active) (set_past v.terminals t s past)
      ]

  pub total_same : s.count ≡ count_at v t → total_count after ≡ total_count v
  total_same same =
      elim (cases_lt t (length v.terminals)) [
        | inl within ↦ let sums = sum_by-set (λ (z : TerminalState). z.count) v.terminals t s idle within in
            omega (arith, sums, same)
        | inr past ↦ ap (λ z. sum_by (λ (z : TerminalState). z.count) z) (set_past v.terminals t s past)
      ]

-- ---- chains as lists of terminals and commits

abbrev commits : Key → ℕ → List CommitSegment → List Held
commits k m cs = of_key k (held_commits m cs)

module _ (k : Key) (u : SegmentLog) (l : Option Link) where
  opened_up : IsChain (horizon u) l (of_key k (all_held u))
      → IsChain (horizon u) l (chain_open k (records_at u) terminal_limit (commits k (total_count u) u.committed))
  opened_up c = subst (IsChain (horizon u) l)
      (chain-open k (records_at u) terminal_limit (held_commits (total_count u) u.committed)) c

  closed_up : IsChain (horizon u) l (chain_open k (records_at u) terminal_limit (commits k (total_count u) u.committed))
      → IsChain (horizon u) l (of_key k (all_held u))
  closed_up c = subst (IsChain (horizon u) l)
      (sym (chain-open k (records_at u) terminal_limit (held_commits (total_count u) u.committed))) c

-- the commits are the same
settled : (k : Key) (u w : SegmentLog) (l : Option Link) → total_count w ≡ total_count u → w.committed ≡ u.committed
    → IsChain (horizon u) l (chain_open k (records_at w) terminal_limit (commits k (total_count u) u.committed))
    → IsChain (horizon w) l (of_key k (all_held w))
settled k u w l total commits_are c =
    closed_up k w l
    (subst (λ m. IsChain (m - length w.committed) l
    (chain_open k (records_at w) terminal_limit (commits k m w.committed))) (sym total)
    (subst (λ cs. IsChain (total_count u - length cs) l
    (chain_open k (records_at w) terminal_limit (commits k (total_count u) cs))) (sym commits_are) c))

-- and terminals have the same records of the key
moved : (k : Key) (u w : SegmentLog) (l : Option Link)
    → ((s : ℕ) → own k (Open s) (records_at u s) ≡ own k (Open s) (records_at w s))
    → total_count w ≡ total_count u → w.committed ≡ u.committed → IsChain (horizon u) l (of_key k (all_held u))
    → IsChain (horizon w) l (of_key k (all_held w))
moved k u w l same total commits_are c =
    settled k u w l total commits_are
    (subst (IsChain (horizon u) l)
    (chain-same k (records_at u) (records_at w) terminal_limit (commits k (total_count u) u.committed)
    (λ s less. same s)) (opened_up k u l c))

same_records : (u w : SegmentLog) (links : Key → Option Link) → ((s : ℕ) → records_at w s ≡ records_at u s)
    → total_count w ≡ total_count u → w.committed ≡ u.committed
    → AreChained u links → AreChained w links
same_records u w links same total commits_are c = λ k. moved k u w (links k) (λ s. ap (own k (Open s)) (sym (same s)))
    total commits_are (c k)

pub opens : (u : SegmentLog) (links : Key → Option Link) (t : ℕ) → active_at u t ≡ None → AreChained u links
    → AreChained (with_segment u t) links
opens u links t closed c = same_records u (with_segment u t) links (records_same u t _ (ap records_in (sym closed)))
    (total_same u t _ refl) refl c

pub drops : (u : SegmentLog) (links : Key → Option Link) (t : ℕ) → records_at u t ≡ [] → AreChained u links
    → AreChained (without_segment u t) links
drops u links t empty c = same_records u (without_segment u t) links (records_same u t _ (sym empty))
    (total_same u t _ refl)
    refl c

now_with : (rs : List Logged) (a : Option OpenSegment) (o : OpenSegment) → a ≡ Some o
    → records_in (option_map {T = OpenSegment} (λ z. record z { records = rs }) a) ≡ rs
now_with rs None o e = cc
now_with rs (Some a) o e = refl

-- a key's link and those of other keys
by_key : (P : Key → Option Link → Type 0) (links : Key → Option Link) (k : Key) (l : Option Link) → P k l
    → ((j : Key) → is_key j k ≡ false → P j (links j)) → (j : Key) → P j (with_link links k l j)
by_key P links k l this others j = go (is_key k j) refl
  where
    go : (b : Bool) → is_key k j ≡ b → P j (cond b l (links j))
    go true e = subst (λ z. P z l) (key_true k j e) this
    go false e = others j (no (is_key j k) refl)
      where
        no : (b : Bool) → is_key j k ≡ b → is_key j k ≡ false
        no true q = let same : is_key k j ≡ true = subst (λ z. is_key z j ≡ true) (key_true j k q) (key_refl j) in cc
        no false q = q

other_key : (j : Key) (h : Holder) (r : Logged) (rs : List Logged) → is_key j (record_key r.before) ≡ false
    → own j h (r ∷ rs) ≡ own j h rs
other_key j h r rs e = cond-false (is_key j (record_key r.before)) _ _ e

-- a record more, or one less, of a terminal
module _ (u w : SegmentLog) (links : Key → Option Link) (t : ℕ) (within : t < terminal_limit)
    (others : (s : ℕ) → s ≢ t → records_at w s ≡ records_at u s)
    (total : total_count w ≡ total_count u) (commits_are : w.committed ≡ u.committed) where
  other_keys : (j : Key) (r : Logged) (rs : List Logged) → is_key j (record_key r.before) ≡ false
      → own j (Open t) (records_at u t) ≡ own j (Open t) rs
      → records_at w t ≡ rs → IsChain (horizon u) (links j) (of_key j (all_held u))
      → IsChain (horizon w) (links j) (of_key j (all_held w))
  other_keys j r rs e same now c =
      moved j u w (links j) (λ s. elim (cases_eq s t) [
        | inl q ↦ subst (λ z. own j (Open z) (records_at u z) ≡ own j (Open z) (records_at w z)) (sym q)
            (same ∙ ap (own j (Open t)) (sym now))
        | inr ne ↦ ap (own j (Open s)) (sym (others s ne))
      ]) total commits_are c

  more : (r : Logged) → records_at w t ≡ r ∷ records_at u t
      → link_from (Open t) r.previous ≡ links (record_key r.before) → AreChained u links
      → AreChained w (with_link links (record_key r.before) (Some (record { address = r.address; holder = Open t })))
  more r now leads c =
      let k : Key = record_key r.before in
      let l : Option Link = Some (record { address = r.address; holder = Open t }) in
      by_key (λ j x. IsChain (horizon w) x (of_key j (all_held w))) links k l
      (settled k u w l total commits_are
      (chain.pushed k (horizon u) (records_at u) (records_at w) t r (commits k (total_count u) u.committed) (key_refl k)
      now others terminal_limit within
      (subst (λ x. IsChain (horizon u) x
      (chain_open k (records_at u) terminal_limit (commits k (total_count u) u.committed))) (sym leads) (opened_up k
      u (links k) (c k)))))
      (λ j e. other_keys j r (r ∷ records_at u t) e (sym (other_key j (Open t) r (records_at u t) e)) now (c j))

  less : (r : Logged) (rs : List Logged) → records_at u t ≡ r ∷ rs → records_at w t ≡ rs → AreChained u links
      → AreChained w (with_link links (record_key r.before) (link_from (Open t) r.previous))
  less r rs had now c =
      let k : Key = record_key r.before in
      let l : Option Link = link_from (Open t) r.previous in
      by_key (λ j x. IsChain (horizon w) x (of_key j (all_held w))) links k l
      (settled k u w l total commits_are
      (chain.popped k (horizon u) (records_at u) (records_at w) t r rs (commits k (total_count u) u.committed) (links k)
      (key_refl k) had now others terminal_limit within
      (opened_up k u (links k) (c k))))
      (λ j e. other_keys j r rs e (ap (own j (Open t)) had ∙ other_key j (Open t) r rs e) now (c j))

below_limit : (u : SegmentLog) (t : ℕ) → IsWhole u → t < length u.terminals → t < terminal_limit
below_limit u t whole less = subst (λ n. t < n) whole.terminals less

pub pushes : (u : SegmentLog) (links : Key → Option Link) (t : ℕ) (o : OpenSegment) (r : Logged) → IsWhole u
    → active_at u t ≡ Some o
    → link_from (Open t) r.previous ≡ links (record_key r.before) → AreChained u links
    → AreChained (with_record u t r)
    (with_link links (record_key r.before) (Some (record { address = r.address; holder = Open t })))
pushes u links t o r whole is leads c =
    let within = known u t o is in
    more u (with_record u t r) links t (below_limit u t whole within) (records_there u t _)
    (total_same u t _ refl) refl r
    (records_here u t _ within ∙ now_with (r ∷ records_at u t) (active_at u t) o is) leads c

open_there : (a : Option OpenSegment) (r : Logged) (rs : List Logged) → records_in a ≡ r ∷ rs
    → records_in (option_map {T = OpenSegment} (λ z. record z { records = drop 1 (records_in a) }) a) ≡ rs
open_there None r rs e = cc
open_there (Some o) r rs e = ap (drop 1) e

pub pops : (u : SegmentLog) (links : Key → Option Link) (t : ℕ) (r : Logged) (rs : List Logged) → IsWhole u
    → records_at u t ≡ r ∷ rs
    → AreChained u links → AreChained (without_newest u t)
    (with_link links (record_key r.before) (link_from (Open t) r.previous))
pops u links t r rs whole had c =
    let within = known_by_record u t r rs had in
    less u (without_newest u t) links t (below_limit u t whole within) (records_there u t _)
    (total_same u t _ refl) refl r rs
    had
    (records_here u t _ within ∙ open_there (active_at u t) r rs had) c

-- ---- commits

pub total_more : (u : SegmentLog) (t : ℕ) (q : Request) (y : Reply) → t < length u.terminals
    → total_count (after_seal u t q y) ≡ suc (total_count u)
total_more u t q y within =
    let sums = sum_by-set (λ (z : TerminalState). z.count) u.terminals t
    (record { count = suc (count_at u t); active = None }) idle within in
    omega (arith, sums)

-- the horizon is not after the newest moment
horizon_low : (u : SegmentLog) → horizon u ≤ total_count u
horizon_low u = omega arith

pub seals : (u : SegmentLog) (links : Key → Option Link) (t : ℕ) (o : OpenSegment) (q : Request) (y : Reply) → IsWhole u
    → active_at u t ≡ Some o
    → AreChained u links → AreChained (after_seal u t q y)
    (λ k. with_holder (holder_after_seal t (suc (total_count u))) (links k))
seals u links t o q y whole is c = λ k.
    let within = known u t o is in
    let w : SegmentLog = after_seal u t q y in
    let n : ℕ = total_count u in
    let l : Option Link = with_holder (holder_after_seal t (suc n)) (links k) in
    let total : total_count w ≡ suc n = total_more u t q y within in
    let ends : horizon u ≡ horizon w = omega (arith, total) in
    let ys : List Held = commits k n u.committed in
    let done : IsChain (horizon u) l
    (chain_open k (records_at w) terminal_limit (own k (At (suc n)) (records_at u t) ++ ys)) =
    chain.sealed k (horizon u) n (records_at u) (records_at w) t ys (links k) (horizon_low u)
    (commits-up k n n u.committed (omega arith))
    (records_here u t _ within) (records_there u t _) terminal_limit (below_limit u t whole within)
    (opened_up k u (links k) (c k)) in
    let lists : own k (At (suc n)) (records_at u t) ++ ys ≡ commits k (total_count w) w.committed =
    ap (λ m. own k (At (suc n)) (records_at u t) ++ commits k m u.committed) (one_less n)
    ∙ sym (commits-append k (suc n)
    (record { terminal = t; number = suc (count_at u t); request = q; reply = y; records = records_at u t })
    u.committed)
    ∙ ap (λ m. commits k m w.committed) (sym total) in
    closed_up k w l (subst (λ zs. IsChain (horizon w) l (chain_open k (records_at w) terminal_limit zs)) lists
    (subst (λ h. IsChain h l (chain_open k (records_at w) terminal_limit (own k (At (suc n)) (records_at u t) ++ ys)))
    ends done))
  where
    one_less : (n : ℕ) → n ≡ suc n - 1
    one_less n = omega arith

pub counted : (u : SegmentLog) (t : ℕ) → 1 ≤ count_at u t → t < length u.terminals
counted u t some =
    elim (cases_lt t (length u.terminals)) [
      | inl within ↦ within
      | inr past ↦ let none = ap (λ (z : TerminalState). z.count) (get_or_past u.terminals t idle past) in
          absurd (omega (arith, some, none))
    ]

pub reopens : (u : SegmentLog) (links : Key → Option Link) (c : CommitSegment) (cs : List CommitSegment) → IsWhole u
    → u.committed ≡ c ∷ cs
    → 1 ≤ count_at u c.terminal → ((t : ℕ) → active_at u t ≡ None) → AreChained u links
    → AreChained (with_reopening u u.committed)
    (λ k. with_holder (holder_after_reopening c.terminal (total_count u)) (links k))
reopens u links c cs whole e some closed chained =
    subst (λ z. AreChained (with_reopening u z)
    (λ k. with_holder (holder_after_reopening c.terminal (total_count u)) (links k)))
    (sym e) (λ k.
    let t : ℕ = c.terminal in
    let n : ℕ = total_count u in
    let w : SegmentLog = with_reopening u (c ∷ cs) in
    let within = counted u t some in
    let state : TerminalState =
    record {
      count = count_at u t - 1;
      active = Some
          (record { terminal = t; number = c.number; records = c.records });
    } in
    let sums = sum_by-set (λ (z : TerminalState). z.count) u.terminals t state idle within in
    let total : total_count w ≡ n - 1 = omega (arith, sums, some) in
    let size = ap length e in
    let few = whole.commits in
    let ends : horizon u ≡ horizon w = omega (arith, total, size) in
    let l : Option Link = with_holder (holder_after_reopening t n) (links k) in
    let before : IsChain (horizon u) (links k) (chain_open k (records_at u) terminal_limit (commits k n (c ∷ cs))) =
    subst (λ z. IsChain (horizon u) (links k) (chain_open k (records_at u) terminal_limit (commits k n z))) e
    (opened_up k u (links k) (chained k)) in
    let here : records_at w t ≡ c.records = records_here u t state within in
    let parts : commits k n (c ∷ cs) ≡ own k (At n) (records_at w t) ++ commits k (n - 1) cs =
    commits-append k n c cs ∙ ap (λ rs. own k (At n) rs ++ commits k (n - 1) cs) (sym here) in
    let done : IsChain (horizon u) l (chain_open k (records_at w) terminal_limit (commits k (n - 1) cs)) =
    chain.reopened k (horizon u) (n - 1) n (records_at u) (records_at w) t (commits k (n - 1) cs) (links k)
    (omega (arith, size, few)) (omega (arith, size, few))
    (commits-up k (n - 1) (n - 1) cs (omega arith)) (λ s. ap records_in (closed s))
    (λ s ne. records_there u t state s ne ∙ ap records_in (closed s))
    terminal_limit (below_limit u t whole within)
    (subst (λ zs. IsChain (horizon u) (links k) (chain_open k (records_at u) terminal_limit zs)) parts before) in
    closed_up k w l (subst (λ m. IsChain (horizon w) l (chain_open k (records_at w) terminal_limit (commits k m cs)))
    (sym total)
    (subst (λ h. IsChain h l (chain_open k (records_at w) terminal_limit (commits k (n - 1) cs))) ends done)))

pub purges : (u : SegmentLog) (links : Key → Option Link) (n : ℕ) → AreChained u links
    → AreChained (with_newest n u) links
purges u links n c = λ k.
    elim (cases_lt n (length u.committed)) [
      | inl less ↦
          let m : ℕ = total_count u in
          let size : length (take n u.committed) ≡ n = length-take-le n u.committed (omega (arith, less)) in
          let horizon_is : m - n ≡ horizon (with_newest n u) = omega (arith, size) in
          closed_up k (with_newest n u) (links k)
          (subst (λ h. IsChain h (links k)
          (chain_open k (records_at u) terminal_limit (commits k m (take n u.committed)))) horizon_is
          (chain.purged k (horizon u) m n (records_at u) terminal_limit u.committed (links k) (omega (arith, less))
          (opened_up k u (links k) (c k))))
      | inr all ↦ subst (λ cs. IsChain (total_count u - length cs) (links k)
          (of_key k (held_open (records_at u) (all_below system terminal_limit) ++ held_commits (total_count u) cs)))
          (sym
          (take_all n u.committed all)) (c k)
    ]

-- ---- ends

pub ends : (u : SegmentLog) (links : Key → Option Link) (k : Key) → IsWhole u → AreChained u links
    → IsEnd (horizon u) (links k) → of_key k (all_held u) ≡ []
ends u links k whole c end =
    chain-open k (records_at u) terminal_limit (held_commits (total_count u) u.committed)
    ∙ no_record k (horizon u) (total_count u) (records_at u) terminal_limit u.committed (links k)
    (omega (arith, whole.commits)) end (opened_up k u (links k) (c k))

pub ends_without_records : (u : SegmentLog) (links : Key → Option Link) (k : Key) → IsWhole u → AreChained u links
    → IsEnd (horizon u) (links k) ↔ (of_key k (all_held u) ≡ [])
ends_without_records u links k whole c = (ends u links k whole c, λ e. subst (IsChain (horizon u) (links k)) e (c k))

pub gives_up : (u : SegmentLog) (links : Key → Option Link) (k : Key) → IsWhole u → IsEnd (horizon u) (links k)
    → AreChained u links → AreChained u (with_link links k None)
gives_up u links k whole end c =
    by_key (λ j x. IsChain (horizon u) x (of_key j (all_held u))) links k None
    (subst (IsChain (horizon u) None) (sym (ends u links k whole c end)) tt) (λ j e. c j)

-- ---- an empty log

nothing_at : (e : ℕ) (l : Layout) (t : ℕ) → records_at (no_segments e l) t ≡ []
unfolding idle_terminals
nothing_at e l t = ap (λ (z : TerminalState). records_in z.active) (idle_at 65 t)

pub none : (e : ℕ) (l : Layout) → AreChained (no_segments e l) (λ k. None)
none e l = λ k.
    let u : SegmentLog = no_segments e l in
    closed_up k u None (subst (IsChain (horizon u) None)
    (sym (nobody k (records_at u) terminal_limit (commits k (total_count u) [])
    (λ s less. ap (own k (Open s)) (nothing_at e l s)))) tt)
