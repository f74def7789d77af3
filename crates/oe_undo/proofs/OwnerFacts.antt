-- What became of transactions after each call of the log.
use Rattle.std.proofs.Common.{◌≡◌, ℕ, zero, suc, ◌-◌, ◌<◌, ◌≤◌, ◌==◌, Bool, true, false, cond, List, [], ◌∷◌, length}
use Rattle.std.proofs.Common.{take, get_or, Option, None, Some, refl, sym, ap, ◌∙◌, subst, inl, inr, arith}
use Rattle.std.specs.Prelude.{◌≢◌, ◌⊎◌, nat_lt, IsSome, option_map, slice_get}
use Rattle.std.proofs.lemmas.Bool.{cases_eq, cases_lt, cond-true, cond-false, eq-eqb, ne_eqb, lt-ltb, le-ltb}
use Rattle.std.proofs.lemmas.List.{get_or-set_same, get_or-set_other, set_past, length-take-le}
use Rattle.std.proofs.lemmas.List.Sums.{sum_by-set}
use mathlib.Core.Path.{fun_ext}
use Rattle.oe_rows.specs.declared.keys.Key.{Key}
use Rattle.oe_extent.specs.declared.extents.Address.{Address}
use Rattle.oe_requests.specs.declared.requests.Request.{Request}
use Rattle.oe_requests.specs.declared.replies.Reply.{Reply}
use Rattle.oe_log.specs.declared.heads.SegmentOwner.{SegmentOwner}
use Rattle.oe_log.specs.Log.{SegmentLog, Open as OpenSegment, TerminalState, Committed as CommitSegment, idle}
use Rattle.oe_log.specs.Log.{active_at, count_at, total_count, commits_of, with_active, after_seal, with_newest}
use Rattle.oe_log.specs.Log.{with_reopening}
use Rattle.oe_log.proofs.StateFacts.{known}
use Rattle.oe_undo.specs.declared.holders.Link.{Link}
use Rattle.oe_undo.specs.declared.holders.Holder.{Holder}
use Rattle.oe_undo.specs.declared.holders.Holder.TheVariants.{Open, At}
use Rattle.oe_undo.specs.Held.{all_held, of_key, horizon, is_later}
use Rattle.oe_undo.specs.Chains.{IsForgotten, IsEnd, IsChain, AreChained, holder_after_seal, holder_after_reopening}
use Rattle.oe_undo.specs.Chains.{with_holder}
use Rattle.oe_undo.specs.Laws.{IsWhole}
use Rattle.oe_undo.proofs.CallFacts as calls
use Rattle.oe_undo.specs.declared.links.OwnedLink.{OwnedLink}
use Rattle.oe_undo.specs.Owners.{moments_of, holder_of, link_by_now, IsOwner, AreOwned}
use Rattle.oe_undo.specs.Undo.{link_above}

less_one : (n : ℕ) → suc n - 1 ≡ n
less_one n = omega arith

-- ---- moments of a terminal's commits

pub some_is : {A : Type 0} (a b : A) → Some a ≡ Some b → a ≡ b
some_is a b e = cc

-- none is later than the newest
pub moments_low : (t m : ℕ) (cs : List CommitSegment) (i x : ℕ) → slice_get (moments_of t m cs) i ≡ Some x → x ≤ m
moments_low t m [] i x e = cc
moments_low t m (c ∷ cs) i x e = go (t == c.terminal) i (λ j q. moments_low t (m - 1) cs j x q) e
  where
    go : (b : Bool) (j : ℕ) → ((k : ℕ) → slice_get (moments_of t (m - 1) cs) k ≡ Some x → x ≤ m - 1)
        → slice_get (cond b (m ∷ moments_of t (m - 1) cs) (moments_of t (m - 1) cs)) j ≡ Some x → x ≤ m
    go true zero older q = let same : m ≡ x = some_is m x q in omega (arith, same)
    go true (suc j) older q = let low = older j q in omega (arith, low)
    go false j older q = let low = older j q in omega (arith, low)

-- each is later than the moment before all
pub moments_high : (t m : ℕ) (cs : List CommitSegment) (i x : ℕ) → length cs ≤ m
    → slice_get (moments_of t m cs) i ≡ Some x → m - length cs < x
moments_high t m [] i x few e = cc
moments_high t m (c ∷ cs) i x few e = go (t == c.terminal) i
    (λ j q. moments_high t (m - 1) cs j x (omega (arith, few)) q) e
  where
    go : (b : Bool) (j : ℕ) → ((k : ℕ) → slice_get (moments_of t (m - 1) cs) k ≡ Some x → m - 1 - length cs < x)
        → slice_get (cond b (m ∷ moments_of t (m - 1) cs) (moments_of t (m - 1) cs)) j ≡ Some x
        → m - suc (length cs) < x
    go true zero older q = let same : m ≡ x = some_is m x q in omega (arith, same, few)
    go true (suc j) older q = let high = older j q in omega (arith, high, few)
    go false j older q = let high = older j q in omega (arith, high, few)

-- a commit's moment stands after as many as its terminal has later commits
pub moment_found : (t m : ℕ) (cs : List CommitSegment) (later : ℕ) (c : CommitSegment) → slice_get cs later ≡ Some c
    → t ≡ c.terminal
    → slice_get (moments_of t m cs) (commits_of t (take later cs)) ≡ Some (m - later)
moment_found t m [] later c e own = cc
moment_found t m (d ∷ cs) zero c e own =
    let same : d.terminal ≡ c.terminal = ap (λ (x : CommitSegment). x.terminal) (some_is d c e) in
    let newest : m ≡ m - 0 = omega arith in
    ap (λ xs. slice_get xs 0)
    (cond-true (t == d.terminal) (m ∷ moments_of t (m - 1) cs) (moments_of t (m - 1) cs)
    (eq-eqb t d.terminal (own ∙ sym same)))
    ∙ ap Some newest
moment_found t m (d ∷ cs) (suc later) c e own =
    let older : m - 1 - later ≡ m - suc later = omega arith in
    go (t == d.terminal) (moment_found t (m - 1) cs later c e own ∙ ap Some older)
  where
    go : (b : Bool) → slice_get (moments_of t (m - 1) cs) (commits_of t (take later cs)) ≡ Some (m - suc later)
        → slice_get (cond b (m ∷ moments_of t (m - 1) cs) (moments_of t (m - 1) cs))
        (cond b (suc (commits_of t (take later cs))) (commits_of t (take later cs)))
        ≡ Some (m - suc later)
    go true rest = rest
    go false rest = rest

-- of the newest commits: a moment stands where it did, or it went, and is not after theirs
abbrev IsTaken : List ℕ → List ℕ → ℕ → ℕ → Type 0
IsTaken xs ys h i = (slice_get xs i ≡ slice_get ys i)
    ⊎ ((slice_get xs i ≡ None) × ((x : ℕ) → slice_get ys i ≡ Some x → x ≤ h))

pub moments_taken : (t m : ℕ) (cs : List CommitSegment) (n i : ℕ)
    → (slice_get (moments_of t m (take n cs)) i ≡ slice_get (moments_of t m cs) i)
    ⊎ ((slice_get (moments_of t m (take n cs)) i ≡ None)
    × ((x : ℕ) → slice_get (moments_of t m cs) i ≡ Some x → x ≤ m - n))
moments_taken t m [] zero i = inl refl
moments_taken t m [] (suc n) i = inl refl
moments_taken t m (c ∷ cs) zero i = inr (refl, λ x e. let low = moments_low t m (c ∷ cs) i x e in omega (arith, low))
moments_taken t m (c ∷ cs) (suc n) i = go (t == c.terminal) i (λ j. shorter j (moments_taken t (m - 1) cs n j))
  where
    shorter : (j : ℕ) → IsTaken (moments_of t (m - 1) (take n cs)) (moments_of t (m - 1) cs) (m - 1 - n) j
        → IsTaken (moments_of t (m - 1) (take n cs)) (moments_of t (m - 1) cs) (m - suc n) j
    shorter j (inl e) = inl e
    shorter j (inr gone) = inr (gone.0, λ x e. let low = gone.1 x e in omega (arith, low))

    go : (b : Bool) (j : ℕ)
        → ((k : ℕ) → IsTaken (moments_of t (m - 1) (take n cs)) (moments_of t (m - 1) cs) (m - suc n) k)
        → IsTaken (cond b (m ∷ moments_of t (m - 1) (take n cs)) (moments_of t (m - 1) (take n cs)))
        (cond b (m ∷ moments_of t (m - 1) cs) (moments_of t (m - 1) cs)) (m - suc n) j
    go true zero rest = inl refl
    go true (suc j) rest = rest j
    go false j rest = rest j

-- without the oldest commit: its terminal's moments have one less
pub record IsShorter (xs ys : List ℕ) : Type 0 where
  pub some : 1 ≤ length ys
  pub less : xs ≡ take (length ys - 1) ys

longer : (m : ℕ) (xs ys : List ℕ) → IsShorter xs ys → IsShorter (m ∷ xs) (m ∷ ys)
longer m xs [] s = absurd (let none = s.some in omega (arith, none))
longer m xs (y ∷ ys) s =
    let index : suc (length (y ∷ ys) - 1) ≡ length (m ∷ y ∷ ys) - 1 = omega arith in
    record { some = omega arith; less = ap (λ zs. m ∷ zs) s.less ∙ ap (λ i. take i (m ∷ y ∷ ys)) index }

oldest_at : (t m : ℕ) (cs : List CommitSegment) (i : ℕ) (c : CommitSegment) → suc i ≡ length cs
    → slice_get cs i ≡ Some c
    → (t ≡ c.terminal → IsShorter (moments_of t m (take i cs)) (moments_of t m cs))
    × (t ≢ c.terminal → moments_of t m (take i cs) ≡ moments_of t m cs)
oldest_at t m [] i c last e = cc
oldest_at t m (d ∷ []) zero c last e =
    let same : d.terminal ≡ c.terminal = ap (λ (x : CommitSegment). x.terminal) (some_is d c e) in (
      (λ own. subst (IsShorter [])
          (sym (cond-true (t == d.terminal) (m ∷ []) [] (eq-eqb t d.terminal (own ∙ sym same))))
          (record { some = omega arith; less = refl })),
      (λ ne. sym (cond-false (t == d.terminal) (m ∷ []) [] (ne_eqb t d.terminal (λ q. ne (q ∙ same))))),
    )
oldest_at t m (d ∷ []) (suc i) c last e = cc
oldest_at t m (d ∷ b ∷ cs) zero c last e = absurd (omega (arith, last))
oldest_at t m (d ∷ b ∷ cs) (suc i) c last e =
    let rest = oldest_at t (m - 1) (b ∷ cs) i c (omega (arith, last)) e in
    ((λ own. one (t == d.terminal) _ _ (rest.0 own)), (λ ne. other (t == d.terminal) _ _ (rest.1 ne)))
  where
    one : (x : Bool) (few all : List ℕ) → IsShorter few all → IsShorter (cond x (m ∷ few) few) (cond x (m ∷ all) all)
    one true few all s = longer m few all s
    one false few all s = s

    other : (x : Bool) (few all : List ℕ) → few ≡ all → cond x (m ∷ few) few ≡ cond x (m ∷ all) all
    other true few all s = ap (λ zs. m ∷ zs) s
    other false few all s = s

pub oldest_gone : (t m : ℕ) (cs : List CommitSegment) (c : CommitSegment) → slice_get cs (length cs - 1) ≡ Some c
    → (t ≡ c.terminal → IsShorter (moments_of t m (take (length cs - 1) cs)) (moments_of t m cs))
    × (t ≢ c.terminal → moments_of t m (take (length cs - 1) cs) ≡ moments_of t m cs)
oldest_gone t m [] c e = cc
oldest_gone t m (d ∷ cs) c e = oldest_at t m (d ∷ cs) (length (d ∷ cs) - 1) c (omega arith) e

-- ---- what became of a transaction

pub opened_holder : (u : SegmentLog) (n : SegmentOwner) → count_at u n.terminal < n.number
    → holder_of u n ≡ Some (Open n.terminal)
opened_holder u n less =
    cond-true (nat_lt (count_at u n.terminal) n.number) (Some (Open n.terminal))
    (option_map At (slice_get (moments_of n.terminal (total_count u) u.committed) (count_at u n.terminal - n.number)))
    (lt-ltb (count_at u n.terminal) n.number less)

pub made_holder : (u : SegmentLog) (n : SegmentOwner) → n.number ≤ count_at u n.terminal
    → holder_of u n ≡ option_map At
    (slice_get (moments_of n.terminal (total_count u) u.committed) (count_at u n.terminal - n.number))
made_holder u n made =
    cond-false (nat_lt (count_at u n.terminal) n.number) (Some (Open n.terminal))
    (option_map At (slice_get (moments_of n.terminal (total_count u) u.committed) (count_at u n.terminal - n.number)))
    (le-ltb (count_at u n.terminal) n.number made)

-- where links' transactions are by another log, the links are followed so
pub followed_by : (f : Holder → Holder) (u w : SegmentLog) (l : Option OwnedLink)
    → ((x : OwnedLink) → l ≡ Some x → holder_of w x.owner ≡ option_map f (holder_of u x.owner))
    → link_by_now w l ≡ with_holder f (link_by_now u l)
followed_by f u w None each = refl
followed_by f u w (Some x) each =
    ap (λ (o : Option Holder). option_map {T = Holder} (λ h. record { address = x.address; holder = h }) o)
    (each x refl) ∙ go (holder_of u x.owner)
  where
    go : (o : Option Holder) → option_map {T = Holder} (λ h. record { address = x.address; holder = h })
        (option_map f o)
        ≡ with_holder f (option_map {T = Holder} (λ h. record { address = x.address; holder = h }) o)
    go None = refl
    go (Some h) = refl

pub followed_same : (u w : SegmentLog) (l : Option OwnedLink) → ((n : SegmentOwner) → holder_of w n ≡ holder_of u n)
    → link_by_now w l ≡ link_by_now u l
followed_same u w None each = refl
followed_same u w (Some x) each =
    ap (λ (o : Option Holder). option_map {T = Holder} (λ h. record { address = x.address; holder = h }) o)
    (each x.owner)

-- a log with the same counts and commits
pub holder_same : (u w : SegmentLog) → ((s : ℕ) → count_at w s ≡ count_at u s) → total_count w ≡ total_count u
    → w.committed ≡ u.committed
    → (n : SegmentOwner) → holder_of w n ≡ holder_of u n
holder_same u w counts total commits n =
    ap (λ c. cond (nat_lt c n.number) (Some (Open n.terminal))
    (option_map At (slice_get (moments_of n.terminal (total_count w) w.committed) (c - n.number)))) (counts
    n.terminal)
    ∙ ap (λ m. cond (nat_lt (count_at u n.terminal) n.number) (Some (Open n.terminal))
    (option_map At (slice_get (moments_of n.terminal m w.committed) (count_at u n.terminal - n.number)))) total
    ∙ ap (λ cs. cond (nat_lt (count_at u n.terminal) n.number) (Some (Open n.terminal))
    (option_map At (slice_get (moments_of n.terminal (total_count u) cs) (count_at u n.terminal - n.number)))) commits

-- a terminal's segment replaced, counts stay
pub count_same : (u : SegmentLog) (t : ℕ) (a : Option OpenSegment) (s : ℕ)
    → count_at (with_active u t a) s ≡ count_at u s
count_same u t a s =
    elim (cases_lt t (length u.terminals)) [
      | inl within ↦ elim (cases_eq s t) [
        | inl e ↦ ap (count_at (with_active u t a)) e ∙ ap (λ (z : TerminalState). z.count)
            (get_or-set_same u.terminals t (record { count = count_at u t; active = a }) idle within)
            ∙ ap (count_at u) (sym e)
        | inr ne ↦ ap (λ (z : TerminalState). z.count)
            (get_or-set_other u.terminals t s (record { count = count_at u t; active = a }) idle ne)
      ]
      | inr past ↦ ap (λ z. (get_or z s idle).count)
          (set_past u.terminals t (record { count = count_at u t; active = a }) past)
    ]

pub total_kept : (u : SegmentLog) (t : ℕ) (a : Option OpenSegment) → total_count (with_active u t a) ≡ total_count u
total_kept u t a = calls.total_same u t (record { count = count_at u t; active = a }) refl

-- a link that is followed is no end
no_end : (u : SegmentLog) (x : OwnedLink) (t i : ℕ) (b : Bool) (o : Option ℕ) → length u.committed ≤ total_count u
    → slice_get (moments_of t (total_count u) u.committed) i ≡ o
    → link_above (horizon u)
    (option_map {T = Holder} (λ h. record { address = x.address; holder = h })
    (cond b (Some (Open t)) (option_map At o)))
    ≡ option_map {T = Holder} (λ h. record { address = x.address; holder = h })
    (cond b (Some (Open t)) (option_map At o))
no_end u x t i true o few e = refl
no_end u x t i false None few e = refl
no_end u x t i false (Some m) few e =
    let high = moments_high t (total_count u) u.committed i m few e in
    cond-true (nat_lt (horizon u) m) (Some (record { address = x.address; holder = At m })) None
    (lt-ltb (horizon u) m high)

pub followed_unended : (u : SegmentLog) (l : Option OwnedLink) → length u.committed ≤ total_count u
    → link_above (horizon u) (link_by_now u l) ≡ link_by_now u l
followed_unended u None few = refl
followed_unended u (Some x) few =
    no_end u x x.owner.terminal (count_at u x.owner.terminal - x.owner.number)
    (nat_lt (count_at u x.owner.terminal) x.owner.number)
    (slice_get (moments_of x.owner.terminal (total_count u) u.committed) (count_at u x.owner.terminal - x.owner.number))
    few refl

-- links that lead as others do, but for ends, are chains as well
pub chained_anew : (u : SegmentLog) (old new : Key → Option Link) → IsWhole u → AreChained u old
    → ((k : Key) → (new k ≡ old k) ⊎ (IsEnd (horizon u) (old k) × (new k ≡ None))) → AreChained u new
chained_anew u old new whole c same k =
    elim (same k) [
      | inl e ↦ subst (λ l. IsChain (horizon u) l (of_key k (all_held u))) (sym e) (c k)
      | inr ends ↦ subst (λ l. IsChain (horizon u) l (of_key k (all_held u))) (sym ends.1)
          (subst (IsChain (horizon u) None) (sym (calls.ends u old k whole c ends.0)) tt)
    ]

unended_as : (h : ℕ) (l : Option Link) → (link_above h l ≡ l) ⊎ (IsEnd h l × (link_above h l ≡ None))
unended_as h None = inl refl
unended_as h (Some l) = go l.holder refl
  where
    go : (x : Holder) → l.holder ≡ x → (cond (is_later h l.holder) (Some l) None ≡ Some l)
        ⊎ (IsForgotten h l.holder × (cond (is_later h l.holder) (Some l) None ≡ None))
    go (Open t) e = inl (ap (λ (z : Holder). cond (is_later h z) (Some l) None) e)
    go (At m) e =
        elim (cases_lt h m) [
          | inl later ↦ inl (ap (λ (z : Holder). cond (is_later h z) (Some l) None) e
              ∙ cond-true (nat_lt h m) (Some l) None (lt-ltb h m later))
          | inr done ↦ inr (
            subst (IsForgotten h) (sym e) done,
            ap (λ (z : Holder). cond (is_later h z) (Some l) None) e
                ∙ cond-false (nat_lt h m) (Some l) None (le-ltb h m done),
          )
        ]

pub not_ended : (h : ℕ) (a : Address) (m : ℕ) → h < m
    → link_above h (Some (record { address = a; holder = At m })) ≡ Some (record { address = a; holder = At m })
not_ended h a m later = cond-true (nat_lt h m) (Some (record { address = a; holder = At m })) None (lt-ltb h m later)

pub ended : (h : ℕ) (a : Address) (m : ℕ) → m ≤ h
    → link_above h (Some (record { address = a; holder = At m })) ≡ None
ended h a m done = cond-false (nat_lt h m) (Some (record { address = a; holder = At m })) None (le-ltb h m done)

pub unended_or_end : (h : ℕ) (l x : Option Link) → x ≡ link_above h l → (x ≡ l) ⊎ (IsEnd h l × (x ≡ None))
unended_or_end h l x e =
    elim (unended_as h l) [
      | inl same ↦ inl (e ∙ same)
      | inr ends ↦ inr (ends.0, e ∙ ends.1)
    ]

-- ---- a commit

kept_sealed : (t m : ℕ) (x : Option ℕ) → option_map At x ≡ option_map (holder_after_seal t m) (option_map At x)
kept_sealed t m None = refl
kept_sealed t m (Some v) = refl

module _ (u : SegmentLog) (t : ℕ) (o : OpenSegment) (q : Request) (y : Reply) (is : active_at u t ≡ Some o) where
  abbrev after : SegmentLog
  after = after_seal u t q y

  abbrev next : ℕ
  next = suc (total_count u)

  within : t < length u.terminals
  within = known u t o is

  pub sealed_total : total_count after ≡ next
  sealed_total = calls.total_more u t q y within

  pub sealed_count : (s : ℕ) → s ≡ t → count_at after s ≡ suc (count_at u s)
  sealed_count s e =
      ap (count_at after) e ∙ ap (λ (z : TerminalState). z.count)
      (get_or-set_same u.terminals t (record { count = suc (count_at u t); active = None }) idle within)
      ∙ ap (λ x. suc (count_at u x)) (sym e)

  state_there : (s : ℕ) → s ≢ t → get_or after.terminals s idle ≡ get_or u.terminals s idle
  state_there s ne = get_or-set_other u.terminals t s (record { count = suc (count_at u t); active = None }) idle ne

  pub sealed_moments : (s : ℕ) → s ≡ t → moments_of s (total_count after) after.committed ≡ next ∷ moments_of s
      (total_count u) u.committed
  sealed_moments s e =
      ap (λ m. moments_of s m after.committed) sealed_total
      ∙ cond-true (s == t) (next ∷ moments_of s (next - 1) u.committed) (moments_of s (next - 1) u.committed)
      (eq-eqb s t e)
      ∙ ap (λ m. next ∷ moments_of s m u.committed) (less_one (total_count u))

  pub sealed_others : (s : ℕ) → s ≢ t → moments_of s (total_count after) after.committed ≡ moments_of s (total_count u)
      u.committed
  sealed_others s ne =
      ap (λ m. moments_of s m after.committed) sealed_total
      ∙ cond-false (s == t) (next ∷ moments_of s (next - 1) u.committed) (moments_of s (next - 1) u.committed)
      (ne_eqb s t ne)
      ∙ ap (λ m. moments_of s m u.committed) (less_one (total_count u))

  abbrev rest : SegmentOwner → Option ℕ
  rest n = slice_get (moments_of n.terminal (total_count u) u.committed) (count_at u n.terminal - n.number)

  pub sealed_closed : active_at after t ≡ None
  sealed_closed = ap (λ (z : TerminalState). z.active)
      (get_or-set_same u.terminals t (record { count = suc (count_at u t); active = None }) idle within)

  pub sealed_active : (s : ℕ) → s ≢ t → active_at after s ≡ active_at u s
  sealed_active s ne = ap (λ (z : TerminalState). z.active) (state_there s ne)

  own_sealed : (n : SegmentOwner) → IsOwner u n → n.terminal ≡ t
      → holder_of after n ≡ option_map (holder_after_seal t next) (holder_of u n)
  own_sealed n k e =
      let c = sealed_count n.terminal e in
      let few = k.number in
      elim (cases_lt (count_at u n.terminal) n.number) [
        | inl less ↦
            let first : count_at after n.terminal - n.number ≡ 0 = omega (arith, c, few, less) in
            made_holder after n (omega (arith, c, few))
            ∙ ap (λ i. option_map At (slice_get (moments_of n.terminal (total_count after) after.committed) i)) first
            ∙ ap (λ xs. option_map At (slice_get xs 0)) (sealed_moments n.terminal e)
            ∙ ap Some (sym (cond-true (n.terminal == t) (At next) (Open n.terminal) (eq-eqb n.terminal t e)))
            ∙ ap (option_map (holder_after_seal t next)) (sym (opened_holder u n less))
        | inr made ↦
            let later : count_at after n.terminal - n.number ≡ suc (count_at u n.terminal - n.number) =
            omega (arith, c, made) in
            made_holder after n (omega (arith, c, made))
            ∙ ap (λ i. option_map At (slice_get (moments_of n.terminal (total_count after) after.committed) i)) later
            ∙ ap (λ xs. option_map At (slice_get xs (suc (count_at u n.terminal - n.number))))
            (sealed_moments n.terminal e)
            ∙ kept_sealed t next (rest n)
            ∙ ap (option_map (holder_after_seal t next)) (sym (made_holder u n made))
      ]

  other_sealed : (n : SegmentOwner) → n.terminal ≢ t
      → holder_of after n ≡ option_map (holder_after_seal t next) (holder_of u n)
  other_sealed n ne =
      let c : count_at after n.terminal ≡ count_at u n.terminal = ap (λ (z : TerminalState). z.count)
      (state_there n.terminal ne) in
      elim (cases_lt (count_at u n.terminal) n.number) [
        | inl less ↦
            opened_holder after n (omega (arith, c, less))
            ∙ ap Some (sym (cond-false (n.terminal == t) (At next) (Open n.terminal) (ne_eqb n.terminal t ne)))
            ∙ ap (option_map (holder_after_seal t next)) (sym (opened_holder u n less))
        | inr made ↦
            made_holder after n (omega (arith, c, made))
            ∙ ap (λ i. option_map At
            (slice_get (moments_of n.terminal (total_count after) after.committed) (i - n.number))) c
            ∙ ap (λ xs. option_map At (slice_get xs (count_at u n.terminal - n.number))) (sealed_others n.terminal ne)
            ∙ kept_sealed t next (rest n)
            ∙ ap (option_map (holder_after_seal t next)) (sym (made_holder u n made))
      ]

  pub sealed_chained : (links : Key → Option OwnedLink) → IsWhole u → AreOwned u links
      → AreChained u (λ k. link_by_now u (links k))
      → AreChained after (λ k. link_by_now after (links k))
  sealed_chained links whole owned c =
      let by : (n : SegmentOwner) → IsOwner u n
      → holder_of after n ≡ option_map (holder_after_seal t next) (holder_of u n) =
      (λ n k. elim (cases_eq n.terminal t) [ inl e ↦ own_sealed n k e | inr ne ↦ other_sealed n ne ]) in
      let all : ◌≡◌ {A = Key → Option Link} (λ k. link_by_now after (links k))
      (λ k. with_holder (holder_after_seal t next) (link_by_now u (links k))) =
      fun_ext (λ k. followed_by (holder_after_seal t next) u after (links k) (λ x e. by x.owner (owned k x e))) in
      subst (AreChained after) (sym all) (calls.seals u (λ k. link_by_now u (links k)) t o q y whole is c)

  pub sealed_owned : (links : Key → Option OwnedLink) → AreOwned u links → AreOwned after links
  sealed_owned links owned k x e =
      let own = owned k x e in
      let few = own.number in
      elim (cases_eq x.owner.terminal t) [
        | inl same ↦
            let c = sealed_count x.owner.terminal same in
            record { number = omega (arith, c, few); is_open = λ less. absurd (omega (arith, c, few, less)) }
        | inr ne ↦
            let there = state_there x.owner.terminal ne in
            let c : count_at after x.owner.terminal ≡ count_at u x.owner.terminal =
            ap (λ (z : TerminalState). z.count) there in
            record {
              number = omega (arith, c, few);
              is_open = λ less. subst (λ (z : TerminalState). IsSome z.active) (sym there)
                  (own.is_open (omega (arith, c, less)));
            }
      ]

-- ---- a commit opened again

kept_reopened : (t m : ℕ) (x : Option ℕ) → ((v : ℕ) → x ≡ Some v → v < m)
    → option_map At x ≡ option_map (holder_after_reopening t m) (option_map At x)
kept_reopened t m None low = refl
kept_reopened t m (Some v) low =
    let less = low v refl in
    ap Some (sym (cond-false (v == m) (Open t) (At v) (ne_eqb v m (λ e. omega (arith, e, less)))))

module _ (u : SegmentLog) (c : CommitSegment) (cs : List CommitSegment) (are : u.committed ≡ c ∷ cs) (whole : IsWhole u)
    (some : 1 ≤ count_at u c.terminal)
    (closed : (t : ℕ) → active_at u t ≡ None) where
  abbrev back : SegmentLog
  back = with_reopening u (c ∷ cs)

  abbrev state : TerminalState
  state = record {
    count = count_at u c.terminal - 1;
    active = Some
        (record { terminal = c.terminal; number = c.number; records = c.records });
  }

  within_back : c.terminal < length u.terminals
  within_back = calls.counted u c.terminal some

  pub back_total : total_count back ≡ total_count u - 1
  back_total =
      let sums = sum_by-set (λ (z : TerminalState). z.count) u.terminals c.terminal state idle within_back in
      omega (arith, sums, some)

  made_some : 1 ≤ total_count u
  made_some =
      let size = ap length are in
      let few = whole.commits in
      omega (arith, size, few)

  pub back_count : (s : ℕ) → s ≡ c.terminal → count_at back s ≡ count_at u s - 1
  back_count s e =
      ap (count_at back) e ∙ ap (λ (z : TerminalState). z.count)
      (get_or-set_same u.terminals c.terminal state idle within_back) ∙ ap (λ x. count_at u x - 1) (sym e)

  state_other : (s : ℕ) → s ≢ c.terminal → get_or back.terminals s idle ≡ get_or u.terminals s idle
  state_other s ne = get_or-set_other u.terminals c.terminal s state idle ne

  pub was_moments : (s : ℕ) → s ≡ c.terminal
      → moments_of s (total_count u) u.committed ≡ total_count u ∷ moments_of s (total_count back) back.committed
  was_moments s e =
      ap (moments_of s (total_count u)) are
      ∙ cond-true (s == c.terminal) (total_count u ∷ moments_of s (total_count u - 1) cs)
      (moments_of s (total_count u - 1) cs) (eq-eqb s c.terminal e)
      ∙ ap (λ m. total_count u ∷ moments_of s m cs) (sym back_total)

  pub was_others : (s : ℕ) → s ≢ c.terminal → moments_of s (total_count u) u.committed ≡ moments_of s (total_count back)
      back.committed
  was_others s ne =
      ap (moments_of s (total_count u)) are
      ∙ cond-false (s == c.terminal) (total_count u ∷ moments_of s (total_count u - 1) cs)
      (moments_of s (total_count u - 1) cs) (ne_eqb s c.terminal ne)
      ∙ ap (λ m. moments_of s m cs) (sym back_total)

  pub back_active : (s : ℕ) → s ≢ c.terminal → active_at back s ≡ active_at u s
  back_active s ne = ap (λ (z : TerminalState). z.active) (state_other s ne)

  low_back : (s i v : ℕ) → slice_get (moments_of s (total_count back) back.committed) i ≡ Some v → v < total_count u
  low_back s i v e =
      let low = moments_low s (total_count back) back.committed i v e in
      let total = back_total in
      let made = made_some in
      omega (arith, low, total, made)

  was_made : (n : SegmentOwner) → IsOwner u n → n.number ≤ count_at u n.terminal
  was_made n k =
      elim (cases_lt (count_at u n.terminal) n.number) [
        | inl less ↦ let none = sym (closed n.terminal) in
            let open_too = subst (λ z. IsSome {T = OpenSegment} z) (closed n.terminal) (k.is_open less) in cc
        | inr made ↦ made
      ]

  own_back : (n : SegmentOwner) → IsOwner u n → n.terminal ≡ c.terminal
      → holder_of back n ≡ option_map (holder_after_reopening c.terminal (total_count u)) (holder_of u n)
  own_back n k e =
      let count = back_count n.terminal e in
      let made = was_made n k in
      elim (cases_lt (count_at back n.terminal) n.number) [
        | inl less ↦
            let first : count_at u n.terminal - n.number ≡ 0 = omega (arith, count, less) in
            opened_holder back n less
            ∙ ap (λ s. Some (Open s)) e
            ∙ ap Some (sym (cond-true (total_count u == total_count u) (Open c.terminal) (At (total_count u))
            (eq-eqb (total_count u) (total_count u) refl)))
            ∙ ap (λ xs. option_map (holder_after_reopening c.terminal (total_count u)) (option_map At (slice_get xs 0)))
            (sym (was_moments n.terminal e))
            ∙ ap (λ i. option_map (holder_after_reopening c.terminal (total_count u))
            (option_map At (slice_get (moments_of n.terminal (total_count u) u.committed) i))) (sym first)
            ∙ ap (option_map (holder_after_reopening c.terminal (total_count u))) (sym (made_holder u n made))
        | inr older ↦
            let positive : 1 ≤ count_at u n.terminal = subst (λ s. 1 ≤ count_at u s) (sym e) some in
            let later : count_at u n.terminal - n.number ≡ suc (count_at back n.terminal - n.number) =
            omega (arith, count, older, positive) in
            made_holder back n older
            ∙ kept_reopened c.terminal (total_count u)
            (slice_get (moments_of n.terminal (total_count back) back.committed) (count_at back n.terminal - n.number))
            (low_back n.terminal (count_at back n.terminal - n.number))
            ∙ ap (λ xs. option_map (holder_after_reopening c.terminal (total_count u))
            (option_map At (slice_get xs (suc (count_at back n.terminal - n.number))))) (sym (was_moments n.terminal e))
            ∙ ap (λ i. option_map (holder_after_reopening c.terminal (total_count u))
            (option_map At (slice_get (moments_of n.terminal (total_count u) u.committed) i))) (sym later)
            ∙ ap (option_map (holder_after_reopening c.terminal (total_count u))) (sym (made_holder u n made))
      ]

  other_back : (n : SegmentOwner) → IsOwner u n → n.terminal ≢ c.terminal
      → holder_of back n ≡ option_map (holder_after_reopening c.terminal (total_count u)) (holder_of u n)
  other_back n k ne =
      let count : count_at back n.terminal ≡ count_at u n.terminal = ap (λ (z : TerminalState). z.count)
      (state_other n.terminal ne) in
      let made = was_made n k in
      made_holder back n (omega (arith, count, made))
      ∙ kept_reopened c.terminal (total_count u)
      (slice_get (moments_of n.terminal (total_count back) back.committed) (count_at back n.terminal - n.number))
      (low_back n.terminal (count_at back n.terminal - n.number))
      ∙ ap (λ xs. option_map (holder_after_reopening c.terminal (total_count u))
      (option_map At (slice_get xs (count_at back n.terminal - n.number)))) (sym (was_others n.terminal ne))
      ∙ ap (λ i. option_map (holder_after_reopening c.terminal (total_count u))
      (option_map At (slice_get (moments_of n.terminal (total_count u) u.committed) (i - n.number)))) count
      ∙ ap (option_map (holder_after_reopening c.terminal (total_count u))) (sym (made_holder u n made))

  pub back_chained : (links : Key → Option OwnedLink) → AreOwned u links → AreChained u (λ k. link_by_now u (links k))
      → AreChained back (λ k. link_by_now back (links k))
  back_chained links owned chained =
      let by : (n : SegmentOwner) → IsOwner u n
      → holder_of back n ≡ option_map (holder_after_reopening c.terminal (total_count u)) (holder_of u n) =
      (λ n k. elim (cases_eq n.terminal c.terminal) [ inl e ↦ own_back n k e | inr ne ↦ other_back n k ne ]) in
      let all : ◌≡◌ {A = Key → Option Link} (λ k. link_by_now back (links k))
      (λ k. with_holder (holder_after_reopening c.terminal (total_count u)) (link_by_now u (links k))) =
      fun_ext (λ k. followed_by (holder_after_reopening c.terminal (total_count u)) u back (links k)
      (λ x e. by x.owner (owned k x e))) in
      subst (AreChained back) (sym all)
      (subst (λ z. AreChained (with_reopening u z)
      (λ k. with_holder (holder_after_reopening c.terminal (total_count u)) (link_by_now u (links k)))) are
      (calls.reopens u (λ k. link_by_now u (links k)) c cs whole are some closed chained))

  pub back_owned : (links : Key → Option OwnedLink) → AreOwned u links → AreOwned back links
  back_owned links owned k x e =
      let made = was_made x.owner (owned k x e) in
      elim (cases_eq x.owner.terminal c.terminal) [
        | inl same ↦
            let count = back_count x.owner.terminal same in
            let active : active_at back x.owner.terminal ≡ state.active =
            ap (active_at back) same ∙ ap (λ (z : TerminalState). z.active)
            (get_or-set_same u.terminals c.terminal state idle within_back) in
            record {
              number = omega (arith, count, made);
              is_open = λ less. subst (λ z. IsSome {T = OpenSegment} z)
                  (sym active) refl;
            }
        | inr ne ↦
            let count : count_at back x.owner.terminal ≡ count_at u x.owner.terminal =
            ap (λ (z : TerminalState). z.count) (state_other x.owner.terminal ne) in
            record { number = omega (arith, count, made); is_open = λ less. absurd (omega (arith, count, made, less)) }
      ]

-- ---- the newest commits alone

newest_holder : (u : SegmentLog) (n : ℕ) (o : SegmentOwner)
    → (holder_of (with_newest n u) o ≡ holder_of u o)
    ⊎ ((holder_of (with_newest n u) o ≡ None)
    × ((h : Holder) → holder_of u o ≡ Some h → IsForgotten (total_count u - n) h))
newest_holder u n o = go (nat_lt (count_at u o.terminal) o.number)
  where
    gone : (x : Option ℕ) → ((m : ℕ) → x ≡ Some m → m ≤ total_count u - n) → (h : Holder) → option_map At x ≡ Some h
        → IsForgotten (total_count u - n) h
    gone None low h e = cc
    gone (Some m) low h e = subst (IsForgotten (total_count u - n)) (at_is m h e) (low m refl)
      where
        at_is : (m : ℕ) (h : Holder) → Some (At m) ≡ Some h → At m ≡ h
        at_is m h e = cc

    go : (b : Bool) → (cond b (Some (Open o.terminal))
        (option_map At (slice_get (moments_of o.terminal (total_count u) (take n u.committed))
        (count_at u o.terminal - o.number)))
        ≡ cond b (Some (Open o.terminal))
        (option_map At (slice_get (moments_of o.terminal (total_count u) u.committed)
        (count_at u o.terminal - o.number))))
        ⊎ ((cond b (Some (Open o.terminal))
        (option_map At (slice_get (moments_of o.terminal (total_count u) (take n u.committed))
        (count_at u o.terminal - o.number))) ≡ None)
        × ((h : Holder) → cond b (Some (Open o.terminal))
        (option_map At (slice_get (moments_of o.terminal (total_count u) u.committed)
        (count_at u o.terminal - o.number))) ≡ Some h
        → IsForgotten (total_count u - n) h))
    go true = inl refl
    go false =
        elim (moments_taken o.terminal (total_count u) u.committed n (count_at u o.terminal - o.number)) [
          | inl e ↦ inl (ap (option_map At) e)
          | inr ends ↦ inr (ap (option_map At) ends.0, gone _ ends.1)
        ]

newest_followed : (u : SegmentLog) (n : ℕ) (l : Option OwnedLink)
    → (link_by_now (with_newest n u) l ≡ link_by_now u l)
    ⊎ (IsEnd (total_count u - n) (link_by_now u l) × (link_by_now (with_newest n u) l ≡ None))
newest_followed u n None = inl refl
newest_followed u n (Some x) =
    elim (newest_holder u n x.owner) [
      | inl e ↦ inl (ap (λ (o : Option Holder). option_map {T = Holder}
          (λ h. record { address = x.address; holder = h }) o) e)
      | inr ends ↦ inr (
        end (holder_of u x.owner) refl ends.1,
        ap
            (λ (o : Option Holder). option_map {T = Holder} (λ h. record { address = x.address; holder = h }) o) ends.0,
      )
    ]
  where
    end : (o : Option Holder) → holder_of u x.owner ≡ o
        → ((h : Holder) → holder_of u x.owner ≡ Some h → IsForgotten (total_count u - n) h)
        → IsEnd (total_count u - n)
        (option_map {T = Holder} (λ h. record { address = x.address; holder = h }) (holder_of u x.owner))
    end None e each = subst
        (λ (o : Option Holder). IsEnd (total_count u - n)
        (option_map {T = Holder} (λ h. record { address = x.address; holder = h }) o)) (sym e) tt
    end (Some h) e each =
        subst (λ (o : Option Holder). IsEnd (total_count u - n)
        (option_map {T = Holder} (λ h. record { address = x.address; holder = h }) o)) (sym e) (each h e)

pub newest_chained : (u : SegmentLog) (links : Key → Option OwnedLink) (n : ℕ) → IsWhole u → n ≤ length u.committed
    → AreChained u (λ k. link_by_now u (links k))
    → AreChained (with_newest n u) (λ k. link_by_now (with_newest n u) (links k))
newest_chained u links n whole few c =
    let size : length (take n u.committed) ≡ n = length-take-le n u.committed few in
    let all = whole.commits in
    let horizon_is : total_count u - n ≡ horizon (with_newest n u) = omega (arith, size) in
    let left : IsWhole (with_newest n u) =
    record { terminals = whole.terminals; commits = omega (arith, size, few, all) } in
    chained_anew (with_newest n u) (λ k. link_by_now u (links k)) (λ k. link_by_now (with_newest n u) (links k)) left
    (calls.purges u (λ k. link_by_now u (links k)) n c)
    (λ k. elim (newest_followed u n (links k)) [
      | inl e ↦ inl e
      | inr ends ↦ inr (subst (λ h. IsEnd h (link_by_now u (links k))) horizon_is ends.0, ends.1)
    ])
