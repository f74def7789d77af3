-- Transactions beside their records.
use Rattle.std.proofs.Common.{◌≡◌, ℕ, zero, suc, ◌+◌, ◌==◌, refl, sym, ap, ◌∙◌, cond, arith, List, [], ◌∷◌, length, map}
use Rattle.std.proofs.Common.{get_or, set, take, Option, None, Some, is_some}
use Rattle.std.specs.Prelude.{slice_get, option_map}
use Rattle.std.specs.List.{sum_by, count_by}
use Rattle.std.proofs.lemmas.List.Sums.{sum_by-cons}
use Rattle.oe_log.specs.Records.{Logged}
use Rattle.oe_log.specs.declared.heads.SegmentOwner.{SegmentOwner}
use Rattle.oe_log.specs.declared.heads.TerminalHead.{TerminalHead}
use Rattle.oe_log.specs.Log.{Open, TerminalState, Committed, idle, records_in, records_of, owner_of, commits_of}
use Rattle.oe_log.specs.Kept.{Head, head_at, open_with, state_with, states, commit_with, commits, heads_of}

abbrev Records : Type 0
Records = List Logged

-- ---- terminals

pub states-set : (hs : List TerminalHead) (rss : List Records) (t : ℕ) (h : TerminalHead) (rs : Records)
    → states (set hs t h) (set rss t rs) ≡ set (states hs rss) t (state_with h rs)
states-set [] rss t h rs = refl
states-set (k ∷ hs) [] zero h rs = refl
states-set (k ∷ hs) [] (suc t) h rs = refl
states-set (k ∷ hs) (qs ∷ rss) zero h rs = refl
states-set (k ∷ hs) (qs ∷ rss) (suc t) h rs = ap (λ (z : List TerminalState). state_with k qs ∷ z)
    (states-set hs rss t h rs)

pub states-length : (hs : List TerminalHead) (rss : List Records) → length rss ≡ length hs
    → length (states hs rss) ≡ length hs
states-length [] rss e = refl
states-length (h ∷ hs) [] e = absurd (omega (arith, e))
states-length (h ∷ hs) (rs ∷ rss) e = ap suc (states-length hs rss (omega (arith, e)))

pub states-at : (hs : List TerminalHead) (rss : List Records) (t : ℕ) → length rss ≡ length hs
    → get_or (states hs rss) t idle ≡ state_with (head_at hs t) (get_or rss t [])
states-at [] rss t e = refl
states-at (h ∷ hs) [] t e = absurd (omega (arith, e))
states-at (h ∷ hs) (rs ∷ rss) zero e = refl
states-at (h ∷ hs) (rs ∷ rss) (suc t) e = states-at hs rss t (omega (arith, e))

pub states-total : (hs : List TerminalHead) (rss : List Records) → length rss ≡ length hs
    → sum_by (λ (s : TerminalState). s.count) (states hs rss) ≡ sum_by (λ (h : TerminalHead). h.count) hs
states-total [] rss e = refl
states-total (h ∷ hs) [] e = absurd (omega (arith, e))
states-total (h ∷ hs) (rs ∷ rss) e =
    sum_by-cons (λ (s : TerminalState). s.count) (state_with h rs) (states hs rss)
    ∙ ap (λ n. h.count + n) (states-total hs rss (omega (arith, e)))
    ∙ sym (sum_by-cons (λ (k : TerminalHead). k.count) h hs)

seen_open : (rs : Records) (a : Option SegmentOwner) → is_some (option_map (open_with rs) a) ≡ is_some a
seen_open rs None = refl
seen_open rs (Some n) = refl

pub states-opens : (hs : List TerminalHead) (rss : List Records) → length rss ≡ length hs
    → count_by (λ (s : TerminalState). is_some s.active) (states hs rss) ≡ count_by
    (λ (h : TerminalHead). is_some h.active) hs
states-opens [] rss e = refl
states-opens (h ∷ hs) [] e = absurd (omega (arith, e))
states-opens (h ∷ hs) (rs ∷ rss) e =
    sum_by-cons (λ (s : TerminalState). cond (is_some s.active) 1 0) (state_with h rs) (states hs rss)
    ∙ (λ i. cond (seen_open rs h.active i) 1 0 + states-opens hs rss (omega (arith, e)) i)
    ∙ sym (sum_by-cons (λ (k : TerminalHead). cond (is_some k.active) 1 0) h hs)

pub seen_records : (rs : Records) (a : Option SegmentOwner) → (a ≡ None → rs ≡ [])
    → records_in (option_map (open_with rs) a) ≡ rs
seen_records rs None h = sym (h refl)
seen_records rs (Some n) h = refl

pub states-records : (hs : List TerminalHead) (rss : List Records) → length rss ≡ length hs
    → ((t : ℕ) → (head_at hs t).active ≡ None → get_or rss t [] ≡ [])
    → map (λ (s : TerminalState). records_in s.active) (states hs rss) ≡ rss
states-records [] [] e k = refl
states-records [] (rs ∷ rss) e k = absurd (omega (arith, e))
states-records (h ∷ hs) [] e k = absurd (omega (arith, e))
states-records (h ∷ hs) (rs ∷ rss) e k = λ i. seen_records rs h.active (k 0) i ∷ states-records hs rss
    (omega (arith, e)) (λ t. k (suc t)) i

-- other records in an open segment
pub seen_other : (rs qs : Records) (a : Option SegmentOwner)
    → option_map (open_with qs) a ≡ option_map {T = Open} (λ o. record o { records = qs }) (option_map (open_with rs) a)
seen_other rs qs None = refl
seen_other rs qs (Some n) = refl

-- ---- commits

pub commits-length : (cs : List Head) (rss : List Records) → length rss ≡ length cs
    → length (commits cs rss) ≡ length cs
commits-length [] rss e = refl
commits-length (c ∷ cs) [] e = absurd (omega (arith, e))
commits-length (c ∷ cs) (rs ∷ rss) e = ap suc (commits-length cs rss (omega (arith, e)))

pub commits-take : (n : ℕ) (cs : List Head) (rss : List Records)
    → commits (take n cs) (take n rss) ≡ take n (commits cs rss)
commits-take zero cs rss = refl
commits-take (suc n) [] rss = refl
commits-take (suc n) (c ∷ cs) [] = refl
commits-take (suc n) (c ∷ cs) (rs ∷ rss) = ap (λ (z : List Committed). commit_with c rs ∷ z) (commits-take n cs rss)

pub commits-records : (cs : List Head) (rss : List Records) → length rss ≡ length cs
    → map records_of (commits cs rss) ≡ rss
commits-records [] [] e = refl
commits-records [] (rs ∷ rss) e = absurd (omega (arith, e))
commits-records (c ∷ cs) [] e = absurd (omega (arith, e))
commits-records (c ∷ cs) (rs ∷ rss) e = ap (λ (z : List Records). rs ∷ z) (commits-records cs rss (omega (arith, e)))

-- how many are a terminal's
pub commits-count : (t n : ℕ) (cs : List Head) (rss : List Records) → length rss ≡ length cs
    → commits_of t (take n (commits cs rss)) ≡ heads_of t (take n cs)
commits-count t zero cs rss e = refl
commits-count t (suc n) [] rss e = refl
commits-count t (suc n) (c ∷ cs) [] e = absurd (omega (arith, e))
commits-count t (suc n) (c ∷ cs) (rs ∷ rss) e = ap (λ (k : ℕ). cond (t == c.terminal) (suc k) k)
    (commits-count t n cs rss (omega (arith, e)))

abbrev pub head_owner : Head → SegmentOwner
head_owner c = record { terminal = c.terminal; number = c.number }

-- whose each is
pub commits-owner : (n : ℕ) (cs : List Head) (rss : List Records) → length rss ≡ length cs
    → option_map owner_of (slice_get (commits cs rss) n) ≡ option_map head_owner (slice_get cs n)
commits-owner n [] rss e = refl
commits-owner n (c ∷ cs) [] e = absurd (omega (arith, e))
commits-owner zero (c ∷ cs) (rs ∷ rss) e = refl
commits-owner (suc n) (c ∷ cs) (rs ∷ rss) e = commits-owner n cs rss (omega (arith, e))
