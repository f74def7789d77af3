-- What became of the transactions whose records links lead to. A link keeps its transaction, and the log knows whether
-- that is open, or at which moment it committed.
use Rattle.std.specs.Prelude.{◌≡◌, ⊤, ℕ, suc, ◌≤◌, ◌<◌, ◌-◌, ◌==◌, nat_lt, cond, List, [], ◌∷◌, length, get_or}
use Rattle.std.specs.Prelude.{slice_get, Option, None, Some, IsSome, option_map}
use Rattle.std.specs.List.{All}
use Rattle.oe_values.specs.declared.numbers.TheConstants.{TERMINALS}
use Rattle.oe_rows.specs.declared.keys.Key.{Key}
use Rattle.oe_log.specs.declared.heads.SegmentOwner.{SegmentOwner}
use Rattle.oe_log.specs.Log.{SegmentLog, Committed as CommitSegment, count_at, active_at, total_count}
use Rattle.oe_undo.specs.declared.holders.Link.{Link}
use Rattle.oe_undo.specs.declared.holders.Holder.{Holder}
use Rattle.oe_undo.specs.declared.holders.Holder.TheVariants.{Open, At}
use Rattle.oe_undo.specs.Chains.{AreChained}
use Rattle.oe_undo.specs.declared.links.OwnedLink.{OwnedLink}

-- the moments of a terminal's commits among these: the newest made moment m, and each older one the moment before
abbrev pub moments_of : ℕ → ℕ → List CommitSegment → List ℕ
moments_of t m [] = []
moments_of t m (c ∷ cs) = cond (t == c.terminal) (m ∷ moments_of t (m - 1) cs) (moments_of t (m - 1) cs)

-- what became of a transaction: it is open, or has committed at a moment; none where its commit was given up
abbrev pub holder_of : SegmentLog → SegmentOwner → Option Holder
holder_of u o =
    cond (nat_lt (count_at u o.terminal) o.number) (Some (Open o.terminal))
    (option_map At (slice_get (moments_of o.terminal (total_count u) u.committed) (count_at u o.terminal - o.number)))

-- the link with what became of its transaction by now
abbrev pub link_by_now : SegmentLog → Option OwnedLink → Option Link
link_by_now u None = None
link_by_now u (Some l) = option_map (λ h. record { address = l.address; holder = h }) (holder_of u l.owner)

-- the transaction that a terminal has open, or begins next
abbrev pub next_owner : SegmentLog → ℕ → SegmentOwner
next_owner u t = record { terminal = t; number = suc (count_at u t) }

-- the transaction has committed, or is open
pub record IsOwner (u : SegmentLog) (o : SegmentOwner) : Type 0 where
  pub number : o.number ≤ suc (count_at u o.terminal)
  pub is_open : count_at u o.terminal < o.number → IsSome (active_at u o.terminal)

-- a commit of the holder's moment has been made
abbrev pub IsMadeBy : SegmentLog → Holder → Type 0
IsMadeBy u (Open t) = ⊤
IsMadeBy u (At m) = m ≤ total_count u

-- the commit that a link's holder names has been made, if there is a link
abbrev pub IsMade : SegmentLog → Option Link → Type 0
IsMade u None = ⊤
IsMade u (Some l) = IsMadeBy u l.holder

-- the transaction of each link is such
abbrev pub AreOwned : SegmentLog → (Key → Option OwnedLink) → Type 0
AreOwned u links = (k : Key) (l : OwnedLink) → links k ≡ Some l → IsOwner u l.owner

-- the moments of a terminal's kept commits, the newest first, and for how many more there is room
pub record MomentList : Type 0 where
  pub moments : List ℕ
  pub room : ℕ

abbrev pub no_moments : MomentList
no_moments = record { moments = []; room = 0 }

abbrev pub moments_at : List MomentList → ℕ → MomentList
moments_at ms t = get_or ms t no_moments

-- nobody's and the terminals' lists, in which nothing is
pub record AreIdle (ms : List MomentList) : Type 0 where
  pub size : length ms ≡ suc TERMINALS
  pub idle : All (λ m. m.moments ≡ []) ms

-- each terminal has its list of these, with room for the commit of its open transaction
pub record AreMoments (u : SegmentLog) (ms : List MomentList) : Type 0 where
  pub size : length ms ≡ suc TERMINALS
  pub kept : (t : ℕ) → t < suc TERMINALS → (moments_at ms t).moments ≡ moments_of t (total_count u) u.committed
  pub room : (t : ℕ) → IsSome (active_at u t) → 1 ≤ (moments_at ms t).room

-- the links and the moments beside a log
pub record IsLinked (u : SegmentLog) (links : Key → Option OwnedLink) (ms : List MomentList) : Type 0 where
  pub chained : AreChained u (λ k. link_by_now u (links k))
  pub owned : AreOwned u links
  pub moments : AreMoments u ms
