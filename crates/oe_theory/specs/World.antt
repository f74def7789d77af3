-- The worlds of a machine.
use Rattle.std.specs.Prelude.{◌≡◌, ℕ, suc, zero, ◌+◌, ◌-◌, ◌<◌, ◌≤◌, ◌==◌, Bool, true, false, cond, Option, None, Some}
use Rattle.std.specs.Prelude.{List, [], ◌∷◌, length, drop}
use Rattle.oe_theory.specs.Machine.{Machine, Mode, Shared, Exclusive, Tx}

-- a mode that is held is enough for a mode that is wanted
abbrev pub IsEnough : Option Mode → Mode → Type 0
IsEnough None m = ⊥
IsEnough (Some Exclusive) m = Unit {0}
IsEnough (Some Shared) Shared = Unit {0}
IsEnough (Some Shared) Exclusive = ⊥

-- two modes of one name may be held by two transactions
abbrev pub go_together : Mode → Option Mode → Bool
go_together m None = true
go_together Shared (Some Shared) = true
go_together Shared (Some Exclusive) = false
go_together Exclusive (Some n) = false

-- the mode after a further mode was taken
abbrev pub greater_mode : Mode → Option Mode → Mode
greater_mode Exclusive old = Exclusive
greater_mode Shared None = Shared
greater_mode Shared (Some m) = m

-- the function with one value changed
abbrev pub set : {A : Type 0} → ℕ → A → (ℕ → A) → ℕ → A
set t v f u = cond (u == t) v (f u)

-- one more at t
abbrev pub bump : ℕ → (ℕ → ℕ) → ℕ → ℕ
bump t f = set t (suc (f t)) f

-- f 0 + .. + f (n - 1)
abbrev pub total : ℕ → (ℕ → ℕ) → ℕ
total zero f = 0
total (suc n) f = total n f + f n

module _ (M : Machine) where
  open M use {
    Map,
    Key,
    Row,
    Change,
    is_key,
    key_of,
    row_of,
    put,
    Name,
    Request,
    Position,
    Reply,
    IsRequest,
    whole,
    rejection,
    first_terminal,
    terminal_limit,
  }

  -- where a program is, and what it has changed
  pub record State : Type 0 where
    pub position : Position
    -- newest first
    pub changes : List Change

  -- an open transaction
  pub record Open : Type 0 where
    pub number : ℕ
    pub request : Request
    pub now : State
    pub mark : State
    pub held : Name → Option Mode
    -- the lengths of its records now and at the mark, newest first
    pub lengths : List ℕ
    pub mark_lengths : List ℕ

  -- a transaction that has committed
  pub record Commit : Type 0 where
    pub tx : Tx Request
    pub reply : Reply
    pub lengths : List ℕ

  -- a state of the whole machine
  pub record World : Type 0 where
    pub base : Map
    -- the commits of each terminal before the base
    pub counts : ℕ → ℕ
    -- the commits since the base, newest first
    pub history : List Commit
    pub active : ℕ → Option Open
    -- how many extents there are, and the layout of their records
    pub extents : ℕ
    pub layout : M.Layout

  -- there is such a terminal
  abbrev pub IsTerminal : ℕ → Type 0
  IsTerminal t = (first_terminal ≤ t) × (t < terminal_limit)

  -- an open transaction by its terminal
  abbrev pub tx_of : ℕ → Open → Tx Request
  tx_of t o = record { terminal = t; number = o.number; request = o.request }

  -- the map with these changes on it
  abbrev pub overlay : List Change → Map → Map
  overlay [] r = r
  overlay (c ∷ cs) r = put c (overlay cs r)

  -- the changes with one more, if there is one
  abbrev pub add : Option Change → List Change → List Change
  add None cs = cs
  add (Some c) cs = c ∷ cs

  -- the last row that the changes give a key, or None where they don't have the key
  abbrev pub net : List Change → Key → Option (Option Row)
  net [] k = None
  net (c ∷ cs) k = cond (is_key k (key_of c)) (Some (row_of c)) (net cs k)

  -- versions
  abbrev pub map_after : Option (Map × Reply) → Map → Map
  map_after None r = r
  map_after (Some p) r = p.0

  -- the map after all commits of a list, each applied whole
  abbrev pub version : Map → List Commit → Map
  version b [] = b
  version b (c ∷ cs) = map_after (whole c.tx (version b cs)) (version b cs)

  -- the number of each terminal's commits, with a list of commits more
  abbrev pub counts_after : (ℕ → ℕ) → List Commit → ℕ → ℕ
  counts_after f [] = f
  counts_after f (c ∷ cs) = bump c.tx.terminal (counts_after f cs)

  -- the oldest moment that can be read
  abbrev pub horizon : World → ℕ
  horizon w = total terminal_limit w.counts

  -- the newest moment
  abbrev pub newest : World → ℕ
  newest w = horizon w + length w.history

  -- the version of a moment
  abbrev pub at : World → ℕ → Map
  at w m = version w.base (drop (newest w - m) w.history)

  -- the commits of each terminal up to a moment
  abbrev pub counts_at : World → ℕ → ℕ → ℕ
  counts_at w m = counts_after w.counts (drop (newest w - m) w.history)

  -- the newest version
  abbrev pub latest : World → Map
  latest w = version w.base w.history

  -- the commits of each terminal so far
  abbrev pub counts_now : World → ℕ → ℕ
  counts_now w = counts_after w.counts w.history

  -- the number of the transaction that the terminal begins next
  abbrev pub number : World → ℕ → ℕ
  number w t = suc (counts_now w t)

  -- each commit is the whole effect of its request on the version before it, which does not reject it, and its reply is
  -- that effect's
  pub record IsCommit (f : ℕ → ℕ) (r : Map) (c : Commit) : Type 0 where
    pub after : Map
    pub effect : whole c.tx r ≡ Some (after, c.reply)
    pub valid : IsRequest c.tx.request
    pub known : rejection c.tx.request r ≡ None
    pub terminal : IsTerminal c.tx.terminal
    pub number : c.tx.number ≡ suc (f c.tx.terminal)

  -- transactions that run one at a time make these commits
  abbrev pub IsSerial : (ℕ → ℕ) → Map → List Commit → Type 0
  IsSerial f b [] = Unit {0}
  IsSerial f b (c ∷ cs) = IsCommit (counts_after f cs) (version b cs) c × IsSerial f b cs

  -- the tables as they stand, open work included
  abbrev pub layer : Option Open → Map → Map
  layer None r = r
  layer (Some o) r = overlay o.now.changes r

  -- the work of the terminals below n
  abbrev pub layers : (ℕ → Option Open) → ℕ → Map → Map
  layers active zero r = r
  layers active (suc n) r = layer (active n) (layers active n r)

  -- the newest version with all open work on it
  abbrev pub tables : World → Map
  tables w = layers w.active terminal_limit (latest w)
