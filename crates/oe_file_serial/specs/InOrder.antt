-- Transactions one at a time: each finds the tables and counts that those before it left; queries between them.
use Rattle.std.specs.Prelude.{◌≡◌, ◌≢◌, ℕ, suc, ◌⊎◌, Some, None}
use Rattle.oe_theory.specs.Machine.{Machine, Stop, Fail, Tx, Here, Missing}
use Rattle.oe_theory.specs.World.{World, State, Open, bump, overlay, latest, counts_now}
use Rattle.oe_theory.specs.Laws.{Alone, IsAsked, all_held}

module _ (M : Machine) where
  open M use {Map, Request, Reply, Refusal, Query, Found}

  -- between two transactions: the tables, and how many each terminal has committed
  pub record Between : Type 0 where
    pub rows : Map
    pub counts : ℕ → ℕ

  -- before the first
  abbrev pub at_first : Map → Between
  at_first r = record { rows = r; counts = λ _. 0 }

  -- the next transaction of terminal t, by its number
  abbrev pub next_of : Between → ℕ → Request → Tx Request
  next_of b t q = record { terminal = t; number = suc (b.counts t); request = q }

  -- nothing is in the way of its beginning
  pub record Begins (b : Between) (t : ℕ) (q : Request) : Type 0 where
    pub known : M.rejection q b.rows ≡ None
    pub numbered : M.number_rejection (suc (b.counts t)) ≡ None

  -- it commits: its whole effect gives these tables and this reply
  pub record Commits (b : Between) (t : ℕ) (q : Request) (y : Reply) (b' : Between) : Type 0 where
    pub begins : Begins b t q
    pub effect : M.whole (next_of b t q) b.rows ≡ Some (b'.rows, y)
    pub counts : b'.counts ≡ bump t b.counts

  -- its program, alone on these tables, comes to a stage that ends it with this refusal
  pub record Stops (x : Tx Request) (r : Map) (e : Refusal) : Type 0 where
    pub at : State M
    pub alone : Alone M x r at
    pub refuses : (M.ask x at.position (overlay M at.changes r) ≡ Stop e)
        ⊎ (IsAsked M (all_held M) (M.ask x at.position (overlay M at.changes r))
        × (M.act x at.position (overlay M at.changes r) ≡ Fail e))

  -- it begins, and has no whole effect
  pub record RollsBack (b : Between) (t : ℕ) (q : Request) (e : Refusal) : Type 0 where
    pub begins : Begins b t q
    pub effect : M.whole (next_of b t q) b.rows ≡ None
    pub stops : Stops (next_of b t q) b.rows e

  -- it is refused: since a warehouse is absent, since the terminal has no number left, or by a rollback
  abbrev pub Refuses : Between → ℕ → Request → Refusal → Type 0
  Refuses b t q e =
      (M.rejection q b.rows ≡ Some e)
      ⊎ ((M.rejection q b.rows ≡ None) × (M.number_rejection (suc (b.counts t)) ≡ Some e))
      ⊎ RollsBack b t q e

  -- in these tables a query finds that
  abbrev pub Finds : Map → Query → Found → Type 0
  Finds r q f = (M.query_rejection q r ≡ None) × (M.find q r ≡ Here f)

  -- or is refused: since its warehouse is absent, or since what it asks for is
  abbrev pub Misses : Map → Query → Refusal → Type 0
  Misses r q e =
      (M.query_rejection q r ≡ Some e) ⊎ ((M.query_rejection q r ≡ None) × (M.find q r ≡ Missing e))

  -- what commits have left
  abbrev pub between : World M → Between
  between w = record { rows = latest M w; counts = counts_now M w }

  -- of all terminals t alone has a transaction open: the request q, its next
  pub record HasOpen (b : Between) (t : ℕ) (q : Request) (w : World M) : Type 0 where
    pub begins : Begins b t q
    pub who : Open M
    pub is_open : w.active t ≡ Some who
    pub asked : who.request ≡ q
    pub number : who.number ≡ suc (b.counts t)
    pub alone : (u : ℕ) → u ≢ t → w.active u ≡ None
    pub same : between w ≡ b
