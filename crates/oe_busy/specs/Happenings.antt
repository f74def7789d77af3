-- What is counted of the happenings at a load's lines, which stand in lists with the newest first.
use Rattle.std.specs.Prelude.{◌≡◌, ℕ, suc, ◌-◌, ◌==◌, nat_lt, if◌then◌else◌, Option, None, Some, List, []}
use Rattle.std.specs.Prelude.{◌∷◌, length, get_or, unwrap_or}
use Rattle.std.specs.Map.{lookup}
use Rattle.oe_theory.specs.World.{set}
use Rattle.oe_rows.specs.declared.locks.Name.{Name}
use Rattle.oe_rows.specs.declared.locks.Name.TheVariants as name
use Rattle.oe_rows.specs.declared.locks.Mode.TheVariants as mode
use Rattle.oe_rows.specs.contracts.locks.NamePartialEq.TheImpl.{ghosts}
use Rattle.oe_busy.specs.declared.counts.Counts.{Counts}
use Rattle.oe_busy.specs.declared.counts.KindCounts.{KindCounts}
use Rattle.oe_busy.specs.declared.happenings.Happening.{Happening}
use Rattle.oe_busy.specs.declared.happenings.Happening.TheVariants as happening
use Rattle.oe_busy.specs.declared.waits.Waits.{Waits}

-- BY KIND

-- the name of whose kind it is counted: of a lock that was taken, that was in the way, or that a transaction waited
-- for in a cycle
abbrev pub asked_name : Happening → Option Name
asked_name happening.Begun = None
asked_name happening.Done = None
asked_name (happening.Went t) = None
asked_name (happening.Took t n m) = Some n
asked_name (happening.Waits t n u) = Some n
asked_name (happening.Broke t n) = Some n
asked_name (happening.GaveWay t) = None

-- one more of what happened
abbrev pub with_more : Happening → KindCounts → KindCounts
with_more happening.Begun c = c
with_more happening.Done c = c
with_more (happening.Went t) c = c
with_more (happening.Took t n mode.Shared) c = record c { shared = suc c.shared }
with_more (happening.Took t n mode.Exclusive) c = record c { exclusive = suc c.exclusive }
with_more (happening.Waits t n u) c = record c { busy = suc c.busy }
with_more (happening.Broke t n) c = record c { cycles = suc c.cycles }
with_more (happening.GaveWay t) c = c

-- what is counted of a name's kind
abbrev pub kind_counts : Name → Counts → KindCounts
kind_counts (name.Warehouse k) c = c.warehouses
kind_counts (name.District k) c = c.districts
kind_counts (name.Customer k) c = c.customers
kind_counts (name.Order k) c = c.orders
kind_counts (name.Queue k) c = c.queues
kind_counts (name.Stock k) c = c.stocks
kind_counts (name.Names k last) c = c.names

abbrev pub with_kind : Name → KindCounts → Counts → Counts
with_kind (name.Warehouse k) of c = record c { warehouses = of }
with_kind (name.District k) of c = record c { districts = of }
with_kind (name.Customer k) of c = record c { customers = of }
with_kind (name.Order k) of c = record c { orders = of }
with_kind (name.Queue k) of c = record c { queues = of }
with_kind (name.Stock k) of c = record c { stocks = of }
with_kind (name.Names k last) of c = record c { names = of }

-- one more there
abbrev pub counted_at : Option Name → Happening → Counts → Counts
counted_at None h c = c
counted_at (Some n) h c = with_kind n (with_more h (kind_counts n c)) c

abbrev pub counts_with : Happening → Counts → Counts
counts_with h = counted_at (asked_name h) h

abbrev pub no_kind_counts : KindCounts
no_kind_counts = record { shared = 0; exclusive = 0; busy = 0; cycles = 0 }

abbrev pub no_counts : Counts
no_counts = record {
  warehouses = no_kind_counts;
  districts = no_kind_counts;
  customers = no_kind_counts;
  orders = no_kind_counts;
  queues = no_kind_counts;
  stocks = no_kind_counts;
  names = no_kind_counts;
}

abbrev pub counts : List Happening → Counts
counts [] = no_counts
counts (h ∷ hs) = counts_with h (counts hs)

-- counts in a list with a place for each
abbrev pub counts_in : List ℕ → ℕ → ℕ
counts_in list c = get_or list c 0

-- BY NAME

-- the name that was in the way
abbrev pub name_in_way : Happening → Option Name
name_in_way happening.Begun = None
name_in_way happening.Done = None
name_in_way (happening.Went t) = None
name_in_way (happening.Took t n m) = None
name_in_way (happening.Waits t n u) = Some n
name_in_way (happening.Broke t n) = None
name_in_way (happening.GaveWay t) = None

-- one more of it
abbrev pub met_more : Option Name → (Name → ℕ) → Name → ℕ
met_more None f = f
met_more (Some n) f = λ q. if ghosts.eq n q then suc (f q) else f q

-- how often each name was answered `Busy`
abbrev pub busy_count : List Happening → Name → ℕ
busy_count [] = λ q. 0
busy_count (h ∷ hs) = met_more (name_in_way h) (busy_count hs)

-- the same in a list of names with their counts
abbrev pub count_in : List (Name × ℕ) → Name → ℕ
count_in es q = unwrap_or (lookup (ghosts.eq q) es) 0

-- WAITS

-- the terminal that goes on, or is rolled back
abbrev pub ends : Happening → Option ℕ
ends happening.Begun = None
ends happening.Done = None
ends (happening.Went t) = Some t
ends (happening.Took t n m) = Some t
ends (happening.Waits t n u) = None
ends (happening.Broke t n) = Some t
ends (happening.GaveWay t) = Some t

-- the terminal that is answered `Busy`
abbrev pub meets : Happening → Option ℕ
meets happening.Begun = None
meets happening.Done = None
meets (happening.Went t) = None
meets (happening.Took t n m) = None
meets (happening.Waits t n u) = Some t
meets (happening.Broke t n) = None
meets (happening.GaveWay t) = None

-- a terminal that goes on waits no longer; one that is answered `Busy` waits from this line on, unless it did already
abbrev pub without_wait : Option ℕ → (ℕ → ℕ) → ℕ → ℕ
without_wait None f = f
without_wait (Some t) f = set t 0 f

abbrev pub wait_starts : Option ℕ → ℕ → (ℕ → ℕ) → ℕ → ℕ
wait_starts None line f = f
wait_starts (Some t) line f = if f t == 0 then set t line f else f

-- The number of the line, from 1 on, at which a terminal's wait began; 0 where it does not wait.
abbrev pub since : List Happening → ℕ → ℕ
since [] = λ t. 0
since (h ∷ hs) = wait_starts (meets h) (suc (length hs)) (without_wait (ends h) (since hs))

-- how many lines were between the first `Busy` of a terminal and the line behind these, at which it goes on
abbrev pub wait_length : Option ℕ → ℕ → (ℕ → ℕ) → ℕ
wait_length None lines f = 0
wait_length (Some t) lines f = if f t == 0 then 0 else lines - f t

abbrev pub greater : ℕ → ℕ → ℕ
greater a b = if nat_lt a b then b else a

-- the longest wait that is over: of the steps between a transaction's first `Busy` and the one with which it went on
-- or was rolled back
abbrev pub longest : List Happening → ℕ
longest [] = 0
longest (h ∷ hs) = greater (longest hs) (wait_length (ends h) (length hs) (since hs))

-- they are the waits of these happenings
pub record AreWaits (w : Waits) (hs : List Happening) : Type 0 where
  pub lines_are : w.lines ≡ length hs
  pub since_is : counts_in w.since ≡ since hs
  pub longest_is : w.longest ≡ longest hs
