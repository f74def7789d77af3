-- The rule of the words: what they keep, and what each step makes of what its seat's holder knows. There is the newest
-- moment that was told, what the keeper claims, the moment up to which it has purged, and then each desk's pin.
use Rattle.std.specs.Prelude.{◌≡◌, ◌≢◌, ℕ, ◌+◌, ◌*◌, ◌-◌, ◌/◌, ◌<◌, ◌≤◌, min, max, true, false, List, length}
use Rattle.std.specs.Prelude.{slice_index, ◌==◌, if◌then◌else◌, Bool}
use mathlib.Core.Option.{some}
use lib.ListN.{get_elem?}
use Rattle.atomic_table.specs.Table.{State, Me, Step}
use Rattle.oe_moments.specs.declared.notes.PinState.{PinState}
use Rattle.oe_moments.specs.declared.notes.PinState.TheVariants.{Free, Announced, Looked, Sure}
use Rattle.oe_moments.specs.declared.notes.DeskNotes.{DeskNotes}
use Rattle.oe_moments.specs.declared.notes.KeeperNotes.{KeeperNotes}
use Rattle.oe_moments.specs.declared.notes.DealerNotes.{DealerNotes}
use Rattle.oe_moments.specs.declared.notes.Notes.{Notes}
use Rattle.oe_moments.specs.declared.notes.Notes.TheVariants.{Gone, Dealer, Desk, Keeper}

-- the greatest moment
abbrev pub most : ℕ
most = 999999999999

-- where each word stands
abbrev pub newest_index : ℕ
newest_index = 0

abbrev pub claim_index : ℕ
claim_index = 1

abbrev pub purged_index : ℕ
purged_index = 2

abbrev pub first_pin : ℕ
first_pin = 3

abbrev pub newest : List ℕ → ℕ
newest ws = slice_index ws newest_index

abbrev pub claim : List ℕ → ℕ
claim ws = slice_index ws claim_index

abbrev pub purge_word : List ℕ → ℕ
purge_word ws = slice_index ws purged_index

abbrev pub pin_at : List ℕ → ℕ → ℕ
pin_at ws d = slice_index ws (d + first_pin)

-- the words of a desk that has no pin, or one of the moment n
abbrev pub no_pin : ℕ
no_pin = 0

abbrev pub announced_word : ℕ → ℕ
announced_word n = 2 * n + 1

abbrev pub sure_word : ℕ → ℕ
sure_word n = 2 * n + 2

abbrev pub pin_word : PinState → ℕ
pin_word Free = no_pin
pin_word (Announced n) = announced_word n
pin_word (Looked n) = announced_word n
pin_word (Sure n) = sure_word n

-- a sure pin is not below the limit, nor is one whose desk has looked and found a claim of at most its moment
abbrev pub Guards : ℕ → ℕ → PinState → Type 0
Guards limit looked_at Free = Unit {0}
Guards limit looked_at (Announced n) = Unit {0}
Guards limit looked_at (Looked n) = looked_at ≤ n → limit ≤ n
Guards limit looked_at (Sure n) = limit ≤ n

abbrev pub IsMoment : PinState → Type 0
IsMoment Free = Unit {0}
IsMoment (Announced n) = n ≤ most
IsMoment (Looked n) = n ≤ most
IsMoment (Sure n) = n ≤ most

-- no sure pin below the number k is below the limit
abbrev pub SureAbove : List ℕ → ℕ → ℕ → Type 0
SureAbove ws limit k = (d n : ℕ) → d < k → pin_at ws d ≡ sure_word n → limit ≤ n

-- what a desk knows
pub record FitsDesk (desks : ℕ) (ws : List ℕ) (p : DeskNotes) : Type 0 where
  pub number : p.number < desks
  pub seen : p.seen ≤ newest ws
  pub claimed : p.claim ≤ claim ws
  pub word : pin_at ws p.number ≡ pin_word p.pin
  pub moment : IsMoment p.pin
  pub guards : Guards (purge_word ws) p.claim p.pin

-- a scan that has passed the desks below a number
pub record Scan (desks : ℕ) (ws : List ℕ) (k : KeeperNotes) : Type 0 where
  pub least : k.least ≤ claim ws
  pub passed : k.passed ≤ desks
  pub sure : SureAbove ws k.least k.passed

-- what the keeper knows
pub record FitsKeeper (desks : ℕ) (ws : List ℕ) (k : KeeperNotes) : Type 0 where
  pub horizon : k.horizon ≡ purge_word ws
  pub scan : k.scanning ≡ true → Scan desks ws k

-- what the dealer knows
pub record FitsDealer (desks : ℕ) (ws : List ℕ) (o : DealerNotes) : Type 0 where
  pub dealt : o.dealt ≤ desks
  pub free : (d : ℕ) → o.dealt ≤ d → d < desks → pin_at ws d ≡ no_pin
  pub unpurged : o.keeper ≡ false → purge_word ws ≡ 0

abbrev pub Fits : ℕ → List ℕ → Notes → Type 0
Fits desks ws Gone = Unit {0}
Fits desks ws (Dealer o) = FitsDealer desks ws o
Fits desks ws (Desk p) = FitsDesk desks ws p
Fits desks ws (Keeper k) = FitsKeeper desks ws k

-- once a scan has passed the pin, the scan's least is a limit that the pin guards
abbrev pub Watched : DeskNotes → KeeperNotes → Type 0
Watched p k = k.scanning ≡ true → p.number < k.passed → Guards k.least p.claim p.pin

-- what holds of two seats: neither a desk nor the keeper has two, and the dealer has counted both
abbrev pub Apart : Notes → Notes → Type 0
Apart Gone v = Unit {0}
Apart (Dealer o) Gone = Unit {0}
Apart (Dealer o) (Dealer r) = ⊥
Apart (Dealer o) (Desk p) = p.number < o.dealt
Apart (Dealer o) (Keeper k) = o.keeper ≡ true
Apart (Desk p) Gone = Unit {0}
Apart (Desk p) (Dealer o) = Unit {0}
Apart (Desk p) (Desk q) = p.number ≢ q.number
Apart (Desk p) (Keeper k) = Watched p k
Apart (Keeper k) Gone = Unit {0}
Apart (Keeper k) (Dealer o) = Unit {0}
Apart (Keeper k) (Desk p) = Unit {0}
Apart (Keeper k) (Keeper l) = ⊥

-- what the words keep: a sure pin is not below what is purged
pub record AreWords (desks : ℕ) (ws : List ℕ) : Type 0 where
  pub size : length ws ≡ desks + first_pin
  pub newest_fits : newest ws ≤ most
  pub claim_fits : claim ws ≤ most
  pub purged_fits : purge_word ws ≤ claim ws
  pub sure : SureAbove ws (purge_word ws) desks

-- the rule: what the words keep, what each holder knows of them, and what any two know
pub record Kept (desks : ℕ) (s : State ℕ Notes) : Type 0 where
  pub words : AreWords desks s.words
  pub fits : (i : ℕ) (v : Notes) → get_elem? s.views i ≡ some v → Fits desks s.words v
  pub apart : (i j : ℕ) (v w : Notes) → get_elem? s.views i ≡ some v → get_elem? s.views j ≡ some w → i ≢ j → Apart v w

-- WHAT EACH STEP OF A DESK MAKES OF ITS NOTES

abbrev pub turn : Bool → Bool
turn true = false
turn false = true

-- the desk has loaded the newest moment, and seen or told that one
abbrev pub notes_after_sight : ℕ → DeskNotes → DeskNotes
notes_after_sight n p = record p { seen = n; turned = turn p.turned }

-- the desk's pin has come that far
abbrev pub with_pin : PinState → DeskNotes → DeskNotes
with_pin t p = record p { pin = t }

-- a pin that was announced before a look
abbrev pub pin_after_look : PinState → PinState
pin_after_look (Announced n) = Looked n
pin_after_look Free = Free
pin_after_look (Looked n) = Looked n
pin_after_look (Sure n) = Sure n

-- the desk has looked at what the keeper claims
abbrev pub notes_after_look : ℕ → DeskNotes → DeskNotes
notes_after_look c p = record p { claim = c; pin = pin_after_look p.pin }

-- a desk reads the newest moment, which is not below what it has seen
abbrev pub sees_newest : Step ℕ → Me ℕ Notes → ℕ → Me ℕ Notes → Type 0
sees_newest s v found w = (p : DeskNotes) → v.0 ≡ Desk p → (w.0 ≡ Desk (notes_after_sight found p)) × (p.seen ≤ found)
    × (found ≤ most)

-- a desk raises the newest moment to at least the one told
abbrev pub tells : Step ℕ → Me ℕ Notes → ℕ → Me ℕ Notes → Type 0
tells s v found w = (p : DeskNotes) → v.0 ≡ Desk p → (w.0 ≡ Desk (notes_after_sight (max found s.first) p))
    × (p.seen ≤ found)
    × (found ≤ most)

abbrev pub announces : Step ℕ → Me ℕ Notes → ℕ → Me ℕ Notes → Type 0
announces s v found w = (p : DeskNotes) → v.0 ≡ Desk p → w.0 ≡ Desk (with_pin (Announced p.seen) p)

-- a desk reads what the keeper claims, which is a moment
abbrev pub looks : Step ℕ → Me ℕ Notes → ℕ → Me ℕ Notes → Type 0
looks s v found w = (p : DeskNotes) → v.0 ≡ Desk p → (w.0 ≡ Desk (notes_after_look found p)) × (found ≤ most)

abbrev pub makes_sure : Step ℕ → Me ℕ Notes → ℕ → Me ℕ Notes → Type 0
makes_sure s v found w = (p : DeskNotes) → v.0 ≡ Desk p → (n : ℕ) → p.pin ≡ Looked n → w.0 ≡ Desk (with_pin (Sure n) p)

abbrev pub clears : Step ℕ → Me ℕ Notes → ℕ → Me ℕ Notes → Type 0
clears s v found w = (p : DeskNotes) → v.0 ≡ Desk p → w.0 ≡ Desk (with_pin Free p)

-- under a sure pin what is purged is not above it
abbrev pub reads_purged : Step ℕ → Me ℕ Notes → ℕ → Me ℕ Notes → Type 0
reads_purged s v found w = (w.0 ≡ v.0) × (found ≤ most)
    × ((p : DeskNotes) → v.0 ≡ Desk p → (n : ℕ) → p.pin ≡ Sure n → found ≤ n)

-- WHAT EACH STEP OF THE KEEPER MAKES OF ITS NOTES

-- what a claim of m makes of the word: it never falls
abbrev pub word_after_claim : ℕ → ℕ → ℕ
word_after_claim m n = max n m

-- the keeper has claimed m, and begins a scan
abbrev pub after_claim : ℕ → KeeperNotes → KeeperNotes
after_claim m k = record k { scanning = true; passed = 0; claim = m; least = m; turned = turn k.turned }

-- the least after a pin word was found, which holds a moment unless there is no pin
abbrev pub least_with : ℕ → ℕ → ℕ
least_with least found = if found == no_pin then least else min least ((found - 1) / 2)

-- the keeper has passed a desk, whose pin word it found
abbrev pub after_desk : ℕ → KeeperNotes → KeeperNotes
after_desk found k = record k { scanning = true; passed = k.passed + 1; least = least_with k.least found }

-- the keeper has purged up to the least moment of the scan, or no further than before
abbrev pub after_purge : KeeperNotes → KeeperNotes
after_purge k = record k { scanning = false; horizon = max k.horizon k.least }

-- the keeper has looked at the pin of desk d, and found that word
abbrev pub saw_pin : ℕ → ℕ → KeeperNotes → KeeperNotes
saw_pin d found k = record k { found = record { desk = d; word = found; turned = turn k.found.turned } }

abbrev pub claims : Step ℕ → Me ℕ Notes → ℕ → Me ℕ Notes → Type 0
claims s v found w = (k : KeeperNotes) → v.0 ≡ Keeper k → w.0 ≡ Keeper (after_claim s.first k)

abbrev pub scans : Step ℕ → Me ℕ Notes → ℕ → Me ℕ Notes → Type 0
scans s v found w = (k : KeeperNotes) → v.0 ≡ Keeper k → w.0 ≡ Keeper (after_desk found k)

abbrev pub settles : Step ℕ → Me ℕ Notes → ℕ → Me ℕ Notes → Type 0
settles s v found w = (k : KeeperNotes) → v.0 ≡ Keeper k → w.0 ≡ Keeper (after_purge k)

-- the keeper looks at the pin of a desk; one that it finds sure is not below the horizon
abbrev pub finds : Step ℕ → Me ℕ Notes → ℕ → Me ℕ Notes → Type 0
finds s v found w = (k : KeeperNotes) → v.0 ≡ Keeper k → (w.0 ≡ Keeper (saw_pin (s.word - first_pin) found k))
    × ((n : ℕ) → found ≡ sure_word n → k.horizon ≤ n)

-- THE DEALER

abbrev pub dealer_first : Notes
dealer_first = Dealer (record { dealt = 0; keeper = false })

-- a desk that has done nothing
abbrev pub fresh : ℕ → DeskNotes
fresh d = record { number = d; seen = 0; claim = 0; pin = Free; turned = false }

abbrev pub dealt_on : Notes → Notes
dealt_on (Dealer o) = Dealer (record { dealt = o.dealt + 1; keeper = o.keeper })
dealt_on Gone = Gone
dealt_on (Desk p) = Desk p
dealt_on (Keeper k) = Keeper k

abbrev pub next_desk : Notes → Notes
next_desk (Dealer o) = Desk (fresh o.dealt)
next_desk _ = Gone

abbrev pub keeper_out : Notes → Notes
keeper_out (Dealer o) = Dealer (record { dealt = o.dealt; keeper = true })
keeper_out Gone = Gone
keeper_out (Desk p) = Desk p
keeper_out (Keeper k) = Keeper k

-- a keeper that has done nothing
abbrev pub at_start : KeeperNotes
at_start = record {
  scanning = false;
  passed = 0;
  claim = 0;
  least = 0;
  horizon = 0;
  turned = false;
  found = record { desk = 0; word = no_pin; turned = false };
}

abbrev pub first_keeper : Notes → Notes
first_keeper (Dealer o) = Keeper at_start
first_keeper _ = Gone
