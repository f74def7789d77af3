-- The names of locks in their order, and those that a terminal holds.
use Rattle.std.specs.Prelude.{◌≡◌, ℕ, zero, suc, Bool, true, false, ◌&&◌, cond, List, [], ◌∷◌, ◌++◌, Option, None, Some}
use Rattle.std.specs.Prelude.{is_some, length, map, ◌+◌}
use Rattle.std.specs.List.{filter}
use Rattle.std.specs.Int.{IsInRange}
use Rattle.std.specs.Ordering.{is_lt, nat_cmp}
use Rattle.std.specs.Cmp.Lexicographic.{slice_cmp}
use Rattle.oe_theory.specs.World.{World}
use Rattle.oe_values.specs.Text.{IsText}
use Rattle.oe_rows.specs.declared.locks.Name.{Name}
use Rattle.oe_rows.specs.declared.locks.Name.TheVariants.{Warehouse, District, Customer, Order, Queue, Stock, Names}
use Rattle.oe_model.specs.System.{system}
use Rattle.oe_machine.specs.Asks.{held_by}

-- the greatest numbers in a key; shut, so that no proof counts up to them
unfoldable pub last_warehouse : ℕ
last_warehouse = 16

unfoldable pub last_district : ℕ
last_district = 10

unfoldable pub last_customer : ℕ
last_customer = 3_000

unfoldable pub last_order : ℕ
last_order = 10_000_000

unfoldable pub last_item : ℕ
last_item = 100_000

-- the most letters of a last name, and how many bytes are printable, from 32 on
unfoldable pub most_letters : ℕ
most_letters = 16

unfoldable pub printable_bytes : ℕ
printable_bytes = 95

-- the lists of the numbers 1 to n, one behind the other
abbrev pub lists_to : {A : Type 0} → (ℕ → List A) → ℕ → List A
lists_to f zero = []
lists_to f (suc n) = lists_to f n ++ f (suc n)

-- all texts of at most n printable bytes in their order: a text stands before those that begin with it
abbrev pub texts_within : ℕ → List (List ℕ)
texts_within zero = [] ∷ []
texts_within (suc n) = [] ∷ lists_to (λ i. map (λ t. (31 + i) ∷ t) (texts_within n)) printable_bytes

-- the names of one kind, by the columns of their keys from the left
abbrev pub of_warehouses : (ℕ → Name) → List Name
of_warehouses f = lists_to (λ w. f w ∷ []) last_warehouse

abbrev pub of_pairs : (ℕ → ℕ → Name) → ℕ → List Name
of_pairs f n = lists_to (λ w. lists_to (λ x. f w x ∷ []) n) last_warehouse

abbrev pub of_triples : (ℕ → ℕ → ℕ → Name) → ℕ → List Name
of_triples f n = lists_to (λ w. lists_to (λ d. lists_to (λ x. f w d x ∷ []) n) last_district) last_warehouse

abbrev pub warehouse_names : List Name
warehouse_names = of_warehouses (λ w. Warehouse (record { warehouse = w }))

abbrev pub district_names : List Name
district_names = of_pairs (λ w d. District (record { warehouse = w; district = d })) last_district

abbrev pub customer_names : List Name
customer_names = of_triples (λ w d c. Customer (record { warehouse = w; district = d; customer = c })) last_customer

abbrev pub order_names : List Name
order_names = of_triples (λ w d o. Order (record { warehouse = w; district = d; order = o })) last_order

abbrev pub queue_names : List Name
queue_names = of_pairs (λ w d. Queue (record { warehouse = w; district = d })) last_district

abbrev pub stock_names : List Name
stock_names = of_pairs (λ w i. Stock (record { warehouse = w; item = i })) last_item

-- the last names of each district, by their letters
abbrev pub last_name_names : List Name
last_name_names =
    lists_to (λ w. lists_to (λ d. map (Names (record { warehouse = w; district = d })) (texts_within most_letters))
    last_district) last_warehouse

-- all names, one kind behind the other
unfoldable pub all_names : List Name
all_names =
    warehouse_names ++ district_names ++ customer_names ++ order_names ++ queue_names ++ stock_names ++ last_name_names

-- the names that a terminal holds, in that order
abbrev pub holds : World system → ℕ → Name → Bool
holds w t n = is_some (held_by w t n)

abbrev pub held_names : World system → ℕ → List Name
held_names w t = filter (holds w t) all_names

-- a name whose columns are in their ranges
abbrev pub IsInRanges : Name → Type 0
IsInRanges (Warehouse k) = IsInRange 1 last_warehouse k.warehouse
IsInRanges (District k) = IsInRange 1 last_warehouse k.warehouse × IsInRange 1 last_district k.district
IsInRanges (Customer k) =
    IsInRange 1 last_warehouse k.warehouse × IsInRange 1 last_district k.district
    × IsInRange 1 last_customer k.customer
IsInRanges (Order k) =
    IsInRange 1 last_warehouse k.warehouse × IsInRange 1 last_district k.district
    × IsInRange 1 last_order k.order
IsInRanges (Queue k) = IsInRange 1 last_warehouse k.warehouse × IsInRange 1 last_district k.district
IsInRanges (Stock k) = IsInRange 1 last_warehouse k.warehouse × IsInRange 1 last_item k.item
IsInRanges (Names k last) =
    IsInRange 1 last_warehouse k.warehouse × IsInRange 1 last_district k.district × IsText 0 most_letters last

-- a name's place among all: its kind, then the columns of its key from the left, and of a last name its letters
abbrev pub place : Name → List ℕ
place (Warehouse k) = 1 ∷ k.warehouse ∷ 0 ∷ 0 ∷ []
place (District k) = 2 ∷ k.warehouse ∷ k.district ∷ 0 ∷ []
place (Customer k) = 3 ∷ k.warehouse ∷ k.district ∷ k.customer ∷ []
place (Order k) = 4 ∷ k.warehouse ∷ k.district ∷ k.order ∷ []
place (Queue k) = 5 ∷ k.warehouse ∷ k.district ∷ 0 ∷ []
place (Stock k) = 6 ∷ k.warehouse ∷ k.item ∷ 0 ∷ []
place (Names k last) = 7 ∷ k.warehouse ∷ k.district ∷ last

-- the first place that differs decides
abbrev pub is_before : List ℕ → List ℕ → Bool
is_before a b = is_lt (slice_cmp nat_cmp a b)

-- the terminal holds the name, and the name is behind the place
abbrev pub is_left : World system → ℕ → List ℕ → Name → Bool
is_left w t p n = is_before p (place n) && holds w t n

-- the least name that passes, where any does
abbrev pub IsLeast : (Name → Bool) → Name → Type 0
IsLeast f n = (f n ≡ true) × ((q : Name) → f q ≡ true → is_before (place q) (place n) ≡ false)

-- the lesser of the least name so far and of one more, where that counts
abbrev pub lesser : Option Name → Name → Bool → Option Name
lesser best n false = best
lesser None n true = Some n
lesser (Some b) n true = cond (is_before (place n) (place b)) (Some n) (Some b)

-- how many names the terminals 1 to n hold
abbrev pub held_count : World system → ℕ → ℕ
held_count w zero = 0
held_count w (suc n) = held_count w n + length (held_names w (suc n))
