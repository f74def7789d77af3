-- Customers of one last name: they are found among the rows of their district, which has 3,000 at most.
use Rattle.std.proofs.Common.{◌≡◌, ℕ, ◌+◌, ◌/◌, zero-add, ◌≤◌, ◌<◌, refl, sym, ◌∙◌, ap, subst, Bool, true, false, cond}
use Rattle.std.proofs.Common.{List, [], ◌∷◌, length, Option, Some, None, arith}
use Rattle.std.specs.Prelude.{T, ◌&&◌, ◌==◌, IsSome, is_some, filter, count_by, find, option_map}
use Rattle.std.specs.Int.{IsInRange}
use Rattle.std.specs.List.{filter_map, cons_option}
use Rattle.std.specs.Ordering.{eq_by_cmp, is_lt, nat_cmp, ordering_then}
use Rattle.std.specs.Cmp.Lexicographic.{slice_cmp}
use Rattle.std.specs.declared.cmp.Ordering.{Ordering}
use Rattle.std.specs.declared.cmp.Ordering.TheVariants.{Less, Equal, Greater}
use Rattle.std.specs.Cmp.{tied_itself, nat_cmp_total, ranked}
use Rattle.std.specs.FinMap.{FinMap, get, entries, entries_sorted, retain_keys}
use Rattle.std.specs.FinMap.Entries.{is_sorted, below_all}
use Rattle.std.proofs.lemmas.List.Sums.{count_by-le-length}
use Rattle.oe_rows.specs.Key.{district_cmp, customer_cmp}
use Rattle.oe_rows.specs.declared.keys.DistrictKey.{DistrictKey}
use Rattle.oe_rows.specs.declared.keys.CustomerKey.{CustomerKey}
use Rattle.oe_rows.specs.declared.customers.Customer.{Customer}
use Rattle.oe_rows.proofs.KeyFacts.{district_total, exact_district, customer_total, exact_customer}
use Rattle.oe_model.specs.Keys.{district_of_customer}
use Rattle.oe_model.specs.Choice.{first_name_of, namesakes, comes_before, middle}
use Rattle.oe_model.proofs.MapFacts.{is_same}
use Rattle.oe_model.proofs.EntryFacts.{EachOf, each_of, kept_at}
use Rattle.oe_store.specs.Places.{entries_of, IsSound, rows, Places}
use Rattle.oe_store.proofs.GroupFacts.{kept_alike}
use Rattle.oe_store.proofs.SoundFacts.{customer_numbered}

left : (a b : Bool) → T (a && b) → T a
left true b p = tt
left false b p = p

right : (a b : Bool) → T (a && b) → T b
right true b p = p
right false b p = absurd p

module _ {X Y : Type 0} (f : X → Option Y) where
  -- what is left out gives nothing
  kept_only : (p : X → Bool) → ((x : X) → p x ≡ false → f x ≡ None) → (xs : List X)
      → filter_map f (filter p xs) ≡ filter_map f xs
  kept_only p out [] = refl
  kept_only p out (x ∷ xs) = by (p x) refl (kept_only p out xs)
    where
      by : (b : Bool) → p x ≡ b → filter_map f (filter p xs) ≡ filter_map f xs
          → filter_map f (cond b (x ∷ filter p xs) (filter p xs)) ≡ cons_option (f x) (filter_map f xs)
      by true e rest = ap (cons_option (f x)) rest
      by false e rest = rest ∙ sym (ap (λ o. cons_option o (filter_map f xs)) (out x e))

  no_more : (xs : List X) → length (filter_map f xs) ≤ length xs
  no_more [] = omega arith
  no_more (x ∷ xs) = by (f x) (no_more xs)
    where
      by : (o : Option Y) → length (filter_map f xs) ≤ length xs
          → length (cons_option o (filter_map f xs)) ≤ length (x ∷ xs)
      by None h = omega arith
      by (Some y) h = omega arith

pub of_district : (h : DistrictKey) (last : List ℕ) (m : FinMap customer_cmp Customer)
    → filter_map (λ e. first_name_of h last e.0 e.1) (entries_of district_cmp district_of_customer h m)
    ≡ namesakes h last m
of_district h last m =
    ap (filter_map (λ e. first_name_of h last e.0 e.1))
    (sym (kept_alike customer_total exact_customer m (λ k. eq_by_cmp district_cmp (district_of_customer k) h)
    (λ k. eq_by_cmp district_cmp (district_of_customer k) h) (λ k x e. refl)))
    ∙ kept_only (λ e. first_name_of h last e.0 e.1) (λ e. eq_by_cmp district_cmp (district_of_customer e.0) h)
    (λ e t. ap (λ b. cond {A = Option (List ℕ × ℕ)} (b && eq_by_cmp (slice_cmp nat_cmp) e.1.name.last last)
    (Some (e.1.name.first, e.0.customer)) None) t) (entries m)

less_by : (c d : ℕ) (r : Ordering) → r ≡ nat_cmp c d → T (is_lt r) → c < d
less_by c d Less e h = ranked c d Less e
less_by c d Equal e h = absurd h
less_by c d Greater e h = absurd h

rises : (a b : CustomerKey) → a.warehouse ≡ b.warehouse → a.district ≡ b.district → T (is_lt (customer_cmp a b))
    → a.customer < b.customer
rises a b w d h =
    less_by a.customer b.customer (nat_cmp a.customer b.customer) refl
    (subst T
    (ap (λ r. is_lt (ordering_then r (ordering_then (nat_cmp a.district b.district) (nat_cmp a.customer b.customer))))
    (ap (nat_cmp a.warehouse) (sym w) ∙ tied_itself nat_cmp_total a.warehouse)
    ∙ ap (λ r. is_lt (ordering_then r (nat_cmp a.customer b.customer)))
    (ap (nat_cmp a.district) (sym d) ∙ tied_itself nat_cmp_total a.district)) h)

-- a customer of the district with a number from this one on
abbrev IsFrom : DistrictKey → ℕ → CustomerKey × Customer → Type 0
IsFrom h low e = (district_of_customer e.0 ≡ h) × (low ≤ e.0.customer) × (e.0.customer ≤ 3_000)

module _ (h : DistrictKey) where
  above : (k : CustomerKey) → district_of_customer k ≡ h → (low : ℕ) (es : List (CustomerKey × Customer))
      → T (below_all customer_cmp k es) → EachOf (IsFrom h low) es → EachOf (IsFrom h (k.customer + 1)) es
  above k own low [] b i = tt
  above k own low (e ∷ es) b i =
      let w : k.warehouse ≡ e.0.warehouse = ap (λ (g : DistrictKey). g.warehouse) (own ∙ sym i.0.0) in
      let d : k.district ≡ e.0.district = ap (λ (g : DistrictKey). g.district) (own ∙ sym i.0.0) in
      let less : k.customer < e.0.customer = rises k e.0 w d
      (left (is_lt (customer_cmp k e.0)) (below_all customer_cmp k es) b) in (
        (i.0.0, (let z : k.customer + 1 ≤ e.0.customer = omega arith in z), i.0.2),
        above k own low es
            (right (is_lt (customer_cmp k e.0)) (below_all customer_cmp k es) b) i.1,
      )

  short : (es : List (CustomerKey × Customer)) (low : ℕ) → T (is_sorted customer_cmp es) → EachOf (IsFrom h low) es
      → low ≤ 3_001 → length es + low ≤ 3_001
  short [] low s i fits = omega arith
  short (e ∷ es) low s i fits =
      let most : e.0.customer ≤ 3_000 = i.0.2 in
      let least : low ≤ e.0.customer = i.0.1 in
      let rest : length es + (e.0.customer + 1) ≤ 3_001 =
      short es (e.0.customer + 1) (right (below_all customer_cmp e.0 es) (is_sorted customer_cmp es) s)
      (above e.0 i.0.0 low es (left (below_all customer_cmp e.0 es) (is_sorted customer_cmp es) s) i.1)
      (omega arith) in
      omega arith

  few_rows : (m : FinMap customer_cmp Customer) → ((k : CustomerKey) → IsSome (get m k) → IsInRange 1 3_000 k.customer)
      → length (entries_of district_cmp district_of_customer h m) ≤ 3_000
  few_rows m numbered =
      let each : EachOf (IsFrom h 1) (entries_of district_cmp district_of_customer h m) =
      each_of (λ e. (eq_by_cmp district_cmp (district_of_customer e.0) h ≡ true) × (get m e.0 ≡ Some e.1)) (IsFrom h 1)
      (λ e at. let range = numbered e.0 (ap is_some at.1) in
      (is_same district_total exact_district (district_of_customer e.0) h at.0, range.0, range.1))
      (entries_of district_cmp district_of_customer h m)
      (kept_at customer_total exact_customer m (λ k. eq_by_cmp district_cmp (district_of_customer k) h)) in
      let all : length (entries_of district_cmp district_of_customer h m) + 1 ≤ 3_001 =
      short (entries_of district_cmp district_of_customer h m) 1
      (entries_sorted (retain_keys m (λ k. eq_by_cmp district_cmp (district_of_customer k) h))) each
      (omega arith) in
      omega arith

  pub few : (last : List ℕ) (m : FinMap customer_cmp Customer)
      → ((k : CustomerKey) → IsSome (get m k) → IsInRange 1 3_000 k.customer) → length (namesakes h last m) ≤ 3_000
  few last m numbered =
      let rows : length (entries_of district_cmp district_of_customer h m) ≤ 3_000 = few_rows m numbered in
      let names : length (filter_map (λ e. first_name_of h last e.0 e.1)
      (entries_of district_cmp district_of_customer h m))
      ≤ length (entries_of district_cmp district_of_customer h m) =
      no_more (λ e. first_name_of h last e.0 e.1) (entries_of district_cmp district_of_customer h m) in
      let less : length (filter_map (λ e. first_name_of h last e.0 e.1)
      (entries_of district_cmp district_of_customer h m))
      ≤ 3_000 = omega arith in
      subst (λ (ps : List (List ℕ × ℕ)). length ps ≤ 3_000) (of_district h last m) less

-- a loop's walk meets what the walk that it is made of meets
pub met : (h : DistrictKey) (last : List ℕ) {es walk : List (CustomerKey × Customer)} {xs : List (List ℕ × ℕ)}
    → es ≡ walk → filter_map (λ e. first_name_of h last e.0 e.1) walk ≡ xs
    → filter_map (λ e. first_name_of h last e.0 e.1) es ≡ xs
met h last is all = ap (filter_map (λ e. first_name_of h last e.0 e.1)) is ∙ all

-- walks begin with all namesakes
module _ (h : DistrictKey) (last : List ℕ) (m : FinMap customer_cmp Customer) (es : List (CustomerKey × Customer))
    (all_taken : filter_map (λ e. first_name_of h last e.0 e.1) es ≡ namesakes h last m) where
  pub count_starts : 0 + length (filter_map (λ e. first_name_of h last e.0 e.1) es) ≡ length (namesakes h last m)
  count_starts = zero-add (length (filter_map (λ e. first_name_of h last e.0 e.1) es)) ∙ ap length all_taken

  pub rank_starts : (p : List ℕ × ℕ → Bool) → 0 + count_by p (filter_map (λ e. first_name_of h last e.0 e.1) es)
      ≡ count_by p
      (namesakes h last m)
  rank_starts p = zero-add (count_by p (filter_map (λ e. first_name_of h last e.0 e.1) es)) ∙ ap (count_by p) all_taken

  pub middle_starts : middle (namesakes h last m)
      ≡ option_map (λ x. x.1)
      (find (λ x. count_by (λ y. comes_before y x) (namesakes h last m) + 1 == (length (namesakes h last m) + 1) / 2)
      (filter_map (λ e. first_name_of h last e.0 e.1) es))
  middle_starts = sym (ap
      (λ qs. option_map (λ x. x.1)
      (find (λ x. count_by (λ y. comes_before y x) (namesakes h last m) + 1 == (length (namesakes h last m) + 1) / 2)
      qs)) all_taken)

-- of sound tables
pub few_named : (h : DistrictKey) (last : List ℕ) (s : Places) → IsSound (rows s)
    → length (namesakes h last (rows s).customers) ≤ 3_000
few_named h last s sound = few h last (rows s).customers (λ k there. customer_numbered (rows s) k sound there)

pub few_before : (h : DistrictKey) (last : List ℕ) (s : Places) (p : List ℕ × ℕ → Bool) → IsSound (rows s)
    → count_by p (namesakes h last (rows s).customers) ≤ 3_000
few_before h last s p sound =
    let all : length (namesakes h last (rows s).customers) ≤ 3_000 = few_named h last s sound in
    let part : count_by p (namesakes h last (rows s).customers) ≤ length (namesakes h last (rows s).customers) =
    count_by-le-length p (namesakes h last (rows s).customers) in
    omega arith
