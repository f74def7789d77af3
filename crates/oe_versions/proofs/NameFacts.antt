-- A district's customers of a last name at a moment are met by a walk over those that stand.
use Rattle.std.proofs.Common.{◌≡◌, ℕ, ◌+◌, ◌-◌, ◌/◌, ◌<◌, ◌≤◌, Bool, true, false, cond, Option, None, Some, List, []}
use Rattle.std.proofs.Common.{◌∷◌, length, refl, sym, ap, ◌∙◌, subst, arith}
use Rattle.std.specs.Prelude.{T, ◌&&◌, ◌==◌, is_some, option_map, count_by, filter, find}
use Rattle.std.specs.List.{filter_map, cons_option}
use Rattle.std.specs.Ordering.{eq_by_cmp, nat_cmp, ordering_then, is_lt}
use Rattle.std.specs.Cmp.Lexicographic.{slice_cmp}
use Rattle.std.specs.FinMap.{FinMap, get, entries, entries_sorted, get-entries, retain_keys, get-retain_keys}
use Rattle.std.specs.FinMap.Entries.{find-where_key, is_sorted-where_key, same_entries}
use Rattle.oe_rows.specs.Key.{district_cmp, customer_cmp}
use Rattle.oe_rows.specs.declared.keys.DistrictKey.{DistrictKey}
use Rattle.oe_rows.specs.declared.keys.CustomerKey.{CustomerKey}
use Rattle.oe_rows.specs.declared.keys.Key.TheVariants as key
use Rattle.oe_rows.specs.declared.customers.Customer.{Customer}
use Rattle.oe_rows.specs.declared.rows.Row.TheVariants as row
use Rattle.oe_rows.proofs.KeyFacts.{district_total, exact_district, customer_total, exact_customer}
use Rattle.oe_model.specs.Keys.{district_of_customer, customer_in}
use Rattle.oe_model.specs.Rows.{row_at}
use Rattle.oe_model.specs.Choice.{first_name_of, namesakes, comes_before, middle}
use Rattle.oe_model.specs.Locks.{first_if_named}
use Rattle.oe_model.proofs.MapFacts.{is_same}
use Rattle.oe_model.proofs.EntryFacts.{EachOf, each_of, kept_at}
use Rattle.oe_model.proofs.NamesFacts.{same_namesakes}
use Rattle.oe_model.proofs.PresenceFacts.{some-map}
use Rattle.oe_store.specs.Numbered.{AreNumbered}
use Rattle.oe_store.specs.Places.{rows, entries_of}
use Rattle.oe_store.specs.Places as tables
use Rattle.oe_log.specs.Log.{SegmentLog}
use Rattle.oe_log.specs.Moments.{store_with}
use Rattle.oe_versions.specs.Versions.{version, Stand}
use Rattle.oe_rows_of.proofs.ChosenFacts.{rows_at, kept_is}
use Rattle.oe_rows_of.proofs.ClimbFacts.{Climb, climb, lower, same_number}
use Rattle.oe_versions.proofs.LastingFacts.{rows_last}
use Rattle.oe_versions.proofs.ReadFacts.{customer_stands}

abbrev Entry : Type 0
Entry = CustomerKey × Customer

both_absent : (v w : Option Customer) → is_some v ≡ is_some w → w ≡ None → v ≡ w
both_absent None w p e = sym e
both_absent (Some x) None p e = let no : ⊥ = cc in absurd no
both_absent (Some x) (Some y) p e = let no : ⊥ = cc in absurd no

module _ (h : DistrictKey) where
  abbrev is_in : CustomerKey → Bool
  is_in k = eq_by_cmp district_cmp (district_of_customer k) h

  group_is : (n : FinMap customer_cmp Customer) → entries (retain_keys n is_in) ≡ filter (λ e. is_in e.0) (entries n)
  group_is n =
      sym (same_entries customer_cmp customer_total exact_customer _ _
      (is_sorted-where_key customer_cmp is_in (entries n) (entries_sorted n))
      (entries_sorted (retain_keys n is_in)) (λ k.
      find-where_key customer_cmp is_in k (λ x e. ap is_in (sym (exact_customer k x e))) (entries n)
      ∙ ap (λ o. cond (is_in k) o None) (sym (get-entries n k))
      ∙ sym (get-retain_keys n is_in k (λ x e. ap is_in (sym (exact_customer k x e))))
      ∙ get-entries (retain_keys n is_in) k))

  number_below : (a b : CustomerKey) → district_of_customer a ≡ h → district_of_customer b ≡ h
      → T (is_lt (customer_cmp a b)) → a.customer < b.customer
  number_below a b d e l =
      let w : a.warehouse ≡ b.warehouse = ap (λ (g : DistrictKey). g.warehouse) (d ∙ sym e) in
      let n : a.district ≡ b.district = ap (λ (g : DistrictKey). g.district) (d ∙ sym e) in
      lower a.customer b.customer (nat_cmp a.customer b.customer) refl
      (subst T (ap is_lt (λ i. ordering_then (same_number a.warehouse b.warehouse w i)
      (ordering_then (same_number a.district b.district n i) (nat_cmp a.customer b.customer)))) l)

  customers_climb : (n : FinMap customer_cmp Customer)
      → Climb (λ k. k.customer) 0 (entries_of district_cmp district_of_customer h n)
  customers_climb n =
      climb customer_cmp (λ k. k.customer) (λ k. district_of_customer k ≡ h) number_below
      (entries_of district_cmp district_of_customer h n) (entries_sorted (retain_keys n is_in))
      (each_of (λ e. (is_in e.0 ≡ true) × (get n e.0 ≡ Some e.1)) (λ e. district_of_customer e.0 ≡ h)
      (λ e t. is_same district_total exact_district (district_of_customer e.0) h t.0)
      (entries_of district_cmp district_of_customer h n) (kept_at customer_total exact_customer n is_in))

  module _ (last : List ℕ) where
    abbrev take_name : Entry → Option (List ℕ × ℕ)
    take_name e = first_name_of h last e.0 e.1

    -- who is of another district has no name here
    in_group : (es : List Entry) → filter_map take_name (filter (λ e. is_in e.0) es) ≡ filter_map take_name es
    in_group [] = refl
    in_group (e ∷ es) = by (is_in e.0) refl (in_group es)
      where
        by : (b : Bool) → is_in e.0 ≡ b
            → filter_map take_name (filter (λ e. is_in e.0) es) ≡ filter_map take_name es
            → filter_map take_name (cond b (e ∷ filter (λ e. is_in e.0) es) (filter (λ e. is_in e.0) es))
            ≡ cons_option (take_name e) (filter_map take_name es)
        by true t rest = ap (cons_option (take_name e)) rest
        by false t rest = rest ∙ sym (ap (λ b. cons_option
            (cond {A = Option (List ℕ × ℕ)} (b && eq_by_cmp (slice_cmp nat_cmp) e.1.name.last last)
            (Some (e.1.name.first, e.0.customer)) None) (filter_map take_name es)) t)

    own_name : (k : CustomerKey) (x : Customer) → is_in k ≡ true
        → option_map (λ first. (first, k.customer)) (first_if_named last (Some x)) ≡ first_name_of h last k x
    own_name k x t =
        by (eq_by_cmp (slice_cmp nat_cmp) x.name.last last)
        ∙ sym (ap (λ b. cond {A = Option (List ℕ × ℕ)} (b && eq_by_cmp (slice_cmp nat_cmp) x.name.last last)
        (Some (x.name.first, k.customer)) None) t)
      where
        by : (b : Bool)
            → option_map (λ first. (first, k.customer)) (cond {A = Option (List ℕ)} b (Some x.name.first) None)
            ≡ cond {A = Option (List ℕ × ℕ)} b (Some (x.name.first, k.customer)) None
        by true = refl
        by false = refl

module _ (ts : tables.Places) (u : SegmentLog) (m : ℕ) where
  abbrev past : FinMap customer_cmp Customer
  past = (version ts u m).customers

  abbrev now : FinMap customer_cmp Customer
  now = (rows ts).customers

  pub name_stands : (k : CustomerKey) (last : List ℕ)
      → row_at (version ts u m) (key.Customer k) ≡ row_at (rows ts) (key.Customer k)
      → first_if_named last (get past k) ≡ first_if_named last (get now k)
  name_stands k last e = ap (first_if_named last) (customer_stands ts u m k e)

  -- what a walk lends is the row of the moment, where it stands
  pub first_stands : (k : CustomerKey) (x : Customer) (last : List ℕ)
      → row_at (version ts u m) (key.Customer k) ≡ row_at (rows ts) (key.Customer k) → get now k ≡ Some x
      → first_if_named last (Some x) ≡ first_if_named last (get past k)
  first_stands k x last e stands = ap (first_if_named last) (sym (customer_stands ts u m k e ∙ stands))

  customers_last : Stand ts u → (k : CustomerKey) → is_some (get past k) ≡ is_some (get now k)
  customers_last stand k =
      sym (some-map row.Customer (get past k)) ∙ rows_last (store_with (rows ts) u stand.0) m (key.Customer k) stand.1
      ∙ some-map row.Customer (get now k)

  module _ (h : DistrictKey) (last : List ℕ) where
    abbrev pub IsSame : CustomerKey → Type 0
    IsSame k = first_if_named last (get past k) ≡ first_if_named last (get now k)

    -- customers of the district with lower numbers are as they were
    abbrev pub AreSame : ℕ → Type 0
    AreSame n = (c : ℕ) → 1 ≤ c → c < n → IsSame (customer_in h c)

    pub all_same : Stand ts u → AreNumbered (rows ts) → AreSame 3_001 → namesakes h last past ≡ namesakes h last now
    all_same stand numbered same =
        same_namesakes h last past now (customers_last stand) (λ k own. by k own (get now k) refl)
      where
        by : (k : CustomerKey) → district_of_customer k ≡ h → (v : Option Customer) → get now k ≡ v → IsSame k
        by k own None e = ap (first_if_named last) (both_absent (get past k) (get now k) (customers_last stand k) e)
        by k own (Some x) e =
            let range = numbered (key.Customer k) (some-map row.Customer (get now k) ∙ ap is_some e) in
            let high : k.customer < 3_001 = (let most : k.customer ≤ 3_000 = range.1 in omega (arith, most)) in
            let is : customer_in h k.customer ≡ k = ap (λ (d : DistrictKey). customer_in d k.customer) (sym own) in
            subst IsSame is (same k.customer range.0 high)

    abbrev pub all : List (List ℕ × ℕ)
    all = namesakes h last past

    -- C_FIRST and C_ID of those who had the last name, of customers that stand
    abbrev pub met : List Entry → List (List ℕ × ℕ)
    met es = filter_map (λ e. option_map (λ first. (first, e.0.customer)) (first_if_named last (get past e.0))) es

    abbrev group : List Entry
    group = entries_of district_cmp district_of_customer h now

    met_at : (es : List Entry) → EachOf (λ e. is_in h e.0 ≡ true) es
        → met es ≡ filter_map (take_name h last) (rows_at past es)
    met_at [] i = refl
    met_at (e ∷ es) i = by (get past e.0) (met_at es i.1)
      where
        own : is_in h e.0 ≡ true
        own = i.0

        by : (v : Option Customer) → met es ≡ filter_map (take_name h last) (rows_at past es)
            → cons_option (option_map (λ first. (first, e.0.customer)) (first_if_named last v)) (met es)
            ≡ filter_map (take_name h last) (cons_option (option_map (λ x. (e.0, x)) v) (rows_at past es))
        by None rest = rest
        by (Some x) rest = (λ i. cons_option (own_name h last e.0 x own i) (rest i))

    all_met : Stand ts u → met group ≡ all
    all_met stand =
        met_at group (each_of (λ e. (is_in h e.0 ≡ true) × (get now e.0 ≡ Some e.1)) (λ e. is_in h e.0 ≡ true)
        (λ e t. t.0) group (kept_at customer_total exact_customer now (is_in h)))
        ∙ ap (filter_map (take_name h last))
        (sym (kept_is past customer_total exact_customer now (is_in h) (λ q there.
        sym (customers_last stand q) ∙ there)) ∙ group_is h past)
        ∙ in_group h last (entries past)

    all_stand_at : EachOf (λ e. get now e.0 ≡ Some e.1) group
    all_stand_at =
        each_of (λ e. (is_in h e.0 ≡ true) × (get now e.0 ≡ Some e.1)) (λ e. get now e.0 ≡ Some e.1) (λ e t. t.1)
        group (kept_at customer_total exact_customer now (is_in h))

    taken : (e : Entry) (es : List Entry) (v : Option (List ℕ)) → first_if_named last (get past e.0) ≡ v
        → met (e ∷ es) ≡ cons_option (option_map (λ first. (first, e.0.customer)) v) (met es)
    taken e es v is = ap (λ z. cons_option (option_map (λ first. (first, e.0.customer)) z) (met es)) is

    -- those that a walk has counted, and those of them that pass a test, beside what is left of it
    pub record Counts (p : List ℕ × ℕ → Bool) (count passed : ℕ) (es : List Entry) : Type 0 where
      pub counted : count + length (met es) ≡ length all
      pub tested : passed + count_by p (met es) ≡ count_by p all
      pub stand : EachOf (λ e. get now e.0 ≡ Some e.1) es
      pub bound : ℕ
      pub few : count ≤ bound
      pub fewer : passed ≤ count
      pub most : bound ≤ 3_000
      pub climb : Climb (λ (k : CustomerKey). k.customer) bound es

    module _ (p : List ℕ × ℕ → Bool) where
      pub count_starts : Stand ts u → Counts p 0 0 group
      count_starts stand = record {
        counted = (let same : length (met group) ≡ length all = ap length (all_met stand) in omega (arith, same));
        tested = (let same : count_by p (met group) ≡ count_by p all = ap (count_by p) (all_met stand) in
            omega (arith, same));
        stand = all_stand_at;
        bound = 0;
        few = omega arith;
        fewer = omega arith;
        most = omega arith;
        climb = customers_climb h now;
      }

      pub count_passes : (n k : ℕ) (e : Entry) (es : List Entry) → Counts p n k (e ∷ es)
          → first_if_named last (get past e.0) ≡ None → 1 ≤ e.0.customer → e.0.customer ≤ 3_000 → Counts p n k es
      count_passes n k e es c none low high = record {
        counted = ap (λ xs. n + length xs) (sym (taken e es None none)) ∙ c.counted;
        tested = ap (λ xs. k + count_by p xs) (sym (taken e es None none)) ∙ c.tested;
        stand = c.stand.1;
        bound = e.0.customer;
        few = (let few : n ≤ c.bound = c.few in let next : c.bound ≤ e.0.customer - 1 = c.climb.0 in
            omega (arith, few, next));
        fewer = c.fewer;
        most = high;
        climb = c.climb.1;
      }

    abbrev pub in_middle : List ℕ × ℕ → Bool
    in_middle x = count_by (λ y. comes_before y x) all + 1 == (length all + 1) / 2

    -- the one in the middle is among those that a walk has left
    pub record Seeks (es : List Entry) : Type 0 where
      pub left : middle all ≡ option_map (λ x. x.1) (find in_middle (met es))
      pub stand : EachOf (λ e. get now e.0 ≡ Some e.1) es

    pub seek_starts : Stand ts u → Seeks group
    seek_starts stand = record {
      left = sym (ap (λ xs. option_map (λ x. x.1) (find in_middle xs)) (all_met stand));
      stand = all_stand_at;
    }
