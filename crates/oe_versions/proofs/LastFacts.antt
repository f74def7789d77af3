-- The last order of a customer at a moment is the last that a walk over the orders that stand finds there.
use Rattle.std.proofs.Common.{◌≡◌, ℕ, Bool, true, false, cond, Option, None, Some, List, [], ◌∷◌, refl, sym, ap, ◌∙◌}
use Rattle.std.specs.Prelude.{IsSome, is_some, filter, option_map}
use Rattle.std.specs.List.{cons_option}
use Rattle.std.specs.Ordering.{eq_by_cmp}
use Rattle.std.specs.FinMap.{FinMap, get, entries}
use Rattle.oe_rows.specs.Key.{customer_cmp, order_cmp}
use Rattle.oe_rows.specs.declared.keys.CustomerKey.{CustomerKey}
use Rattle.oe_rows.specs.declared.keys.OrderKey.{OrderKey}
use Rattle.oe_rows.specs.declared.keys.Key.TheVariants as key
use Rattle.oe_rows.proofs.KeyFacts.{order_total, exact_order}
use Rattle.oe_rows.specs.declared.orders.Order.{Order}
use Rattle.oe_rows.specs.declared.rows.Row.TheVariants as row
use Rattle.oe_model.specs.Keys.{district_of_customer, district_of_order, customer_in, order_in}
use Rattle.oe_model.specs.Queries.{orders_of, last_order}
use Rattle.oe_model.proofs.EntryFacts.{EachOf, entries_at}
use Rattle.oe_model.proofs.PresenceFacts.{some-map, mapped_absent}
use Rattle.oe_theory.proofs.Sets.{some_inj}
use Rattle.oe_store.specs.Places.{rows}
use Rattle.oe_store.specs.Places as tables
use Rattle.oe_log.specs.Log.{SegmentLog}
use Rattle.oe_log.specs.Moments.{store_with}
use Rattle.oe_versions.specs.Versions.{version, Stand}
use Rattle.oe_versions.proofs.LastingFacts.{order_is, rows_last}
use Rattle.oe_rows_of.proofs.ChosenFacts.{rows_at, rows_some, rows_none, all_is}
use Rattle.oe_rows_of.proofs.LastOrderFacts.{Entry, final, is_own, last_is, last_key}

-- the rows that stood at a list's keys
module _ (ts : tables.Places) (u : SegmentLog) (m : ℕ) (c : CustomerKey) where
  abbrev past : FinMap order_cmp Order
  past = (version ts u m).orders

  abbrev now : FinMap order_cmp Order
  now = (rows ts).orders

  -- what is left of a walk leads from the last of the customer's orders that was found so far to the last order
  pub record Walks (last : Option Entry) (es : List Entry) : Type 0 where
    pub rest : final last (rows_at past (filter (is_own c) es)) ≡ last_order c past

  -- an order has the customer that it has now
  same_customer : Stand ts u → (e : Entry) (x : Order) → get now e.0 ≡ Some e.1 → get past e.0 ≡ Some x
      → x.customer ≡ e.1.customer
  same_customer h e x stands at =
      let y = rows_last (store_with (rows ts) u h.0) m (key.Order e.0) h.1 x (ap (option_map row.Order) at) in
      let is : y.0 ≡ e.1 = order_is y.0 e.1 (sym y.1 ∙ ap (option_map row.Order) stands) in
      sym y.2 ∙ ap (λ (z : Order). z.customer) is

  there_now : Stand ts u → (q : OrderKey) (v : Option Order) → get past q ≡ v → IsSome v → IsSome (get now q)
  there_now h q None e i = let no : ⊥ = cc in absurd no
  there_now h q (Some x) e i =
      let y = rows_last (store_with (rows ts) u h.0) m (key.Order q) h.1 x (ap (option_map row.Order) e) in
      sym (some-map row.Order (get now q)) ∙ ap is_some y.1

  -- the customer's orders are those of the same keys
  same_own : Stand ts u → (es : List Entry) → EachOf (λ e. get now e.0 ≡ Some e.1) es
      → filter (is_own c) (rows_at past es) ≡ rows_at past (filter (is_own c) es)
  same_own h [] stand = refl
  same_own h (e ∷ es) stand = go (get past e.0) refl (is_own c e) refl (same_own h es stand.1)
    where
      go : (v : Option Order) → get past e.0 ≡ v → (b : Bool) → is_own c e ≡ b
          → filter (is_own c) (rows_at past es) ≡ rows_at past (filter (is_own c) es)
          → filter (is_own c) (cons_option (option_map (λ x. (e.0, x)) v) (rows_at past es)) ≡ rows_at past
          (cond b (e ∷ filter (is_own c) es) (filter (is_own c) es))
      go None at true t rest = rest ∙ sym (rows_none past e (filter (is_own c) es) at)
      go None at false t rest = rest
      go (Some x) at b t rest =
          let owner : is_own c (e.0, x) ≡ b =
          ap (λ n. eq_by_cmp customer_cmp (customer_in (district_of_order e.0) n) c) (same_customer h e x stand.0 at)
          ∙ t
          in
          ap (λ z. cond z ((e.0, x) ∷ filter (is_own c) (rows_at past es)) (filter (is_own c) (rows_at past es))) owner
          ∙ by b rest
        where
          by : (z : Bool) → filter (is_own c) (rows_at past es) ≡ rows_at past (filter (is_own c) es)
              → cond z ((e.0, x) ∷ filter (is_own c) (rows_at past es)) (filter (is_own c) (rows_at past es)) ≡ rows_at
              past (cond z (e ∷ filter (is_own c) es) (filter (is_own c) es))
          by true same = ap (λ zs. (e.0, x) ∷ zs) same ∙ sym (rows_some past e (filter (is_own c) es) x at)
          by false same = same

  pub begins : Stand ts u → (es : List Entry) → filter (is_own c) es ≡ orders_of c now → Walks None es
  begins h es all = record {
    rest =
        ap (λ xs. final None (rows_at past xs)) all
        ∙ ap (final None) (sym (same_own h (entries now) (entries_at order_total now)))
        ∙ ap (λ xs. final None (filter (is_own c) xs))
        (sym (all_is past order_total exact_order now (λ q there. there_now h q (get past q) refl there)))
        ∙ sym (last_is c past);
  }

  taken : (last : Option Entry) (e : Entry) (es : List Entry) → is_own c e ≡ true → Walks last (e ∷ es)
      → final last (rows_at past (e ∷ filter (is_own c) es)) ≡ last_order c past
  taken last e es own w =
      sym (ap (λ b. final last (rows_at past (cond b (e ∷ filter (is_own c) es) (filter (is_own c) es)))) own) ∙ w.rest

  pub misses : (last : Option Entry) (e : Entry) (es : List Entry) → is_own c e ≡ true → Walks last (e ∷ es)
      → get past e.0 ≡ None → Walks last es
  misses last e es own w none =
      record { rest = sym (ap (final last) (rows_none past e (filter (is_own c) es) none)) ∙ taken last e es own w }

  pub finds : (last : Option Entry) (e : Entry) (es : List Entry) (x : Order) → is_own c e ≡ true → Walks last (e ∷ es)
      → get past e.0 ≡ Some x → Walks (Some (e.0, x)) es
  finds last e es x own w at =
      record { rest = sym (ap (final last) (rows_some past e (filter (is_own c) es) x at)) ∙ taken last e es own w }

  pub passes : (last : Option Entry) (e : Entry) (es : List Entry) → is_own c e ≡ false → Walks last (e ∷ es)
      → Walks last es
  passes last e es other w =
      record {
        rest = sym (ap
            (λ b. final last (rows_at past (cond b (e ∷ filter (is_own c) es) (filter (is_own c) es)))) other) ∙ w.rest;
      }

  some_ends : (x : Entry) (es : List Entry) → final (Some x) es ≡ None → ⊥
  some_ends x [] e = cc
  some_ends x (y ∷ es) e = some_ends y es e

  none_before : (es : List Entry) → final None es ≡ None → final None (rows_at past es) ≡ None
  none_before [] e = refl
  none_before (x ∷ es) e = absurd (some_ends x es e)

  -- what was the last one stays it, where it was there at the moment
  stays_last : (before before' : Option Entry) (es : List Entry) (e : Entry) (y : Order) → get past e.0 ≡ Some y
      → (before ≡ Some e → before' ≡ Some (e.0, y)) → final before es ≡ Some e
      → final before' (rows_at past es) ≡ Some (e.0, y)
  stays_last before before' [] e y at same is = same is
  stays_last before before' (f ∷ es) e y at same is =
      go (get past f.0) refl (λ b s. stays_last (Some f) b es e y at s is)
    where
      go : (v : Option Order) → get past f.0 ≡ v
          → ((b : Option Entry) → (Some f ≡ Some e → b ≡ Some (e.0, y)) → final b (rows_at past es) ≡ Some (e.0, y))
          → final before' (cons_option (option_map (λ x. (f.0, x)) v) (rows_at past es)) ≡ Some (e.0, y)
      go None none rest =
          rest before' (λ h.
          let there : ◌≡◌ {A = Option Order} None (Some y) =
          sym none ∙ ap (λ (g : Entry). get past g.0) (some_inj f e h) ∙ at in
          let no : ⊥ = cc in absurd no)
      go (Some x) some rest =
          rest (Some (f.0, x)) (λ h.
          let k : f ≡ e = some_inj f e h in
          let z : x ≡ y = some_inj x y (sym some ∙ ap (λ (g : Entry). get past g.0) k ∙ at) in
          λ i. Some ((k i).0, z i))

  all_read : Stand ts u → final None (rows_at past (orders_of c now)) ≡ last_order c past
  all_read h = (begins h (entries now) refl).rest

  -- a customer who has no order had none
  pub never_ordered : (n : Option ℕ) → Stand ts u → n ≡ option_map (λ (e : Entry). e.0.order) (last_order c now)
      → n ≡ None → None ≡ last_order c past
  never_ordered n h is none =
      let no_last : last_order c now ≡ None =
      mapped_absent (λ (e : Entry). e.0.order) (last_order c now) (sym is ∙ none) in
      sym (none_before (orders_of c now) (sym (last_is c now) ∙ no_last)) ∙ all_read h

  -- the last order that stands was the last, where it was there
  pub stood_last : (n : ℕ) (k : OrderKey) (y : Order) → Stand ts u
      → Some n ≡ option_map (λ (e : Entry). e.0.order) (last_order c now) → k ≡ order_in (district_of_customer c) n
      → get past k ≡ Some y → Some (k, y) ≡ last_order c past
  stood_last n k y h is at there = go (last_order c now) refl is
    where
      go : (v : Option Entry) → last_order c now ≡ v → Some n ≡ option_map (λ (e : Entry). e.0.order) v
          → Some (k, y) ≡ last_order c past
      go None none e = let no : ⊥ = cc in absurd no
      go (Some e) last number =
          let own : e.0 ≡ k = last_key c now e last
          ∙ ap (order_in (district_of_customer c)) (sym (some_inj n e.0.order number)) ∙ sym at in
          sym (ap (λ z. Some (z, y)) own)
          ∙ sym (stays_last None None (orders_of c now) e y (ap (get past) own ∙ there)
          (λ h. let no : ⊥ = cc in absurd no) (sym (last_is c now) ∙ last)) ∙ all_read h
