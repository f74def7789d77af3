-- A walk along a customer's later records tells a last name of a list exactly where one of the log's does.
use Rattle.std.proofs.Common.{◌≡◌, ℕ, zero, suc, ◌-◌, ◌<◌, ◌≤◌, Bool, true, false, cond, refl, sym, ap, ◌∙◌, subst}
use Rattle.std.proofs.Common.{inl, inr, arith, List, [], ◌∷◌, ◌++◌, length, map, take, Option, Some, None, rules}
use Rattle.std.specs.Prelude.{◌↔◌, ◌⊎◌, ◌==◌, nat_lt, option_map}
use Rattle.std.specs.Option.{IsSomeAnd}
use Rattle.std.proofs.lemmas.Bool.{true≢false, cases_lt}
use Rattle.std.proofs.lemmas.List.{get_or_past}
use Rattle.oe_rows.specs.declared.keys.CustomerKey.{CustomerKey}
use Rattle.oe_rows.specs.declared.keys.Key.TheVariants as key
use Rattle.oe_theory.specs.Store.{all_below}
use Rattle.oe_model.specs.Keys.{district_of_customer}
use Rattle.oe_model.specs.Rows.{is_key}
use Rattle.oe_model.specs.Changes.{Record, record_key, InsertedHistory, InsertedNewOrder, InsertedOrder}
use Rattle.oe_model.specs.Changes.{InsertedOrderLine, UpdatedWarehouse, UpdatedDistrict, UpdatedCustomer, UpdatedOrder}
use Rattle.oe_model.specs.Changes.{UpdatedOrderLine, UpdatedStock, DeletedNewOrder, ChangedWarehouse, ChangedDistrict}
use Rattle.oe_model.specs.Changes.{ChangedCustomer, ChangedOrder, ChangedOrderLine, ChangedStock}
use Rattle.oe_model.specs.System.{system, terminal_limit}
use Rattle.oe_model.proofs.RowFacts.{key_true, key_refl}
use Rattle.oe_index.specs.Numbers.{name_number, number_in, list_number}
use Rattle.oe_layout.specs.Stored.{last_before}
use Rattle.oe_log.specs.Records.{Logged}
use Rattle.oe_log.specs.Log.{SegmentLog, Committed, idle, records_in, records_at, total_count}
use Rattle.oe_log.specs.Stands.{model_records, undo_of}
use Rattle.oe_undo.specs.declared.holders.Holder.{Holder}
use Rattle.oe_undo.specs.declared.holders.Holder.TheVariants.{Open, At}
use Rattle.oe_undo.specs.Held.{Held, held_by, held_open, held_commits, all_held, of_key, horizon, is_later}
use Rattle.oe_undo.specs.Laws.{IsWhole}
use Rattle.oe_undo.specs.Restored.{later_of}
use Rattle.oe_journal.specs.Forgetting.{is_in_list, tells_name, one_tells, IsUntold}
use Rattle.oe_journal.specs.ExactNames.{Tells, TellsAmong, TellsIn, IsTold, IsToldAfter}

-- ---- a record's name is its customer's

last_key : (b : Record) → IsSomeAnd (last_before b) (λ x. record_key b ≡ key.Customer x.0) ⊎ (last_before b ≡ None)
last_key (InsertedHistory k v) = inr refl
last_key (InsertedNewOrder k v) = inr refl
last_key (InsertedOrder k v) = inr refl
last_key (InsertedOrderLine k v) = inr refl
last_key (UpdatedWarehouse k v) = inr refl
last_key (UpdatedDistrict k v) = inr refl
last_key (UpdatedCustomer k None) = inr refl
last_key (UpdatedCustomer k (Some x)) = inl refl
last_key (UpdatedOrder k v) = inr refl
last_key (UpdatedOrderLine k v) = inr refl
last_key (UpdatedStock k v) = inr refl
last_key (DeletedNewOrder k v) = inr refl
last_key (ChangedWarehouse k v) = inr refl
last_key (ChangedDistrict k v) = inr refl
last_key (ChangedCustomer k None) = inr refl
last_key (ChangedCustomer k (Some x)) = go x.name.last
  where
    go : (o : Option (List ℕ))
        → IsSomeAnd (option_map {U = CustomerKey × List ℕ} (λ last. (k, last)) o)
        (λ y. key.Customer k ≡ key.Customer y.0)
        ⊎ (option_map {U = CustomerKey × List ℕ} (λ last. (k, last)) o ≡ None)
    go None = inr refl
    go (Some last) = inl refl
last_key (ChangedOrder k v) = inr refl
last_key (ChangedOrderLine k v) = inr refl
last_key (ChangedStock k v) = inr refl

customer_inj : (j k : CustomerKey) → key.Customer j ≡ key.Customer k → j ≡ k
customer_inj j k e = cc

same_number : (a b : ℕ) → a ≡ b → (a == b) ≡ true
same_number a b e = search rules

number_same : (a b : ℕ) → (a == b) ≡ true → a ≡ b
number_same a b t = search rules

module _ (k : CustomerKey) (last : List ℕ) where
  abbrev number : ℕ
  number = list_number (district_of_customer k) last

  -- of the customer's records
  tells_it : (b : Record) → Tells number k b → (is_key (key.Customer k) (record_key b) ≡ true)
      × (tells_name (name_number last) b ≡ true)
  tells_it b told = go (last_before b) refl told (last_key b)
    where
      go : (o : Option (CustomerKey × List ℕ)) → last_before b ≡ o
          → IsSomeAnd o (λ x. (number ≡ list_number (district_of_customer x.0) x.1) × (k ≡ x.0))
          → IsSomeAnd o (λ x. record_key b ≡ key.Customer x.0) ⊎ (o ≡ None)
          → (is_key (key.Customer k) (record_key b) ≡ true) × (is_in_list (name_number last) (last_before b) ≡ true)
      go None at told own = absurd told
      go (Some x) at told (inr never) = cc
      go (Some x) at told (inl own) =
          let same : number_in (district_of_customer k) (name_number last)
          ≡ number_in (district_of_customer k) (name_number x.1) =
          told.0 ∙ ap (λ j. list_number (district_of_customer j) x.1) (sym told.1) in
          let numbers : name_number x.1 ≡ name_number last = omega (arith, same) in (
            ap (is_key (key.Customer k)) (own ∙ ap key.Customer (sym told.1)) ∙ key_refl (key.Customer k),
            ap (is_in_list (name_number last)) at ∙ same_number (name_number x.1) (name_number last) numbers,
          )

  it_tells : (b : Record) → is_key (key.Customer k) (record_key b) ≡ true → tells_name (name_number last) b ≡ true
      → Tells number k b
  it_tells b own told = go (last_before b) refl (last_key b) (told)
    where
      go : (o : Option (CustomerKey × List ℕ)) → last_before b ≡ o
          → IsSomeAnd o (λ x. record_key b ≡ key.Customer x.0) ⊎ (o ≡ None)
          → is_in_list (name_number last) o ≡ true
          → IsSomeAnd o (λ x. (number ≡ list_number (district_of_customer x.0) x.1) × (k ≡ x.0))
      go None at is t = absurd (true≢false (sym t))
      go (Some x) at (inr never) t = cc
      go (Some x) at (inl is) t =
          let mine : k ≡ x.0 = customer_inj k x.0 (key_true (key.Customer k) (record_key b) own ∙ is) in (
            ap (λ i. number_in (district_of_customer k) i) (sym (number_same (name_number x.1) (name_number last) t))
                ∙ ap (λ j. list_number (district_of_customer j) x.1) mine,
            mine,
          )

-- one of these is of a later holder and tells it
abbrev LaterTells : ℕ → ℕ → CustomerKey → List Held → Type 0
LaterTells m n k [] = ⊥
LaterTells m n k (r ∷ rs) = ((is_later m r.holder ≡ true) × Tells n k r.logged.before) ⊎ LaterTells m n k rs

or_true : (b c : Bool) → c ≡ true → cond b true c ≡ true
or_true true c e = refl
or_true false c e = e

module _ (name : ℕ) where
  one_more : (later : Bool) (b : Record) (bs : List Record) → one_tells name bs ≡ true
      → one_tells name (cond later (b ∷ bs) bs) ≡ true
  one_more true b bs e = or_true (tells_name name b) (one_tells name bs) e
  one_more false b bs e = e

  own_more : (m : ℕ) (own : Bool) (r : Held) (rs : List Held) → one_tells name (later_of m rs) ≡ true
      → one_tells name (later_of m (cond own (r ∷ rs) rs)) ≡ true
  own_more m true r rs e = one_more (is_later m r.holder) r.logged.before (later_of m rs) e
  own_more m false r rs e = e

  -- which of them tells it
  this_or_later : (later : Bool) (b : Record) (bs : List Record) → one_tells name (cond later (b ∷ bs) bs) ≡ true
      → ((later ≡ true) × (tells_name name b ≡ true)) ⊎ (one_tells name bs ≡ true)
  this_or_later false b bs e = inr e
  this_or_later true b bs e = go (tells_name name b) refl
    where
      go : (t : Bool) → tells_name name b ≡ t
          → ((true ≡ true) × (tells_name name b ≡ true)) ⊎ (one_tells name bs ≡ true)
      go true is = inl (refl, is)
      go false is = inr (sym (ap (λ (t : Bool). cond t true (one_tells name bs)) is) ∙ e)

  this_or_others : (m : ℕ) (own : Bool) (r : Held) (rs : List Held)
      → one_tells name (later_of m (cond own (r ∷ rs) rs)) ≡ true
      → ((own ≡ true) × (is_later m r.holder ≡ true) × (tells_name name r.logged.before ≡ true))
      ⊎ (one_tells name (later_of m rs) ≡ true)
  this_or_others m false r rs e = inr e
  this_or_others m true r rs e =
      elim (this_or_later (is_later m r.holder) r.logged.before (later_of m rs) e)
      [ inl h ↦ inl (refl, h.0, h.1) | inr h ↦ inr h ]

module _ (m : ℕ) (k : CustomerKey) (last : List ℕ) where
  abbrev own_of : List Held → List Held
  own_of rs = of_key (key.Customer k) rs

  walk_tells : (rs : List Held) → LaterTells m (number k last) k rs
      → one_tells (name_number last) (later_of m (own_of rs)) ≡ true
  walk_tells [] told = absurd told
  walk_tells (r ∷ rs) (inl told) =
      let t = tells_it k last r.logged.before told.1 in
      ap (λ (b : Bool). one_tells (name_number last) (later_of m (cond b (r ∷ own_of rs) (own_of rs)))) t.0
      ∙ ap (λ (b : Bool). one_tells (name_number last) (cond b (r.logged.before ∷ later_of m (own_of rs))
      (later_of m (own_of rs)))) told.0
      ∙ ap (λ (b : Bool). cond b true (one_tells (name_number last) (later_of m (own_of rs)))) t.1
  walk_tells (r ∷ rs) (inr told) =
      own_more (name_number last) m (is_key (key.Customer k) (record_key r.logged.before)) r (own_of rs)
      (walk_tells rs told)

  told_by : (rs : List Held) → one_tells (name_number last) (later_of m (own_of rs)) ≡ true
      → LaterTells m (number k last) k rs
  told_by [] e = absurd (true≢false (sym e))
  told_by (r ∷ rs) e =
      let own = is_key (key.Customer k) (record_key r.logged.before) in
      elim (this_or_others (name_number last) m own r (own_of rs) e) [
        | inl h ↦ inl (h.1, it_tells k last r.logged.before h.0 h.2)
        | inr h ↦ inr (told_by rs h)
      ]

-- ---- of which segment it is

module _ (m n : ℕ) (k : CustomerKey) where
  either_part : (xs ys : List Held) → LaterTells m n k (xs ++ ys) → LaterTells m n k xs ⊎ LaterTells m n k ys
  either_part [] ys h = inr h
  either_part (x ∷ xs) ys (inl h) = inl (inl h)
  either_part (x ∷ xs) ys (inr h) = elim (either_part xs ys h) [ inl g ↦ inl (inr g) | inr g ↦ inr g ]

  first_part : (xs ys : List Held) → LaterTells m n k xs → LaterTells m n k (xs ++ ys)
  first_part [] ys h = absurd h
  first_part (x ∷ xs) ys (inl h) = inl h
  first_part (x ∷ xs) ys (inr h) = inr (first_part xs ys h)

  last_part : (xs ys : List Held) → LaterTells m n k ys → LaterTells m n k (xs ++ ys)
  last_part [] ys h = h
  last_part (x ∷ xs) ys h = inr (last_part xs ys h)

  -- in one segment
  among : (h : Holder) (rs : List Logged) → LaterTells m n k (held_by h rs)
      → (is_later m h ≡ true) × TellsAmong n k (model_records rs)
  among h [] told = absurd told
  among h (r ∷ rs) (inl told) = (told.0, inl told.1)
  among h (r ∷ rs) (inr told) = let rest = among h rs told in (rest.0, inr rest.1)

  one_among : (h : Holder) (rs : List Logged) → is_later m h ≡ true → TellsAmong n k (model_records rs)
      → LaterTells m n k (held_by h rs)
  one_among h [] later told = absurd told
  one_among h (r ∷ rs) later (inl told) = inl (later, told)
  one_among h (r ∷ rs) later (inr told) = inr (one_among h rs later told)

  -- in open segments
  in_open : (f : ℕ → List Logged) (c : ℕ) → LaterTells m n k (held_open f (all_below system c))
      → (t : ℕ) × TellsAmong n k (model_records (f t))
  in_open f zero told = absurd told
  in_open f (suc c) told =
      elim (either_part (held_by (Open c) (f c)) (held_open f (all_below system c)) told) [
        | inl h ↦ (c, (among (Open c) (f c) h).1)
        | inr h ↦ in_open f c h
      ]

  open_in : (f : ℕ → List Logged) (c t : ℕ) → t < c → TellsAmong n k (model_records (f t))
      → LaterTells m n k (held_open f (all_below system c))
  open_in f zero t within told = let no : ⊥ = omega arith in absurd no
  open_in f (suc c) t within told =
      elim (cases_lt t c) [
        | inl less ↦ last_part (held_by (Open c) (f c)) (held_open f (all_below system c)) (open_in f c t less told)
        | inr past ↦
            let same : t ≡ c = omega arith in
            first_part (held_by (Open c) (f c)) (held_open f (all_below system c))
            (one_among (Open c) (f c) refl (subst (λ x. TellsAmong n k (model_records (f x))) same told))
      ]

  -- in commits
  abbrev commits_of : List Committed → List (List Record)
  commits_of cs = map (λ (c : Committed). model_records c.records) cs

  none_later : (i : ℕ) (cs : List Committed) → i ≤ m → LaterTells m n k (held_commits i cs) → ⊥
  none_later i [] past told = told
  none_later i (c ∷ cs) past told =
      elim (either_part (held_by (At i) c.records) (held_commits (i - 1) cs) told) [
        | inl h ↦ not_later (among (At i) c.records h).0
        | inr h ↦ none_later (i - 1) cs (omega arith) h
      ]
    where
      not_later : nat_lt m i ≡ true → ⊥
      not_later e = let less : m < i = search rules in omega arith

  in_commits : (i : ℕ) (cs : List Committed) → LaterTells m n k (held_commits i cs)
      → TellsIn n k (take (i - m) (commits_of cs))
  in_commits i [] told = absurd told
  in_commits i (c ∷ cs) told =
      elim (cases_lt m i) [
        | inl less ↦
            let more : suc (i - 1 - m) ≡ i - m = omega arith in
            subst (λ x. TellsIn n k (take x (commits_of (c ∷ cs)))) more
            (elim (either_part (held_by (At i) c.records) (held_commits (i - 1) cs) told) [
              | inl h ↦ inl (among (At i) c.records h).1
              | inr h ↦ inr (in_commits (i - 1) cs h)
            ])
        | inr past ↦ absurd (none_later i (c ∷ cs) past told)
      ]

  commits_in : (i : ℕ) (cs : List Committed) → TellsIn n k (take (i - m) (commits_of cs))
      → LaterTells m n k (held_commits i cs)
  commits_in i [] told = elim (cases_lt m i) [ inl less ↦ none_of (i - m) told | inr past ↦ none_of (i - m) told ]
    where
      none_of : (x : ℕ) → TellsIn n k (take x []) → LaterTells m n k (held_commits i [])
      none_of zero h = absurd h
      none_of (suc x) h = absurd h
  commits_in i (c ∷ cs) told =
      elim (cases_lt m i) [
        | inl less ↦
            let more : i - m ≡ suc (i - 1 - m) = omega arith in
            let later : nat_lt m i ≡ true = search rules in
            elim (subst (λ x. TellsIn n k (take x (commits_of (c ∷ cs)))) more told) [
              | inl h ↦ first_part (held_by (At i) c.records) (held_commits (i - 1) cs)
                  (one_among (At i) c.records later h)
              | inr h ↦ last_part (held_by (At i) c.records) (held_commits (i - 1) cs) (commits_in (i - 1) cs h)
            ]
        | inr past ↦
            let none : i - m ≡ 0 = omega arith in
            absurd (subst (λ x. TellsIn n k (take x (commits_of (c ∷ cs)))) none told)
      ]

-- ---- of a log

module _ (u : SegmentLog) (m : ℕ) (k : CustomerKey) (last : List ℕ) where
  pub told_after : (IsUntold u m k last → ⊥) → IsToldAfter u m (number k last) k
  told_after told = go (one_tells (name_number last) (later_of m (of_key (key.Customer k) (all_held u)))) refl
    where
      found : LaterTells m (number k last) k (all_held u) → IsToldAfter u m (number k last) k
      found h =
          elim (either_part m (number k last) k (held_open (records_at u) (all_below system terminal_limit))
          (held_commits (total_count u) u.committed) h) [
            | inl g ↦ inl (in_open m (number k last) k (records_at u) terminal_limit g)
            | inr g ↦ inr (in_commits m (number k last) k (total_count u) u.committed g)
          ]

      go : (b : Bool) → one_tells (name_number last) (later_of m (of_key (key.Customer k) (all_held u))) ≡ b
          → IsToldAfter u m (number k last) k
      go true e = found (told_by m k last (all_held u) e)
      go false e = absurd (told e)

  pub told_or_not : IsUntold u m k last ⊎ (IsUntold u m k last → ⊥)
  told_or_not = go (one_tells (name_number last) (later_of m (of_key (key.Customer k) (all_held u)))) refl
    where
      go : (b : Bool) → one_tells (name_number last) (later_of m (of_key (key.Customer k) (all_held u))) ≡ b
          → IsUntold u m k last ⊎ (IsUntold u m k last → ⊥)
      go false e = inl e
      go true e = inr (λ none. true≢false (sym e ∙ none))

  pub untold_after : length u.terminals ≡ terminal_limit → IsUntold u m k last → IsToldAfter u m (number k last) k → ⊥
  untold_after size none told = true≢false (sym (walk_tells m k last (all_held u) (there told)) ∙ none)
    where
      opens : (t : ℕ) → TellsAmong (number k last) k (model_records (records_at u t))
          → LaterTells m (number k last) k (held_open (records_at u) (all_below system terminal_limit))
      opens t h = elim (cases_lt t (length u.terminals)) [
        | inl within ↦ open_in m (number k last) k (records_at u) terminal_limit t
            (subst (λ (c : ℕ). t < c) size within) h
        | inr past ↦
            absurd (subst (λ z. TellsAmong (number k last) k (model_records (records_in z.active)))
            (get_or_past u.terminals t idle past) h)
      ]

      there : IsToldAfter u m (number k last) k → LaterTells m (number k last) k (all_held u)
      there (inl h) =
          first_part m (number k last) k (held_open (records_at u) (all_below system terminal_limit))
          (held_commits (total_count u) u.committed) (opens h.0 h.1)
      there (inr h) =
          last_part m (number k last) k (held_open (records_at u) (all_below system terminal_limit))
          (held_commits (total_count u) u.committed)
          (commits_in m (number k last) k (total_count u) u.committed h)

-- after the horizon all commits come
pub all_after : (u : SegmentLog) (n : ℕ) (k : CustomerKey) → IsWhole u
    → IsToldAfter u (horizon u) n k ↔ IsTold (undo_of u) n k
all_after u n k whole =
    let enough = whole.commits in
    let count : total_count u - horizon u ≡ length u.committed = omega arith in
    let all : take (total_count u - horizon u) (undo_of u).history ≡ (undo_of u).history =
    ap (λ x. take x (undo_of u).history) count ∙ every u.committed in (
      (λ h. elim h [ inl g ↦ inl g | inr g ↦ inr (subst (TellsIn n k) all g) ]),
      (λ h. elim h [ inl g ↦ inl g | inr g ↦ inr (subst (TellsIn n k) (sym all) g) ]),
    )
  where
    every : (cs : List Committed)
        → take (length cs) (map (λ (c : Committed). model_records c.records) cs)
        ≡ map (λ (c : Committed). model_records c.records) cs
    every [] = refl
    every (c ∷ cs) = ap (λ z. model_records c.records ∷ z) (every cs)
