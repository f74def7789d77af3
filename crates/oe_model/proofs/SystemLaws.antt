-- The machine's laws, put together.
use Rattle.std.proofs.Common.{◌≡◌, ℕ, suc, ◌<◌, ◌≤◌, arith, refl, ap, subst, Bool, true, false, cond, List, []}
use Rattle.std.proofs.Common.{◌∷◌, map}
use Rattle.std.proofs.Common.{Option, Some, None}
use Rattle.std.specs.Prelude.{IsSome, is_some, nat_le}
use Rattle.std.specs.Ordering.{nat_cmp}
use Rattle.std.specs.Cmp.Lexicographic.{slice_cmp, nat_list_cmp_total}
use Rattle.std.specs.FinMap.{FinMap, IsAntisymmetric, get, nat_cmp-IsAntisymmetric, slice_cmp-IsAntisymmetric}
use Rattle.std.proofs.lemmas.Bool.{and_parts, and_from}
use Rattle.oe_theory.specs.Machine.{Go, Tx}
use Rattle.oe_theory.specs.World.{State, bump, overlay, add}
use Rattle.oe_theory.specs.Laws.{Laws, Holds, with_asked, Alike, IsGood, Alone, at_start, one_more, after}
use Rattle.oe_rows.specs.Key.{item_cmp}
use Rattle.oe_rows.specs.declared.keys.DistrictKey.{DistrictKey}
use Rattle.oe_rows.specs.declared.keys.HistoryKey.{HistoryKey}
use Rattle.oe_rows.specs.declared.histories.History.{History}
use Rattle.oe_rows.specs.declared.items.Item.{Item}
use Rattle.oe_rows.specs.declared.locks.Name.{Name}
use Rattle.oe_rows.specs.declared.locks.Name.TheVariants as name
use Rattle.oe_requests.specs.declared.requests.Request.{Request}
use Rattle.oe_requests.specs.declared.requests.Request.TheVariants as request
use Rattle.oe_requests.specs.declared.requests.RequestLine.{RequestLine}
use Rattle.oe_requests.specs.declared.replies.Reply.{Reply}
use Rattle.oe_rows.proofs.KeyFacts.{warehouse_total, exact_warehouse, district_total, exact_district, customer_total}
use Rattle.oe_rows.proofs.KeyFacts.{exact_customer, order_total, exact_order, stock_total, exact_stock}
use Rattle.oe_model.specs.Rows.{Rows}
use Rattle.oe_model.specs.Changes.{Change}
use Rattle.oe_model.specs.Meets.{Meets}
use Rattle.oe_model.specs.Locks.{is_name}
use Rattle.oe_model.specs.Positions.{Position, InPayment, InNewOrder, InDelivery, InDeliveries, DeliveriesEnd}
use Rattle.oe_model.specs.Positions.{InRename}
use Rattle.oe_model.specs.Payment.{history_key}
use Rattle.oe_model.specs.NewOrder.{stock_of, item_at}
use Rattle.oe_model.specs.Delivery.{alone}
use Rattle.oe_model.specs.Deliveries.{at_hand, among_ten}
use Rattle.oe_model.specs.Requests.{IsDistrict, IsRequest, MayRefuse, rejection, warehouses_of, warehouse_no}
use Rattle.oe_model.specs.Conditions.{Good, IsPopulation, IsStocked}
use Rattle.oe_model.specs.System.{system, start_of, ask, act, locks_before, effect_of}
use Rattle.oe_model.specs.Headline.{IsReadyFor, Programs_end}
use Rattle.oe_model.proofs.MapFacts.{is_self, is_same}
use Rattle.oe_model.proofs.EntryFacts.{EachOf}
use Rattle.oe_model.proofs.RowFacts.{key_true, key_refl, at_changed, in_layout_key, in_layout_before}
use Rattle.oe_model.proofs.RowFacts.{at_put_back, in_layout_redoes, same_rows}
use Rattle.oe_model.proofs.ChangeFacts.{accepted_meets}
use Rattle.oe_model.proofs.StepFacts.{EndsSo}
use Rattle.oe_model.proofs.LawFacts.{IsAskedNow, HeldThen, IsLawful, accepts_alike, rejection_same}
use Rattle.oe_model.proofs.LawFacts.{Recalls, query_rejection_same, all_there}
use Rattle.oe_model.proofs.RenameFacts.{rename_ends, rename_good}
use Rattle.oe_model.proofs.RenameLaws.{rename_ask_same, rename_act_same, rename_lawful}
use Rattle.oe_model.proofs.PaymentFacts.{payment_ends}
use Rattle.oe_model.proofs.PaymentLaws.{payment_ask_same, payment_act_same, payment_lawful}
use Rattle.oe_model.proofs.PaymentGood.{payment_good}
use Rattle.oe_model.proofs.NewOrderFacts.{HasStock, new_order_ends}
use Rattle.oe_model.proofs.NewOrderLaws.{new_order_ask_same, new_order_act_same, new_order_lawful}
use Rattle.oe_model.proofs.NewOrderGood.{is_fresh, new_order_good}
use Rattle.oe_model.proofs.DeliveryFacts.{delivery_ends}
use Rattle.oe_model.proofs.DeliveryLaws.{delivery_ask_same, district_act_same, alone_takes, among_takes}
use Rattle.oe_model.proofs.DeliveryLaws.{district_lawful}
use Rattle.oe_model.proofs.DeliveryGood.{delivery_good}
use Rattle.oe_model.proofs.DeliveriesFacts.{deliveries_end, deliveries_good}
use Rattle.oe_model.proofs.KeptFacts.{ends_kept, accepted_stocked}

exact_text : IsAntisymmetric (slice_cmp nat_cmp)
exact_text = slice_cmp-IsAntisymmetric nat_cmp-IsAntisymmetric

pub name_refl : (a : Name) → is_name a a ≡ true
name_refl (name.Warehouse a) = is_self warehouse_total exact_warehouse a
name_refl (name.District a) = is_self district_total exact_district a
name_refl (name.Customer a) = is_self customer_total exact_customer a
name_refl (name.Order a) = is_self order_total exact_order a
name_refl (name.Queue a) = is_self district_total exact_district a
name_refl (name.Stock a) = is_self stock_total exact_stock a
name_refl (name.Names a x) =
    and_from _ _ (is_self district_total exact_district a) (is_self nat_list_cmp_total exact_text x)

pub name_true : (a b : Name) → is_name a b ≡ true → a ≡ b
name_true (name.Warehouse a) (name.Warehouse b) e = ap name.Warehouse (is_same warehouse_total exact_warehouse a b e)
name_true (name.District a) (name.District b) e = ap name.District (is_same district_total exact_district a b e)
name_true (name.Customer a) (name.Customer b) e = ap name.Customer (is_same customer_total exact_customer a b e)
name_true (name.Order a) (name.Order b) e = ap name.Order (is_same order_total exact_order a b e)
name_true (name.Queue a) (name.Queue b) e = ap name.Queue (is_same district_total exact_district a b e)
name_true (name.Stock a) (name.Stock b) e = ap name.Stock (is_same stock_total exact_stock a b e)
name_true (name.Names a x) (name.Names b y) e =
    let p = and_parts _ _ e in
    λ i. name.Names (is_same district_total exact_district a b p.0 i) (is_same nat_list_cmp_total exact_text x y p.1 i)
name_true _ _ e = cc

-- an item that is found is there
item_there : (n : ℕ) (items : FinMap item_cmp Item) (x : Item) → item_at n items ≡ Some x
    → IsSome (get items (record { item = n }))
item_there n items x e = by_test (nat_le n 100000) e
  where
    by_test : (b : Bool) → cond b (get items (record { item = n })) None ≡ Some x
        → IsSome (get items (record { item = n }))
    by_test true e = ap is_some e
    by_test false e = let no : ⊥ = cc in absurd no

have_stock : (r : Rows) → IsStocked r → (ls : List RequestLine)
    → EachOf (λ w. IsSome (get r.warehouses (warehouse_no w))) (map (λ l. l.supply) ls) → EachOf (HasStock r) ls
have_stock r s [] h = tt
have_stock r s (l ∷ ls) h = ((λ item e. s (stock_of l) h.0 (item_there l.item r.items item e)), have_stock r s ls h.1)

-- the district of a request is there
district_there : (r : Rows) → Meets r → (h : DistrictKey) → IsSome (get r.warehouses (warehouse_no h.warehouse))
    → IsDistrict h → IsSome (get r.districts h)
district_there r m h w d = m.ten_districts h w d.1.0 d.1.1

-- each program, run alone from what it needs, ends with its whole effect
ends_by : (t k : ℕ) (q : Request) (r : Rows)
    → (let x : Tx Request = record { terminal = t; number = k; request = q } in
    IsReadyFor x r → IsRequest q → rejection q r ≡ None → EndsSo (MayRefuse q) x (start_of q) r (effect_of t k q r))
ends_by t k (request.Payment q) r g valid known =
    let there = all_there (warehouses_of (request.Payment q)) r known in
    payment_ends (record { terminal = t; number = k; request = request.Payment q }) q r g.unused there.0
    (district_there r g.meets q.district there.0 valid.district)
ends_by t k (request.NewOrder q) r g valid known =
    let there = all_there (warehouses_of (request.NewOrder q)) r known in
    new_order_ends (record { terminal = t; number = k; request = request.NewOrder q }) q r
    (λ d e. is_fresh r g.meets g.conditions.condition_2 q.district d e) there.0
    (district_there r g.meets q.district there.0 valid.district) (have_stock r g.stocked q.lines there.1)
ends_by t k (request.Delivery q) r g valid known =
    delivery_ends (record { terminal = t; number = k; request = request.Delivery q }) q r g.meets
ends_by t k (request.Deliveries q) r g valid known = deliveries_end
    (record { terminal = t; number = k; request = request.Deliveries q }) q r g.meets
ends_by t k (request.Rename q) r g valid known =
    rename_ends (record { terminal = t; number = k; request = request.Rename q }) q r

pub programs_end : Programs_end
programs_end x r g valid known = ends_by x.terminal x.number x.request r g valid known

-- as what holds between transactions gives it
ready : (f : ℕ → ℕ) (x : Tx Request) (r : Rows) → IsGood system f x r → IsReadyFor x r
ready f x r g =
    let number : x.number ≡ suc (f x.terminal) = g.number in
    let h = g.good in
    record {
      meets = h.meets;
      conditions = record {
        condition_1 = h.condition_1;
        condition_2 = h.condition_2;
        condition_3 = h.condition_3;
        condition_4 = h.condition_4;
      };
      stocked = h.stocked;
      unused = h.unused (history_key x.terminal x.number) g.terminal.0
          (let less : f x.terminal < x.number = omega arith in less);
    }

pub ends : (f : ℕ → ℕ) (x : Tx Request) (r : Rows) → IsGood system f x r
    → EndsSo (MayRefuse x.request) x (start_of x.request) r (effect_of x.terminal x.number x.request r)
ends f x r g = programs_end x r (ready f x r g) g.valid g.known

-- each whole effect keeps what holds between transactions
good_by : (f : ℕ → ℕ) (t k : ℕ) (q : Request) (r after : Rows) (y : Reply) → Good f r → k ≡ suc (f t) → Meets after
    → IsStocked after → effect_of t k q r ≡ Some (after, y) → Good (bump t f) after
good_by f t k (request.Payment q) r after y g n m s e = payment_good f t k q r after y g n m s e
good_by f t k (request.NewOrder q) r after y g n m s e = new_order_good f t q r after y g m s e
good_by f t k (request.Delivery q) r after y g n m s e = delivery_good f t q r after y g m s e
good_by f t k (request.Deliveries q) r after y g n m s e = deliveries_good f t q r after y g e
good_by f t k (request.Rename q) r after y g n m s e = rename_good f t q r after y g m s e

pub stays : (f : ℕ → ℕ) (x : Tx Request) (r after : Rows) (y : Reply) → IsGood system f x r
    → effect_of x.terminal x.number x.request r ≡ Some (after, y) → Good (bump x.terminal f) after
stays f x r after y g e =
    good_by f x.terminal x.number x.request r after y g.good g.number
    (ends_kept Meets accepted_meets (MayRefuse x.request) x (start_of x.request) r
    (effect_of x.terminal x.number x.request r) after y (ends f x r g) e g.good.meets)
    (ends_kept IsStocked accepted_stocked (MayRefuse x.request) x (start_of x.request) r
    (effect_of x.terminal x.number x.request r) after y (ends f x r g) e g.good.stocked)
    e

starts_by : (x : Tx Request) (q : Request) → locks_before x (start_of q) ≡ []
starts_by x (request.Payment q) = refl
starts_by x (request.NewOrder q) = refl
starts_by x (request.Delivery q) = refl
starts_by x (request.Deliveries q) = refl
starts_by x (request.Rename q) = refl

ask_same : (x : Tx Request) (p : Position) (r s : Rows) → Alike system (Holds system (locks_before x p)) x r s
    → ask x p r ≡ ask x p s
ask_same x (InPayment q p) r s h = payment_ask_same x q p r s h
ask_same x (InNewOrder q p) r s h = new_order_ask_same x q p r s h
ask_same x (InDelivery q p) r s h = delivery_ask_same q p r s
ask_same x (InDeliveries q done p) r s h = delivery_ask_same (at_hand q done) p r s
ask_same x (DeliveriesEnd done) r s h = refl
ask_same x (InRename q p) r s h = rename_ask_same x q p r s h

act_same : (x : Tx Request) (p : Position) (r s : Rows) → IsAskedNow x p r → Alike system (HeldThen x p r) x r s
    → act x p r ≡ act x p s
act_same x (InPayment q p) r s k h = payment_act_same x q p r s k h
act_same x (InNewOrder q p) r s k h = new_order_act_same x q p r s k h
act_same x (InDelivery q p) r s k h = district_act_same x (alone q) q p r s h
act_same x (InDeliveries q done p) r s k h = district_act_same x (among_ten q done) (at_hand q done) p r s h
act_same x (DeliveriesEnd done) r s k h = refl
act_same x (InRename q p) r s k h = rename_act_same x q p r s k h

lawful : (x : Tx Request) (p : Position) (r : Rows) → (c : Option Change) (z : Position) → IsAskedNow x p r
    → act x p r ≡ Go c z → IsLawful x p r c z
lawful x (InPayment q p) r c z k e = payment_lawful x q p r c z k e
lawful x (InNewOrder q p) r c z k e = new_order_lawful x q p r c z k e
lawful x (InDelivery q p) r c z k e = district_lawful x (alone q) q (alone_takes x q) p r c z e
lawful x (InDeliveries q done p) r c z k e = district_lawful x (among_ten q done) (at_hand q done)
    (among_takes x q done) p r c z e
lawful x (DeliveriesEnd done) r c z k e = let no : ⊥ = cc in absurd no
lawful x (InRename q p) r c z k e = rename_lawful x q p r c z k e

-- what a program that runs alone has read still stands
recalls_first : (x : Tx Request) (q : Request) (r : Rows) → Recalls (start_of q) r
recalls_first x (request.Payment q) r = tt
recalls_first x (request.NewOrder q) r = tt
recalls_first x (request.Delivery q) r = tt
recalls_first x (request.Deliveries q) r = tt
recalls_first x (request.Rename q) r = tt

overlay-add : (c : Option Change) (cs : List Change) (r : Rows)
    → after system c (overlay system cs r) ≡ overlay system (add system c cs) r
overlay-add None cs r = refl
overlay-add (Some c) cs r = refl

pub recalls_alone : (x : Tx Request) (r : Rows) (s : State system) → Alone system x r s
    → Recalls s.position (overlay system s.changes r)
recalls_alone x r _ at_start = recalls_first x x.request r
recalls_alone x r _ (one_more s c p before i e) =
    subst (λ t. Recalls p t) (overlay-add c s.changes r)
    ((lawful x s.position (overlay system s.changes r) c p i e).recalls (recalls_alone x r s before))

pub laws : Laws system
laws = record {
  key_true = key_true;
  key_refl = key_refl;
  at_put = at_changed;
  same_map = same_rows;
  record_key_of = in_layout_key;
  restores = in_layout_before;
  at_put_back = at_put_back;
  redoes = in_layout_redoes;
  name_true = name_true;
  name_refl = name_refl;
  start_takes = λ x. starts_by x x.request;
  ask_same = ask_same;
  act_same = act_same;
  next_takes = λ x p r c q k e. (lawful x p r c q k e).takes;
  may_write = λ x p r c q k e. (lawful x p r (Some c) q k e).writes c refl;
  keeps_part = λ x r s c q h k e.
      (lawful x s.position (overlay system s.changes r) (Some c) q k e).turns c refl (recalls_alone x r s h);
  accepts_same = λ x p r s c q k h e a.
      accepts_alike (with_asked system (ask x p r) (locks_before x p)) x r s h c
      ((lawful x p r (Some c) q k e).writes c refl)
      ((lawful x p r (Some c) q k e).knows c refl) a;
  rejection_same = rejection_same;
  query_rejection_same = query_rejection_same;
  ends = ends;
  stays_good = stays;
}

pub population_is_good : (r : Rows) → IsPopulation r → Good (λ _. 0) r
population_is_good r p = record {
  meets = p.meets;
  condition_1 = p.condition_1;
  condition_2 = p.condition_2;
  condition_3 = p.condition_3;
  condition_4 = p.condition_4;
  stocked = p.stocked;
  unused = λ k real less. by_row k real (get r.histories k) refl;
}
  where
    by_row : (k : HistoryKey) → 1 ≤ k.terminal → (v : Option History) → get r.histories k ≡ v → v ≡ None
    by_row k real None e = refl
    by_row k real (Some x) e = let zero : k.terminal ≡ 0 = p.histories k x e in absurd (let no : ⊥ = omega arith in no)
