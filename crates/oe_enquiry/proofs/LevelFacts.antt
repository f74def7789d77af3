-- The items that are listed for Stock-Level are the low ones of the district's last 20 orders, each once.
use Rattle.std.proofs.Common.{◌≡◌, ℕ, suc, ◌+◌, ◌≤◌, ◌<◌, refl, sym, ap, ◌∙◌, subst, Bool, true, false}
use Rattle.std.proofs.Common.{Option, None, Some, List, [], length, inl, inr, arith}
use Rattle.std.specs.Prelude.{◌⊎◌, ◌&&◌, IsSome, is_some, nat_le}
use Rattle.std.specs.Ordering.{eq_by_cmp}
use Rattle.std.specs.FinMap.{FinMap, get, entries}
use Rattle.std.proofs.lemmas.Bool.{leb-true, leb-false, le-leb}
use Rattle.oe_theory.specs.Machine.{Outcome, Here}
use Rattle.oe_rows.specs.Key.{district_cmp, order_line_cmp}
use Rattle.oe_rows.specs.declared.keys.DistrictKey.{DistrictKey}
use Rattle.oe_rows.specs.declared.keys.OrderLineKey.{OrderLineKey}
use Rattle.oe_rows.proofs.KeyFacts.{district_total, exact_district, order_line_total, exact_order_line}
use Rattle.oe_rows.specs.declared.districts.District.{District}
use Rattle.oe_rows.specs.declared.orders.OrderLine.{OrderLine}
use Rattle.oe_rows.specs.declared.items.Stock.{Stock}
use Rattle.oe_requests.specs.declared.requests.LevelQuery.{LevelQuery}
use Rattle.oe_requests.specs.declared.replies.QueryReply.{QueryReply}
use Rattle.oe_requests.specs.declared.replies.QueryReply.TheVariants as told
use Rattle.oe_requests.specs.declared.refusals.Refusal.{Refusal}
use Rattle.oe_model.specs.Keys.{district_of_order, order_of_line}
use Rattle.oe_model.specs.Rows.{Rows}
use Rattle.oe_model.specs.Lists.{IsAmong}
use Rattle.oe_model.specs.Queries.{is_recent, recent_lines, stock_level}
use Rattle.oe_model.specs.Rules.{IsLow, AreLow}
use Rattle.oe_model.proofs.MapFacts.{is_same, is_self}
use Rattle.oe_model.proofs.EntryFacts.{row_among}
use Rattle.oe_model.proofs.ListFacts.{each_among, kept_among}
use Rattle.oe_model.proofs.LevelFacts.{level_is_exact}
use Rattle.oe_enquiry.specs.Level.{stock_in, is_short, list_with, items_sold}
use Rattle.oe_enquiry.proofs.FewFacts.{both_true, recent_rows}
use Rattle.oe_enquiry.proofs.ListedFacts.{no_more, mapped, is_mapped, listed_distinct}
use Rattle.oe_enquiry.proofs.ListedFacts.{listed_each, listed_all}

-- whoever lists the low items, each once, counts what Stock-Level answers
pub level_told : (q : LevelQuery) (r : Rows) (x : District) (items : List ℕ) → Some x ≡ get r.districts q.district
    → AreLow q r x.next_order items
    → stock_level q r ≡ Here (told.Level (length items))
level_told q r x items at low =
    let l = level_is_exact q r x (sym at) in
    let more : length l.0 ≤ length items = no_more l.0 items l.2.distinct (λ i h. low.all i (l.2.each i h)) in
    let less : length items ≤ length l.0 = no_more items l.0 low.distinct (λ i h. l.2.all i (low.each i h)) in
    let same : length l.0 ≡ length items = omega (arith, more, less) in
    l.1 ∙ ap (λ (n : ℕ). let y : Outcome QueryReply Refusal = Here (told.Level n) in y) same

-- a short item has a STOCK row below the threshold
module _ (q : LevelQuery) (r : Rows) (i : ℕ) where
  abbrev is_below : Option Stock → Bool
  is_below o = elim o [ None ↦ false | Some x ↦ nat_le (suc x.quantity) q.threshold ]

  pub short_is : is_short q r i ≡ true → (x : Stock) × (get r.stocks (stock_in q.district.warehouse i) ≡ Some x)
      × (x.quantity < q.threshold)
  short_is t = by (get r.stocks (stock_in q.district.warehouse i)) refl t
    where
      by : (o : Option Stock) → get r.stocks (stock_in q.district.warehouse i) ≡ o → is_below o ≡ true
          → (x : Stock) × (get r.stocks (stock_in q.district.warehouse i) ≡ Some x) × (x.quantity < q.threshold)
      by None e t = let no : ⊥ = cc in absurd no
      by (Some x) e t = (x, e, (let h = leb-true (suc x.quantity) q.threshold t in omega (arith, h)))

  le_leb : (a b : ℕ) → a ≤ b → nat_le a b ≡ true
  le_leb a b h = by (nat_le a b) refl
    where
      by : (t : Bool) → nat_le a b ≡ t → t ≡ true
      by true e = refl
      by false e = absurd (let less = leb-false a b e in let no : ⊥ = omega (arith, less, h) in no)

  pub is_short_of : (x : Stock) → get r.stocks (stock_in q.district.warehouse i) ≡ Some x → x.quantity < q.threshold
      → is_short q r i ≡ true
  is_short_of x e less = ap is_below e ∙ le_leb (suc x.quantity) q.threshold (omega (arith, less))

module _ (h : DistrictKey) (next : ℕ) (lines : FinMap order_line_cmp OrderLine) where
  -- a line of one of the last 20 orders
  pub record IsSold (i : ℕ) : Type 0 where
    pub line_key : OrderLineKey
    pub line : OrderLine
    pub line_at : get lines line_key ≡ Some line
    pub district : district_of_order (order_of_line line_key) ≡ h
    pub first : next ≤ line_key.order + 20
    pub last : line_key.order < next
    pub item : line.item ≡ i

  pub sold_is : (i : ℕ) → IsAmong i (items_sold h next lines) → IsSold i
  sold_is i k =
      let m = mapped (λ (e : OrderLineKey × OrderLine). e.1.item) (recent_lines h next lines) i k in
      let at = each_among (λ (e : OrderLineKey × OrderLine).
      (is_recent h next e.0 ≡ true) × (get lines e.0 ≡ Some e.1)) (recent_lines h next lines) m.0
      (recent_rows h next lines) m.1 in
      let a = both_true _ _ at.0 in
      let b = both_true _ _ a.0 in
      record {
        line_key = m.0.0;
        line = m.0.1;
        line_at = at.1;
        district = is_same district_total exact_district (district_of_order (order_of_line m.0.0)) h b.0;
        first = leb-true next (m.0.0.order + 20) b.1;
        last = (let l = leb-true (suc m.0.0.order) next a.1 in omega arith);
        item = m.2;
      }

  pub sold_has : (k : OrderLineKey) (x : OrderLine) → get lines k ≡ Some x
      → district_of_order (order_of_line k) ≡ h → next ≤ k.order + 20 → k.order < next
      → IsAmong x.item (items_sold h next lines)
  sold_has k x at d f l =
      let recent : is_recent h next k ≡ true =
      λ j. ((ap (λ (g : DistrictKey). eq_by_cmp district_cmp g h) d ∙ is_self district_total exact_district h) j
      && le-leb next (k.order + 20) f j)
      && le-leb (suc k.order) next (omega (arith, l)) j in
      is_mapped (λ (e : OrderLineKey × OrderLine). e.1.item) (recent_lines h next lines) (k, x)
      (kept_among (λ (e : OrderLineKey × OrderLine). is_recent h next e.0) (entries lines) (k, x)
      (row_among order_line_total exact_order_line lines k x at) recent)

pub are_low : (q : LevelQuery) (r : Rows) (next : ℕ) (items : List ℕ)
    → items ≡ list_with (is_short q r) [] (items_sold q.district next r.order_lines) → AreLow q r next items
are_low q r next items is = subst (AreLow q r next) (sym is) (record {
  distinct = listed_distinct (is_short q r) [] all_sold tt;
  each = λ i k. low i (listed_each (is_short q r) [] all_sold i k);
  all = λ i l. listed_all (is_short q r) [] all_sold i (among i l) (is_short_of q r i l.stock l.stock_at l.low);
})
  where
    all_sold : List ℕ
    all_sold = items_sold q.district next r.order_lines

    low : (i : ℕ) → IsAmong i [] ⊎ (IsAmong i all_sold × (is_short q r i ≡ true)) → IsLow q r next i
    low i (inl h) = absurd h
    low i (inr h) =
        let s = sold_is q.district next r.order_lines i h.0 in
        let t = short_is q r i h.1 in
        record {
          line_key = s.line_key;
          line = s.line;
          line_at = s.line_at;
          district = s.district;
          first = s.first;
          last = s.last;
          item = s.item;
          stock = t.0;
          stock_at = t.1;
          low = t.2;
        }

    among : (i : ℕ) → IsLow q r next i → IsAmong i all_sold
    among i l =
        subst (λ j. IsAmong j all_sold) l.item
        (sold_has q.district next r.order_lines l.line_key l.line l.line_at l.district l.first l.last)

-- before the first order nothing was sold
pub none_low : (q : LevelQuery) (r : Rows) (next : ℕ) (items : List ℕ) → next ≡ 1
    → ((k : OrderLineKey) → IsSome (get r.order_lines k) → 1 ≤ k.order) → items ≡ [] → AreLow q r next items
none_low q r next items first numbered none = subst (AreLow q r next) (sym none) (record {
  distinct = tt;
  each = λ i k. absurd k;
  all = λ i l.
      let least : 1 ≤ l.line_key.order = numbered l.line_key (ap is_some l.line_at) in
      let last : l.line_key.order < next = l.last in
      absurd (let no : ⊥ = omega (arith, least, last, first) in no);
})
