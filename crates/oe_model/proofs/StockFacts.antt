-- What an order's lines leave of the stock rows.
use Rattle.std.proofs.Common.{◌≡◌, ℕ, ◌+◌, refl, sym, ◌∙◌, ap, Bool, true, false, cond, List, [], ◌∷◌, ◌++◌, length}
use Rattle.std.proofs.Common.{Option, Some, None}
use Rattle.std.specs.Prelude.{fold, option_map}
use Rattle.std.specs.Ordering.{eq_by_cmp}
use Rattle.std.specs.FinMap.{FinMap, get, insert, get-insert}
use Rattle.oe_rows.specs.Key.{stock_cmp}
use Rattle.oe_rows.specs.declared.keys.StockKey.{StockKey}
use Rattle.oe_rows.specs.declared.items.Item.{Item}
use Rattle.oe_rows.specs.declared.items.Stock.{Stock}
use Rattle.oe_requests.specs.declared.requests.RequestLine.{RequestLine}
use Rattle.oe_requests.specs.declared.requests.NewOrderRequest.{NewOrderRequest}
use Rattle.oe_rows.proofs.KeyFacts.{stock_total, exact_stock}
use Rattle.oe_model.specs.Rows.{Rows}
use Rattle.oe_model.specs.Maps.{each}
use Rattle.oe_model.specs.Positions.{Filled}
use Rattle.oe_model.specs.Effects.{◌>>=◌, in_range}
use Rattle.oe_model.specs.NewOrder.{stock_of, stock_out, stock_after, quantities_for, after_lines, all_filled, fill}
use Rattle.oe_model.specs.NewOrder.{item_at}
use Rattle.oe_model.proofs.MapFacts.{get-each, is_self, is_same, same}

-- a stock row after one more line
abbrev pub after_one : ℕ → RequestLine → StockKey → Bool → Stock → Stock
after_one home l k mine x = cond mine (stock_after home k x l.quantity) x

asked-one : (home : ℕ) (l : RequestLine) (k : StockKey) (b : Bool) (x : Stock)
    → fold (stock_after home k) x (cond b (l.quantity ∷ []) []) ≡ after_one home l k b x
asked-one home l k true x = refl
asked-one home l k false x = refl

-- by hand, since the lines before are taken one at a time
pub after-one_more : (home : ℕ) (before : List RequestLine) (l : RequestLine) (k : StockKey) (x : Stock)
    → after_lines home (before ++ l ∷ []) k x ≡ after_one home l k (eq_by_cmp stock_cmp k (stock_of l))
    (after_lines home before k x)
after-one_more home [] l k x = asked-one home l k (eq_by_cmp stock_cmp k (stock_of l)) x
after-one_more home (b ∷ before) l k x =
    elim (eq_by_cmp stock_cmp k (stock_of b)) as (λ c.
    fold (stock_after home k) x (cond c (b.quantity ∷ quantities_for k (before ++ l ∷ []))
    (quantities_for k (before ++ l ∷ [])))
    ≡ after_one home l k (eq_by_cmp stock_cmp k (stock_of l))
    (fold (stock_after home k) x (cond c (b.quantity ∷ quantities_for k before) (quantities_for k before)))) [
      | true ↦ after-one_more home before l k (stock_after home k x b.quantity)
      | false ↦ after-one_more home before l k x
    ]

pub after-own : (home : ℕ) (before : List RequestLine) (l : RequestLine) (x : Stock)
    → after_lines home (before ++ l ∷ []) (stock_of l) x ≡ stock_after home (stock_of l)
    (after_lines home before (stock_of l) x) l.quantity
after-own home before l x =
    after-one_more home before l (stock_of l) x
    ∙ ap (λ b. after_one home l (stock_of l) b (after_lines home before (stock_of l) x))
    (is_self stock_total exact_stock (stock_of l))

module _ (home : ℕ) (m : FinMap stock_cmp Stock) where
  pub each-none : each (after_lines home []) m ≡ m
  each-none = same stock_total exact_stock _ _
      (λ k. get-each stock_cmp (after_lines home []) exact_stock m k ∙ unchanged (get m k))
    where
      unchanged : (o : Option Stock) → option_map (λ x. x) o ≡ o
      unchanged None = refl
      unchanged (Some x) = refl

  -- to put the row of one more line is to take each row through one more line
  pub each-one_more : (before : List RequestLine) (l : RequestLine) (x : Stock) → get m (stock_of l) ≡ Some x
      → insert (each (after_lines home before) m) (stock_of l)
      (stock_after home (stock_of l) (after_lines home before (stock_of l) x) l.quantity) ≡ each
      (after_lines home (before ++ l ∷ [])) m
  each-one_more before l x here =
      same stock_total exact_stock _ _ (λ k.
      get-insert stock_total (each (after_lines home before) m) (stock_of l) _ k
      ∙ ap (cond (eq_by_cmp stock_cmp k (stock_of l)) _) (get-each stock_cmp (after_lines home before) exact_stock m k)
      ∙ by_key k (eq_by_cmp stock_cmp k (stock_of l)) refl
      ∙ sym (get-each stock_cmp (after_lines home (before ++ l ∷ [])) exact_stock m k))
    where
      new : StockKey → Stock
      new k = stock_after home (stock_of l) (after_lines home before (stock_of l) x) l.quantity

      others : (k : StockKey) (o : Option Stock) → eq_by_cmp stock_cmp k (stock_of l) ≡ false
          → option_map (after_lines home before k) o ≡ option_map (after_lines home (before ++ l ∷ []) k) o
      others k None e = refl
      others k (Some y) e =
          ap Some (sym (after-one_more home before l k y ∙ ap (λ b. after_one home l k b (after_lines home before k y))
          e))

      by_key : (k : StockKey) (b : Bool) → eq_by_cmp stock_cmp k (stock_of l) ≡ b
          → cond b (Some (stock_after home (stock_of l) (after_lines home before (stock_of l) x) l.quantity))
          (option_map (after_lines home before k) (get m k)) ≡ option_map (after_lines home (before ++ l ∷ []) k)
          (get m k)
      by_key k true e =
          ap Some (sym (after-own home before l x))
          ∙ ap (option_map (after_lines home (before ++ l ∷ []) (stock_of l))) (sym here)
          ∙ ap (λ (j : StockKey). option_map (after_lines home (before ++ l ∷ []) j) (get m j))
          (sym (is_same stock_total exact_stock k (stock_of l) e))
      by_key k false e = others k (get m k) e

pub bind_assoc : {A B C : Type 0} (o : Option A) (f : A → Option B) (g : B → Option C)
    → (o >>= f) >>= g ≡ o >>= (λ a. f a >>= g)
bind_assoc None f g = refl
bind_assoc (Some a) f g = refl

-- an order's first line, and then the others
module _ {A : Type 0} (q : NewOrderRequest) (r : Rows) (before : List RequestLine) (l : RequestLine)
    (ls : List RequestLine) (g : List Filled → Option A) where
  abbrev pub then_others : Item → Stock → Option A
  then_others item stock' = all_filled q r (before ++ l ∷ []) ls >>= λ fs. g
      (fill q (length before + 1) l item stock' ∷ fs)

  abbrev pub supplied_own : Stock → Stock
  supplied_own stock = stock_after q.district.warehouse (stock_of l)
      (after_lines q.district.warehouse before (stock_of l) stock) l.quantity

  abbrev after_own : Stock → Stock
  after_own stock = after_lines q.district.warehouse (before ++ l ∷ []) (stock_of l) stock

  abbrev others : Filled → Option (List Filled)
  others f = all_filled q r (before ++ l ∷ []) ls >>= λ fs. Some (f ∷ fs)

  by_row : (item : Item) (y : Option Stock)
      → (((y >>= λ stock'. Some (fill q (length before + 1) l item stock')) >>= others) >>= g)
      ≡ (y >>= then_others item)
  by_row item None = refl
  by_row item (Some y) = bind_assoc (all_filled q r (before ++ l ∷ []) ls)
      (λ fs. Some (fill q (length before + 1) l item y ∷ fs)) g

  by_stock : (item : Item) (s : Option Stock) →
      (((s >>= λ stock. in_range stock_out (after_own stock) >>= λ stock'. Some
      (fill q (length before + 1) l item stock')) >>= others) >>= g)
      ≡ (s >>= λ stock. in_range stock_out (supplied_own stock) >>= then_others item)
  by_stock item None = refl
  by_stock item (Some s) =
      by_row item (in_range stock_out (after_own s))
      ∙ ap (λ (y : Stock). in_range stock_out y >>= then_others item) (after-own q.district.warehouse before l s)

  by_item : (i : Option Item) →
      (((i >>= λ item. get r.stocks (stock_of l) >>= λ stock. in_range stock_out (after_own stock) >>= λ stock'. Some
      (fill q (length before + 1) l item stock')) >>= others) >>= g)
      ≡ (i >>= λ item. get r.stocks (stock_of l) >>= λ stock. in_range stock_out (supplied_own stock) >>= then_others
      item)
  by_item None = refl
  by_item (Some i) = by_stock i (get r.stocks (stock_of l))

  pub fill-step : (all_filled q r before (l ∷ ls) >>= g)
      ≡ (item_at l.item r.items >>= λ item. get r.stocks (stock_of l) >>= λ stock. in_range stock_out
      (supplied_own stock) >>= then_others item)
  fill-step = by_item (item_at l.item r.items)
