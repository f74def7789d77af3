-- Where the lines of a New-Order stand: the position of the model, and the names that are held there.
use Rattle.std.proofs.Common.{◌≡◌, ℕ, suc, ◌+◌, ◌<◌, ◌≤◌, List, [], ◌∷◌, ◌++◌, length, take, drop, Option, None, Some}
use Rattle.std.proofs.Common.{refl, sym, ap, ◌∙◌, subst, inl, inr, ◌⊎◌, arith}
use Rattle.std.specs.Prelude.{Ok, Err, slice_get, get_or, IsSome, option_map}
use Rattle.std.proofs.Math.Seq.{take-suc, drop-cons}
use Rattle.std.proofs.lemmas.List.{length-take-le, length-append, drop_all}
use Rattle.std.proofs.lemmas.Option.{slice_get_within, slice_get_cases, get_or_from_slice_get}
use Rattle.oe_theory.specs.Machine.{Stop, Plain, Take, Go}
use Rattle.oe_theory.specs.Machine as theory
use Rattle.oe_rows.specs.declared.items.Item.{Item}
use Rattle.oe_rows.specs.declared.locks.Name.{Name}
use Rattle.oe_rows.specs.declared.locks.Name.TheVariants as name
use Rattle.oe_requests.specs.declared.requests.RequestLine.{RequestLine}
use Rattle.oe_requests.specs.declared.requests.NewOrderRequest.{NewOrderRequest}
use Rattle.oe_requests.specs.declared.replies.LineReply.{LineReply}
use Rattle.oe_requests.specs.declared.replies.Reply.{Reply}
use Rattle.oe_requests.specs.declared.replies.Reply.TheVariants as reply
use Rattle.oe_requests.specs.declared.requests.Request.TheVariants as request
use Rattle.oe_requests.specs.declared.refusals.Refusal.{Refusal}
use Rattle.oe_requests.specs.declared.refusals.Refusal.TheVariants.{InvalidItem}
use Rattle.oe_formulas.specs.declared.orders.Seen as formulas
use Rattle.oe_formulas.specs.Orders.{seen_by}
use Rattle.oe_model.specs.Keys.{order_in, line_in}
use Rattle.oe_model.specs.Changes.{InsertOrderLine}
use Rattle.oe_model.specs.Locks.{hold}
use Rattle.oe_model.specs.Positions.{Seen, NewOrderQueue, NewOrderStock, NewOrderLine, InNewOrder}
use Rattle.oe_model.specs.NewOrder.{stock_holds, ordered_reply, new_order_ask, new_order_act, new_order_taken}
use Rattle.oe_model.proofs.LawFacts.{holds_more}
use Rattle.oe_engine.specs.View.{EngineState, View, view_of, Handle, IsOpen}
use Rattle.oe_locks.specs.Holds.{lock_asked}
use Rattle.oe_engine.specs.Programs.{GoesOn, IsReady, IsStageRefusal, new_order_reply}
use Rattle.oe_engine.specs.Stages.{Does, HoldsAll}
use Rattle.oe_engine.specs.declared.programs.Progress.{Progress}
use Rattle.oe_engine.specs.declared.programs.Progress.TheVariants as progress
use Rattle.oe_neworder.specs.Program.{filled_by, position_at, line_position}
use Rattle.oe_neworder.specs.Stages.{Advances, Fills}
use Rattle.oe_neworder.specs.declared.fillings.Filled.{Filled}
use Rattle.oe_neworder.specs.declared.fillings.Filling.{Filling}
use Rattle.oe_engine.proofs.HeldFacts.{alone}

-- the list at one of its indices
module _ {X : Type 0} (xs : List X) (n : ℕ) (x : X) (here : slice_get xs n ≡ Some x) where
  rest_at : drop n xs ≡ x ∷ drop (suc n) xs
  rest_at = drop-cons xs n x (slice_get_within xs n x here) ∙ ap (λ (z : X). z ∷ drop (suc n) xs)
      (get_or_from_slice_get xs n x x here)

  front_at : take (suc n) xs ≡ take n xs ++ x ∷ []
  front_at = take-suc xs n x (slice_get_within xs n x here) ∙ ap (λ (z : X). take n xs ++ z ∷ [])
      (get_or_from_slice_get xs n x x here)

  pub count_at : length (take n xs) + 1 ≡ n + 1
  count_at = ap (λ (k : ℕ). k + 1) (length-take-le n xs (let low = slice_get_within xs n x here in omega (arith, low)))

pub rest_past : {X : Type 0} (xs : List X) (n : ℕ) → slice_get xs n ≡ None → drop n xs ≡ []
rest_past {X} xs n e = go (slice_get_cases xs n).1
  where
    go : ((x : X) × (n < length xs) × (slice_get xs n ≡ Some x) × (get_or xs n x ≡ x))
        ⊎ ((length xs ≤ n) × (slice_get xs n ≡ None)) → drop n xs ≡ []
    go (inl h) = let both : None ≡ Some h.0 = sym e ∙ h.2 in absurd (let no : ⊥ = cc in no)
    go (inr h) = drop_all n xs h.0

-- no line is filled: the next stage is of STOCK, or there is none
pub none_at : (s : Seen) (before : List RequestLine) (done : List LineReply) (ls : List RequestLine)
    → position_at s before done None ls ≡ NewOrderStock s before done ls
none_at s before done [] = refl
none_at s before done (l ∷ ls) = refl

-- a line of the request is next
module _ (q : NewOrderRequest) (f : Filling) (l : RequestLine) (here : slice_get q.lines (length f.done) ≡ Some l) where
  pub stock_at : f.filled ≡ None → line_position q f ≡ NewOrderStock (seen_by f.seen) (take (length f.done) q.lines)
      f.done (l ∷ drop (suc (length f.done)) q.lines)
  stock_at e =
      ap (λ (o : Option Filled). position_at (seen_by f.seen) (take (length f.done) q.lines) f.done o
      (drop (length f.done) q.lines)) e
      ∙ (none_at (seen_by f.seen) (take (length f.done) q.lines) f.done (drop (length f.done) q.lines)
      ∙ ap (λ ls. NewOrderStock (seen_by f.seen) (take (length f.done) q.lines) f.done ls)
      (rest_at q.lines (length f.done) l here))

  pub line_at : (g : Filled) → f.filled ≡ Some g
      → line_position q f ≡ NewOrderLine (seen_by f.seen) (take (length f.done) q.lines) f.done l (filled_by g)
      (drop (suc (length f.done)) q.lines)
  line_at g e =
      ap (λ (o : Option Filled). position_at (seen_by f.seen) (take (length f.done) q.lines) f.done o
      (drop (length f.done) q.lines)) e
      ∙ ap (λ ls. position_at (seen_by f.seen) (take (length f.done) q.lines) f.done (Some g) ls)
      (rest_at q.lines (length f.done) l here)

  line_next : (g : Filled) → line_position q (record { seen = f.seen; done = f.done; filled = Some g })
      ≡ NewOrderLine (seen_by f.seen) (take (length f.done) q.lines) f.done l (filled_by g)
      (drop (suc (length f.done)) q.lines)
  line_next g = ap (λ ls. position_at (seen_by f.seen) (take (length f.done) q.lines) f.done (Some g) ls)
      (rest_at q.lines (length f.done) l here)

  pub line_done : (y : LineReply) → line_position q (record { seen = f.seen; done = f.done ++ y ∷ []; filled = None })
      ≡ NewOrderStock (seen_by f.seen) (take (length f.done) q.lines ++ l ∷ []) (f.done ++ y ∷ [])
      (drop (suc (length f.done)) q.lines)
  line_done y =
      none_at (seen_by f.seen) (take (length (f.done ++ y ∷ [])) q.lines) (f.done ++ y ∷ [])
      (drop (length (f.done ++ y ∷ [])) q.lines)
      ∙ (ap (λ (k : ℕ). NewOrderStock (seen_by f.seen) (take k q.lines) (f.done ++ y ∷ []) (drop k q.lines)) more
      ∙ ap (λ ls. NewOrderStock (seen_by f.seen) ls (f.done ++ y ∷ []) (drop (suc (length f.done)) q.lines))
      (front_at q.lines (length f.done) l here))
    where
      more : length (f.done ++ y ∷ []) ≡ suc (length f.done)
      more = let both = length-append f.done (y ∷ []) in omega (arith, both)

  pub reply_before : new_order_reply (line_position q f) ≡ None
  reply_before = go f.filled refl
    where
      go : (o : Option Filled) → f.filled ≡ o → new_order_reply (line_position q f) ≡ None
      go None e = ap new_order_reply (stock_at e)
      go (Some g) e = ap new_order_reply (line_at g e)

  -- its two stages
  module _ (s : EngineState) (x : Handle) where
    fills_on : (s' : EngineState) (g : Filled) (k : ℕ) → k ≡ length f.done + 1 → f.filled ≡ None
        → Fills q x s l k progress.More s' (Some g)
        → GoesOn s x (request.NewOrder q) (InNewOrder q (line_position q f)) s'
        (InNewOrder q (line_position q (record { seen = f.seen; done = f.done; filled = Some g })))
    fills_on s' g k number none done =
        subst (λ p. GoesOn s x (request.NewOrder q) (InNewOrder q p) s'
        (InNewOrder q (line_position q (record { seen = f.seen; done = f.done; filled = Some g })))) (sym
        (stock_at none))
        (subst (λ p. GoesOn s x (request.NewOrder q)
        (InNewOrder q (NewOrderStock (seen_by f.seen) (take (length f.done) q.lines) f.done
        (l ∷ drop (suc (length f.done)) q.lines))) s' (InNewOrder q p))
        (sym (line_next g))
        (done (seen_by f.seen) (take (length f.done) q.lines) f.done (drop (suc (length f.done)) q.lines)
        (count_at q.lines (length f.done) l here ∙ sym number)))

    fill_refused : (s' : EngineState) (e : Refusal) (o : Option Filled) (k : ℕ) → k ≡ length f.done + 1
        → f.filled ≡ None → Fills q x s l k (progress.Refused e) s' o
        → IsStageRefusal s x (request.NewOrder q) (InNewOrder q (line_position q f)) e
    fill_refused s' e o k number none done =
        subst (λ p. IsStageRefusal s x (request.NewOrder q) (InNewOrder q p) e) (sym (stock_at none))
        (done.0 (seen_by f.seen) (take (length f.done) q.lines) f.done (drop (suc (length f.done)) q.lines)
        (count_at q.lines (length f.done) l here ∙ sym number))

    -- the line with what its place holds after the stage of its stock
    abbrev placed : Option Filled → Filling
    placed o = record { seen = f.seen; done = f.done; filled = o }

    pub fill_advances : (s' : EngineState) (y : Progress) (o : Option Filled) (k : ℕ) → k ≡ length f.done + 1
        → f.filled ≡ None → Fills q x s l k y s' o
        → Advances q x s (line_position q f) y s' (line_position q (placed o))
    fill_advances s' progress.More (Some g) k number none h = fills_on s' g k number none h
    fill_advances s' progress.More None k number none h = absurd h
    fill_advances s' progress.Ready o k number none h = absurd h
    fill_advances s' (progress.Refused e) o k number none h = (
      fill_refused s' e o k number none h,
      h.1,
      h.2,
      ap (λ (z : Option Filled). InNewOrder q (line_position q (placed z))) (h.3 ∙ sym none),
    )

    asks_none : (g : Filled) → f.filled ≡ Some g → new_order_ask q (line_position q f) (view_of s).rows ≡ Plain
    asks_none g e = ap (λ p. new_order_ask q p (view_of s).rows) (line_at g e)

    inserts : (g : Filled) → f.filled ≡ Some g → new_order_act q (line_position q f) (view_of s).rows
        ≡ Go (Some (InsertOrderLine (line_in (order_in q.district f.seen.order) g.number) g.row))
        (InNewOrder q (line_position q (record { seen = f.seen; done = f.done ++ g.reply ∷ []; filled = None })))
    inserts g e =
        ap (λ p. new_order_act q p (view_of s).rows) (line_at g e)
        ∙ ap (λ p. Go (Some (InsertOrderLine (line_in (order_in q.district f.seen.order) g.number) g.row))
        (InNewOrder q p)) (sym (line_done g.reply))

    pub inserts_on : (s' : EngineState) (g : Filled) (u : Unit {0}) → f.filled ≡ Some g
        → Does s x Plain (Some (InsertOrderLine (line_in (order_in q.district f.seen.order) g.number) g.row)) (Ok u) s'
        → GoesOn s x (request.NewOrder q) (InNewOrder q (line_position q f)) s'
        (InNewOrder q (line_position q (record { seen = f.seen; done = f.done ++ g.reply ∷ []; filled = None })))
    inserts_on s' g u e done = done (request.NewOrder q) (InNewOrder q (line_position q f))
        (InNewOrder q (line_position q (record { seen = f.seen; done = f.done ++ g.reply ∷ []; filled = None })))
        (asks_none g e) (inserts g e)

    pub insert_refused : (s' : EngineState) (g : Filled) (r : Refusal) → f.filled ≡ Some g
        → Does s x Plain (Some (InsertOrderLine (line_in (order_in q.district f.seen.order) g.number) g.row)) (Err r) s'
        → IsStageRefusal s x (request.NewOrder q) (InNewOrder q (line_position q f)) r
    insert_refused s' g r e done = done (request.NewOrder q) (InNewOrder q (line_position q f))
        (InNewOrder q (line_position q (record { seen = f.seen; done = f.done ++ g.reply ∷ []; filled = None })))
        (asks_none g e) (inserts g e)

-- all lines are done
pub end_at : (q : NewOrderRequest) (f : Filling) → slice_get q.lines (length f.done) ≡ None
    → line_position q f ≡ NewOrderStock (seen_by f.seen) (take (length f.done) q.lines) f.done []
end_at q f e =
    ap (λ ls. position_at (seen_by f.seen) (take (length f.done) q.lines) f.done f.filled ls)
    (rest_past q.lines (length f.done) e)

pub ready_at : (s : EngineState) (x : Handle) (q : NewOrderRequest) (f : Filling)
    → slice_get q.lines (length f.done) ≡ None → IsOpen s x
    → (y : Reply) × IsReady s x (request.NewOrder q) (InNewOrder q (line_position q f)) y
ready_at s x q f e o =
    subst (λ p. (y : Reply) × IsReady s x (request.NewOrder q) (InNewOrder q p) y) (sym (end_at q f e))
    (reply.NewOrder (ordered_reply (seen_by f.seen) f.done), record { is_open = o; free = tt; does = refl })

-- no line is done
pub lines_begin : (q : NewOrderRequest) (s : formulas.Seen) (d : List LineReply) → d ≡ []
    → line_position q (record { seen = s; done = d; filled = None }) ≡ NewOrderStock (seen_by s) [] [] q.lines
lines_begin q s d e =
    ap (λ (z : List LineReply). line_position q (record { seen = s; done = z; filled = None })) e
    ∙ none_at (seen_by s) [] [] q.lines

-- the order's name is held alone at its NEW-ORDER row, and at the ORDER-LINE row of each line
pub order_at_queue : (v : View) (t : ℕ) (q : NewOrderRequest) (s : Seen)
    → HoldsAll v t (new_order_taken q (NewOrderQueue s))
    → IsSome (v.held t (name.Order (order_in q.district s.order)))
order_at_queue v t q s h =
    subst IsSome (sym (alone (v.held t (name.Order (order_in q.district s.order)))
    (h (name.Order (order_in q.district s.order)) theory.Exclusive (inl (refl, tt))))) refl

pub order_at_line : (v : View) (t : ℕ) (q : NewOrderRequest) (f : Filling) (l : RequestLine) (g : Filled)
    → slice_get q.lines (length f.done) ≡ Some l
    → f.filled ≡ Some g → HoldsAll v t (new_order_taken q (line_position q f))
    → v.held t (name.Order (order_in q.district f.seen.order)) ≡ Some theory.Exclusive
order_at_line v t q f l g here e h =
    alone (v.held t (name.Order (order_in q.district f.seen.order)))
    (subst (λ p. HoldsAll v t (new_order_taken q p)) (line_at q f l here g e) h
    (name.Order (order_in q.district f.seen.order)) theory.Exclusive
    (inr (holds_more (stock_holds (take (length f.done) q.lines)) _ (name.Order (order_in q.district f.seen.order))
    theory.Exclusive (inr (inl (refl, tt))))))

-- the lock of an item's stock is asked for where the item is there
pub stock_wanted : (n : Name) (o : Option Item) → option_map (λ (x : Item). hold n theory.Exclusive) o
    ≡ lock_asked (elim o [ None ↦ Stop InvalidItem | Some x ↦ Take n theory.Exclusive ])
stock_wanted n None = refl
stock_wanted n (Some x) = refl
