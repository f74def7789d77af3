-- What each step does to the store is a step of the world.
use Rattle.std.proofs.Common.{◌≡◌, ℕ, suc, ◌-◌, ◌<◌, ◌≤◌, ◌==◌, Bool, true, false, cond, Option, None, Some, List, []}
use Rattle.std.proofs.Common.{◌∷◌, take, drop, length, refl, sym, ap, ◌∙◌, subst, inl, inr, arith}
use mathlib.Core.Path.{fun_ext}
use Rattle.oe_theory.specs.Machine.{Machine, Mode, Ask, Stop, Plain, Take, Go}
use Rattle.oe_theory.specs.World.{go_together, set, Open, World, tx_of, counts_now, tables, latest}
use Rattle.oe_theory.specs.Next.{record_on, fill_of, extents_used, held_after, open_after, open_at_begin, put_active}
use Rattle.oe_theory.specs.Next.{GivesWay, IsGranted}
use Rattle.oe_theory.specs.Next.{IsInTheWay, HasRoom, IsFull, MayBegin, MayLackMemory, Step, Begin, Advance, Save, Back}
use Rattle.oe_theory.specs.Next.{Rollback, Answer, Begun, More, Saved, Gone_back, Rolled_back, Aborted, Next, begins}
use Rattle.oe_theory.specs.Next.{goes_on, saves, goes_back, rolls_back, stops, fails, is_busy, is_full, is_rejected}
use Rattle.oe_theory.specs.Next.{is_open, number_is_rejected, not_open, lacks_memory_at_begin, lacks_memory}
use Rattle.oe_theory.specs.Laws.{Laws}
use Rattle.oe_theory.specs.Undo.{Undo, lengths_of, unwind, Keeps, records_at_mark, since_mark, with_record}
use Rattle.oe_theory.specs.Undo.{records_after, with_change}
use Rattle.oe_theory.specs.Undo.{tables_with, put_records, used_of, undo_after, tables_after}
use Rattle.oe_theory.specs.Store.{Slot, Seal, Store, tx_in, open_in_slot, open_of, slot_of, seals_of, world_of}
use Rattle.oe_theory.specs.Store.{store_of}
use Rattle.oe_theory.specs.Store.{opened_store, put_slot, first_slot, without_slot, with_record_of, with_change_of}
use Rattle.oe_theory.specs.Store.{slot_after, after_stage, back_at_mark, with_mark, MayBeginIn, IsGrantedIn}
use Rattle.oe_theory.specs.Store.{IsInTheWayIn}
use Rattle.oe_theory.specs.Store.{HasRoomIn, IsFullIn, MayLackMemoryIn}
use Rattle.oe_theory.specs.Theorems.{world_at_opening, IsReached}
use Rattle.oe_theory.specs.StoreTheorems.{IsStanding, Leads, World_is_stored, Store_follows, Opening_stands}
use Rattle.oe_theory.specs.StoreTheorems.{Begins_here, Is_rejected_here, Is_open_here, Number_is_rejected_here}
use Rattle.oe_theory.specs.StoreTheorems.{Lacks_memory_at_begin_here, Goes_on_here, Is_room_here, Stops_here}
use Rattle.oe_theory.specs.StoreTheorems.{Fails_here, Is_busy_here, Is_full_here, Lacks_memory_here, Saves_here}
use Rattle.oe_theory.specs.StoreTheorems.{Goes_back_here, Rolls_back_here, Is_not_open_here}
use Rattle.oe_theory.proofs.Sets.{some_none, some_inj}
use Rattle.oe_theory.proofs.Records.{length-records, keeps_next, keeps_opened}
use Rattle.oe_theory.proofs.InPlace.{tables_next}
use Rattle.oe_theory.proofs.Past.{quiet_tables}
use Rattle.oe_theory.proofs.Ring.{used_same}
use Rattle.oe_theory.proofs.StoreFacts.{world_same}
use Rattle.oe_theory.proofs.Theorems.{reached_sound, opening_is_reached, run_is_reached}

module _ (M : Machine) (L : Laws M) where
  open M use {Map, Change, Record, Name, Request, Position, Reply, Refusal, ask, act, marks, terminal_limit}

  same_store : (r r' : Map) (u : Undo M) (f f' : ℕ → Option (Slot M)) (d d' : List (Seal M)) (c c' : ℕ → ℕ) (n n' : ℕ)
      (l l' : M.Layout)
      → r ≡ r' → f ≡ f' → d ≡ d' → c ≡ c' → n ≡ n' → l ≡ l'
      → ◌≡◌ {A = Store M} (record { tables = r; undo = u; slots = f; seals = d; counts = c; extents = n; layout = l })
      (record { tables = r'; undo = u; slots = f'; seals = d'; counts = c'; extents = n'; layout = l' })
  same_store r r' u f f' d d' c c' n n' l l' p q e g x y =
      λ i. record { tables = p i; undo = u; slots = q i; seals = e i; counts = g i; extents = x i; layout = y i }

  -- what is stored of a world that was reached stands for it
  pub stands_for : (w : World M) → IsReached M w → (s : Store M) → Keeps M w s.undo → store_of M w s.undo ≡ s
      → IsStanding M s × (world_of M s ≡ w)
  stands_for w r s k e =
      let same : world_of M s ≡ w = ap (world_of M) (sym e) ∙ world_same M L w (reached_sound M L w r) s.undo k in (
        record {
          reached = subst (IsReached M) (sym same) r;
          keeps = subst (λ (z : World M). Keeps M z s.undo) (sym same) k;
          same = ap (λ (z : World M). store_of M z s.undo) same ∙ e;
        },
        same,
      )

  pub world_is_stored : World_is_stored M
  world_is_stored w u r k = let h = stands_for w r (store_of M w u) k refl in (h.1, h.0)

  -- any step of the world leads to what is stored of the next
  follows : (s : Store M) → IsStanding M s → (i : Step M) (a : Answer M) (v : World M) → Next M (world_of M s) i a v
      → (s' : Store M) → undo_after M (world_of M s) s.undo a i ≡ s'.undo → store_of M v s'.undo ≡ s'
      → Leads M s i a s' × (world_of M s' ≡ v)
  follows s h i a v n s' q e =
      let k : Keeps M v s'.undo = subst (Keeps M v) q
      (keeps_next M L (world_of M s) (reached_sound M L (world_of M s) h.reached) s.undo h.keeps i a v n) in
      let r = stands_for v (run_is_reached M L (world_of M s) v (i ∷ []) (a ∷ []) h.reached (v, n, refl)) s' k e in
      (record { next = subst (Next M (world_of M s) i a) (sym r.1) n; stands = r.0 }, r.1)

  pub store_follows : Store_follows M
  store_follows s i a v h n = follows s h i a v n (store_of M v (undo_after M (world_of M s) s.undo a i)) refl refl

  pub leads : (s : Store M) → IsStanding M s → (i : Step M) (a : Answer M) (v : World M) → Next M (world_of M s) i a v
      → (s' : Store M) → undo_after M (world_of M s) s.undo a i ≡ s'.undo
      → tables_after M (world_of M s) s.undo a i ≡ s'.tables
      → (λ t. slot_of M (v.active t)) ≡ s'.slots → seals_of M v.history ≡ s'.seals → counts_now M v ≡ s'.counts
      → v.extents ≡ s'.extents → v.layout ≡ s'.layout → Leads M s i a s'
  leads s h i a v n s' q p e f g x y =
      (follows s h i a v n s' q
      (same_store _ _ s'.undo _ _ _ _ _ _ _ _ _ _
      (tables_next M L (world_of M s) (reached_sound M L (world_of M s) h.reached) s.undo h.keeps i a v n ∙ p) e f g
      x y)).0

  -- what is stored of the world that is stored
  pub tables_here : (s : Store M) → IsStanding M s → tables M (world_of M s) ≡ s.tables
  tables_here s h = ap (λ (z : Store M). z.tables) h.same

  pub slots_here : (s : Store M) → IsStanding M s → (λ t. slot_of M ((world_of M s).active t)) ≡ s.slots
  slots_here s h = ap (λ (z : Store M). z.slots) h.same

  pub seals_here : (s : Store M) → IsStanding M s → seals_of M (world_of M s).history ≡ s.seals
  seals_here s h = ap (λ (z : Store M). z.seals) h.same

  pub counts_here : (s : Store M) → IsStanding M s → counts_now M (world_of M s) ≡ s.counts
  counts_here s h = ap (λ (z : Store M). z.counts) h.same

  -- the transaction that a terminal has open
  abbrev pub open_in : Store M → ℕ → Slot M → Open M
  open_in s t p = open_in_slot M (s.undo.active t) s.tables p

  pub is_open_in : (s : Store M) (t : ℕ) (p : Slot M) → s.slots t ≡ Some p
      → (world_of M s).active t ≡ Some (open_in s t p)
  is_open_in s t p e = ap (open_of M (s.undo.active t) s.tables) e

  pub is_shut_in : (s : Store M) (t : ℕ) → s.slots t ≡ None → (world_of M s).active t ≡ None
  is_shut_in s t e = ap (open_of M (s.undo.active t) s.tables) e

  pub found : (bs : List Record) (r : Map) (v : Option (Slot M)) (o : Open M) → open_of M bs r v ≡ Some o
      → (p : Slot M) × (v ≡ Some p) × (p.held ≡ o.held)
  found bs r None o e = absurd (some_none o (sym e))
  found bs r (Some p) o e = (p, refl, ap (λ (z : Open M). z.held) (some_inj (open_in_slot M bs r p) o e))

  slots_set : (t : ℕ) (v : Option (Open M)) (active : ℕ → Option (Open M))
      → (λ (i : ℕ). slot_of M (set t v active i)) ≡ set t (slot_of M v) (λ i. slot_of M (active i))
  slots_set t v active = fun_ext (λ i. go (i == t) (active i))
    where
      go : (b : Bool) (x : Option (Open M)) → slot_of M (cond b v x) ≡ cond b (slot_of M v) (slot_of M x)
      go true x = refl
      go false x = refl

  -- a slot replaced
  pub slots_put : (s : Store M) → IsStanding M s → (t : ℕ) (v : Option (Open M)) (x : Option (Slot M)) → slot_of M v ≡ x
      → (λ (i : ℕ). slot_of M (set t v (world_of M s).active i)) ≡ set t x s.slots
  slots_put s h t v x e = slots_set t v (world_of M s).active
      ∙ (ap (λ (f : ℕ → Option (Slot M)). set t (slot_of M v) f) (slots_here s h)
      ∙ ap (λ (z : Option (Slot M)). set t z s.slots) e)

  pub opening_stands : Opening_stands M
  opening_stands b n l g =
      stands_for (world_at_opening M b n l) (opening_is_reached M L b n l g) (opened_store M b n l)
      (keeps_opened M L b n l)
      (same_store _ _ _ _ _ _ _ _ _ _ _ _ _
      (quiet_tables M L (world_at_opening M b n l) (λ t. refl)) refl refl refl refl refl)

  -- begin
  pub may_begin : (s : Store M) → IsStanding M s → (t : ℕ) (q : Request) → MayBeginIn M s t q
      → MayBegin M (world_of M s) t q
  may_begin s h t q b =
      record {
        terminal = b.terminal;
        valid = b.valid;
        known = ap (M.rejection q) (tables_here s h) ∙ b.known;
        closed = is_shut_in s t b.closed;
        counted = ap (λ (f : ℕ → ℕ). M.number_rejection (suc (f t))) (counts_here s h) ∙ b.counted;
      }

  first_same : (s : Store M) → IsStanding M s → (t : ℕ) (q : Request)
      → slot_of M (Some (open_at_begin M (world_of M s) t q)) ≡ Some (first_slot M s t q)
  first_same s h t q = ap (λ (f : ℕ → ℕ). go (suc (f t))) (counts_here s h)
    where
      go : ℕ → Option (Slot M)
      go n =
          Some (record {
            number = n;
            request = q;
            position = M.start (record { terminal = t; number = n; request = q });
            mark_position = M.start (record { terminal = t; number = n; request = q });
            mark_count = 0;
            held = λ _. None;
          })

  pub begins_here : Begins_here M
  begins_here s t q h b =
      leads s h (Begin t q) Begun _ (begins t q (may_begin s h t q b)) (put_slot M t (Some (first_slot M s t q)) s) refl
      (tables_here s h)
      (slots_put s h t (Some (open_at_begin M (world_of M s) t q)) (Some (first_slot M s t q)) (first_same s h t q))
      (seals_here s h) (counts_here s h) refl refl

  pub is_rejected_here : Is_rejected_here M
  is_rejected_here s t q e h r =
      record { next = is_rejected t q e (ap (M.rejection q) (tables_here s h) ∙ r); stands = h }

  pub is_open_here : Is_open_here M
  is_open_here s t q p h r e =
      record {
        next = is_open t q (open_in s t p) (ap (M.rejection q) (tables_here s h) ∙ r) (is_open_in s t p e);
        stands = h;
      }

  pub number_is_rejected_here : Number_is_rejected_here M
  number_is_rejected_here s t q e h r c n =
      record {
        next = number_is_rejected t q e (ap (M.rejection q) (tables_here s h) ∙ r) (is_shut_in s t c)
            (ap (λ (f : ℕ → ℕ). M.number_rejection (suc (f t))) (counts_here s h) ∙ n);
        stands = h;
      }

  pub lacks_memory_at_begin_here : Lacks_memory_at_begin_here M
  lacks_memory_at_begin_here s t q h b = record { next = lacks_memory_at_begin t q (may_begin s h t q b); stands = h }

  -- an open transaction has as many changes as records
  pub length_here : (s : Store M) → IsStanding M s → (t : ℕ) (p : Slot M) → s.slots t ≡ Some p
      → length (open_in s t p).now.changes ≡ length (s.undo.active t)
  length_here s h t p e =
      sym (ap length (h.keeps.opens t (open_in s t p) (is_open_in s t p e)).records
      ∙ length-records M L s.layout (open_in s t p).now.changes (latest M (world_of M s)))

  -- its slot is what is stored of it
  pub slot_here : (s : Store M) → IsStanding M s → (t : ℕ) (p : Slot M) → s.slots t ≡ Some p
      → slot_of M (Some (open_in s t p)) ≡ Some p
  slot_here s h t p e = sym (ap (slot_of M) (is_open_in s t p e))
      ∙ (ap (λ (f : ℕ → Option (Slot M)). f t) (slots_here s h) ∙ e)

  mark_of : Option (Slot M) → ℕ
  mark_of None = 0
  mark_of (Some p) = p.mark_count

  pub mark_here : (s : Store M) → IsStanding M s → (t : ℕ) (p : Slot M) → s.slots t ≡ Some p
      → length (open_in s t p).mark.changes ≡ p.mark_count
  unfolding mark_of
  mark_here s h t p e = ap mark_of (slot_here s h t p e)

  pub asks_here : (s : Store M) → IsStanding M s → (t : ℕ) (p : Slot M)
      → ask (tx_in M t p) p.position (tables M (world_of M s)) ≡ ask (tx_in M t p) p.position s.tables
  asks_here s h t p = ap (ask (tx_in M t p) p.position) (tables_here s h)

  pub acts_here : (s : Store M) → IsStanding M s → (t : ℕ) (p : Slot M)
      → act (tx_in M t p) p.position (tables M (world_of M s)) ≡ act (tx_in M t p) p.position s.tables
  acts_here s h t p = ap (act (tx_in M t p) p.position) (tables_here s h)

  pub granted : (s : Store M) (t : ℕ) (a : Ask Name Refusal) → IsGrantedIn M s.slots t a
      → IsGranted M (world_of M s) t a
  granted s t (Stop e) g = g
  granted s t Plain g = g
  granted s t (Take n m) g =
      λ u o ne e. let f = found (s.undo.active u) s.tables (s.slots u) o e in
      subst (λ (z : Name → Option Mode). go_together m (z n) ≡ true) f.2 (g u f.0 ne f.1)

  pub granted_here : (s : Store M) → IsStanding M s → (t : ℕ) (p : Slot M)
      → IsGrantedIn M s.slots t (ask (tx_in M t p) p.position s.tables)
      → IsGranted M (world_of M s) t (ask (tx_in M t p) p.position (tables M (world_of M s)))
  granted_here s h t p g = subst (IsGranted M (world_of M s) t) (sym (asks_here s h t p)) (granted s t _ g)

  pub used_here : (s : Store M) → IsStanding M s → extents_used M (world_of M s) ≡ used_of M s.undo
  used_here s h = used_same M L (world_of M s) s.undo h.keeps

  pub has_room : (s : Store M) → IsStanding M s → (t : ℕ) (p : Slot M) (c : Option Change) → HasRoomIn M s t c
      → HasRoom M (world_of M s) (open_in s t p) c
  has_room s h t p None x = tt
  has_room s h t p (Some c) (inl x) =
      inl (subst (λ (r : Map). M.size_of (record_on M s.layout c r) ≤ (fill_of M (lengths_of M (s.undo.active t))).1)
      (sym (tables_here s h)) x)
  has_room s h t p (Some c) (inr x) = inr (subst (λ (n : ℕ). n < s.extents) (sym (used_here s h)) x)

  pub is_room_here : Is_room_here M
  is_room_here z s t None = tt
  is_room_here z s t (Some c) = inl (let e = z (record_on M s.layout c s.tables) in omega (arith, e))

  -- a row that goes on
  slot_moved : (l : M.Layout) (o : Open M) (p : Slot M) (n : ℕ) (a a' : Ask Name Refusal) (c : Option Change)
      (q : Position) (r : Map)
      → slot_of M (Some o) ≡ Some p → length o.now.changes ≡ n
      → a ≡ a' → slot_of M (Some (open_after M l o a c q r)) ≡ Some (slot_after M p n a' q)
  slot_moved l o p n a a' c q r e h f =
      subst (λ (z : Slot M). slot_of M (Some (open_after M l o a c q r)) ≡ Some (slot_after M z n a' q))
      (some_inj _ p e)
      (go (marks o.now.position))
    where
      go : (b : Bool)
          → ◌≡◌ {A = Option (Slot M)}
          (Some (record {
            number = o.number;
            request = o.request;
            position = q;
            mark_position = (cond b o.now o.mark).position;
            mark_count = length (cond b o.now o.mark).changes;
            held =
                held_after M a o.held;
          }))
          (Some (record {
            number = o.number;
            request = o.request;
            position = q;
            mark_position = cond b o.now.position o.mark.position;
            mark_count = cond b n (length o.mark.changes);
            held = held_after M a' o.held;
          }))
      go true = λ i. Some (record {
        number = o.number;
        request = o.request;
        position = q;
        mark_position = o.now.position;
        mark_count = h i;
        held = held_after M (f i) o.held;
      })
      go false = λ i. Some (record {
        number = o.number;
        request = o.request;
        position = q;
        mark_position = o.mark.position;
        mark_count = length o.mark.changes;
        held = held_after M (f i) o.held;
      })

  changed_is : (w : World M) (t : ℕ) (o : Open M) (c : Option Change) (q : Position) → w.active t ≡ Some o
      → act (tx_of M t o) o.now.position (tables M w) ≡ Go c q
      → tables_with M w t (w.active t) ≡ with_change_of M c (tables M w)
  changed_is w t o c q e r = ap (tables_with M w t) e ∙ (ap (λ z. with_change M z (tables M w)) r ∙ go c)
    where
      go : (c : Option Change) → with_change M (Go c q) (tables M w) ≡ with_change_of M c (tables M w)
      go None = refl
      go (Some c) = refl

  pushed_is : (w : World M) (t : ℕ) (o : Open M) (c : Option Change) (q : Position) (bs : List Record)
      → w.active t ≡ Some o → act (tx_of M t o) o.now.position (tables M w) ≡ Go c q
      → records_after M w t (w.active t) bs ≡ with_record_of M w.layout c (tables M w) bs
  pushed_is w t o c q bs e r = ap (λ z. records_after M w t z bs) e
      ∙ (ap (λ z. with_record M w.layout z (tables M w) bs) r ∙ go c)
    where
      go : (c : Option Change)
          → with_record M w.layout (Go c q) (tables M w) bs ≡ with_record_of M w.layout c (tables M w) bs
      go None = refl
      go (Some c) = refl

  pub goes_on_here : Goes_on_here M
  goes_on_here s t p c q h e g r room =
      let o = open_in s t p in
      let r' = acts_here s h t p ∙ r in
      leads s h (Advance t) More _
      (goes_on t o c q (is_open_in s t p e) (granted_here s h t p g) r' (has_room s h t p c room))
      (after_stage M t p (ask (tx_in M t p) p.position s.tables) c q s)
      (ap (λ bs. put_records M t bs s.undo) (pushed_is (world_of M s) t o c q (s.undo.active t) (is_open_in s t p e) r'
      ∙ ap (λ z. with_record_of M s.layout c z (s.undo.active t)) (tables_here s h)))
      (changed_is (world_of M s) t o c q (is_open_in s t p e) r' ∙ ap (with_change_of M c) (tables_here s h))
      (slots_put s h t _ _
      (slot_moved s.layout o p (length (s.undo.active t)) _ _ c q (tables M (world_of M s)) (slot_here s h t p e)
      (length_here s h t p e) (asks_here s h t p)))
      (seals_here s h) (counts_here s h) refl refl

  -- refusals that roll the transaction back, and a rollback that is asked for
  drops : (s : Store M) → IsStanding M s → (t : ℕ) (i : Step M) (a : Answer M)
      → Next M (world_of M s) i a (put_active M t None (world_of M s))
      → undo_after M (world_of M s) s.undo a i ≡ put_records M t [] s.undo
      → tables_after M (world_of M s) s.undo a i ≡ unwind M (s.undo.active t) (tables M (world_of M s))
      → Leads M s i a (without_slot M t s)
  drops s h t i a n q p =
      leads s h i a _ n (without_slot M t s) q (p ∙ ap (unwind M (s.undo.active t)) (tables_here s h))
      (slots_put s h t None None refl) (seals_here s h) (counts_here s h) refl refl

  pub rolls_back_here : Rolls_back_here M
  rolls_back_here s t p h e = drops s h t (Rollback t) Rolled_back (rolls_back t (open_in s t p) (is_open_in s t p e))
      refl refl

  pub stops_here : Stops_here M
  stops_here s t p x h e r = drops s h t (Advance t) (Aborted x)
      (stops t (open_in s t p) x (is_open_in s t p e) (asks_here s h t p ∙ r)) refl refl

  pub fails_here : Fails_here M
  fails_here s t p x h e g r =
      drops s h t (Advance t) (Aborted x)
      (fails t (open_in s t p) x (is_open_in s t p e) (granted_here s h t p g) (acts_here s h t p ∙ r)) refl refl

  -- refusals that change nothing
  pub in_the_way : (s : Store M) (t : ℕ) (n : Name) (m : Mode) (u : ℕ) → IsInTheWayIn M s.slots t n m u
      → IsInTheWay M (world_of M s) t n m u
  in_the_way s t n m u b =
      record {
        other = b.other;
        who = open_in s u b.who;
        is_open = is_open_in s u b.who b.is_open;
        conflicts = b.conflicts;
        least = λ v o l ne e. let f = found (s.undo.active v) s.tables (s.slots v) o e in
            subst (λ (z : Name → Option Mode). go_together m (z n) ≡ true) f.2 (b.least v f.0 l ne f.1);
      }

  pub is_busy_here : Is_busy_here M
  is_busy_here s t p n m u h e r b =
      record {
        next = is_busy t (open_in s t p) n m u (is_open_in s t p e) (asks_here s h t p ∙ r)
            (in_the_way s t n m u b);
        stands = h;
      }

  pub is_full_in : (s : Store M) → IsStanding M s → (t : ℕ) (p : Slot M) (c : Change) → IsFullIn M s t c
      → IsFull M (world_of M s) (open_in s t p) c
  is_full_in s h t p c f = (
    subst (λ (r : Map). (fill_of M (lengths_of M (s.undo.active t))).1 < M.size_of (record_on M s.layout c r))
        (sym (tables_here s h)) f.0,
    subst (λ (n : ℕ). s.extents ≤ n) (sym (used_here s h)) f.1,
  )

  pub is_full_here : Is_full_here M
  is_full_here s t p c q h e g r f =
      record {
        next = is_full t (open_in s t p) c q (is_open_in s t p e) (granted_here s h t p g)
            (acts_here s h t p ∙ r) (is_full_in s h t p c f);
        stands = h;
      }

  pub may_lack : (s : Store M) → IsStanding M s → (t : ℕ) (p : Slot M) (a : Ask Name Refusal)
      → MayLackMemoryIn M s t p a → MayLackMemory M (world_of M s) t (open_in s t p) a
  may_lack s h t p (Stop e) l = l
  may_lack s h t p Plain l =
      (l.0, l.1, subst (GivesWay M (M.yields (tx_in M t p) p.position)) (sym (acts_here s h t p)) l.2)
  may_lack s h t p (Take n m) l = (
    granted s t (Take n m) l.0,
    l.1,
    subst (GivesWay M (M.yields (tx_in M t p) p.position)) (sym (acts_here s h t p))
        l.2,
  )

  pub lacks_memory_here : Lacks_memory_here M
  lacks_memory_here s t p h e l =
      record {
        next = lacks_memory t (open_in s t p) (is_open_in s t p e)
            (subst (MayLackMemory M (world_of M s) t (open_in s t p)) (sym (asks_here s h t p)) (may_lack s h t p _ l));
        stands = h;
      }

  -- the mark
  pub saves_here : Saves_here M
  saves_here s t p h e =
      leads s h (Save t) Saved _ (saves t (open_in s t p) (is_open_in s t p e)) (with_mark M t p s) refl
      (tables_here s h)
      (slots_put s h t _ _
      (λ i. Some (record {
        number = p.number;
        request = p.request;
        position = p.position;
        mark_position = p.position;
        mark_count = length_here s h t p e i;
        held = p.held;
      })))
      (seals_here s h) (counts_here s h) refl refl

  pub goes_back_here : Goes_back_here M
  goes_back_here s t p h e =
      let o = open_in s t p in
      let bs = s.undo.active t in
      let is = is_open_in s t p e in
      let mark = mark_here s h t p e in
      leads s h (Back t) Gone_back _ (goes_back t o is) (back_at_mark M t p s)
      (ap (λ z. put_records M t (records_at_mark M z bs) s.undo) is
      ∙ ap (λ (n : ℕ). put_records M t (drop (length bs - n) bs) s.undo) mark)
      (ap (λ z. unwind M (since_mark M z bs) (tables M (world_of M s))) is
      ∙ (ap (λ (n : ℕ). unwind M (take (length bs - n) bs) (tables M (world_of M s))) mark
      ∙ ap (unwind M (take (length bs - p.mark_count) bs)) (tables_here s h)))
      (slots_put s h t _ _ (λ i. Some
      (record {
        number = p.number;
        request = p.request;
        position = p.mark_position;
        mark_position = p.mark_position;
        mark_count = mark i;
        held = p.held;
      })))
      (seals_here s h) (counts_here s h) refl refl

  pub is_not_open_here : Is_not_open_here M
  is_not_open_here s i t h q e = record { next = not_open i t q (is_shut_in s t e); stands = h }
