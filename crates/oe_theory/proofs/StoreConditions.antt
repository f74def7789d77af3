-- The conditions of the steps on the store are exactly those on its world.
use Rattle.std.proofs.Common.{◌≡◌, ℕ, suc, ◌<◌, ◌≤◌, Option, None, Some, refl, sym, ap, ◌∙◌, subst, inl, inr}
use Rattle.oe_theory.specs.Machine.{Machine, Mode, Ask, Stop, Plain, Take}
use Rattle.oe_theory.specs.World.{go_together}
use Rattle.oe_theory.specs.Next.{record_on, fill_of, GivesWay, IsGranted, IsInTheWay, HasRoom, IsFull, MayLackMemory}
use Rattle.oe_theory.specs.Next.{MayBegin, IsPast, Step, Begin, Advance, Save, Back, Rollback, Read, Audit, Purge}
use Rattle.oe_theory.specs.Next.{Rewind}
use Rattle.oe_theory.specs.Laws.{Laws}
use Rattle.oe_theory.specs.Undo.{lengths_of}
use Rattle.oe_theory.specs.Store.{Slot, Store, tx_in, open_in_slot, open_of, world_of, MayBeginIn, IsGrantedIn}
use Rattle.oe_theory.specs.Store.{IsInTheWayIn, HasRoomIn, IsFullIn, MayLackMemoryIn, IsPastIn}
use Rattle.oe_theory.specs.StoreTheorems.{IsStanding, Conditions_are_exact}
use Rattle.oe_theory.proofs.Sets.{some_none}
use Rattle.oe_theory.proofs.StoreSteps.{tables_here, counts_here, open_in, is_open_in, is_shut_in, found, used_here}
use Rattle.oe_theory.proofs.StoreSteps.{acts_here, granted, has_room, in_the_way, is_full_in, may_lack, may_begin}
use Rattle.oe_theory.proofs.StoreTheorems.{asked, past_here, open_count}

module _ (M : Machine) (L : Laws M) where
  open M use {Map, Change, Name, Request, Refusal}

  shut_back : (s : Store M) (t : ℕ) → (world_of M s).active t ≡ None → s.slots t ≡ None
  shut_back s t = go (s.slots t)
    where
      go : (v : Option (Slot M)) → open_of M (s.undo.active t) s.tables v ≡ None → v ≡ None
      go None e = refl
      go (Some p) e = absurd (some_none (open_in_slot M (s.undo.active t) s.tables p) e)

  begin_back : (s : Store M) → IsStanding M s → (t : ℕ) (q : Request) → MayBegin M (world_of M s) t q
      → MayBeginIn M s t q
  begin_back s h t q b =
      record {
        terminal = b.terminal;
        valid = b.valid;
        known = ap (M.rejection q) (sym (tables_here M L s h)) ∙ b.known;
        closed = shut_back s t b.closed;
        counted = ap (λ (f : ℕ → ℕ). M.number_rejection (suc (f t))) (sym (counts_here M L s h)) ∙ b.counted;
      }

  granted_back : (s : Store M) (t : ℕ) (a : Ask Name Refusal) → IsGranted M (world_of M s) t a
      → IsGrantedIn M s.slots t a
  granted_back s t (Stop e) g = g
  granted_back s t Plain g = g
  granted_back s t (Take n m) g = λ u p ne e. g u (open_in M L s u p) ne (is_open_in M L s u p e)

  in_the_way_back : (s : Store M) (t : ℕ) (n : Name) (m : Mode) (u : ℕ) → IsInTheWay M (world_of M s) t n m u
      → IsInTheWayIn M s.slots t n m u
  in_the_way_back s t n m u b =
      let f = found M L (s.undo.active u) s.tables (s.slots u) b.who b.is_open in
      record {
        other = b.other;
        who = f.0;
        is_open = f.1;
        conflicts = ap (λ (z : Name → Option Mode). go_together m (z n)) f.2 ∙ b.conflicts;
        least = λ v p l ne e. b.least v (open_in M L s v p) l ne (is_open_in M L s v p e);
      }

  room_back : (s : Store M) → IsStanding M s → (t : ℕ) (p : Slot M) (c : Option Change)
      → HasRoom M (world_of M s) (open_in M L s t p) c → HasRoomIn M s t c
  room_back s h t p None x = tt
  room_back s h t p (Some c) (inl x) =
      inl (subst (λ (r : Map). M.size_of (record_on M s.layout c r) ≤ (fill_of M (lengths_of M (s.undo.active t))).1)
      (tables_here M L s h) x)
  room_back s h t p (Some c) (inr x) = inr (subst (λ (n : ℕ). n < s.extents) (used_here M L s h) x)

  full_back : (s : Store M) → IsStanding M s → (t : ℕ) (p : Slot M) (c : Change)
      → IsFull M (world_of M s) (open_in M L s t p) c → IsFullIn M s t c
  full_back s h t p c f = (
    subst (λ (r : Map). (fill_of M (lengths_of M (s.undo.active t))).1 < M.size_of (record_on M s.layout c r))
        (tables_here M L s h) f.0,
    subst (λ (n : ℕ). s.extents ≤ n) (used_here M L s h) f.1,
  )

  lack_back : (s : Store M) → IsStanding M s → (t : ℕ) (p : Slot M) (a : Ask Name Refusal)
      → MayLackMemory M (world_of M s) t (open_in M L s t p) a → MayLackMemoryIn M s t p a
  lack_back s h t p (Stop e) l = l
  lack_back s h t p Plain l =
      (l.0, l.1, subst (GivesWay M (M.yields (tx_in M t p) p.position)) (acts_here M L s h t p) l.2)
  lack_back s h t p (Take n m) l = (
    granted_back s t (Take n m) l.0,
    l.1,
    subst (GivesWay M (M.yields (tx_in M t p) p.position))
        (acts_here M L s h t p) l.2,
  )

  past_back : (s : Store M) → IsStanding M s → (i : Step M) → IsPast M (world_of M s) i → IsPastIn M s i
  past_back s h (Begin t q) x = x
  past_back s h (Advance t) x = x
  past_back s h (Save t) x = x
  past_back s h (Back t) x = x
  past_back s h (Rollback t) x = x
  past_back s h (Read m q) x = sym (asked M L s h q) ∙ x
  past_back s h (Audit m c) x = x
  past_back s h (Purge m) x = x
  past_back s h (Rewind m) x = λ t. shut_back s t (x t)

  pub conditions_are_exact : Conditions_are_exact M
  conditions_are_exact s h =
      record {
        closed = λ t. (shut_back s t, is_shut_in M L s t);
        begins = λ t q. (begin_back s h t q, may_begin M L s h t q);
        granted = λ t a. (granted_back s t a, granted M L s t a);
        in_the_way = λ t n m u. (in_the_way_back s t n m u, in_the_way M L s t n m u);
        room = λ t p c. (room_back s h t p c, has_room M L s h t p c);
        full = λ t p c. (full_back s h t p c, is_full_in M L s h t p c);
        lacks_memory = λ t p a. (lack_back s h t p a, may_lack M L s h t p a);
        quiet = (λ q t. shut_back s t (q t), λ q t. is_shut_in M L s t (q t));
        open_count = open_count M L s M.terminal_limit;
        past = λ i. (past_back s h i, past_here M L s h i);
      }
