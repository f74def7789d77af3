-- A step of one seat keeps the rule, where what it changes suits each other seat.
use Rattle.std.proofs.Common.{◌≡◌, ◌≢◌, ◌⊎◌, ℕ, ◌+◌, ◌*◌, ◌<◌, ◌≤◌, true, true≢false, [], ◌∷◌, ◌++◌, zero, suc, inl}
use Rattle.std.proofs.Common.{inr, List, length, sym, refl, ap, ◌∙◌, subst, ⊎_elim, arith, le_trans}
use Rattle.std.specs.Prelude.{slice_set}
use mathlib.Core.Logic.{dite}
use mathlib.Core.Option.{some, some-ne-none, some-injective}
use native.Mathlib.Decide.{ℕ_discrete}
use lib.ListN.{get_elem?}
use Rattle.atomic_table.specs.Table.{State}
use Rattle.atomic_table.proofs.Lists.{at_set}
use Rattle.oe_moments.specs.declared.notes.PinState.{PinState}
use Rattle.oe_moments.specs.declared.notes.PinState.TheVariants.{Free, Announced, Looked, Sure}
use Rattle.oe_moments.specs.declared.notes.DeskNotes.{DeskNotes}
use Rattle.oe_moments.specs.declared.notes.KeeperNotes.{KeeperNotes}
use Rattle.oe_moments.specs.declared.notes.Notes.{Notes}
use Rattle.oe_moments.specs.declared.notes.Notes.TheVariants.{Gone, Dealer, Desk, Keeper}
use Rattle.oe_moments.specs.Rule.{most, newest, claim, purge_word, pin_at, pin_word, Guards, IsMoment, SureAbove}
use Rattle.oe_moments.specs.Rule.{FitsDesk}
use Rattle.oe_moments.specs.Rule.{FitsKeeper, Fits, Watched, Apart, AreWords, Kept}

-- the seat id goes from v to w, and the words to ws: it is enough to look at one other seat
pub kept_step : (desks : ℕ) (s : State ℕ Notes) (id : ℕ) (v w : Notes) (ws : List ℕ) → Kept desks s
    → get_elem? s.views id ≡ some v → AreWords desks ws → Fits desks ws w
    → ((u : Notes) → Fits desks s.words u → Apart v u → Apart u v → Fits desks ws u × Apart w u × Apart u w)
    → Kept desks (record { words = ws; homes = s.homes; views = slice_set s.views id w })
kept_step desks s id v w ws k at words fits others =
    let other : (j : ℕ) (u : Notes) → j ≢ id → get_elem? s.views j ≡ some u
    → Fits desks ws u × Apart w u × Apart u w = λ j u ne e. others u (k.fits j u e)
    (k.apart id j v u at e (λ q. ne (sym q))) (k.apart j id u v e at ne) in
    record {
      words = words;
      fits = λ j u e. ⊎_elim (λ (t : (j ≡ id) × (w ≡ u)). subst (Fits desks ws) t.1 fits)
          (λ (t : (j ≢ id) × (get_elem? s.views j ≡ some u)). (other j u t.0 t.1).0) (at_set s.views id j w u e);
      apart = λ i j a b ea eb ne. ⊎_elim
          (λ (t : (i ≡ id) × (w ≡ a)). ⊎_elim
          (λ (r : (j ≡ id) × (w ≡ b)). absurd (ne (t.0 ∙ sym r.0)))
          (λ (r : (j ≢ id) × (get_elem? s.views j ≡ some b)). subst (λ (x : Notes). Apart x b) t.1
          (other j b r.0 r.1).1)
          (at_set s.views id j w b eb))
          (λ (t : (i ≢ id) × (get_elem? s.views i ≡ some a)). ⊎_elim
          (λ (r : (j ≡ id) × (w ≡ b)). subst (Apart a) r.1 (other i a t.0 t.1).2)
          (λ (r : (j ≢ id) × (get_elem? s.views j ≡ some b)). k.apart i j a b t.1 r.1 ne)
          (at_set s.views id j w b eb))
          (at_set s.views id i w a ea);
    }

-- a pin word that says sure is not below a limit that the pin guards
pub sure_of : (limit c : ℕ) (t : PinState) (n : ℕ) → Guards limit c t → pin_word t ≡ 2 * n + 2 → limit ≤ n
sure_of limit c Free n g e = absurd (omega arith)
sure_of limit c (Announced m) n g e = absurd (omega arith)
sure_of limit c (Looked m) n g e = absurd (omega arith)
sure_of limit c (Sure m) n g e = omega arith

-- how the words change at a step of the desk d
pub record DeskMove (ws ws' : List ℕ) (d : ℕ) : Type 0 where
  pub size : length ws' ≡ length ws
  pub newest_up : newest ws ≤ newest ws'
  pub newest_fits : newest ws' ≤ most
  pub claim_is : claim ws' ≡ claim ws
  pub purged_is : purge_word ws' ≡ purge_word ws
  pub pins : (e : ℕ) → e ≢ d → pin_at ws' e ≡ pin_at ws e

pub record DeskTurn (ws ws' : List ℕ) (p p' : DeskNotes) : Type 0 where
  pub move : DeskMove ws ws' p.number
  pub number : p'.number ≡ p.number
  pub seen : p'.seen ≤ newest ws'
  pub claimed : p'.claim ≤ claim ws
  pub word : pin_at ws' p.number ≡ pin_word p'.pin
  pub moment : IsMoment p'.pin
  pub carry : (limit : ℕ) → limit ≤ claim ws → Guards limit p.claim p.pin → Guards limit p'.claim p'.pin

sure_after : (ws ws' : List ℕ) (p p' : DeskNotes) (limit k : ℕ) → DeskTurn ws ws' p p' → SureAbove ws limit k
    → (p.number < k → Guards limit p'.claim p'.pin) → SureAbove ws' limit k
sure_after ws ws' p p' limit k t old guards d n lt e =
    dite (ℕ_discrete d p.number)
    (λ (same : d ≡ p.number). sure_of limit p'.claim p'.pin n (guards (subst (λ (x : ℕ). x < k) same lt))
    (sym t.word ∙ (ap (λ (x : ℕ). pin_at ws' x) (sym same) ∙ e)))
    (λ ne. old d n lt (sym (t.move.pins d ne) ∙ e))

desk_others : (desks : ℕ) (ws ws' : List ℕ) (p p' : DeskNotes) → AreWords desks ws → DeskTurn ws ws' p p' → (u : Notes)
    → Fits desks ws u → Apart (Desk p) u → Apart u (Desk p) → Fits desks ws' u × Apart (Desk p') u × Apart u (Desk p')
desk_others desks ws ws' p p' words t Gone f a b = (tt, tt, tt)
desk_others desks ws ws' p p' words t (Dealer o) f a b = (
  record {
    dealt = f.dealt;
    free = λ d le lt. t.move.pins d (λ e. omega arith) ∙ f.free d le lt;
    unpurged = λ off. t.move.purged_is ∙ f.unpurged off;
  },
  tt,
  subst (λ (x : ℕ). x < o.dealt) (sym t.number) b,
)
desk_others desks ws ws' p p' words t (Desk q) f a b = (
  record {
    number = f.number;
    seen = le_trans f.seen t.move.newest_up;
    claimed = subst (λ (x : ℕ). q.claim ≤ x) (sym t.move.claim_is) f.claimed;
    word = t.move.pins q.number b ∙ f.word;
    moment = f.moment;
    guards = subst (λ (x : ℕ). Guards x q.claim q.pin) (sym t.move.purged_is) f.guards;
  },
  (λ e. a (sym t.number ∙ e)),
  (λ e. b (e ∙ t.number)),
)
desk_others desks ws ws' p p' words t (Keeper k) f a b =
    let watched : Watched p' k = λ on lt. t.carry k.least (f.scan on).least
    (a on (subst (λ (x : ℕ). x < k.passed) t.number lt)) in (
      record {
        horizon = f.horizon ∙ sym t.move.purged_is;
        scan = λ on. record {
          least = subst (λ (x : ℕ). k.least ≤ x) (sym t.move.claim_is) (f.scan on).least;
          passed = (f.scan on).passed;
          sure = sure_after ws ws' p p' k.least k.passed t (f.scan on).sure
              (λ lt. watched on (subst (λ (x : ℕ). x < k.passed) (sym t.number) lt));
        };
      },
      watched,
      tt,
    )

pub desk_turn : (desks : ℕ) (s : State ℕ Notes) (id : ℕ) (p p' : DeskNotes) (ws : List ℕ) → Kept desks s
    → get_elem? s.views id ≡ some (Desk p) → DeskTurn s.words ws p p'
    → Kept desks (record { words = ws; homes = s.homes; views = slice_set s.views id (Desk p') })
desk_turn desks s id p p' ws k at t =
    let f : FitsDesk desks s.words p = k.fits id (Desk p) at in
    let guards : Guards (purge_word ws) p'.claim p'.pin = subst (λ (x : ℕ). Guards x p'.claim p'.pin)
    (sym t.move.purged_is)
    (t.carry (purge_word s.words) k.words.purged_fits f.guards) in
    kept_step desks s id (Desk p) (Desk p') ws k at
    record {
      size = t.move.size ∙ k.words.size;
      newest_fits = t.move.newest_fits;
      claim_fits = subst (λ (x : ℕ). x ≤ most) (sym t.move.claim_is) k.words.claim_fits;
      purged_fits = subst (λ (x : ℕ). purge_word ws ≤ x) (sym t.move.claim_is)
          (subst (λ (x : ℕ). x ≤ claim s.words) (sym t.move.purged_is) k.words.purged_fits);
      sure = sure_after s.words ws p p' (purge_word ws) desks t
          (subst (λ (x : ℕ). SureAbove s.words x desks) (sym t.move.purged_is) k.words.sure) (λ _. guards);
    }
    record {
      number = subst (λ (x : ℕ). x < desks) (sym t.number) f.number;
      seen = t.seen;
      claimed = subst (λ (x : ℕ). p'.claim ≤ x) (sym t.move.claim_is) t.claimed;
      word = ap (λ (x : ℕ). pin_at ws x) t.number ∙ t.word;
      moment = t.moment;
      guards = guards;
    }
    (desk_others desks s.words ws p p' k.words t)

-- how the words and what the keeper knows change at one of its steps
pub record KeeperTurn (desks : ℕ) (ws ws' : List ℕ) (k k' : KeeperNotes) : Type 0 where
  pub size : length ws' ≡ length ws
  pub newest_is : newest ws' ≡ newest ws
  pub claim_up : claim ws ≤ claim ws'
  pub claim_fits : claim ws' ≤ most
  pub purged_fits : purge_word ws' ≤ claim ws'
  pub pins : (d : ℕ) → pin_at ws' d ≡ pin_at ws d
  pub horizon : k'.horizon ≡ purge_word ws'
  pub scan : k'.scanning ≡ true → (k'.least ≤ claim ws') × (k'.passed ≤ desks)
  -- a pin's guards of the old horizon and, where it was passed, of the old least are guards of the new ones
  pub least : k'.scanning ≡ true → (d c : ℕ) (t : PinState) → d < desks → d < k'.passed → pin_at ws d ≡ pin_word t
      → (k.scanning ≡ true → d < k.passed → Guards k.least c t) → Guards k'.least c t
  pub purges : (d c : ℕ) (t : PinState) → d < desks → Guards (purge_word ws) c t
      → (k.scanning ≡ true → d < k.passed → Guards k.least c t) → Guards (purge_word ws') c t

pub keeper_turn : (desks : ℕ) (s : State ℕ Notes) (id : ℕ) (k k' : KeeperNotes) (ws : List ℕ) → Kept desks s
    → get_elem? s.views id ≡ some (Keeper k) → KeeperTurn desks s.words ws k k'
    → Kept desks (record { words = ws; homes = s.homes; views = slice_set s.views id (Keeper k') })
keeper_turn desks s id k k' ws r at t =
    let f : FitsKeeper desks s.words k = r.fits id (Keeper k) at in
    kept_step desks s id (Keeper k) (Keeper k') ws r at
    record {
      size = t.size ∙ r.words.size;
      newest_fits = subst (λ (x : ℕ). x ≤ most) (sym t.newest_is) r.words.newest_fits;
      claim_fits = t.claim_fits;
      purged_fits = t.purged_fits;
      sure = λ d n lt e. t.purges d 0 (Sure n) lt (r.words.sure d n lt (sym (t.pins d) ∙ e))
          (λ on below. (f.scan on).sure d n below (sym (t.pins d) ∙ e));
    }
    record {
      horizon = t.horizon;
      scan = λ on. record {
        least = (t.scan on).0;
        passed = (t.scan on).1;
        sure = λ d n lt e. t.least on d 0 (Sure n) (let q = (t.scan on).1 in omega arith) lt (sym (t.pins d) ∙ e)
            (λ was below. (f.scan was).sure d n below (sym (t.pins d) ∙ e));
      };
    }
    others
  where
    others : (u : Notes) → Fits desks s.words u → Apart (Keeper k) u → Apart u (Keeper k)
        → Fits desks ws u × Apart (Keeper k') u × Apart u (Keeper k')
    others Gone f a b = (tt, tt, tt)
    others (Dealer o) f a b = (
      record {
        dealt = f.dealt;
        free = λ d le lt. t.pins d ∙ f.free d le lt;
        unpurged = λ off. absurd (true≢false (sym b ∙ off));
      },
      tt,
      b,
    )
    others (Desk q) f a b = (
      record {
        number = f.number;
        seen = subst (λ (x : ℕ). q.seen ≤ x) (sym t.newest_is) f.seen;
        claimed = le_trans f.claimed t.claim_up;
        word = t.pins q.number ∙ f.word;
        moment = f.moment;
        guards = t.purges q.number q.claim q.pin f.number f.guards b;
      },
      tt,
      (λ on lt. t.least on q.number q.claim q.pin f.number lt f.word b),
    )
    others (Keeper l) f a b = absurd a

at_push : (l : List Notes) (a b : Notes) (j : ℕ) → get_elem? (l ++ a ∷ []) j ≡ some b
    → (get_elem? l j ≡ some b) ⊎ ((j ≡ length l) × (a ≡ b))
at_push [] a b zero e = inr (refl, some-injective a b e)
at_push [] a b (suc j) e = absurd (some-ne-none b (sym e))
at_push (x ∷ xs) a b zero e = inl e
at_push (x ∷ xs) a b (suc j) e = ⊎_elim (λ h. inl h) (λ (t : (j ≡ length xs) × (a ≡ b)). inr (ap suc t.0, t.1))
    (at_push xs a b j e)

-- a new seat
kept_push : (desks : ℕ) (s : State ℕ Notes) (w : Notes) → Kept desks s → Fits desks s.words w
    → ((j : ℕ) (u : Notes) → get_elem? s.views j ≡ some u → Apart w u × Apart u w)
    → Kept desks (record { words = s.words; homes = s.homes; views = s.views ++ w ∷ [] })
kept_push desks s w k fits others = record {
  words = k.words;
  fits = λ j u e. ⊎_elim (λ was. k.fits j u was)
      (λ (t : (j ≡ length s.views) × (w ≡ u)). subst (Fits desks s.words) t.1 fits) (at_push s.views w u j e);
  apart = λ i j a b ea eb ne. ⊎_elim
      (λ (was : get_elem? s.views i ≡ some a). ⊎_elim
      (λ (is : get_elem? s.views j ≡ some b). k.apart i j a b was is ne)
      (λ (t : (j ≡ length s.views) × (w ≡ b)). subst (Apart a) t.1 (others i a was).1)
      (at_push s.views w b j eb))
      (λ (t : (i ≡ length s.views) × (w ≡ a)). ⊎_elim
      (λ (is : get_elem? s.views j ≡ some b). subst (λ (x : Notes). Apart x b) t.1 (others j b is).0)
      (λ (r : (j ≡ length s.views) × (w ≡ b)). absurd (ne (t.0 ∙ sym r.0)))
      (at_push s.views w b j eb))
      (at_push s.views w a i ea);
}

-- a seat is cut in two
pub kept_split : (desks : ℕ) (s : State ℕ Notes) (id : ℕ) (v left right : Notes) → Kept desks s
    → get_elem? s.views id ≡ some v → Fits desks s.words left → Fits desks s.words right → Apart left right
    → Apart right left
    → ((u : Notes) → Fits desks s.words u → Apart v u → Apart u v → (Apart left u × Apart u left)
    × (Apart right u × Apart u right))
    → Kept desks (record { words = s.words; homes = s.homes; views = slice_set s.views id left ++ right ∷ [] })
kept_split desks s id v left right k at fl fr lr rl others =
    let half : Kept desks (record { words = s.words; homes = s.homes; views = slice_set s.views id left }) =
    kept_step desks s id v left s.words k at k.words fl
    (λ u f a b. (f, (others u f a b).0.0, (others u f a b).0.1)) in
    kept_push desks (record { words = s.words; homes = s.homes; views = slice_set s.views id left }) right half fr
    (λ j u e. ⊎_elim
    (λ (t : (j ≡ id) × (left ≡ u)). subst (λ (x : Notes). Apart right x × Apart x right) t.1 (rl, lr))
    (λ (t : (j ≢ id) × (get_elem? s.views j ≡ some u)).
    (others u (k.fits j u t.1) (k.apart id j v u at t.1 (λ q. t.0 (sym q))) (k.apart j id u v t.1 at t.0)).1)
    (at_set s.views id j left u e))
