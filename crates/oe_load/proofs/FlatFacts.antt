-- The requests alone, one more at a time.
use Rattle.std.proofs.Common.{Result}
use Rattle.std.proofs.Common.{◌≡◌, ℕ, List, [], ◌∷◌, ◌++◌, Option, Ok, Err, refl, sym, ap, subst, ◌∙◌, inr}
use Rattle.std.proofs.lemmas.List.{append-nil, flat_map_more}
use Rattle.oe_theory.specs.World.{bump}
use Rattle.oe_io.specs.declared.ports.Failed.{Failed}
use Rattle.oe_io.specs.Ports.{Sink}
use Rattle.oe_io.specs.Ports as ports
use Rattle.oe_io.proofs.Streaming.{sent_then, sent_as, sent_waits}
use Rattle.std.proofs.Common.{suc, ◌+◌, Some, arith}
use Rattle.std.specs.Prelude.{Bool, false}
use Rattle.std.proofs.lemmas.Bool.{cond-false}
use Rattle.rand_pcg.specs.Lcg.{Lcg}
use Rattle.oe_terms.specs.Draws.{random, words_of}
use Rattle.oe_numbers.specs.declared.forms.Form.TheVariants as load_form
use Rattle.oe_terms.specs.declared.plans.Plan.{Plan}
use Rattle.oe_load.specs.Loads.{IsNext, HasWords, AreServed, none_served, opening_text}
use Rattle.oe_load.specs.declared.origins.Origin.{Origin}
use Rattle.oe_load.specs.Flats.{Sent, InTurn, flat_text, requests_text, behind, first_behind, turn_of}
use Rattle.oe_load.specs.Turns.{Sends, Turns}
use Rattle.oe_load.specs.Ends.{IsFlatBegun, Wrote}
use Rattle.oe_load.specs.declared.turns.Shortage.{Shortage}
use Rattle.oe_load.specs.declared.loads.Ending.TheVariants as ending
use Rattle.oe_load.proofs.EndFacts.{flushed, cut_off}

turn_more : (p : Plan) (xs : List Sent) (s t : ℕ → ℕ) (g h : Lcg) (x : Sent) (u : ℕ → ℕ) → InTurn p s g xs t h
    → turn_of p t h ≡ Some x.terminal → IsNext p t x.terminal x.asked → HasWords x.asked → u ≡ bump x.terminal t
    → InTurn p s g (xs ++ x ∷ []) u (random 1 p.numbers.terminals h).1
turn_more p [] s t g h x u same turn next words e = (
  subst (λ (k : Lcg). turn_of p s k ≡ Some x.terminal) same.1
      (subst (λ (f : ℕ → ℕ). turn_of p f h ≡ Some x.terminal) same.0 turn),
  subst (λ (f : ℕ → ℕ). IsNext p f x.terminal x.asked) same.0 next,
  words,
  (e ∙ ap (bump x.terminal) same.0, ap (λ (k : Lcg). (random 1 p.numbers.terminals k).1) same.1),
)
turn_more p (y ∷ xs) s t g h x u all turn next words e = (
  all.0,
  all.1,
  all.2,
  turn_more p xs (bump y.terminal s) t (random 1 p.numbers.terminals g).1 h x u all.3 turn next words e,
)

text_more : (p : Plan) (o : Origin) (xs : List Sent) (x : Sent)
    → requests_text p o xs ++ flat_text x.terminal x.asked ≡ requests_text p o (xs ++ x ∷ [])
text_more p o xs x = flat_map_more (λ (z : Sent). flat_text z.terminal z.asked) (opening_text p o load_form.Flat) xs x

-- requests were told; they are written or wait
abbrev pub Told : Plan → Origin → Option Sink → Option Sink → List ℕ → (ℕ → ℕ) → Lcg → Type 0
Told p o a b i s g =
    (xs : List Sent) × InTurn p none_served (words_of p.numbers.seed 64) xs s g
    × ports.Sent a [] b i (requests_text p o xs)

module _ (p : Plan) (o : Origin) (a : Option Sink) where
  pub at_first : (i : List ℕ) (s : ℕ → ℕ) (g : Lcg) → i ≡ opening_text p o load_form.Flat → s ≡ none_served
      → g ≡ words_of p.numbers.seed 64 → Told p o a a i s g
  at_first i s g e same drawn = (
    [],
    (same, drawn),
    sent_waits a [] i (requests_text p o [])
        (e ∙ sym (append-nil (opening_text p o load_form.Flat))),
  )

  pub one_more : (b c : Option Sink) (i j k : List ℕ) (s u : ℕ → ℕ) (g h : Lcg) → Told p o a b i s g
      → ports.Sent b i c j [] → Turns {T = Unit {0}} {E = Shortage} p s g j (Ok tt) u h k → Told p o a c k u h
  one_more b c i j k s u g h (xs, turns, sent) more (t, turn, drawn, (q, next, words, same, e)) =
      let x : Sent = record { terminal = t; asked = q } in (
        xs ++ x ∷ [],
        subst (λ (w : Lcg). InTurn p none_served (words_of p.numbers.seed 64) (xs ++ x ∷ []) u w) (sym drawn)
            (turn_more p xs none_served s (words_of p.numbers.seed 64) g x u turns turn next words same),
        sent_as a c [] k (requests_text p o xs ++ flat_text t q) (requests_text p o (xs ++ x ∷ [])) (text_more p o xs x)
            (sent_then a c c [] j k (requests_text p o xs) (flat_text t q)
            (flushed a b c i j (requests_text p o xs) sent more) (sent_waits c j k (flat_text t q) e)),
      )

  is_begun : (xs : List Sent) (s : ℕ → ℕ) (g : Lcg) → InTurn p none_served (words_of p.numbers.seed 64) xs s g
      → IsFlatBegun p o (requests_text p o xs)
  is_begun xs s g h = record { requests = xs; served = s; words = g; in_turn = h; text_is = refl }

  pub ends_served : (b : Option Sink) (i : List ℕ) (s : ℕ → ℕ) (g : Lcg) → Told p o a b i s g → AreServed p s
      → Wrote p o load_form.Flat a b i (Ok ending.Served)
  ends_served b i s g (xs, turns, sent) all = (
    requests_text p o xs,
    record { requests = xs; served = s; words = g; in_turn = turns; all = all; text_is = refl },
    sent,
  )

  pub ends_short : (b c : Option Sink) (i j k : List ℕ) (s : ℕ → ℕ) (g : Lcg) (e : Shortage) → Told p o a b i s g
      → ports.Sent b i c j [] → k ≡ j → Wrote p o load_form.Flat a c k (Ok (ending.Short e))
  ends_short b c i j k s g e (xs, turns, sent) more same = (
    requests_text p o xs,
    inr (is_begun xs s g turns),
    subst (λ (z : List ℕ). ports.Sent a [] c z (requests_text p o xs)) (sym same)
        (flushed a b c i j (requests_text p o xs) sent more),
  )

  pub ends_there : (b : Option Sink) (i : List ℕ) (s : ℕ → ℕ) (g : Lcg) (e : Shortage) → Told p o a b i s g
      → Wrote p o load_form.Flat a b i (Ok (ending.Short e))
  ends_there b i s g e (xs, turns, sent) = (requests_text p o xs, inr (is_begun xs s g turns), sent)

  pub ends_cut : (b c : Option Sink) (i k : List ℕ) (s : ℕ → ℕ) (g : Lcg) (e : Failed) → Told p o a b i s g
      → ports.Cut b i c [] → Wrote p o load_form.Flat a c k (Err e)
  ends_cut b c i k s g e (xs, turns, sent) cut =
      (requests_text p o xs, inr (is_begun xs s g turns), cut_off a b c i (requests_text p o xs) sent cut)

-- THE FIRST TERMINAL THAT PASSES A TEST

-- what is looked at next
pub looks_on : (p : Plan) (f : ℕ → Bool) (t before n m : ℕ) → n ≡ suc m → f (behind p t before) ≡ false
    → first_behind p f t (before + 1) m ≡ first_behind p f t before n
looks_on p f t before n m count none =
    let next : before + 1 ≡ suc before = omega arith in
    ap (λ (k : ℕ). first_behind p f t k m) next
    ∙ (sym (cond-false (f (behind p t before)) (Some (behind p t before)) (first_behind p f t (suc before) m) none)
    ∙ ap (λ (k : ℕ). first_behind p f t before k) (sym count))

-- the request of the terminal whose turn it is
pub sends_turn : {T E : Type 0} (p : Plan) (s : ℕ → ℕ) (g h : Lcg) (t : ℕ) (text : List ℕ) (r : Result T E) (u : ℕ → ℕ)
    (more : List ℕ) → turn_of p s g ≡ Some t → h ≡ (random 1 p.numbers.terminals g).1
    → Sends p s t text r u more → Turns p s g text r u h more
sends_turn p s g h t text (Ok x) u more turn drawn sent = (t, turn, drawn, sent)
sends_turn p s g h t text (Err e) u more turn drawn sent = sent
