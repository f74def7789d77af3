-- Runs over two lists, of steps and of answers, and over one list of steps with their answers.
use Rattle.std.proofs.Common.{◌≡◌, List, [], ◌∷◌, ◌++◌, length, refl, ap, subst, sym, arith}
use Rattle.oe_theory.specs.Machine.{Machine}
use Rattle.oe_theory.specs.World.{World}
use Rattle.oe_theory.specs.Next.{Step, Answer, Event, Run, Runs, events, steps_of, answers_of}

module _ (M : Machine) where
  pub run_events : (w : World M) (is : List (Step M)) (ys : List (Answer M)) (w' : World M) → Runs M w is ys w'
      → Run M w (events M is ys) w'
  run_events w [] [] w' r = r
  run_events w [] (y ∷ ys) w' r = absurd r
  run_events w (i ∷ is) [] w' r = absurd r
  run_events w (i ∷ is) (y ∷ ys) w' r = (r.0, r.1, run_events r.0 is ys w' r.2)

  pub events_run : (w : World M) (es : List (Event M)) (w' : World M) → Run M w es w'
      → Runs M w (steps_of M es) (answers_of M es) w'
  events_run w [] w' r = r
  events_run w (e ∷ es) w' r = (r.0, r.1, events_run r.0 es w' r.2)

  pub events-append : (is is' : List (Step M)) (ys ys' : List (Answer M)) → length is ≡ length ys
      → events M (is ++ is') (ys ++ ys') ≡ events M is ys ++ events M is' ys'
  events-append [] is' [] ys' e = refl
  events-append [] is' (y ∷ ys) ys' e = absurd (omega (arith, e))
  events-append (i ∷ is) is' [] ys' e = absurd (omega (arith, e))
  events-append (i ∷ is) is' (y ∷ ys) ys' e = ap (λ es. record { step = i; answer = y } ∷ es)
      (events-append is is' ys ys' (omega (arith, e)))

  pub runs-append : (w v w' : World M) (is is' : List (Step M)) (ys ys' : List (Answer M)) → Runs M w is ys v
      → Runs M v is' ys' w' → Runs M w (is ++ is') (ys ++ ys') w'
  runs-append w v w' [] is' [] ys' r q = subst (λ (z : World M). Runs M z is' ys' w') (sym r) q
  runs-append w v w' [] is' (y ∷ ys) ys' r q = absurd r
  runs-append w v w' (i ∷ is) is' [] ys' r q = absurd r
  runs-append w v w' (i ∷ is) is' (y ∷ ys) ys' r q = (r.0, r.1, runs-append r.0 v w' is is' ys ys' r.2 q)
