-- A plan, and what it begins on, have one whole script.
use Rattle.std.proofs.Common.{◌≡◌, ℕ, List, [], ◌∷◌, None, refl, sym, ap, subst, ◌∙◌, arith, inl, inr}
use Rattle.std.specs.Prelude.{◌⊎◌}
use Rattle.oe_theory.specs.World.{World}
use Rattle.oe_theory.specs.Next.{Next, Answer, Rollback, Aborted, More, Committed, Busy, Rolled_back, Not_open}
use Rattle.oe_theory.specs.Next as next
use Rattle.oe_theory.specs.Theorems.{world_at_opening}
use Rattle.oe_theory.proofs.Determined.{determined}
use Rattle.oe_rows.specs.declared.layouts.Layout.TheVariants.{WholeRows}
use Rattle.oe_requests.specs.declared.refusals.Refusal.TheVariants.{InvalidItem}
use Rattle.oe_model.specs.Rows.{Rows}
use Rattle.oe_model.specs.System.{system}
use Rattle.oe_model.proofs.RowFacts.{same_rows}
use Rattle.oe_lines.specs.declared.commands.Command.{Command}
use Rattle.oe_lines.specs.declared.commands.Command.TheVariants as command
use Rattle.oe_lines.specs.declared.commands.MomentChoice.TheVariants as moment
use Rattle.oe_busy.specs.declared.happenings.Happening.{Happening}
use Rattle.oe_terms.specs.declared.plans.Plan.{Plan}
use Rattle.oe_terms.specs.declared.plans.Asked.{Asked}
use Rattle.oe_load.specs.declared.origins.Origin.{Origin}
use Rattle.oe_load.specs.declared.origins.Origin.TheVariants as origin
use Rattle.oe_load.specs.declared.picks.Pick.{Pick}
use Rattle.oe_load.specs.Loads as loads
use Rattle.oe_load.specs.Loads.{Begins, IsNext, IsDone, Line, script_text}
use Rattle.oe_load.specs.Together as together
use Rattle.oe_load.specs.Together.{Opens}
use Rattle.oe_load.specs.Scripts as scripts
use Rattle.oe_load.specs.Scripts.{State, Does, IsEarlyTurn, IsDrawnTurn, IsTurn, Lines, first_state, pick_in}
use Rattle.oe_load.specs.Laws.{Scripts_are_one}
use Rattle.oe_load.proofs.OneFacts.{is_more, is_busy, is_committed, is_aborted, shut_memory, rolled_memory}
use Rattle.oe_load.proofs.OneFacts.{shut_going, shut_full, turn_one}

base_one : (p : Plan) (o : Origin) (r s : Rows) → Begins p o r → Begins p o s → r ≡ s
base_one p origin.Population r s a b = same_rows r s (λ k. a k ∙ sym (b k))
base_one p (origin.Tables t) r s a b = a ∙ sym b

-- WHERE ALL IS DONE NO TURN FOLLOWS

no_next : (p : Plan) (w : World system) (s : ℕ → ℕ) (t : ℕ) (a : Asked) → IsDone p w s → IsNext p s t a → ⊥
no_next p w s t a done ready = omega (arith, ready.left, done.all t ready.low ready.high)

rolled_open : ◌≡◌ {A = Answer system} Rolled_back Not_open → ⊥
rolled_open e = cc

no_rollback : (w : World system) (t : ℕ) (v : World system) → w.active t ≡ None
    → Next system w (Rollback t) Rolled_back v → ⊥
no_rollback w t v shut n =
    rolled_open
    (determined system w (Rollback t) Rolled_back Not_open v w n (next.not_open (Rollback t) t refl shut) rolled_memory
    (shut_memory system)).0

done_line : (p : Plan) (w : World system) (s : ℕ → ℕ) (c : Command) (v : World system) (u : ℕ → ℕ) → IsDone p w s
    → Line p w s c v u → c ≡ command.Purge moment.Now
done_line p w s _ v _ done (loads.begins t q _ ready n) = absurd (no_next p w s t _ done ready)
done_line p w s _ v _ done (loads.goes_on t _ n) = absurd (shut_going p w s t More v (done.quiet t) n is_more)
done_line p w s _ v _ done (loads.waits t x y _ n) =
    absurd (shut_going p w s t (Busy x y) v (done.quiet t) n (is_busy x y))
done_line p w s _ v _ done (loads.commits t m y _ n) =
    absurd (shut_going p w s t (Committed m y) v (done.quiet t) n (is_committed m y))
done_line p w s _ v _ done (loads.rolls_back t _ drawn n) =
    absurd (shut_going p w s t (Aborted InvalidItem) v (done.quiet t) n (is_aborted InvalidItem))
done_line p w s _ v _ done (loads.reads t q f _ ready n) = absurd (no_next p w s t _ done ready)
done_line p w s _ v _ done (loads.gives_way t _ n) = absurd (no_rollback w t v (done.quiet t) n)
done_line p w s _ v _ done (loads.purges m _ n) = refl

opens_purge : (p : Plan) (k : ℕ) (s : ℕ → ℕ) (c : Command) (u : ℕ → ℕ) (n : ℕ) → Opens p k s c u n
    → c ≡ command.Purge moment.Now → ⊥
opens_purge p k s _ _ _ (together.begins q few) e = cc
opens_purge p k s _ _ _ (together.reads q few is left) e = cc
opens_purge p k s _ _ _ (together.reads_last q few is last) e = cc

does_purge : (p : Plan) (w : World system) (s : ℕ → ℕ) (k : Pick) (c : Command) (u : ℕ → ℕ) → IsDone p w s
    → Does p w s k c u → c ≡ command.Purge moment.Now → ⊥
does_purge p w s _ _ _ done (scripts.begins t q) e = cc
does_purge p w s _ _ _ done (scripts.reads t q shut is) e = cc
does_purge p w s _ _ _ done (scripts.goes_on t u) e = cc
does_purge p w s _ _ _ done (scripts.purges t full left) e = shut_full p w s t (done.quiet t) full
does_purge p w s _ _ _ done (scripts.makes_room t full none) e = cc
does_purge p w s _ _ _ done (scripts.gives_way t) e = cc

no_turn : (p : Plan) (s : State) (c : Command) (h : Happening) (t : State) → IsDone p s.world s.served
    → IsTurn p s c h t → ⊥
no_turn p s c h t done turn = by turn.in_turn
  where
    is_purge : c ≡ command.Purge moment.Now
    is_purge = done_line p s.world s.served c t.world t.served done turn.told.line

    by : IsEarlyTurn p s c t ⊎ IsDrawnTurn p s c h t → ⊥
    by (inl a) = opens_purge p s.begun s.served c t.served t.begun a.opens is_purge
    by (inr a) = does_purge p s.world s.served (pick_in p s) c t.served done a.does is_purge

lines_one : (p : Plan) (s : State) (cs ds : List Command) (t u : State) → Lines p s cs t → Lines p s ds u
    → IsDone p t.world t.served → IsDone p u.world u.served → cs ≡ ds
lines_one p s [] [] t u one two done too = refl
lines_one p s [] (d ∷ ds) t u one (g, after, turn, rest) done too =
    absurd (no_turn p s d g after (subst (λ (z : State). IsDone p z.world z.served) one done) turn)
lines_one p s (c ∷ cs) [] t u (h, mid, turn, rest) two done too =
    absurd (no_turn p s c h mid (subst (λ (z : State). IsDone p z.world z.served) two too) turn)
lines_one p s (c ∷ cs) (d ∷ ds) t u (h, mid, turn, rest) (g, after, other, more) done too =
    let e = turn_one p s c d h g mid after turn other in
    let f = lines_one p mid cs ds t u rest (subst (λ (z : State). Lines p z ds u) (sym e.1) more) done too in
    ap (λ (z : Command). z ∷ cs) e.0 ∙ ap (λ (z : List Command). d ∷ z) f

pub scripts_are_one : Scripts_are_one
scripts_are_one p o a b one two =
    let same = base_one p o one.script.base two.script.base one.script.begun_on two.script.begun_on in
    let lines = lines_one p (first_state p
    (world_at_opening system one.script.base p.numbers.extents WholeRows)) one.lines
    two.lines one.state two.state one.script.lines
    (subst (λ (r : Rows). Lines p (first_state p
    (world_at_opening system r p.numbers.extents WholeRows)) two.lines two.state)
    (sym same) two.script.lines)
    one.done two.done
    in
    one.text_is ∙ (ap (script_text p o) lines ∙ sym two.text_is)
