-- A line more of a load.
use Rattle.std.proofs.Common.{◌≡◌, ℕ, suc, ◌+◌, ◌≤◌, ◌<◌, List, [], ◌∷◌, ◌++◌, length, refl, sym, ap, subst, ◌∙◌, arith}
use Rattle.std.proofs.Common.{Result, Ok, Err, IfOk, inl, inr}
use Rattle.oe_theory.proofs.Sets.{set_same}
use Rattle.std.specs.Int.{IsInRange}
use Rattle.std.specs.Prelude.{◌⊎◌, ◌==◌, is_some, true, false}
use Rattle.std.proofs.lemmas.Bool.{cases_Bool, cond-true, cond-false, eqb-false, eqb-true}
use Rattle.std.proofs.lemmas.List.{length-append, flat_map_more}
use Rattle.oe_theory.specs.Machine.{Machine}
use Rattle.oe_theory.specs.World.{World, newest, bump, set}
use Rattle.oe_theory.specs.Next.{Next, Step, Answer, Begin, Advance, Rollback, Read, Purge, is_full}
use Rattle.oe_theory.specs.Next.{Aborted, Begun, More, Committed, Busy, Rolled_back, Replied, Purged, Undo_full}
use Rattle.oe_rows.specs.declared.locks.Name.{Name}
use Rattle.oe_requests.specs.declared.requests.Request.{Request}
use Rattle.oe_requests.specs.declared.requests.Query.{Query}
use Rattle.oe_requests.specs.declared.refusals.Refusal.TheVariants.{InvalidItem}
use Rattle.oe_requests.specs.declared.replies.Reply.{Reply}
use Rattle.oe_requests.specs.declared.replies.QueryReply.{QueryReply}
use Rattle.oe_model.specs.System.{system}
use Rattle.oe_model.specs.Requests.{IsRequest}
use Rattle.oe_lines.specs.Grammar.{HasForm, IsQuery}
use Rattle.oe_lines.specs.declared.commands.Command.{Command}
use Rattle.oe_lines.specs.declared.commands.Command.TheVariants as command
use Rattle.oe_lines.specs.declared.commands.MomentChoice.TheVariants as moment
use Rattle.oe_lines.specs.Texts.{line_text}
use Rattle.oe_numbers.specs.declared.forms.Form.TheVariants as load_form
use Rattle.oe_numbers.specs.declared.forms.Items.TheVariants.{AsDrawn}
use Rattle.oe_terms.specs.declared.plans.Plan.{Plan}
use Rattle.oe_terms.specs.declared.plans.Asked.{Asked}
use Rattle.oe_terms.specs.declared.plans.Asked.TheVariants as asked
use Rattle.oe_terms.specs.Plans.{asked_of}
use Rattle.oe_model.specs.Rows.{Rows}
use Rattle.oe_rows.specs.declared.layouts.Layout.TheVariants.{WholeRows}
use Rattle.oe_theory.specs.Theorems.{world_at_opening}
use Rattle.oe_load.specs.Loads.{Begins, opening_text, IsNext, Line, Told, none_served, script_text}
use Rattle.oe_load.specs.declared.origins.Origin.{Origin}
use Rattle.oe_load.specs.Loads.{begins, goes_on, waits, commits, rolls_back, reads, gives_way, purges}
use Rattle.oe_load.specs.Together.{Opens, reads_last}
use Rattle.oe_load.specs.Together as together
use Rattle.oe_load.specs.Picks.{holders_of, named_in, none_named, terminal_of}
use Rattle.oe_load.specs.Scripts.{State, Does, Lines, IsScript, IsTurn, draw, first_state, pick_in}
use Rattle.oe_load.specs.Scripts as scripts
use Rattle.oe_load.specs.declared.loads.Drawing.{Drawing}
use Rattle.oe_load.specs.declared.picks.Pick.{Pick}
use Rattle.oe_load.specs.declared.picks.Pick.TheVariants as pick
use Rattle.oe_load.specs.Turns.{Tells, Turned, AsksNext, Steps, Took, begun_after, state_of}
use Rattle.oe_terms.specs.Draws.{words_of}
use Rattle.oe_load.specs.declared.turns.Shortage.{Shortage}
use Rattle.oe_machine.specs.Asks.{wanted_by}
use Rattle.oe_busy.specs.declared.happenings.Happening.{Happening}
use Rattle.oe_busy.specs.declared.happenings.Happening.TheVariants as happening
use Rattle.oe_load.specs.Happens.{wanted_in_cycle, Happens, IsBreaking, IsPassing}
use Rattle.oe_load.specs.Happens as happens

-- A LINE BEHIND OTHERS

pub lines_more : (p : Plan) (s : State) (cs : List Command) (mid : State) (c : Command) (h : Happening) (t : State)
    → Lines p s cs mid → IsTurn p mid c h t → Lines p s (cs ++ c ∷ []) t
lines_more p s [] mid c h t e k = (h, t, subst (λ (z : State). IsTurn p z c h t) e k, refl)
lines_more p s (d ∷ cs) mid c h t (x, next, first, rest) k =
    (x, next, first, lines_more p next cs mid c h t rest k)

pub script_more : (p : Plan) (o : Origin) (cs : List Command) (s : State) (c : Command) (h : Happening) (t : State)
    → IsScript p o cs s → IsTurn p s c h t → IsScript p o (cs ++ c ∷ []) t
script_more p o cs s c h t script k = record {
  base = script.base;
  begun_on = script.begun_on;
  lines = lines_more p _ cs s c h t script.lines k;
}

pub text_more : (p : Plan) (o : Origin) (cs : List Command) (c : Command)
    → script_text p o cs ++ line_text c ≡ script_text p o (cs ++ c ∷ [])
text_more p o cs c = flat_map_more line_text (opening_text p o load_form.Script) cs c

-- WHAT A LINE TELLS

short_of : (old new text : List ℕ) (k : ℕ) → new ≡ old ++ text → length new ≤ length old + k → k ≤ 1_025
    → length text ≤ 1_025
short_of old new text k e h small =
    let long = ap length e in
    let parts = length-append old text in
    omega (arith, long, parts, h, small)

tells : (p : Plan) (w : World system) (s : ℕ → ℕ) (k : Pick) (c : Command) (v : World system) (u : ℕ → ℕ)
    (old new : List ℕ) (x : Happening) (n : ℕ) → HasForm c → Line p w s c v u → Happens w c v x → Does p w s k c u
    → new ≡ old ++ line_text c → length new ≤ length old + n → n ≤ 1_025 → Tells p w s k old x v u new
tells p w s k c v u old new x n form line happened does e h small =
    (c, record { form = form; short = short_of old new (line_text c) n e h small; line = line }, happened, does, e)

module _ (p : Plan) (w : World system) (s : ℕ → ℕ) (v : World system) (old new : List ℕ) where
  told : (c : Command) (u : ℕ → ℕ) (k : ℕ) → HasForm c → Line p w s c v u → new ≡ old ++ line_text c
      → length new ≤ length old + k → k ≤ 1_025 → Told p w s c v u
  told c u k form line e h small =
      record { form = form; short = short_of old new (line_text c) k e h small; line = line }

  pub asks_begin : (t : ℕ) (q : Request) → IsInRange 1 64 t → IsRequest q → IsNext p s t (asked.Transaction q)
      → Next system w (Begin t q) Begun v → new ≡ old ++ line_text (command.Begin t q) → length new ≤ length old + 574
      → AsksNext p w s t old (Ok happening.Begun) v s new
  asks_begin t q range form next n e h =
      (q, told (command.Begin t q) s 574 (range, form) (begins t q v next n) e h (omega arith), refl, e)

  pub tells_more : (t : ℕ) (x : Happening) → IsInRange 1 64 t → Next system w (Advance t) More v
      → IsPassing t (wanted_by w t) x → new ≡ old ++ line_text (command.Next t) → length new ≤ length old + 16
      → Tells p w s (pick.Turn t) old x v s new
  tells_more t x range n q e h = tells p w s (pick.Turn t) (command.Next t) v s old new x 16 range (goes_on t v n)
      (happens.passes t More v x n tt q) (scripts.goes_on t s) e h (omega arith)

  pub tells_busy : (t : ℕ) (x : Name) (u : ℕ) → IsInRange 1 64 t → Next system w (Advance t) (Busy x u) v
      → new ≡ old ++ line_text (command.Next t) → length new ≤ length old + 16
      → Tells p w s (pick.Turn t) old (happening.Waits t x u) v s new
  tells_busy t x u range n e h = tells p w s (pick.Turn t) (command.Next t) v s old new (happening.Waits t x u) 16 range
      (waits t x u v n) (happens.meets t x u v n) (scripts.goes_on t s) e h (omega arith)

  pub tells_commit : (t m : ℕ) (y : Reply) (x : Happening) (after : ℕ → ℕ) → IsInRange 1 64 t
      → Next system w (Advance t) (Committed m y) v → IsPassing t (wanted_by w t) x → after ≡ bump t s
      → new ≡ old ++ line_text (command.Next t) → length new ≤ length old + 16
      → Tells p w s (pick.Turn t) old x v after new
  tells_commit t m y x after range n q same e h =
      subst (λ (f : ℕ → ℕ). Tells p w s (pick.Turn t) old x v f new) (sym same)
      (tells p w s (pick.Turn t) (command.Next t) v (bump t s) old new x 16 range (commits t m y v n)
      (happens.passes t (Committed m y) v x n tt q) (scripts.goes_on t (bump t s)) e h (omega arith))

  pub tells_abort : (t : ℕ) (x : Happening) (after : ℕ → ℕ) → IsInRange 1 64 t → p.items ≡ AsDrawn
      → Next system w (Advance t) (Aborted InvalidItem) v → IsPassing t (wanted_by w t) x → after ≡ bump t s
      → new ≡ old ++ line_text (command.Next t) → length new ≤ length old + 16
      → Tells p w s (pick.Turn t) old x v after new
  tells_abort t x after range drawn n q same e h =
      subst (λ (f : ℕ → ℕ). Tells p w s (pick.Turn t) old x v f new) (sym same)
      (tells p w s (pick.Turn t) (command.Next t) v (bump t s) old new x 16 range (rolls_back t v drawn n)
      (happens.passes t (Aborted InvalidItem) v x n tt q) (scripts.goes_on t (bump t s)) e h (omega arith))

  pub asks_reply : (t : ℕ) (q : Query) (f : QueryReply) (after : ℕ → ℕ) (k : ℕ) → IsQuery q
      → IsNext p s t (asked.Query q) → k ≡ newest system w
      → Next system w (Read k q) (Replied f) v → after ≡ bump t s
      → new ≡ old ++ line_text (command.Read moment.Now q) → length new ≤ length old + 55
      → AsksNext p w s t old (Ok happening.Done) v after new
  asks_reply t q f after k form next now n same e h = (
    q,
    subst (λ (g : ℕ → ℕ). Told p w s (command.Read moment.Now q) v g) (sym same)
        (told (command.Read moment.Now q) (bump t s) 55 (tt, form)
        (reads t q f v next (subst (λ (j : ℕ). Next system w (Read j q) (Replied f) v) now n)) e h (omega arith)),
    next.asks,
    same,
    e,
  )

  pub tells_way : (k : Pick) (t : ℕ) (x : Happening) → Does p w s k (command.Rollback t) s → IsInRange 1 64 t
      → Next system w (Rollback t) Rolled_back v → IsBreaking t (wanted_in_cycle w t) x
      → new ≡ old ++ line_text (command.Rollback t) → length new ≤ length old + 20 → Tells p w s k old x v s new
  tells_way k t x does range n q e h = tells p w s k (command.Rollback t) v s old new x 20 range (gives_way t v n)
      (happens.breaks t v x q) does e h (omega arith)

  pub tells_purge : (k : Pick) (m n : ℕ) → Does p w s k (command.Purge moment.Now) s → n ≡ newest system w
      → Next system w (Purge n) (Purged m) v → new ≡ old ++ line_text (command.Purge moment.Now)
      → length new ≤ length old + 10 → Tells p w s k old happening.Done v s new
  tells_purge k m n does now next e h =
      tells p w s k (command.Purge moment.Now) v s old new happening.Done 10 tt
      (purges m v (subst (λ (j : ℕ). Next system w (Purge j) (Purged m) v) now next)) (happens.purges v) does e h
      (omega arith)

-- a terminal that has nothing open asked for its next request, or nothing was written
pub turned_of : (p : Plan) (w : World system) (s : ℕ → ℕ) (t : ℕ) (old : List ℕ) (r : Result Happening Shortage)
    (v : World system) (u : ℕ → ℕ) (new : List ℕ) → is_some (w.active t) ≡ false → AsksNext p w s t old r v u new
    → Turned p w s (pick.Turn t) old r v u new
turned_of p w s t old (Ok happening.Begun) v u new shut (q, line, same, e) = (
  command.Begin t q,
  line,
  happens.begins t q v,
  subst (λ (f : ℕ → ℕ). Does p w s (pick.Turn t) (command.Begin t q) f) (sym same) (scripts.begins t q),
  e,
)
turned_of p w s t old (Ok happening.Done) v u new shut (q, line, is, same, e) = (
  command.Read moment.Now q,
  line,
  happens.reads q v,
  subst (λ (f : ℕ → ℕ). Does p w s (pick.Turn t) (command.Read moment.Now q) f) (sym same)
      (scripts.reads t q shut is),
  e,
)
turned_of p w s t old (Ok (happening.Went x)) v u new shut h = absurd h
turned_of p w s t old (Ok (happening.Took x n m)) v u new shut h = absurd h
turned_of p w s t old (Ok (happening.Waits x n y)) v u new shut h = absurd h
turned_of p w s t old (Ok (happening.Broke x n)) v u new shut h = absurd h
turned_of p w s t old (Ok (happening.GaveWay x)) v u new shut h = absurd h
turned_of p w s t old (Err e) v u new shut h = h

-- WHO HAS BEGUN

opens_begin : (p : Plan) (k now : ℕ) (s u : ℕ → ℕ) (q : Request) → k < p.numbers.terminals → u ≡ s → now ≡ suc k
    → Opens p k s (command.Begin (suc k) q) u now
opens_begin p k now s u q few same count =
    subst (λ (m : ℕ). Opens p k s (command.Begin (suc k) q) u m) (sym count)
    (subst (λ (f : ℕ → ℕ). Opens p k s (command.Begin (suc k) q) f (suc k)) (sym same) (together.begins q few))

opens_read : (p : Plan) (k now : ℕ) (s u : ℕ → ℕ) (q : Query) → k < p.numbers.terminals
    → asked_of p (suc k) (p.first + s (suc k)) ≡ asked.Query q → u ≡ bump (suc k) s
    → now ≡ begun_after p k u happening.Done → Opens p k s (command.Read moment.Now q) u now
opens_read p k now s u q few is same count = by (cases_Bool (u (suc k) == p.numbers.requests))
  where
    at : (n : ℕ) → now ≡ n → Opens p k s (command.Read moment.Now q) (bump (suc k) s) n
        → Opens p k s (command.Read moment.Now q) u now
    at n e h = subst (λ (m : ℕ). Opens p k s (command.Read moment.Now q) u m) (sym e)
        (subst (λ (f : ℕ → ℕ). Opens p k s (command.Read moment.Now q) f n) (sym same) h)

    by : ((u (suc k) == p.numbers.requests) ≡ true) ⊎ ((u (suc k) == p.numbers.requests) ≡ false)
        → Opens p k s (command.Read moment.Now q) u now
    by (inl last) = at (suc k) (count ∙ cond-true (u (suc k) == p.numbers.requests) (suc k) k last)
        (reads_last q few is (sym (set_same (suc k) (suc (s (suc k))) s (suc k) refl)
        ∙ (sym (ap (λ (f : ℕ → ℕ). f (suc k)) same) ∙ eqb-true (u (suc k)) p.numbers.requests last)))
    by (inr more) = at k (count ∙ cond-false (u (suc k) == p.numbers.requests) (suc k) k more)
        (together.reads q few is (λ e. eqb-false (u (suc k)) p.numbers.requests more
        (ap (λ (f : ℕ → ℕ). f (suc k)) same ∙ (set_same (suc k) (suc (s (suc k))) s (suc k) refl ∙ e))))

early_turn : (p : Plan) (s t : State) (c : Command) (h : Happening) → Told p s.world s.served c t.world t.served
    → Happens s.world c t.world h → Opens p s.begun s.served c t.served t.begun → t.named ≡ s.named
    → t.words ≡ s.words → IsTurn p s c h t
early_turn p s t c h told happened opens named words = record {
  told = told;
  happened = happened;
  in_turn = inl (record { opens = opens; named_stay = named; words_stay = words });
}

steps_at : (p : Plan) (s t : State) (old : List ℕ) (o : Happening) (new : List ℕ) → s.begun < p.numbers.terminals
    → AsksNext p s.world s.served (suc s.begun) old (Ok o) t.world t.served new
    → t.begun ≡ begun_after p s.begun t.served o → t.named ≡ s.named → t.words ≡ s.words → Steps p s old o t new
steps_at p s t old happening.Begun new few (q, line, same, e) count named words = (
  command.Begin (suc s.begun) q,
  early_turn p s t (command.Begin (suc s.begun) q) happening.Begun line (happens.begins (suc s.begun) q t.world)
      (opens_begin p s.begun t.begun s.served t.served q few same count) named words,
  e,
)
steps_at p s t old happening.Done new few (q, line, is, same, e) count named words = (
  command.Read moment.Now q,
  early_turn p s t (command.Read moment.Now q) happening.Done line (happens.reads q t.world)
      (opens_read p s.begun t.begun s.served t.served q few is same count) named words,
  e,
)
steps_at p s t old (happening.Went x) new few h count named words = absurd h
steps_at p s t old (happening.Took x n m) new few h count named words = absurd h
steps_at p s t old (happening.Waits x n y) new few h count named words = absurd h
steps_at p s t old (happening.Broke x n) new few h count named words = absurd h
steps_at p s t old (happening.GaveWay x) new few h count named words = absurd h

-- an early turn
pub steps_of : (p : Plan) (s t : State) (x : ℕ) (old : List ℕ) (o : Happening) (new : List ℕ)
    → s.begun < p.numbers.terminals → x ≡ s.begun + 1 → AsksNext p s.world s.served x old (Ok o) t.world t.served new
    → t.begun ≡ begun_after p s.begun t.served o → t.named ≡ s.named → t.words ≡ s.words → Steps p s old o t new
steps_of p s t x old o new few at h count named words =
    let next : x ≡ suc s.begun = omega (arith, at) in
    steps_at p s t old o new few
    (subst (λ (y : ℕ). AsksNext p s.world s.served y old (Ok o) t.world t.served new) next h) count named words

-- a later one
pub took_of : {E : Type 0} (p : Plan) (s t : State) (old : List ℕ) (r : Result Happening E) (new : List ℕ)
    → p.numbers.terminals ≤ s.begun → Turned p s.world s.served (pick_in p s) old r t.world t.served new
    → t.begun ≡ s.begun → t.named ≡ set (terminal_of (pick_in p s)) (named_in r) s.named → t.words ≡ (draw p s).1
    → Took p s old r t new
took_of p s t old (Ok h) new all (c, told, happened, does, e) begun named words = (
  c,
  record {
    told = told;
    happened = happened;
    in_turn = inr (record { all = all; does = does; begun_stay = begun; notes = named; draws = words });
  },
  e,
)
took_of p s t old (Err x) new all h begun named words = h

-- WHAT IS ASKED FOR NEXT

pub next_is : (p : Plan) (s : ℕ → ℕ) (t r : ℕ) (a b : Asked) → 1 ≤ t → t ≤ p.numbers.terminals
    → s t < p.numbers.requests → r ≡ p.first + s t → a ≡ asked_of p t r → a ≡ b → IsNext p s t b
next_is p s t r a b low high left e f g = record {
  low = low;
  high = high;
  left = left;
  asks = ap (asked_of p t) (sym e) ∙ (sym f ∙ g);
}

-- AT THE OPENING

pub script_opened : {A E : Type 0} (w : A → World system) (p : Plan) (o : Origin) (x : Rows) → Begins p o x
    → (r : Result A E) → IfOk r (λ c. w c ≡ world_at_opening system x p.numbers.extents WholeRows)
    → IfOk r (λ c. IsScript p o [] (first_state p (w c)))
script_opened w p o x h (Ok c) e = record { base = x; begun_on = h; lines = ap (first_state p) e }
script_opened w p o x h (Err e) u = u

-- before the first turn
pub first_is : (p : Plan) (w : World system) (f : ℕ → ℕ) (d : Drawing) → f ≡ none_served → d.begun ≡ 0
    → holders_of d.holders ≡ none_named → d.words ≡ words_of p.numbers.seed 64 → state_of w f d ≡ first_state p w
first_is p w f d none begun named words =
    λ i. record { world = w; served = none i; begun = begun i; named = named i; words = words i }

-- WHERE THE RING IS FULL NOTHING HAS CHANGED

module _ (M : Machine) where
  full_by : (w : World M) (i : Step M) (a : Answer M) (v : World M) → Next M w i a v → a ≡ Undo_full → v ≡ w
  full_by w _ _ _ (is_full t o c p e g r f) x = refl
  full_by w _ _ _ n x = cc

  pub full_stays : (w v : World M) (t : ℕ) → Next M w (Advance t) Undo_full v → v ≡ w
  full_stays w v t n = full_by w _ _ v n refl

-- so a turn behind it is one in the world before
pub full_turned : {E : Type 0} (p : Plan) (w v : World system) (s : ℕ → ℕ) (t : ℕ) (old : List ℕ)
    (r : Result Happening E) (x : World system) (new : List ℕ) → Next system w (Advance t) Undo_full v
    → (Next system v (Advance t) Undo_full v → Turned p v s (pick.Turn t) old r x s new)
    → Turned p w s (pick.Turn t) old r x s new
full_turned p w v s t old r x new n h =
    let same = full_stays system w v t n in
    subst (λ (z : World system). Turned p z s (pick.Turn t) old r x s new) same
    (h (subst (λ (z : World system). Next system z (Advance t) Undo_full v) (sym same) n))
