-- Who waits for whom in a world that steps led to.
use Rattle.std.proofs.Common.{◌≡◌, ℕ, ◌<◌, Bool, true, false, Option, None, Some, refl, sym, ap, ◌∙◌, inl, inr}
use Rattle.std.proofs.Common.{arith, List, [], ◌∷◌}
use Rattle.std.specs.Prelude.{◌≢◌, ◌==◌, not}
use Rattle.std.proofs.lemmas.Bool.{cases_Bool, and_parts, and_from, eq-eqb, ne_eqb, true≢false, not_from_false}
use Rattle.oe_theory.specs.Machine as theory
use Rattle.oe_theory.specs.Machine.{Ask, Stop, Plain, Take, Hold}
use Rattle.oe_theory.specs.World.{World, Open, tx_of, tables, go_together}
use Rattle.oe_theory.specs.Next.{Next, Advance, Busy, is_busy}
use Rattle.oe_theory.specs.Theorems.{IsReached}
use Rattle.oe_theory.proofs.Sets.{some_inj, some_none}
use Rattle.oe_theory.proofs.Theorems.{reached_sound}
use Rattle.oe_rows.specs.declared.locks.Name.{Name}
use Rattle.oe_requests.specs.declared.refusals.Refusal.{Refusal}
use Rattle.oe_model.specs.System.{system, ask, terminal_limit}
use Rattle.oe_model.proofs.SystemLaws.{laws}
use Rattle.oe_locks.specs.Holds.{lock_asked}
use Rattle.oe_machine.specs.Asks.{wanted_of, wanted_by, held_of, held_by}
use Rattle.oe_waits.specs.Knots.{Chain}
use Rattle.oe_waits.specs.Waits.{is_kept_out, waits_for, last_terminal, waits, Waiting_is_busy, Waits_are_chains}
use Rattle.oe_waits.specs.Waits.{Someone_goes_on}
use Rattle.oe_waits.proofs.KnotFacts.{IsTo, First, first_to, any_from, leads_reaches, reaches_leads}
use Rattle.oe_waits.proofs.KnotFacts.{reach_count, goes_on}

-- an open transaction is a terminal's
pub open_inside : (w : World system) (t : ℕ) (o : Open system) → IsReached system w → w.active t ≡ Some o
    → IsTo last_terminal t
unfolding last_terminal terminal_limit
open_inside w t o r e =
    let on = (reached_sound system laws w r).each t o e in (on.terminal.0, omega (arith, on.terminal.1))

opposite : (b : Bool) → not b ≡ true → b ≡ false
opposite true k = sym k
opposite false k = refl

-- who is waited for has a transaction open
record Kept (w : World system) (t u : ℕ) : Type 0 where
  asked : Hold Name
  asks : wanted_by w t ≡ Some asked
  other : t ≢ u
  holder : Open system
  is_open : w.active u ≡ Some holder
  conflicts : go_together asked.mode (holder.held asked.name) ≡ false

kept : (w : World system) (t u : ℕ) → waits_for w t u ≡ true → Kept w t u
kept w t u e =
    let both = and_parts (not (t == u)) (is_kept_out (wanted_by w t) (held_by w u)) e in
    at_hold (wanted_by w t) refl (not_same both.0) both.1
  where
    not_same : not (t == u) ≡ true → t ≢ u
    not_same h same = true≢false (sym (eq-eqb t u same) ∙ opposite (t == u) h)

    at_open : (h : Hold Name) → wanted_by w t ≡ Some h → t ≢ u → (v : Option (Open system)) → w.active u ≡ v
        → not (go_together h.mode (held_of v h.name)) ≡ true → Kept w t u
    at_open h asks other None is k = absurd (true≢false (sym k))
    at_open h asks other (Some o) is k = record {
      asked = h;
      asks = asks;
      other = other;
      holder = o;
      is_open = is;
      conflicts = opposite (go_together h.mode (o.held h.name)) k;
    }

    at_hold : (v : Option (Hold Name)) → wanted_by w t ≡ v → t ≢ u → is_kept_out v (held_by w u) ≡ true → Kept w t u
    at_hold None is other k = absurd (true≢false (sym k))
    at_hold (Some h) is other k = at_open h is other (w.active u) refl k

pub waits_inside : (w : World system) → IsReached system w → (t u : ℕ) → waits_for w t u ≡ true → IsTo last_terminal u
waits_inside w r t u e = let k = kept w t u e in open_inside w u k.holder r k.is_open

-- of a terminal that has nothing open nothing is asked
record Asking (w : World system) (t : ℕ) (h : Hold Name) : Type 0 where
  who : Open system
  is_open : w.active t ≡ Some who
  asks : ask (tx_of system t who) who.now.position (tables system w) ≡ Take h.name h.mode

asking : (w : World system) (t : ℕ) (h : Hold Name) → wanted_by w t ≡ Some h → Asking w t h
asking w t h e = at_open (w.active t) refl e
  where
    at_ask : (o : Open system) → w.active t ≡ Some o → (a : Ask Name Refusal)
        → ask (tx_of system t o) o.now.position (tables system w) ≡ a → lock_asked a ≡ Some h → Asking w t h
    at_ask o is (Stop x) a e = absurd (some_none _ (sym e))
    at_ask o is Plain a e = absurd (some_none _ (sym e))
    at_ask o is (Take n m) a e =
        let same = some_inj _ _ e in
        record { who = o; is_open = is; asks = a ∙ ap (λ z. Take (z.name) (z.mode)) same }

    at_open : (v : Option (Open system)) → w.active t ≡ v → wanted_of w t v ≡ Some h → Asking w t h
    at_open None is e = absurd (some_none _ (sym e))
    at_open (Some o) is e = at_ask o is (ask (tx_of system t o) o.now.position (tables system w)) refl e

-- who waits has a transaction open
pub waiter_inside : (w : World system) → IsReached system w → (t u : ℕ) → waits_for w t u ≡ true → IsTo last_terminal t
waiter_inside w r t u e =
    let k = kept w t u e in let a = asking w t k.asked k.asks in open_inside w t a.who r a.is_open

-- whose mode conflicts is waited for
pub waits_from : (w : World system) (t u : ℕ) (o p : Open system) (n : Name) (m : theory.Mode) → w.active t ≡ Some o
    → ask (tx_of system t o) o.now.position (tables system w) ≡ Take n m → t ≢ u → w.active u ≡ Some p
    → go_together m (p.held n) ≡ false → waits_for w t u ≡ true
waits_from w t u o p n m is asks other is' conflicts =
    and_from (not (t == u)) (is_kept_out (wanted_by w t) (held_by w u)) (not_from_false (t == u) (ne_eqb t u other))
    (rw (is, asks, is') (not_from_false (go_together m (p.held n)) conflicts))

-- who is named as the holder is waited for
busy_waits : (w w' : World system) (t : ℕ) (n : Name) (u : ℕ) → Next system w (Advance t) (Busy n u) w'
    → waits_for w t u ≡ true
busy_waits w _ t n u (is_busy _ o _ m _ is asks way) =
    waits_from w t u o way.who n m is asks (λ same. way.other (sym same)) way.is_open way.conflicts

pub waiting_is_busy : Waiting_is_busy
waiting_is_busy w t r = (there, back)
  where
    there : waits w t ≡ true → (n : Name) × (u : ℕ) × Next system w (Advance t) (Busy n u) w
    there e =
        let x = first_to (waits_for w t) last_terminal e in
        let k = kept w t x.number x.passes in
        let a = asking w t k.asked k.asks in (
          k.asked.name,
          x.number,
          is_busy t a.who k.asked.name k.asked.mode x.number a.is_open a.asks (record {
            other = λ same. k.other (sym same);
            who = k.holder;
            is_open = k.is_open;
            conflicts = k.conflicts;
            least = λ v o below other is. free v o (a.who) k.asked a.is_open a.asks x below other is;
          }),
        )
      where
        free : (v : ℕ) (o p : Open system) (h : Hold Name) → w.active t ≡ Some p
            → ask (tx_of system t p) p.now.position (tables system w) ≡ Take h.name h.mode
            → (x : First (waits_for w t) last_terminal) → v < x.number → v ≢ t → w.active v ≡ Some o
            → go_together h.mode (o.held h.name) ≡ true
        free v o p h is asks x below other is' =
            elim (cases_Bool (go_together h.mode (o.held h.name))) [
              | inl e ↦ e
              | inr e ↦ absurd (true≢false
                  (sym (waits_from w t v p o h.name h.mode is asks (λ same. other (sym same)) is'
                  e) ∙ x.first v ((open_inside w v o r is').0) below))
            ]

    back : ((n : Name) × (u : ℕ) × Next system w (Advance t) (Busy n u) w) → waits w t ≡ true
    back (n, u, next) =
        let e = busy_waits w w t n u next in
        let within = waits_inside w r t u e in any_from (waits_for w t) last_terminal u within.0 within.1 e

pub waits_are_chains : Waits_are_chains
waits_are_chains w t u r = (
  leads_reaches (waits_for w) last_terminal t u,
  reaches_leads (waits_for w) last_terminal (waits_inside w r) t u,
)

-- who is reached by waits has a transaction open
last_open : (w : World system) (t : ℕ) (vs : List ℕ) (u : ℕ) → Chain (waits_for w) t vs u
    → (p : Open system) × (w.active u ≡ Some p)
last_open w t [] u c = let k = kept w t u c in (k.holder, k.is_open)
last_open w t (v ∷ vs) u c = last_open w v vs u c.1

pub someone_goes_on : Someone_goes_on
someone_goes_on w t o r none is =
    let y = goes_on (waits_for w) last_terminal (waits_inside w r) none
    (reach_count (waits_for w) last_terminal (waits_inside w r) t) t
    (omega arith) in
    elim y.way [
      | inl same ↦ (y.number, o, ap w.active same ∙ is, y.free)
      | inr far ↦ let p = last_open w t far.0 y.number far.1 in (y.number, p.0, p.1, y.free)
    ]
