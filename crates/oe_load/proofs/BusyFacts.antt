-- A table between two turns, and how it ends.
use Rattle.std.proofs.Common.{◌≡◌, ℕ, List, [], ◌∷◌, ◌++◌, Option, Result, Ok, refl, sym, ap, subst, ◌∙◌}
use Rattle.std.proofs.Common.{inl, inr}
use Rattle.std.specs.Prelude.{◌⊎◌}
use Rattle.oe_theory.specs.World.{World}
use Rattle.oe_model.specs.System.{system}
use Rattle.oe_io.specs.Ports.{Sink, Sent}
use Rattle.oe_io.proofs.Streaming.{sent_none, sent_waits}
use Rattle.oe_numbers.specs.declared.forms.Form.TheVariants as load_form
use Rattle.oe_busy.specs.declared.happenings.Happening.{Happening}
use Rattle.oe_busy.specs.declared.tables.Busyness.{Busyness}
use Rattle.oe_busy.specs.Tables.{AreCounted, IsTable}
use Rattle.oe_terms.specs.declared.plans.Plan.{Plan}
use Rattle.oe_load.specs.Loads.{IsDone}
use Rattle.oe_load.specs.Scripts.{State, IsScript, IsWatched, first_state}
use Rattle.oe_load.specs.Turns.{Steps}
use Rattle.oe_load.specs.Ends.{IsBusyBegun, Watches, Wrote}
use Rattle.oe_load.specs.declared.origins.Origin.{Origin}
use Rattle.oe_load.specs.declared.turns.Shortage.{Shortage}
use Rattle.oe_load.specs.declared.loads.Ending.{Ending}
use Rattle.oe_load.specs.declared.loads.Ending.TheVariants as ending

-- this much happened so far, and is counted
abbrev pub Watching : Plan → Origin → State → Busyness → Type 0
Watching p o s b = (hs : List Happening) × IsWatched p o hs s × AreCounted b hs

-- before the first line
pub watched_opened : (p : Plan) (o : Origin) (s : State) → IsScript p o [] s → IsWatched p o [] s
watched_opened p o s h = record { base = h.base; begun_on = h.begun_on; course = h.lines }

module _ (p : Plan) (o : Origin) where
  pub watching_first : (w : World system) (s : State) (b : Busyness) → s ≡ first_state p w
      → IsWatched p o [] (first_state p w) → AreCounted b [] → Watching p o s b
  watching_first w s b same h counted = ([], subst (λ (z : State). IsWatched p o [] z) (sym same) h, counted)

  pub watching_more : (s : State) (j k : List ℕ) (h : Happening) (t : State) (b b' : Busyness) → Steps p s j h t k
      → ((hs : List Happening) → AreCounted b hs → AreCounted b' (h ∷ hs)) → Watching p o s b → Watching p o t b'
  watching_more s j k h t b b' (c, turn, e) counts (hs, watched, counted) = (
    h ∷ hs,
    record { base = watched.base; begun_on = watched.begun_on; course = (c, s, watched.course, turn) },
    counts hs counted,
  )

  pub watches_served : (s : State) (b : Busyness) → Watching p o s b → IsDone p s.world s.served
      → Watches p o b (Ok ending.Served)
  watches_served s b (hs, watched, counted) done = (hs, s, watched, done, counted)

  pub watches_short : (s : State) (b : Busyness) (e : Shortage) → Watching p o s b
      → Watches p o b (Ok (ending.Short e))
  watches_short s b e (hs, watched, counted) = (hs, s, watched, counted)

  -- the table of what was counted waits
  pub tabled : (a : Option Sink) (b : Busyness) (old waits : List ℕ) (r : Result Ending Shortage) (e : Ending)
      → r ≡ Ok e → Watches p o b r → old ≡ []
      → ((hs : List Happening) → AreCounted b hs → (text : List ℕ) × IsTable hs text × (waits ≡ old ++ text))
      → Wrote p o load_form.Busy a a waits (Ok e)
  tabled a b old waits r ending.Served is watched none told = go (subst (Watches p o b) is watched)
    where
      go : Watches p o b (Ok ending.Served) → Wrote p o load_form.Busy a a waits (Ok ending.Served)
      go (hs, s, course, done, counted) =
          let t = told hs counted in (
            t.0,
            record { happenings = hs; state = s; watched = course; done = done; table = t.1 },
            sent_waits a [] waits t.0 (t.2 ∙ ap (λ z. z ++ t.0) none),
          )
  tabled a b old waits r (ending.Short x) is watched none told = go (subst (Watches p o b) is watched)
    where
      go : Watches p o b (Ok (ending.Short x)) → Wrote p o load_form.Busy a a waits (Ok (ending.Short x))
      go (hs, s, course, counted) =
          let t = told hs counted in (
            t.0,
            inr (record { happenings = hs; state = s; watched = course; table = t.1 }),
            sent_waits a [] waits t.0 (t.2 ∙ ap (λ z. z ++ t.0) none),
          )

  -- there is no table
  pub untold : (a : Option Sink) (waits : List ℕ) → waits ≡ []
      → (text : List ℕ) × ((text ≡ []) ⊎ IsBusyBegun p o text) × Sent a [] a waits text
  untold a waits none = ([], inl refl, subst (λ (z : List ℕ). Sent a [] a z []) (sym none) (sent_none a []))
