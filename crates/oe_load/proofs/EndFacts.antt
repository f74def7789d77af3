-- A script between two turns, and how it ends.
use Rattle.std.proofs.Common.{◌≡◌, ℕ, List, [], ◌∷◌, ◌++◌, Option, Ok, Err, refl, sym, subst, ◌∙◌, inr}
use Rattle.std.proofs.lemmas.List.{append-nil}
use Rattle.oe_theory.specs.World.{World}
use Rattle.oe_model.specs.System.{system}
use Rattle.oe_lines.specs.declared.commands.Command.{Command}
use Rattle.oe_io.specs.declared.ports.Failed.{Failed}
use Rattle.oe_io.specs.Ports.{Sink, Sent, Cut}
use Rattle.oe_io.proofs.Streaming.{sent_then, sent_cut, sent_as, sent_waits, cut_as}
use Rattle.oe_lines.specs.Texts.{line_text}
use Rattle.oe_numbers.specs.declared.forms.Form.{Form}
use Rattle.oe_numbers.specs.declared.forms.Form.TheVariants as load_form
use Rattle.oe_terms.specs.declared.plans.Plan.{Plan}
use Rattle.oe_load.specs.Loads.{IsDone, none_served, opening_text, script_text}
use Rattle.oe_load.specs.Scripts.{State, IsScript, first_state}
use Rattle.oe_load.specs.declared.origins.Origin.{Origin}
use Rattle.oe_busy.specs.declared.happenings.Happening.{Happening}
use Rattle.oe_load.specs.Turns.{Steps}
use Rattle.oe_load.specs.Ends.{IsBegun, Begun, Whole, Wrote, LoadRan}
use Rattle.oe_load.specs.declared.turns.Shortage.{Shortage}
use Rattle.oe_load.specs.declared.loads.Ending.{Ending}
use Rattle.oe_load.specs.declared.loads.Ending.TheVariants as ending
use Rattle.oe_load.specs.declared.loads.LoadFault.TheVariants as fault
use Rattle.oe_load.proofs.LoadFacts.{script_more, text_more}
use Rattle.oe_load.proofs.TogetherFacts.{Phase, phase_at_first, phase_more, phase_done}

-- what went out behind a text that waited, where nothing was added
pub flushed : (a b c : Option Sink) (i j text : List ℕ) → Sent a [] b i text → Sent b i c j [] → Sent a [] c j text
flushed a b c i j text s more =
    sent_as a c [] j (text ++ []) text (append-nil text) (sent_then a b c [] i j text [] s more)

pub cut_off : (a b c : Option Sink) (i text : List ℕ) → Sent a [] b i text → Cut b i c [] → Cut a [] c text
cut_off a b c i text s k = cut_as a c [] (text ++ []) text (append-nil text) (sent_cut a b c [] i text [] s k)

-- A SCRIPT SO FAR

-- the load told lines that led to this state; it wrote them, or they wait
abbrev pub Standing : Plan → Origin → Option Sink → Option Sink → List ℕ → State → Type 0
Standing p o a b i s =
    (cs : List Command) × IsScript p o cs s × Phase p s.begun cs s.served × Sent a [] b i (script_text p o cs)

module _ (p : Plan) (o : Origin) (a : Option Sink) where
  pub at_first : (i : List ℕ) (w : World system) (s : State) → i ≡ opening_text p o load_form.Script
      → s ≡ first_state p w → IsScript p o [] (first_state p w) → Standing p o a a i s
  at_first i w s e same h = (
    [],
    subst (λ (z : State). IsScript p o [] z) (sym same) h,
    subst (λ (z : State). Phase p z.begun [] z.served) (sym same) (phase_at_first p none_served refl),
    sent_waits a [] i (script_text p o []) (e ∙ sym (append-nil (opening_text p o load_form.Script))),
  )

  pub line_more : (b c : Option Sink) (i j k : List ℕ) (s : State) (h : Happening) (t : State)
      → Standing p o a b i s → Sent b i c j [] → Steps p s j h t k → Standing p o a c k t
  line_more b c i j k s h t (cs, script, phase, sent) more (x, turn, e) = (
    cs ++ x ∷ [],
    script_more p o cs s x h t script turn,
    phase_more p s t cs x h phase turn.in_turn,
    sent_as a c [] k (script_text p o cs ++ line_text x) (script_text p o (cs ++ x ∷ [])) (text_more p o cs x)
        (sent_then a c c [] j k (script_text p o cs) (line_text x)
        (flushed a b c i j (script_text p o cs) sent more) (sent_waits c j k (line_text x) e)),
  )

  is_begun : (cs : List Command) (s : State) → IsScript p o cs s → IsBegun p o (script_text p o cs)
  is_begun cs s h = record { lines = cs; state = s; script = h; text_is = refl }

  pub ends_served : (b : Option Sink) (i : List ℕ) (s : State) → Standing p o a b i s → IsDone p s.world s.served
      → Wrote p o load_form.Script a b i (Ok ending.Served)
  ends_served b i s (cs, script, phase, sent) done = (
    script_text p o cs,
    record {
      lines = cs;
      state = s;
      script = script;
      done = done;
      together = phase_done p s.begun cs s.served phase done.all;
      text_is = refl;
    },
    sent,
  )

  pub ends_short : (b c : Option Sink) (i j k : List ℕ) (s : State) (e : Shortage) → Standing p o a b i s
      → Sent b i c j [] → k ≡ j → Wrote p o load_form.Script a c k (Ok (ending.Short e))
  ends_short b c i j k s e (cs, script, phase, sent) more same = (
    script_text p o cs,
    inr (is_begun cs s script),
    subst (λ (z : List ℕ). Sent a [] c z (script_text p o cs)) (sym same)
        (flushed a b c i j (script_text p o cs) sent more),
  )

  pub ends_there : (b : Option Sink) (i : List ℕ) (s : State) (e : Shortage) → Standing p o a b i s
      → Wrote p o load_form.Script a b i (Ok (ending.Short e))
  ends_there b i s e (cs, script, phase, sent) = (script_text p o cs, inr (is_begun cs s script), sent)

  pub ends_cut : (b c : Option Sink) (i k : List ℕ) (s : State) (e : Failed) → Standing p o a b i s → Cut b i c []
      → Wrote p o load_form.Script a c k (Err e)
  ends_cut b c i k s e (cs, script, phase, sent) cut =
      (script_text p o cs, inr (is_begun cs s script), cut_off a b c i (script_text p o cs) sent cut)

-- WHAT WAITS IS WRITTEN

whole_begun : (p : Plan) (o : Origin) (form : Form) (text : List ℕ) → Whole p o form text → Begun p o form text
whole_begun p o load_form.Flat text h = record {
  requests = h.requests;
  served = h.served;
  words = h.words;
  in_turn = h.in_turn;
  text_is = h.text_is;
}
whole_begun p o load_form.Script text h = record {
  lines = h.lines;
  state = h.state;
  script = h.script;
  text_is = h.text_is;
}
whole_begun p o load_form.Busy text h = record {
  happenings = h.happenings;
  state = h.state;
  watched = h.watched;
  table = h.table;
}

module _ (p : Plan) (o : Origin) (form : Form) (a : Option Sink) where
  pub closes_cut : (b c : Option Sink) (i : List ℕ) (e : Ending) → Wrote p o form a b i (Ok e) → Cut b i c []
      → LoadRan p o form a c (Err fault.Write)
  closes_cut b c i ending.Served (text, whole, sent) cut =
      (text, inr (whole_begun p o form text whole), cut_off a b c i text sent cut)
  closes_cut b c i (ending.Short e) (text, begun, sent) cut = (text, begun, cut_off a b c i text sent cut)
