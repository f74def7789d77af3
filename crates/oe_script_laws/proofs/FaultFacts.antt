-- How a fault cuts a script's output.
use Rattle.std.proofs.Common.{◌≡◌, ℕ, ◌+◌, List, ◌++◌, Some, None, Err, sym, ap, ◌∙◌, subst}
use Rattle.oe_theory.specs.World.{World}
use Rattle.oe_model.specs.System.{system}
use Rattle.oe_script.specs.declared.session.ScriptFault.TheVariants as fault
use Rattle.oe_io.specs.Ports.{Source, Sink}
use Rattle.oe_script.specs.Session.{ScriptRan}
use Rattle.oe_script.specs.Script.{State, Output, Reached, last_text}
use Rattle.oe_script.proofs.LineFacts.{IsLive, opened_live}
use Rattle.oe_script.proofs.Reaching.{reach_rest}
use Rattle.oe_script_laws.specs.Deeds.{Entry, Passed, texts_of}
use Rattle.oe_script_laws.specs.Laws.{IsReachedState, IsBegun, IsRunFrom, IsAnswered, IsCutByReader, IsCutByWriter}
use Rattle.oe_script_laws.specs.Laws.{Faults_cut_outputs}
use Rattle.oe_script_laws.proofs.DeedFacts.{lines_are_deeds}
use Rattle.oe_script_laws.proofs.PassFacts.{scripts_are_runs}

-- what a script begins with is live, and reached
pub begun_live : (begun : State) → IsBegun begun → IsLive begun
begun_live None b = tt
begun_live (Some w) (r, extents, layout, p, is) = opened_live r extents layout p w is

pub begun_reached : (begun : State) → IsBegun begun → IsReachedState begun
begun_reached None b = tt
begun_reached (Some w) b = (begun_live (Some w) b).0

-- lines that lead to a world are one run
run_from : (begun : State) → IsReachedState begun → (es : List Entry) (w : World system) → Passed begun es (Some w)
    → IsRunFrom begun es w
run_from None b es w p = scripts_are_runs.from_start es w p
run_from (Some v) b es w p =
    let (u, same, ran) = scripts_are_runs.from_world v es (Some w) b p in
    let is : w ≡ u = cc in subst (λ (u : World system). IsRunFrom (Some v) es u) (sym is) ran

module _ (begun : State) (is_begun : IsBegun begun) where
  -- the whole lines of an output, and what each was
  abbrev answered : (read out : List ℕ) → Output begun read out → IsAnswered begun read
  answered read out o =
      let d = lines_are_deeds.each begun 0 o.lines o.answers o.state o.run in
      record {
        out = out;
        output = o;
        es = d.0;
        deeds = record { passed = d.1; lines = d.2; answers = d.3 };
        run = λ w e. run_from begun (begun_reached begun is_begun) d.0 w (subst (Passed begun d.0) e d.1);
      }

  -- the output of what was read, if no more comes
  abbrev output_of : (read out : List ℕ) (s : State) (n : ℕ) (line : List ℕ) → Reached begun read out s n line
      → Output begun read (out ++ last_text (n + 1) line)
  output_of read out s n line r = record {
    lines = r.lines;
    last = line;
    answers = out;
    state = s;
    whole = r.whole;
    each = r.each;
    tail = r.tail;
    run = r.run;
    text = ap (λ k. out ++ last_text (k + 1) line) r.counted;
  }

  by_reader : (a b : Source) (c d : Sink) → ScriptRan begun (Some a) (Some b) (Some c) (Some d) (Err fault.Read)
      → IsCutByReader begun a b c d
  by_reader a b c d (failed, wrote, r) =
      let lines = answered r.read (r.answers ++ last_text (r.count + 1) r.line)
      (output_of r.read r.answers r.state r.count r.line r.reached) in
      let same : texts_of 0 lines.es ≡ r.answers = lines.deeds.answers in
      record {
        read = r.read;
        were_read = r.were_read;
        lines = lines;
        written = r.written ∙ ap (λ z. c.contents ++ z) (sym same);
        goes_on = λ more.
            subst (λ z. (rest : List ℕ) × Output begun (r.read ++ more) (z ++ rest)) (sym same)
            (reach_rest begun (begun_live begun is_begun) more r.read r.answers r.state r.count r.line r.reached);
      }

  by_writer : (a b : Source) (c d : Sink) → ScriptRan begun (Some a) (Some b) (Some c) (Some d) (Err fault.Write)
      → IsCutByWriter begun a b c d
  by_writer a b c d (read, wrote, r) =
      record {
        read = r.read;
        were_read = r.were_read;
        lines = answered r.read r.out r.output;
        unwritten = r.more;
        written = r.written;
      }

pub faults_cut_outputs : Faults_cut_outputs
faults_cut_outputs = record {
  by_reader = λ begun a b c d is_begun. by_reader begun is_begun a b c d;
  by_writer = λ begun a b c d is_begun. by_writer begun is_begun a b c d;
}
