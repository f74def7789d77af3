use Rattle.std.proofs.Common.{◌≡◌, ℕ, ◌+◌, List, [], ◌∷◌, ◌++◌, length, take, refl, sym, ap, subst, ◌∙◌, append_assoc}
use Rattle.std.proofs.Common.{arith, lit<, rules, Bor}
use Rattle.std.proofs.lemmas.List.{append-nil, length-append}
use Rattle.std.proofs.lemmas.List.Elements.{All-head, All-tail}
use Rattle.std.specs.Prelude.{All}
use Rattle.oe_model.specs.System.{system}
use Rattle.oe_file_serial.specs.Files.{IsTold, lines_of}
use Rattle.oe_file_serial.specs.InOrder.{between}
use Rattle.oe_file_serial.specs.Changes.{IsHint}
use Rattle.oe_file_serial.specs.Worlds.{IsFree}
use Rattle.oe_file_serial.specs.Verdicts.{Agrees, AreSerial, Differs}
use Rattle.oe_file_serial.proofs.ChangeFacts.{first_are}
use Rattle.oe_file_serial.proofs.LineFacts.{next_line, no_line}
use Rattle.oe_file_serial.proofs.VerdictFacts.{serial_more, at_some, at_none}
use Rattle.oe_file_serial.proofs.verdicts.compared.Goals as goal

pub loop-line-init : goal.loop-line-init
loop-line-init g c = record {
  free = c.requires.free;
  told = c.requires.told;
  done = ([], refl, refl, refl);
  small = omega arith;
}

pub other_text-requires-clause-told : goal.other_text-requires-clause-told
other_text-requires-clause-told g c =
    let next = next_line c.loop-line.left.now c.in-Some.line.now c.in-Some.rest.now c.in-Some.ensures in
    All-head IsTold c.in-Some.line.now (lines_of c.in-Some.rest.now)
    (subst (λ (ls : List (List ℕ)). All IsTold ls) next.0 c.loop-line.invariant.told)

pub other_text-requires-clause-free : goal.other_text-requires-clause-free
other_text-requires-clause-free g c = c.loop-line.invariant.free

pub overflow_add-result : goal.overflow_add-result
overflow_add-result g c = let small = c.loop-line.invariant.small in search rules

pub overflow_add-count : goal.overflow_add-count
overflow_add-count g c = let small = c.loop-line.invariant.small in search rules

pub returns-in-Ok-Some : goal.returns-in-Ok-Some
returns-in-Ok-Some g c =
    let d = c.loop-line.invariant.done in
    let next = next_line c.loop-line.left.now c.in-Some.line.now c.in-Some.rest.now c.in-Some.ensures in
    let e = at_some (IsFree (g.M.Machine.world c.other_text.new.core)
    × Agrees (between system (g.M.Machine.world c.loop-line.core)) c.in-Some.line.now
    (between system (g.M.Machine.world c.other_text.new.core)))
    (λ (x : Bor (List ℕ)). Differs (between system (g.M.Machine.world c.loop-line.core)) c.in-Some.line.now x.now
    c.other_text.new.ours.items) c.in-Ok-Some.field-0 c.in-Ok-Some.theirs (search rules)
    c.in-Ok-Some.ensures in
    let first = first_are (lines_of c.args.lines.now) d.0 (lines_of c.loop-line.left.now) c.loop-line.count
    c.loop-line.count d.1 d.3 refl in
    let last = c.last_change-last.result in
    record {
      before = d.0;
      line = c.in-Some.line.now;
      behind = lines_of c.in-Some.rest.now;
      mid = between system (g.M.Machine.world c.loop-line.core);
      lines_are = d.1 ∙ ap (λ (ls : List (List ℕ)). d.0 ++ ls) next.0;
      number_is = ap (λ (n : ℕ). n + 2) d.3;
      agree = d.2;
      differs = e;
      hint =
          subst (λ (ls : List (List ℕ)). IsHint ls c.in-Some.line.now c.other_text.new.ours.items last) first
          (subst (λ (z : List ℕ). IsHint (take c.loop-line.count (lines_of c.args.lines.now)) c.in-Some.line.now z last)
          c.as_slice.ensures.value c.last_change-last.ensures);
    }

pub loop-line-smaller : goal.loop-line-smaller
loop-line-smaller g c =
    let long = ap length c.in-Some.ensures.whole in
    let parts = length-append c.in-Some.line.now (10 ∷ c.in-Some.rest.now) in
    omega (arith, long, parts)

pub loop-line-preserved : goal.loop-line-preserved
loop-line-preserved g c =
    let i = c.loop-line.invariant in
    let d = i.done in
    let e = at_none (IsFree (g.M.Machine.world c.other_text.new.core)
    × Agrees (between system (g.M.Machine.world c.loop-line.core)) c.in-Some.line.now
    (between system (g.M.Machine.world c.other_text.new.core)))
    (λ (x : Bor (List ℕ)). Differs (between system (g.M.Machine.world c.loop-line.core)) c.in-Some.line.now x.now
    c.other_text.new.ours.items) c.in-Ok-None.field-0 (search rules) c.in-Ok-None.ensures in
    let line = c.in-Some.line.now in
    let rest = c.in-Some.rest.now in
    let next = next_line c.loop-line.left.now line rest c.in-Some.ensures in
    let long = ap length c.in-Some.ensures.whole in
    let parts = length-append line (10 ∷ rest) in
    let count = d.3 in
    let more = length-append d.0 (line ∷ []) in
    record {
      free = e.0;
      told = All-tail IsTold line (lines_of rest) (subst (λ (ls : List (List ℕ)). All IsTold ls) next.0 i.told);
      done = (
        d.0 ++ line ∷ [],
        d.1 ∙ (ap (λ (ls : List (List ℕ)). d.0 ++ ls) next.0 ∙ sym (append_assoc d.0 (line ∷ []) (lines_of rest))),
        serial_more (between system (g.M.Machine.world c.args.core.now))
            (between system (g.M.Machine.world c.loop-line.core))
            (between system (g.M.Machine.world c.other_text.new.core)) d.0 line d.2 e.1,
        omega (arith, count, more),
      );
      small = omega (arith, i.small, long, parts);
    }

pub returns : goal.returns
returns g c =
    let d = c.loop-line.invariant.done in
    let none = no_line c.loop-line.left.now c.in_default.ensures in
    let all : lines_of c.args.lines.now ≡ d.0 =
    d.1 ∙ (ap (λ (ls : List (List ℕ)). d.0 ++ ls) none.0 ∙ append-nil d.0) in (
      subst (λ (ls : List (List ℕ)). AreSerial (between system (g.M.Machine.world c.args.core.now)) ls
          (between system (g.M.Machine.world c.loop-line.core))) (sym all) d.2,
      d.3 ∙ ap length (sym all),
    )

pub as_slice-requires : goal.as_slice-requires
as_slice-requires g c = lit< tt

pub last_change-last-requires-clause-told : goal.last_change-last-requires-clause-told
last_change-last-requires-clause-told g c = c.requires.told

pub last_change-last-requires-clause-line : goal.last_change-last-requires-clause-line
last_change-last-requires-clause-line g c =
    let next = next_line c.loop-line.left.now c.in-Some.line.now c.in-Some.rest.now c.in-Some.ensures in
    All-head IsTold c.in-Some.line.now (lines_of c.in-Some.rest.now)
    (subst (λ (ls : List (List ℕ)). All IsTold ls) next.0 c.loop-line.invariant.told)
