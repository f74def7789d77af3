use Rattle.std.proofs.Common.{◌≡◌, ℕ, ◌+◌, ◌<◌, ◌≤◌, rules, List, [], ◌∷◌, ◌++◌, length, refl, sym, ap, subst, ◌∙◌}
use Rattle.std.proofs.Common.{append_assoc, arith}
use Rattle.std.proofs.lemmas.List.{length-append}
use Rattle.std.proofs.lemmas.List.Elements.{All-head, All-nil, All-tail}
use Rattle.std.specs.Prelude.{All}
use Rattle.oe_file_serial.specs.Files.{IsTold, lines_of}
use Rattle.oe_file_serial.specs.Changes.{KeepsRow, IsLast}
use Rattle.oe_file_serial.proofs.LineFacts.{next_line, no_line}
use Rattle.oe_file_serial.proofs.ChangeFacts.{last_more, first_are, all_are}
use Rattle.oe_file_serial.proofs.changes.changed_before.Goals as goal

pub loop-behind-init : goal.loop-behind-init
loop-behind-init c = record {
  told = c.requires;
  done = ([], refl, refl, All-nil (λ l. KeepsRow l c.args.row.now));
  small = omega arith;
  within = omega arith;
}

pub later-last-requires : goal.later-last-requires
later-last-requires c =
    let next = next_line c.loop-behind.left.now c.in-Some.line.now c.in-Some.rest.now c.in-Some.ensures in
    (All-head IsTold c.in-Some.line.now (lines_of c.in-Some.rest.now)
    (subst (λ (ls : List (List ℕ)). All IsTold ls) next.0 c.loop-behind.invariant.told)).2.short

pub loop-behind-preserved : goal.loop-behind-preserved
loop-behind-preserved c =
    let i = c.loop-behind.invariant in
    let d = i.done in
    let line = c.in-Some.line.now in
    let rest = c.in-Some.rest.now in
    let next = next_line c.loop-behind.left.now line rest c.in-Some.ensures in
    let whole : lines_of c.args.lines.now ≡ d.0 ++ line ∷ lines_of rest =
    d.1 ∙ ap (λ (ls : List (List ℕ)). d.0 ++ ls) next.0 in
    let long = ap length c.in-Some.ensures.whole in
    let parts = length-append line (10 ∷ rest) in
    let count = d.2 in
    let test : c.loop-behind.behind < c.args.count = search rules in
    let more = length-append d.0 (line ∷ []) in
    record {
      told = All-tail IsTold line (lines_of rest) (subst (λ (ls : List (List ℕ)). All IsTold ls) next.0 i.told);
      done = (
        d.0 ++ line ∷ [],
        whole ∙ sym (append_assoc d.0 (line ∷ []) (lines_of rest)),
        omega (arith, count, more),
        last_more d.0 line c.args.row.now c.loop-behind.behind c.loop-behind.last c.later-last.result count d.3
            c.later-last.ensures,
      );
      small = omega (arith, i.small, long, parts);
      within = omega (arith, test);
    }

pub returns-in_default : goal.returns-in_default
returns-in_default c =
    let i = c.loop-behind.invariant in
    let none = no_line c.loop-behind.left.now c.in_default.ensures in
    subst (λ (ls : List (List ℕ)). IsLast ls c.args.row.now c.loop-behind.last)
    (sym (all_are (lines_of c.args.lines.now) i.done.0 (lines_of c.loop-behind.left.now) c.args.count
    c.loop-behind.behind i.done.1 none.0 i.done.2 i.within)) i.done.3

pub returns : goal.returns
returns c =
    let i = c.loop-behind.invariant in
    let within = i.within in
    let end : c.args.count ≤ c.loop-behind.behind = search rules in
    subst (λ (ls : List (List ℕ)). IsLast ls c.args.row.now c.loop-behind.last)
    (sym (first_are (lines_of c.args.lines.now) i.done.0 (lines_of c.loop-behind.left.now) c.args.count
    c.loop-behind.behind i.done.1 i.done.2 (omega (arith, within, end)))) i.done.3
