use Rattle.std.proofs.Common.{◌≡◌, ℕ, List, lit<, sym, subst, ◌∙◌, rules}
use Rattle.oe_model.specs.System.{system}
use Rattle.oe_file_serial.specs.Files.{Tells}
use Rattle.oe_file_serial.specs.InOrder.{between}
use Rattle.oe_file_serial.specs.Answers.{Answers}
use Rattle.oe_file_serial.proofs.LineFacts.{words_short}
use Rattle.oe_file_serial.proofs.ToldFacts.{untold}
use Rattle.oe_file_serial.proofs.verdicts.other_text.Goals as goal

pub unreachable-requires : goal.unreachable-requires
unreachable-requires g c =
    let told = c.requires.told in
    c.in_default.ensures told.2.words told.1 told.2.parts

pub unreachable-unreachable : goal.unreachable-unreachable
unreachable-unreachable g c =
    let told = c.requires.told in
    c.in_default.ensures told.2.words told.1 told.2.parts

pub read_words-requires : goal.read_words-requires
read_words-requires g c = (words_short c.args.line.now c.in-Some.words.now c.in-Some.theirs.now 1_024 c.in-Some.ensures
    c.requires.told.2.short).0

pub unreachable-requires-in_default-read_words : goal.unreachable-requires-in_default-read_words
unreachable-requires-in_default-read_words g c = untold c.args.line.now c.in-Some.words.now c.in-Some.theirs.now
    c.in-Some.ensures c.in_default-read_words.ensures c.requires.told

pub unreachable-unreachable-in_default-read_words : goal.unreachable-unreachable-in_default-read_words
unreachable-unreachable-in_default-read_words g c = untold c.args.line.now c.in-Some.words.now c.in-Some.theirs.now
    c.in-Some.ensures c.in_default-read_words.ensures c.requires.told

pub answered-requires : goal.answered-requires
answered-requires g c = c.requires.free

pub as_slice-requires : goal.as_slice-requires
as_slice-requires g c = lit< tt

pub returns-then-eq : goal.returns-then-eq
returns-then-eq g c =
    let e = c.in_default-answered.ensures in
    let a = c.in-Some-read_words.asked in
    let same : c.in-Some.theirs.now ≡ c.as_slice.result.now = search rules in
    let tells : Tells c.args.line.now a c.in-Some.theirs.now = record {
      short = c.requires.told.2.short;
      words = c.in-Some.words.now;
      parts = c.in-Some.ensures;
      asks = c.in-Some-read_words.ensures;
    } in (
      e.1,
      (
        a,
        c.in-Some.theirs.now,
        tells,
        subst (λ (z : List ℕ). Answers (between system (g.M.Machine.world c.args.core.now)) a z
            (between system (g.M.Machine.world c.answered.new.core)))
            (sym (same ∙ c.as_slice.ensures.value)) e.0,
      ),
    )

pub returns : goal.returns
returns g c =
    let e = c.in_default-answered.ensures in
    let other : c.in-Some.theirs.now ≡ c.as_slice.result.now → ⊥ = search rules in
    let tells : Tells c.args.line.now c.in-Some-read_words.asked c.in-Some.theirs.now = record {
      short = c.requires.told.2.short;
      words = c.in-Some.words.now;
      parts = c.in-Some.ensures;
      asks = c.in-Some-read_words.ensures;
    } in (
      c.in-Some-read_words.asked,
      between system (g.M.Machine.world c.answered.new.core),
      tells,
      e.0,
      λ same. other (same ∙ sym c.as_slice.ensures.value),
    )
