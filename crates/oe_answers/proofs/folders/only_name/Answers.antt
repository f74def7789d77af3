use Rattle.std.proofs.Common.{◌≡◌, true, false, [], ◌∷◌, ap, sym, ◌∙◌, rules, arith, take}
use Rattle.oe_answers.specs.Folders.{is_of, names_of, texts_of}
use Rattle.oe_answers.proofs.FolderFacts.{not_own, first, second}
use Rattle.oe_answers.proofs.folders.only_name.Goals as goal

pub loop-found-preserved-then-ne : goal.loop-found-preserved-then-ne
loop-found-preserved-then-ne g c =
    let other : is_of c.args.table c.found-item.result ≡ false = search rules in
    c.loop-found.invariant
    ∙ sym (not_own c.args.table c.args.names.now c.loop-found.found-index c.found-item.result
    (omega (arith, c.loop-found-test.true)) c.found-item.is other)

pub returns-in-Some : goal.returns-in-Some
returns-in-Some g c =
    let own : is_of c.args.table c.found-item.result ≡ true = search rules in
    let one : names_of c.args.table (take c.loop-found.found-index c.args.names.now) ≡ c.in-Some.other.now ∷ [] =
    sym c.loop-found.invariant ∙ ap texts_of c.in-Some.is in
    second c.args.table c.args.names.now c.loop-found.found-index c.found-item.result c.in-Some.other.now
    (omega (arith, c.loop-found-test.true)) c.found-item.is own one

pub loop-found-preserved : goal.loop-found-preserved
loop-found-preserved g c =
    let own : is_of c.args.table c.found-item.result ≡ true = search rules in
    let none : names_of c.args.table (take c.loop-found.found-index c.args.names.now) ≡ [] =
    sym c.loop-found.invariant ∙ ap texts_of c.in_default.is in
    ap (λ name. name ∷ []) c.as_str.ensures.value
    ∙ sym (first c.args.table c.args.names.now c.loop-found.found-index c.found-item.result
    (omega (arith, c.loop-found-test.true)) c.found-item.is own none)
