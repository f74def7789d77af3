use Rattle.std.proofs.Common.{◌≡◌, ◌⊎◌, codes, sym, ◌∙◌, rules, arith}
use Rattle.oe_command_line.specs.Words.{IsPlain}
use Rattle.oe_command_line.proofs.WordFacts.{audits, no_audit}
use Rattle.oe_command_line.proofs.audit_of.Goals as goal

pub returns-in-Some : goal.returns-in-Some
returns-in-Some g c =
    let said : c.as_str.result.now ≡ codes "audit" = search rules in
    let named : IsPlain c.as_str-source.result.now ⊎ (c.as_str-source.result.now ≡ codes "-") = search rules in
    let long = c.if-words-lt3.false in
    audits g.S.AsStr.text c.args.words.now c.index-words-1.result c.index-words-2.result c.as_str-source.result
    c.in-Some.behind.before c.in-Some.behind.options (omega (arith, long)) c.index-words-1.is
    (sym c.as_str.ensures ∙ said) c.index-words-2.is c.as_str-source.ensures named c.in-Some.ensures

pub returns-in-None : goal.returns-in-None
returns-in-None g c = no_audit g.S.AsStr.text c.args.words.now c.in-None.ensures
