use Rattle.std.proofs.Common.{◌≡◌, ◌∙◌, subst}
use Rattle.oe_lines.specs.Words.{first_name_of}
use Rattle.oe_lines.proofs.NameFacts.{first_name_of-none, first_name_of-read}
use Rattle.oe_lines.proofs.words.first_name.Goals as goal

pub returns-in_default : goal.returns-in_default
returns-in_default c = first_name_of-none c.args.text.now c.in_default.ensures.variant

pub returns : goal.returns
returns c =
    subst (λ s. c.read.result ≡ first_name_of s) (c.as_str.ensures.value ∙ c.in-Some.ensures.value)
    (first_name_of-read c.as_str.result.now c.read.result c.read.ensures.variant c.read.ensures.value)
