use Rattle.std.proofs.Common.{◌∙◌}
use Rattle.std.specs.Option.{option_map}
use Rattle.oe_checks.specs.Comparing.{single}
use Rattle.oe_checks.proofs.FindingFacts.{if_ok}
use Rattle.oe_ledgers.specs.Keys.{same_stock}
use Rattle.oe_earlier.specs.Traces.{residues_joined}
use Rattle.oe_earlier.proofs.KeptFacts.{alike}
use Rattle.oe_earlier.proofs.changes.moved.Goals as goal

pub returns : goal.returns
returns c of_before of_now before now =
    if_ok c.findings.result c.findings.ensures (λ found all. record {
      ordered = all.ordered;
      exact = λ k. all.exact k ∙ alike same_stock residues_joined residues_joined
          (λ a b. single (option_map (λ s. s.residue) a) (option_map (λ s. s.residue) b))
          of_before c.args.before.now of_now c.args.now.now before now k;
    })
