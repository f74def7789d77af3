use Rattle.std.proofs.Common.{◌∙◌}
use Rattle.std.specs.Prelude.{pos}
use Rattle.std.specs.Option.{option_map}
use Rattle.oe_checks.specs.Comparing.{orphans_apart}
use Rattle.oe_checks.proofs.FindingFacts.{if_ok}
use Rattle.oe_earlier.specs.Traces.{traces_joined}
use Rattle.oe_earlier.proofs.KeptFacts.{alike}
use Rattle.oe_earlier.proofs.changes.gone.Goals as goal

pub returns : goal.returns
returns g c of_before of_now before now =
    if_ok c.findings.result c.findings.ensures (λ found all. record {
      ordered = all.ordered;
      exact = λ k. all.exact k ∙ alike g.K.PartialEq.eq traces_joined traces_joined
          (λ a b. orphans_apart (option_map (λ s. pos s.rows) a) (option_map (λ s. pos s.rows) b))
          of_before c.args.before.now of_now c.args.now.now before now k;
    })
