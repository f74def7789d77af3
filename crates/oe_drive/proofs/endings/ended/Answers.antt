use Rattle.std.proofs.Common.{subst}
use Rattle.oe_theory.specs.World.{tables}
use Rattle.oe_model.specs.System.{system}
use Rattle.oe_store.specs.Places.{rows}
use Rattle.oe_report.specs.Verdicts.{IsFirstFailing}
use Rattle.oe_drive.proofs.RestoredFacts.{gives_back}
use Rattle.oe_drive.proofs.endings.ended.Goals as goal

pub returns : goal.returns
returns g c =
    let same =
    gives_back c.args.numbers.now (g.M.Machine.world c.args.core) (rows c.rewound-left.result) (rows c.in-Ok.fresh)
    c.requires.driven c.requires.quiet c.rewound-left.ensures c.in-Ok.ensures in (
      rows c.rewound-left.result,
      rows c.in-Ok.fresh,
      c.rewound-left.ensures,
      c.in-Ok.ensures,
      same,
      c.are_same-is_restored.ensures.1 same,
      subst (IsFirstFailing (tables system (g.M.Machine.world c.args.core))) c.failing_in-failing.ensures.none
          c.failing_in-failing.ensures.first,
      c.failing_in-failing.ensures.none,
    )
