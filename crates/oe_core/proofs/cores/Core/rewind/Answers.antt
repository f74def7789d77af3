use Rattle.oe_core.proofs.MoveFacts.{carries}
use Rattle.oe_core.proofs.PastFacts.{unchanged, rewound_here, rewind_refused}
use Rattle.oe_core.proofs.cores.Core.rewind.Goals as goal

pub invariant_of-self : goal.invariant_of-self
invariant_of-self c =
    (unchanged c.rewind.new.self c.in-Err.ensures.err
    (rewind_refused _ c.self.invariant c.args.moment c.in-Err.cause c.in-Err.ensures.cause)).orderly

pub returns-in-Err-clause-carries : goal.returns-in-Err-clause-carries
returns-in-Err-clause-carries c =
    rw (← c.self.view_is)
    (carries (unchanged c.rewind.new.self c.in-Err.ensures.err
    (rewind_refused _ c.self.invariant c.args.moment c.in-Err.cause c.in-Err.ensures.cause)))

pub invariant_of-self-2 : goal.invariant_of-self-2
invariant_of-self-2 c =
    (rewound_here _ c.self.invariant c.rewind.new.self c.args.moment c.in_default.ensures.quiet
    c.in_default.ensures.kept c.in_default.ensures.rewound c.rewind.ensures.name).orderly

pub returns-clause-carries : goal.returns-clause-carries
returns-clause-carries c =
    rw (← c.self.view_is)
    (carries (rewound_here _ c.self.invariant c.rewind.new.self c.args.moment c.in_default.ensures.quiet
    c.in_default.ensures.kept c.in_default.ensures.rewound c.rewind.ensures.name))
