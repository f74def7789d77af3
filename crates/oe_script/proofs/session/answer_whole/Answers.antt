use Rattle.std.proofs.Common.{false, subst, ap, ◌∙◌}
use Rattle.oe_script.specs.Hearing.{Takes, place_of}
use Rattle.oe_script.specs.Session.{state_of}
use Rattle.oe_script.proofs.HearingFacts.{heard_bad, is_bad_at, same_state}
use Rattle.oe_script.proofs.session.answer_whole.Goals as goal

pub hear-requires : goal.hear-requires
hear-requires g c =
    let s = state_of g.M.Machine.world c.args.core.now in
    let e = c.in-Ok-false.ensures in
    let bad : Takes false s c.args.line.now =
    subst (λ b. Takes b s c.args.line.now) c.in-Ok-false.field-0-test e.1 in
    is_bad_at c.place_in.result s (state_of g.M.Machine.world c.answer_line.new.core) c.args.line.now c.place_in.ensures
    (same_state s c.args.number c.args.line.now e.0.0 (state_of g.M.Machine.world c.answer_line.new.core) e.0.1 bad)
    c.requires.short bad

pub returns-in-Ok-false-clause-heard : goal.returns-in-Ok-false-clause-heard
returns-in-Ok-false-clause-heard g c =
    let s = state_of g.M.Machine.world c.args.core.now in
    let e = c.in-Ok-false.ensures in
    let bad : Takes false s c.args.line.now =
    subst (λ b. Takes b s c.args.line.now) c.in-Ok-false.field-0-test e.1 in
    heard_bad g.H.Listener.hears s c.args.number c.args.line.now c.args.listener.now c.hear.new.self c.place_in.result
    c.requires.short bad
    (c.place_in.ensures ∙ ap place_of
    (same_state s c.args.number c.args.line.now e.0.0 (state_of g.M.Machine.world c.answer_line.new.core) e.0.1 bad))
    c.hear.ensures
