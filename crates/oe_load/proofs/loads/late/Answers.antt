use Rattle.std.proofs.Common.{◌≡◌, ℕ, Option, refl, ap, subst, ◌∙◌}
use Rattle.oe_theory.specs.World.{set}
use Rattle.oe_load.specs.declared.picks.Pick.{Pick}
use Rattle.oe_load.specs.Picks.{terminal_of}
use Rattle.oe_load.specs.Scripts.{State, pick_in}
use Rattle.oe_load.specs.Turns.{counts_of, state_of, Turned}
use Rattle.oe_load.proofs.LoadFacts.{took_of}
use Rattle.oe_load.proofs.loads.late.Goals as goal

pub returns : goal.returns
returns g c =
    let p = c.args.plan.now in
    let s : State = state_of (g.M.Machine.world c.args.core.now) (counts_of c.args.served.now) c.args.drawing.now in
    let picks : c.picked-pick.result ≡ pick_in p s = c.picked-pick.ensures.pick in
    let whose : c.terminal_of.result ≡ terminal_of (pick_in p s) = c.terminal_of.ensures ∙ ap terminal_of picks in
    took_of p s _ c.args.out.now.items c.carried_out-turn.result c.carried_out-turn.new.out.items c.requires.all
    (subst (λ (k : Pick). Turned p s.world s.served k c.args.out.now.items c.carried_out-turn.result
    (g.M.Machine.world c.carried_out-turn.new.core) (counts_of c.carried_out-turn.new.served)
    c.carried_out-turn.new.out.items)
    picks c.carried_out-turn.ensures)
    refl
    (c.note.ensures ∙ (ap (λ (t : ℕ). set t c.named_in.result s.named) whose
    ∙ ap (λ (u : Option ℕ). set (terminal_of (pick_in p s)) u s.named) c.named_in.ensures))
    c.picked-pick.ensures.words
