use Rattle.std.proofs.Common.{◌≡◌, ℕ, ap, sym, ◌∙◌}
use Rattle.rand_pcg.specs.Lcg.{Lcg}
use Rattle.oe_terms.specs.Draws.{random}
use Rattle.oe_load.specs.Turns.{counts_of}
use Rattle.oe_load.specs.Flats.{left_behind}
use Rattle.oe_load.proofs.FlatFacts.{sends_turn}
use Rattle.oe_load.proofs.flats.sent.Goals as goal

pub returns-in-Some : goal.returns-in-Some
returns-in-Some c =
    let p = c.args.plan.now in
    let drawn : (c.random.result, c.random.new.words) ≡ random 1 p.numbers.terminals c.args.words.now =
    c.random.ensures.drawn ∙ ap (λ (n : ℕ). random 1 n c.args.words.now) c.get.ensures.value in
    sends_turn p (counts_of c.args.served.now) c.args.words.now c.random.new.words c.in-Some.terminal
    c.args.out.now.items c.send.result (counts_of c.send.new.served) c.send.new.out.items
    (ap (λ (d : ℕ). left_behind p (counts_of c.args.served.now) d 0 p.numbers.terminals)
    (sym (ap (λ (q : ℕ × Lcg). q.0) drawn))
    ∙ (sym c.left.ensures ∙ c.in-Some.is))
    (ap (λ (q : ℕ × Lcg). q.1) drawn) c.send.ensures
