-- One more is pushed, in which nothing is.
use Rattle.std.proofs.Common.{rules, ◌≡◌, [], subst, sym}
use Rattle.std.specs.List.{All}
use Rattle.std.proofs.lemmas.List.Elements.{All-push}
use Rattle.oe_undo.specs.Owners.{MomentList}
use Rattle.oe_undo.proofs.moments.idle_moments.Goals as goal

pub loop-preserved : goal.loop-preserved
loop-preserved c =
    record {
      size = search rules;
      idle = subst (All (λ (m : MomentList). m.moments ≡ [])) (sym c.push_reserved.ensures.items)
          (All-push (λ (m : MomentList). m.moments ≡ []) _ _ c.loop.invariant.idle c.new.ensures);
      room = search rules;
    }
