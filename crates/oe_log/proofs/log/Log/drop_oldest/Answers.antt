-- The oldest commit is no longer kept.
use Rattle.std.proofs.Common.{◌≡◌, ◌-◌, Some, length, take, refl, ap, sym, ◌∙◌, deque_capacity}
use Rattle.std.specs.Prelude.{option_map}
use Rattle.oe_log.proofs.HeadFacts.{last_found}
use Rattle.oe_log.proofs.ZipFacts.{head_owner}
use Rattle.oe_log.proofs.CallFacts.{inside, oldest_found}
use Rattle.oe_log.proofs.KeptFacts.{cut}
use Rattle.oe_log.proofs.LayoutFacts.{log_is, newest_of}
use Rattle.oe_log.proofs.log.Log.drop_oldest.Goals.{in-Some, in-None}
use Rattle.oe_log.proofs.log.Log.drop_oldest.Goals as goal

pub returns-clause-oldest : goal.returns-clause-oldest
returns-clause-oldest c =
    let found = last_found c.self.inside.commits.items _ c.pop_back.result c.self.inside.commits.ok.0
    c.pop_back.ensures.variant.0 c.pop_back.ensures.value in
    let told : c.match-pop_back.result ≡ option_map head_owner c.pop_back.result =
    elim c.match-pop_back.branch [
      | in-Some w ↦ w.result-is ∙ ap Some w.owner.ensures ∙ ap (option_map head_owner) (sym w.in-Some.is)
      | in-None w ↦ w.result-is ∙ ap (option_map head_owner) (sym w.in-None.is)
    ] in
    rw (← c.self.view_is) (told ∙ oldest_found c.self.inside.layout (inside c.self.invariant.kept) c.pop_back.result
    found)

pub invariant_of-self : goal.invariant_of-self
invariant_of-self c =
    log_is (cut c.self.inside.layout c.self.invariant.kept (length c.self.inside.commits.items)
    c.drop_oldest.new.self.room
    (deque_capacity c.pop_back.new.self) c.pop_back.new.self.items c.drop_oldest.new.self
    refl (c.pop_back.ensures.rest ∙ ap (λ n. take (n - 1) c.self.inside.commits.items) c.self.inside.commits.ok.0)
    c.pop_back.ensures.capacity c.drop_oldest.ensures.left c.drop_oldest.ensures.room)
    (newest_of _ _ c.self.invariant.layout)

pub returns-clause-dropped : goal.returns-clause-dropped
returns-clause-dropped c =
    rw (← c.self.view_is)
    ((cut c.self.inside.layout c.self.invariant.kept (length c.self.inside.commits.items) c.drop_oldest.new.self.room
    (deque_capacity c.pop_back.new.self) c.pop_back.new.self.items c.drop_oldest.new.self
    refl (c.pop_back.ensures.rest ∙ ap (λ n. take (n - 1) c.self.inside.commits.items) c.self.inside.commits.ok.0)
    c.pop_back.ensures.capacity c.drop_oldest.ensures.left c.drop_oldest.ensures.room).view)
