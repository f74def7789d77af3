use Rattle.std.proofs.Common.{◌≡◌, ◌+◌, [], map, sym, subst, true, rules}
use Rattle.oe_hall.specs.Desks.{TheDesk}
use Rattle.oe_drive.specs.Posts.{station_of}
use Rattle.oe_drive.specs.Stations.{HaveCarriedOut}
use Rattle.oe_drive.proofs.PostFacts.{desk_risen, ended_last}
use Rattle.oe_drive.proofs.driving.rise.Goals as goal

pub loop-post-preserved : goal.loop-post-preserved
loop-post-preserved g c = (
  search rules,
  search rules,
  ended_last c.loop-post.desks.items _ _ c.push_reserved-in-Some.ensures.items c.loop-post.invariant.2
      (subst (λ (d : TheDesk). d.told.begun ≡ d.told.committed + d.told.rolled_back)
      (sym c.into_parts-desk-in-Some.ensures.desk) c.into_parts-desk-in-Some.ensures.ended),
  λ whole log.
      let before : c.loop-post.is_whole ≡ true = search rules in
      let done : c.is_whole-is_whole.result ≡ true = search rules in
      desk_risen log (HaveCarriedOut log (map station_of c.args.posts.items)) _ _ c.in-Some.post _ _
      c.join-station.result c.in-Some.ensures.items (search rules)
      c.join-station.ensures (c.is_whole-is_whole.ensures done)
      (c.loop-post.invariant.3 before log),
)

pub returns-clause-carried : goal.returns-clause-carried
returns-clause-carried g c whole log known =
    let none : c.loop-post.posts.items ≡ [] = search rules in
    c.loop-post.invariant.3 whole log known (subst (λ x. HaveCarriedOut log (map station_of x)) (sym none) tt)
