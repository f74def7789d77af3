use Rattle.std.proofs.Common.{◌≡◌, [], sym, subst, rules}
use Rattle.oe_drive.specs.Stations.{HaveCarriedOut}
use Rattle.oe_drive.proofs.PostFacts.{station_posted}
use Rattle.oe_drive.proofs.posts.start_all.Goals as goal

pub loop-station-preserved : goal.loop-station-preserved
loop-station-preserved g c = (
  search rules,
  search rules,
  λ log. station_posted log (HaveCarriedOut log c.args.stations.items) _ _ c.in-Some.station _ _ c.start_one-post.result
      c.in-Some.ensures.items c.push_reserved.ensures.items c.start_one-post.ensures
      (c.loop-station.invariant.2 log),
)

pub returns-clause-carried : goal.returns-clause-carried
returns-clause-carried g c log all =
    let none : c.loop-station.stations.items ≡ [] = search rules in
    c.loop-station.invariant.2 log all (subst (HaveCarriedOut log) (sym none) tt)
