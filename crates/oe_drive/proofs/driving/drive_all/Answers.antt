use Rattle.std.proofs.Common.{◌≡◌, ℕ, ◌+◌, ◌-◌, ◌<◌, ◌≤◌, ◌∙◌, rules, arith}
use Rattle.oe_drive.proofs.SlotFacts.{free_before, if_ok, if_ok_so}
use Rattle.oe_drive.proofs.driving.drive_all.Goals as goal

pub sit_down-requires-clause-free : goal.sit_down-requires-clause-free
sit_down-requires-clause-free g c =
    let value : c.unwrap.result ≡ c.len-count.result + 1 = search rules in
    let count = c.len-count.ensures in
    let senders = c.requires.senders in
    free_before c.args.shop.0.seats c.take_desk-desk.new.shop.seats _ _ c.requires.free
    (omega (arith, value, count, senders)) c.take_desk-desk.ensures.seats

pub rise-desks-requires : goal.rise-desks-requires
rise-desks-requires g c =
    let same = c.run_all-posts.ensures.count in
    let count = c.sit_down.ensures.stations in
    let room = c.requires.desks in
    let senders = c.requires.senders in
    (room.0, omega (arith, same, count, room.1, senders))

pub close-requires : goal.close-requires
close-requires g c =
    let same = c.run_all-posts.ensures.count in
    let count = c.sit_down.ensures in
    let rise = c.rise-desks.ensures.count in
    let taken = c.take_desk-desk.ensures.given in
    let none = c.requires.new in
    omega (arith, same, count.stations, count.given, rise, taken, none)

-- what the shop left is handed on
pub returns-clause-ended : goal.returns-clause-ended
returns-clause-ended g c = if_ok c.left.result c.left.ensures.same (λ d h. rw (h.1) c.in-Ok.ensures.ended)

pub returns-clause-quiet : goal.returns-clause-quiet
returns-clause-quiet g c = if_ok c.left.result c.left.ensures.same (λ d h. rw (h.0) c.in-Ok.ensures.quiet)

pub returns-clause-newest : goal.returns-clause-newest
returns-clause-newest g c = if_ok c.left.result c.left.ensures.same (λ d h. rw (h.0, h.1) c.in-Ok.ensures.newest)

pub returns-clause-layout : goal.returns-clause-layout
returns-clause-layout g c = if_ok c.left.result c.left.ensures.same (λ d h. rw (h.0) c.in-Ok.ensures.layout)

pub returns-clause-run : goal.returns-clause-run
returns-clause-run g c = if_ok c.left.result c.left.ensures.same (λ d h. rw (h.0, h.2) c.in-Ok.ensures.run)

pub returns-clause-unpurged : goal.returns-clause-unpurged
returns-clause-unpurged g c =
    if_ok c.left.result c.left.ensures.same (λ d h. rw (h.2) (c.in-Ok.ensures.purges ∙ c.requires.silent))

-- what desks have called stands in the history, so that each terminal has carried out its plan there
pub returns-clause-carried : goal.returns-clause-carried
returns-clause-carried g c =
    if_ok_so c.left.result c.left.ensures.same c.left.ensures.whole (λ d h whole. rw (h.2) (c.sit_down.ensures.carried _
    (c.run_all-posts.ensures.carried _ (c.rise-desks.ensures.carried whole _ c.in-Ok.ensures.told.0))))

pub returns-clause-kept : goal.returns-clause-kept
returns-clause-kept g c = if_ok c.left.result c.left.ensures.kept (λ d h. h.1)
