-- One record after another.
use Rattle.std.proofs.Common.{◌≡◌, suc, ◌+◌, ◌-◌, ◌∙◌, sym, ap, subst, arith, take}
use Rattle.oe_rows.specs.declared.keys.Key.{Key}
use Rattle.oe_layout.specs.Records.{record_of_own}
use Rattle.oe_log.specs.Log.{active_at, records_at}
use Rattle.oe_log.proofs.StateFacts.{some_of}
use Rattle.oe_undo.specs.Held.{horizon}
use Rattle.oe_undo.specs.Undo.{link_seen}
use Rattle.oe_model.specs.Changes.{record_key}
use Rattle.oe_journal.specs.Identity.{links_behind}
use Rattle.oe_journal.specs.Named.{PutsBack}
use Rattle.oe_journal.proofs.LinkedFacts.{none_stay, then_stay, links_stay}
use Rattle.oe_journal.proofs.LedFacts.{horizon_kept, led_on, led_alike}
use Rattle.oe_journal.proofs.ChainedFacts.{same_given_back}
use Rattle.oe_journal.proofs.BackFacts.{GoesBack, begins, still_open, can_go, goes_on, ends}
use Rattle.oe_journal.proofs.KeptNameFacts.{taken_off}
use Rattle.oe_journal.proofs.unwinding.take_back.Goals as goal

pub loop-init : goal.loop-init
loop-init c =
    let all : c.args.count ≡ c.args.count - 0 = omega arith in (
      subst (λ n. GoesBack c.args.tables.now c.args.tables.now c.args.undo.now.log c.args.undo.now.log c.args.segment
          c.args.count (records_at c.args.undo.now.log c.args.segment) n) all
          (begins c.args.tables.now c.args.undo.now.log c.args.segment c.args.count c.requires.enough c.requires.places
          c.requires.unwinds),
      none_stay c.args.tables.now c.args.undo.now.links,
      λ k. ap (λ n. links_behind (horizon c.args.undo.now.log) c.args.segment
          (take n (records_at c.args.undo.now.log c.args.segment)) (link_seen c.args.undo.now) k) (sym all),
      λ h. h,
    )

pub take_newest-requires : goal.take_newest-requires
take_newest-requires c =
    still_open c.args.tables.now c.loop.tables c.args.undo.now.log c.loop.undo.log c.args.segment c.args.count
    (records_at c.loop.undo.log c.args.segment) (c.args.count - c.loop.counter) c.loop.invariant.0 c.args.segment
    ∙ c.requires.open

pub put_back-requires : goal.put_back-requires
put_back-requires c =
    let one_less : c.args.count - c.loop.counter ≡ suc (c.args.count - (c.loop.counter + 1)) = omega arith in
    can_go c.args.tables.now c.loop.tables c.args.undo.now.log c.loop.undo.log c.args.segment c.args.count
    (records_at c.loop.undo.log c.args.segment) (c.args.count - (c.loop.counter + 1))
    (record_of_own c.in-Some.newest) (sym c.in-Some.ensures.newest)
    (subst (λ n. GoesBack c.args.tables.now c.loop.tables c.args.undo.now.log c.loop.undo.log c.args.segment
    c.args.count (records_at c.loop.undo.log c.args.segment) n) one_less c.loop.invariant.0)

pub loop-preserved : goal.loop-preserved
loop-preserved c =
    let one_less : c.args.count - c.loop.counter ≡ suc (c.args.count - (c.loop.counter + 1)) = omega arith in (
      goes_on c.args.tables.now c.loop.tables c.put_back.new.tables c.args.undo.now.log c.loop.undo.log
          c.put_back.new.undo.log c.args.segment c.args.count (c.args.count - (c.loop.counter + 1))
          c.in-Some.newest c.is_chained.ensures.whole.terminals c.requires.open (sym c.in-Some.ensures.newest)
          c.put_back.ensures.rows
          (subst (PutsBack (record_of_own c.in-Some.newest) (record_key (record_of_own c.in-Some.newest)) c.loop.tables
          c.put_back.new.tables) (sym c.put_back.ensures.log) c.put_back.ensures.places)
          (c.put_back.ensures.log ∙ c.take_newest.ensures.log)
          (subst (λ n. GoesBack c.args.tables.now c.loop.tables c.args.undo.now.log c.loop.undo.log c.args.segment
          c.args.count (records_at c.loop.undo.log c.args.segment) n) one_less c.loop.invariant.0),
      then_stay c.args.tables.now c.loop.tables c.put_back.new.tables c.args.undo.now.links c.loop.undo.links
          c.put_back.new.undo.links c.loop.invariant.1
          (then_stay c.loop.tables c.loop.tables c.put_back.new.tables c.loop.undo.links c.take_newest.new.self.links
          c.put_back.new.undo.links
          (links_stay c.loop.tables c.loop.undo.links c.take_newest.new.self.links
          (same_given_back c.loop.undo c.take_newest.new.self c.args.segment c.is_chained.ensures.whole
          c.is_chained.ensures.chained c.take_newest.ensures.links))
          c.put_back.ensures.links),
      λ k. led_alike (horizon c.args.undo.now.log) c.args.segment (c.args.count - (c.loop.counter + 1))
          c.take_newest.new.self c.put_back.new.undo c.put_back.ensures.log c.put_back.ensures.seen k
          ∙ led_on c.args.undo.now c.loop.undo c.take_newest.new.self c.args.segment
          (c.args.count - (c.loop.counter + 1)) c.args.count (record_of_own c.in-Some.newest)
          (still_open c.args.tables.now c.loop.tables c.args.undo.now.log c.loop.undo.log c.args.segment c.args.count
          (records_at c.loop.undo.log c.args.segment) (c.args.count - c.loop.counter) c.loop.invariant.0
          c.args.segment
          ∙ c.requires.open)
          (horizon_kept c.args.undo.now.log c.loop.undo.log c.args.segment (records_at c.loop.undo.log c.args.segment)
          c.loop.invariant.0.log)
          (sym c.in-Some.ensures.newest) c.take_newest.ensures.log c.take_newest.ensures.links
          (subst (λ n. (k : Key) → links_behind (horizon c.args.undo.now.log) c.args.segment
          (take n (records_at c.loop.undo.log c.args.segment)) (link_seen c.loop.undo) k
          ≡ links_behind (horizon c.args.undo.now.log) c.args.segment
          (take c.args.count (records_at c.args.undo.now.log c.args.segment)) (link_seen c.args.undo.now) k) one_less
          c.loop.invariant.2) k,
      λ h. c.put_back.ensures.exact
          (taken_off c.loop.tables c.loop.undo.log c.take_newest.new.self.log c.args.segment
          (record_of_own c.in-Some.newest) c.take_newest.ensures.log
          (still_open c.args.tables.now c.loop.tables c.args.undo.now.log c.loop.undo.log c.args.segment c.args.count
          (records_at c.loop.undo.log c.args.segment) (c.args.count - c.loop.counter) c.loop.invariant.0
          c.args.segment
          ∙ c.requires.open)
          (sym c.in-Some.ensures.newest) (c.loop.invariant.3 h)),
    )

pub returns-clause-back : goal.returns-clause-back
returns-clause-back c =
    let none : c.args.count - c.loop.counter ≡ 0 = omega arith in
    let o = some_of (active_at c.args.undo.now.log c.args.segment) c.requires.open in
    ends c.args.tables.now c.loop.tables c.args.undo.now.log c.loop.undo.log c.args.segment c.args.count o.0
    (records_at c.loop.undo.log c.args.segment) o.1
    (subst (λ n. GoesBack c.args.tables.now c.loop.tables c.args.undo.now.log c.loop.undo.log c.args.segment
    c.args.count (records_at c.loop.undo.log c.args.segment) n) none c.loop.invariant.0)

pub returns-clause-seen : goal.returns-clause-seen
returns-clause-seen c = λ k.
    let none : 0 ≡ c.args.count - c.loop.counter = omega arith in
    ap (λ n. links_behind (horizon c.args.undo.now.log) c.args.segment
    (take n (records_at c.loop.undo.log c.args.segment))
    (link_seen c.loop.undo) k) none ∙ c.loop.invariant.2 k

pub returns-clause-exact : goal.returns-clause-exact
returns-clause-exact c = c.loop.invariant.3
