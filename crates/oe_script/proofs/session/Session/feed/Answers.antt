use Rattle.std.proofs.Common.{◌+◌, ◌++◌, ◌∷◌, [], take, drop, append_assoc, ap, ◌∙◌, Some, Ok, Err, refl, sym, arith}
use Rattle.std.proofs.lemmas.List.{append-nil, take_rest, length-append}
use Rattle.oe_script.specs.Hearing.{HearsEach}
use Rattle.oe_script.specs.Session.{state_of}
use Rattle.oe_io.specs.declared.ports.Failed.{Failed}
use Rattle.oe_script.proofs.Reaching.{stand_bytes, stand_line, broken_more, broken_as, to_end, past_end, standing_as}
use Rattle.oe_script.proofs.Reaching.{standing_same}
use Rattle.oe_filelines.proofs.LineFacts.{no_end, before_end, with_end}
use Rattle.oe_script.proofs.session.Session.feed.Goals as goal

pub returns-in-Err-clause-fed : goal.returns-in-Err-clause-fed
returns-in-Err-clause-fed g c = λ d input s.
    let l = c.loop-n in
    let t = l.invariant.taken in
    let n = c.in-Some.n in
    let last = take n l.rest.now in
    let more = drop (n + 1) l.rest.now in
    let was = l.self in
    let new = c.end_line.new.self in
    let sink = g.W.Outlet.sink c.end_line.new.to in
    let found = c.in-Some.ensures in
    let broken = stand_line d.begun d.live g.H.Listener.hears d.first {T = Unit {0}} {E = Failed} l.listener
    c.end_line.new.listener
    d.start (g.W.Outlet.sink l.to) sink (input ++ t.0) was.out.items
    new.out.items (state_of g.M.Machine.world was.core) (state_of g.M.Machine.world new.core) was.count was.line
    last (Err c.in-Err.e) (before_end l.rest.now n found) c.in-Err.ensures.answer c.in-Err.ensures.heard
    (t.3 d input s) in
    broken_as d.begun d.live d.start sink _ (input ++ c.args.piece.now)
    (λ told. HearsEach g.H.Listener.hears d.first told c.end_line.new.listener)
    (ap (λ z. z ++ more) (to_end input t.0 last) ∙ append_assoc input ((t.0 ++ last) ++ 10 ∷ []) more
    ∙ ap (λ z. input ++ z) (past_end t.0 last more l.rest.now (with_end l.rest.now n found) ∙ t.1))
    (broken_more d.begun d.live d.start sink (((input ++ t.0) ++ last) ++ 10 ∷ []) more
    (λ told. HearsEach g.H.Listener.hears d.first told c.end_line.new.listener) broken)

pub loop-n-preserved : goal.loop-n-preserved
loop-n-preserved g c =
    let l = c.loop-n in
    let t = l.invariant.taken in
    let n = c.in-Some.n in
    let last = take n l.rest.now in
    let more = drop (n + 1) l.rest.now in
    let was = l.self in
    let new = c.end_line.new.self in
    let found = c.in-Some.ensures in
    let e = c.in_default-end_line.ensures in
    let front = (t.0 ++ last) ++ 10 ∷ [] in
    record {
      taken = (
        front,
        ap (λ z. front ++ z) (take_rest l.rest.now (n + 1)) ∙ past_end t.0 last more l.rest.now
            (with_end l.rest.now n found) ∙ t.1,
        omega (arith, t.2, e.count, length-append (t.0 ++ last) (10 ∷ []), length-append t.0 last),
        λ d input s.
            standing_as d.begun d.live g.H.Listener.hears d.first c.end_line.new.listener d.start (g.W.Outlet.sink
            c.end_line.new.to) _ _
            new.out.items (state_of g.M.Machine.world new.core) new.count new.line (to_end input t.0 last)
            (standing_same d.begun d.live g.H.Listener.hears d.first c.end_line.new.listener d.start
            (g.W.Outlet.sink c.end_line.new.to) (((input ++ t.0) ++ last) ++ 10 ∷ []) new.out.items new.out.items
            (state_of g.M.Machine.world new.core) (state_of g.M.Machine.world new.core) (was.count + 1) new.count
            (Some []) new.line
            refl refl (sym e.count) (sym e.line)
            (stand_line d.begun d.live g.H.Listener.hears d.first {T = Unit {0}} {E = Failed} l.listener
            c.end_line.new.listener d.start
            (g.W.Outlet.sink l.to) (g.W.Outlet.sink c.end_line.new.to)
            (input ++ t.0) was.out.items new.out.items (state_of g.M.Machine.world was.core)
            (state_of g.M.Machine.world new.core) was.count
            was.line last (Ok tt) (before_end l.rest.now n found) e.answer e.heard (t.3 d input s))),
      );
      live = e.live;
    }

pub returns-clause-fed : goal.returns-clause-fed
returns-clause-fed g c = λ d input s.
    let l = c.loop-n in
    let t = l.invariant.taken in
    let was = l.self in
    let sink = g.W.Outlet.sink l.to in
    standing_as d.begun d.live g.H.Listener.hears d.first l.listener d.start sink _ _ was.out.items
    (state_of g.M.Machine.world was.core)
    was.count c.keep.new.self (append_assoc input t.0 l.rest.now ∙ ap (λ z. input ++ z) t.1)
    (stand_bytes d.begun d.live g.H.Listener.hears d.first l.listener d.start sink (input ++ t.0) was.out.items
    (state_of g.M.Machine.world was.core) was.count was.line c.keep.new.self l.rest.now
    (no_end l.rest.now c.in_default.ensures)
    c.keep.ensures (t.3 d input s))

pub loop-n-init : goal.loop-n-init
loop-n-init g c =
    let was = c.args.self.now in
    record {
      taken = (
        [],
        refl,
        omega arith,
        λ d input s.
            standing_as d.begun d.live g.H.Listener.hears d.first c.args.listener.now d.start
            (g.W.Outlet.sink c.args.to.now) input
            (input ++ []) was.out.items (state_of g.M.Machine.world was.core) was.count was.line
            (sym (append-nil input)) s,
      );
      live = c.requires.live;
    }
