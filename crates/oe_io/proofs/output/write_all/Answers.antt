use Rattle.std.proofs.Common.{◌++◌, ◌-◌, [], length, take, drop, ap, ◌∙◌, arith}
use Rattle.std.proofs.lemmas.List.{take-append-drop, take_rest, length-drop}
use Rattle.oe_io.proofs.Streaming.{sent_then, sent_cut, sent_wrote, cut_failed, sent_as, cut_as, take_on}
use Rattle.oe_io.proofs.output.write_all.Goals as goal

pub returns-in-Err : goal.returns-in-Err
returns-in-Err g c =
    let bytes = c.args.bytes.now in
    let rest = take (length bytes - c.loop-at.at) (drop c.loop-at.at bytes) in
    let failed = cut_failed (g.W.Outlet.sink c.loop-at.to) (g.W.Outlet.sink c.write.new.self) rest c.in-Err.e
    c.in-Err.ensures.bytes in
    cut_as _ _ [] _ bytes (ap (λ z. take c.loop-at.at bytes ++ z) (take_rest bytes c.loop-at.at)
    ∙ take-append-drop c.loop-at.at bytes)
    (sent_cut (g.W.Outlet.sink c.args.to.now) (g.W.Outlet.sink c.loop-at.to) (g.W.Outlet.sink c.write.new.self) [] []
    (take c.loop-at.at bytes) rest
    c.loop-at.invariant.stream failed)

pub loop-at-preserved : goal.loop-at-preserved
loop-at-preserved g c =
    let bytes = c.args.bytes.now in
    let rest = take (length bytes - c.loop-at.at) (drop c.loop-at.at bytes) in
    let wrote = sent_wrote (g.W.Outlet.sink c.loop-at.to) (g.W.Outlet.sink c.write.new.self) rest c.in-Ok.n
    c.in-Ok.ensures.bytes in
    record {
      within = omega (
        arith,
        c.in-Ok.ensures.bound.1,
        ap length (take_rest bytes c.loop-at.at),
        length-drop c.loop-at.at
            bytes,
      );
      stream = sent_as _ _ [] [] _ _
          (ap (λ z. take c.loop-at.at bytes ++ take c.in-Ok.n z) (take_rest bytes c.loop-at.at)
          ∙ take_on _ c.loop-at.at c.in-Ok.n bytes)
          (sent_then (g.W.Outlet.sink c.args.to.now) (g.W.Outlet.sink c.loop-at.to) (g.W.Outlet.sink c.write.new.self)
          [] [] [] (take c.loop-at.at bytes) (take c.in-Ok.n rest)
          c.loop-at.invariant.stream wrote);
    }
