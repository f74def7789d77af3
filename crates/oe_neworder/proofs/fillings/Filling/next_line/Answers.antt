use Rattle.std.proofs.Common.{List, ◌≡◌, ◌<◌, ◌≤◌, length, sym, ap, subst, arith}
use Rattle.oe_requests.specs.declared.replies.LineReply.{LineReply}
use Rattle.oe_requests.specs.declared.requests.RequestLine.{RequestLine}
use Rattle.oe_neworder.proofs.fillings.Filling.next_line.Goals as goal

pub returns-in-Some-clause-room : goal.returns-in-Some-clause-room
returns-in-Some-clause-room c = λ some.
    let within : length c.as_slice-2.result.now < length c.as_slice.result.now = c.in-Some.ensures.lookup.3.0 in
    let count : length c.as_slice-2.result.now ≡ length c.args.self.now.done =
    ap (λ (z : List LineReply). length z) c.as_slice-2.ensures.value in
    let most : length c.as_slice.result.now ≤ 15 = subst (λ (z : List RequestLine). length z ≤ 15)
    (sym c.as_slice.ensures.value) c.as_slice.ensures.most in
    omega (arith, within, count, most)
