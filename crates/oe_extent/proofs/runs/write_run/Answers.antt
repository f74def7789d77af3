-- The bytes are put at their offset.
use Rattle.std.proofs.Common.{◌≡◌, ◌+◌, ◌-◌, length, take, drop, arith, [], refl}
use Rattle.std.proofs.lemmas.List.{append-nil, drop_all, length-take}
use Rattle.oe_extent.proofs.WriteFacts.{Writes-mid}
use Rattle.oe_extent.proofs.runs.write_run.Goals as goal

pub returns : goal.returns
returns c =
    let k = c.args.start + length c.args.run.now - c.args.start in
    let lent = take k (drop c.args.start c.args.bytes.now) in
    let none : drop (length c.args.run.now) lent ≡ [] = drop_all (length c.args.run.now) lent
    (omega (arith, length-take k (drop c.args.start c.args.bytes.now))) in
    Writes-mid c.args.bytes.now c.args.start k c.args.run.now c.copy_from_slice.new.self
    (c.args.start + length c.args.run.now)
    (omega arith) (omega arith) (rw (none, append-nil) c.copy_from_slice.ensures.after) refl
