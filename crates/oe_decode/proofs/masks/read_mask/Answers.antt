-- The mask has as many bits as there are columns.
use Rattle.std.proofs.Common.{◌≤◌, ◌^◌, pow_mono, arith}
use Rattle.oe_decode.proofs.BeforeFacts.{mask_small}
use Rattle.oe_decode.proofs.masks.read_mask.Goals as goal

pub overflow_cast-result : goal.overflow_cast-result
overflow_cast-result c =
    let few : c.args.count ≤ 24 = omega (arith, c.requires.fits, c.requires.high) in
    let most : 2 ^ c.args.count ≤ 2 ^ 24 = pow_mono few in
    omega (
      arith,
      most,
      mask_small c.in-Some.number c.args.count c.args.width c.in-Some.ensures.fits c.requires.fits c.requires.high,
    )

pub returns-clause-small : goal.returns-clause-small
returns-clause-small c =
    mask_small c.in-Some.number c.args.count c.args.width c.in-Some.ensures.fits c.requires.fits c.requires.high
