-- The bit that the mask's last digits begin with.
use Rattle.std.proofs.Common.{◌≤◌, ◌-◌, ◌%◌, ◌∙◌, sym, arith}
use Rattle.std.specs.Prelude.{nat_le}
use Rattle.oe_decode.proofs.BeforeFacts.{digit_is, unit_is}
use Rattle.oe_decode.proofs.masks.is_there.Goals as goal

pub returns : goal.returns
returns c =
    let k = c.args.count in
    let i = c.args.index in
    let low : k - 1 - i ≤ 24 = omega (arith, c.requires.few) in
    let high : k - i ≤ 24 = omega (arith, c.requires.few) in
    (λ z. nat_le (unit_is (k - 1 - i) low z) (c.args.mask % unit_is (k - i) high z))
    ∙ sym (digit_is k c.args.mask i c.requires.within c.requires.small)
