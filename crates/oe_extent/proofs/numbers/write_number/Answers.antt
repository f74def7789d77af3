-- The bytes of the number are put at their offset.
use Rattle.std.proofs.Common.{◌≡◌, ◌+◌, ◌-◌, length, arith}
use Rattle.byteorder.specs.Endian.{big_bytes}
use Rattle.byteorder.specs.Numbers.{length-bytes_high_first}
use Rattle.oe_extent.proofs.WriteFacts.{Writes-mid}
use Rattle.oe_extent.proofs.numbers.write_number.Goals as goal

pub returns : goal.returns
returns c =
    let len : length (big_bytes c.args.width c.args.value) ≡ c.args.width =
    length-bytes_high_first c.args.width c.args.value in
    Writes-mid c.args.bytes.now c.args.start (length c.args.bytes.now - c.args.start)
    (big_bytes c.args.width c.args.value) c.write_uint.new.buf (c.args.start + c.args.width)
    (omega arith) (omega arith) (rw len c.write_uint.ensures) (omega arith)
