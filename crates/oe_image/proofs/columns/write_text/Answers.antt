-- The length, and then the bytes.
use Rattle.std.proofs.Common.{◌≡◌, List, ℕ, length, subst}
use Rattle.oe_extent.specs.Images.{Writes, number}
use Rattle.oe_extent.proofs.WriteFacts.{Writes-then}
use Rattle.oe_image.specs.Columns.{text}
use Rattle.oe_image.proofs.columns.write_text.Goals as goal

pub returns : goal.returns
returns g c =
    let t = c.as_bytes-text.result.now in
    let same : t ≡ c.args.string.now = cc in
    let both = Writes-then c.args.bytes.now c.write_number-middle.new.bytes c.write_bounded_run.new.bytes c.args.start
    c.write_number-middle.result c.write_bounded_run.result
    (number 2 (length t)) t c.write_number-middle.ensures c.write_bounded_run.ensures in
    subst (λ (l : List ℕ). Writes c.args.bytes.now c.args.start (text l) c.write_bounded_run.new.bytes
    c.write_bounded_run.result) same both
