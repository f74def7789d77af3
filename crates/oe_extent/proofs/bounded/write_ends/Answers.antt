-- The first bytes, and then the last.
use Rattle.std.proofs.Common.{ℕ, ◌+◌, ◌-◌, List, length, take, drop, ◌∙◌, subst, arith}
use Rattle.std.proofs.lemmas.List.{take_all, length-drop}
use Rattle.oe_extent.specs.Images.{Writes}
use Rattle.oe_extent.proofs.WriteFacts.{Writes-ends}
use Rattle.oe_extent.proofs.bounded.write_ends.Goals as goal

pub returns : goal.returns
returns g c =
    let run = c.args.run.now in
    let last = length run - g.row.CHUNK in
    let front : Writes c.args.bytes.now c.args.start (take g.row.CHUNK run) c.write_run-middle.new.bytes
    c.write_run-middle.result =
    subst (λ (l : List ℕ). Writes c.args.bytes.now c.args.start l c.write_run-middle.new.bytes
    c.write_run-middle.result)
    c.chunk_at-front.ensures c.write_run-middle.ensures in
    let back : Writes c.write_run-middle.new.bytes (c.args.start + last) (drop last run) c.write_run.new.bytes
    c.write_run.result =
    subst (λ (l : List ℕ). Writes c.write_run-middle.new.bytes (c.args.start + last) l c.write_run.new.bytes
    c.write_run.result)
    (c.chunk_at-back.ensures ∙ take_all g.row.CHUNK (drop last run) (omega (arith, length-drop last run)))
    c.write_run.ensures in
    Writes-ends c.args.bytes.now c.write_run-middle.new.bytes c.write_run.new.bytes c.args.start g.row.CHUNK last
    c.write_run-middle.result
    c.write_run.result run (omega arith) (omega arith) (omega arith) front back
