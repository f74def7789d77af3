use Rattle.std.proofs.Common.{List, ℕ, ap}
use Rattle.std.specs.Prelude.{codes}
use Rattle.oe_io.proofs.Streaming.{cut_more}
use Rattle.oe_books.specs.declared.findings.PartFound.{PartFound}
use Rattle.oe_audit_report.specs.Json.{listing, check_head, part_json}
use Rattle.oe_io.proofs.Streaming.{streams_then}
use Rattle.oe_audit_report.proofs.StreamFacts.{streams_from}
use Rattle.oe_audit_report.proofs.json.CheckObjectsTextOfCheckFound.put.Goals as goal

pub returns-in-Ok : goal.returns-in-Ok
returns-in-Ok g c =
    let old = g.W.Outlet.sink c.args.to.now in
    let mid = g.W.Outlet.sink c.put_line.new.to in
    let new = g.W.Outlet.sink c.put_listing.new.to in
    let check = c.args.check.now in
    let parts : List PartFound → List ℕ =
    λ xs. listing (part_json c.args.self.now.first) (codes ",\"parts\":[") xs (codes "]}") in
    streams_then old mid new c.args.out.now.items c.put_line.new.out.items c.put_listing.new.out.items
    (check_head check) (parts check.parts.items) c.put_listing.result c.in-Ok.ensures
    (streams_from mid new c.put_line.new.out.items c.put_listing.new.out.items (parts c.as_slice-found.result.now)
    (parts check.parts.items) c.put_listing.result (ap parts c.as_slice-found.ensures.value) c.put_listing.ensures)

pub returns-in-Err : goal.returns-in-Err
returns-in-Err g c =
    let check = c.args.check.now in
    cut_more (g.W.Outlet.sink c.args.to.now) (g.W.Outlet.sink c.put_line.new.to) c.args.out.now.items
    (check_head check)
    (listing (part_json c.args.self.now.first) (codes ",\"parts\":[") check.parts.items (codes "]}"))
    c.in-Err.ensures
