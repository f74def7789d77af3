use Rattle.std.proofs.Common.{List, ℕ, [], ◌++◌, None, ap, ◌∙◌, subst, refl}
use Rattle.std.specs.List.{flat_map}
use Rattle.std.proofs.lemmas.List.{append-nil}
use Rattle.oe_lines.specs.declared.commands.Command.TheVariants as asks
use Rattle.oe_lines.specs.Texts.{line_text}
use Rattle.oe_io.specs.Ports.{Streams}
use Rattle.oe_io.proofs.Streaming.{sent_waits, sent_then, sent_cut, streams_as}
use Rattle.oe_deeds.specs.Files.{commit_line}
use Rattle.oe_io.proofs.Streaming.{streams_then}
use Rattle.oe_deeds.proofs.files.write_commits.Goals as goal

pub returns-in-Err : goal.returns-in-Err
returns-in-Err g c =
    let old = g.W.Outlet.sink c.args.to.now in
    let opening = line_text (asks.Open c.args.scale.now (record { extents = c.args.extents; layout = None })) in
    let waits = c.open_line.new.out.items in
    let opened = sent_waits old [] waits opening
    (c.open_line.ensures.items ∙ ap (λ (z : List ℕ). z ++ opening) c.new-out.ensures) in
    sent_cut old old (g.W.Outlet.sink c.lines.new.to) [] waits opening (flat_map commit_line c.args.commits.now) opened
    c.in-Err.ensures

pub returns : goal.returns
returns g c =
    let old = g.W.Outlet.sink c.args.to.now in
    let mid = g.W.Outlet.sink c.lines.new.to in
    let new = g.W.Outlet.sink c.flush.new.to in
    let opening = line_text (asks.Open c.args.scale.now (record { extents = c.args.extents; layout = None })) in
    let rest = flat_map commit_line c.args.commits.now in
    let waits = c.open_line.new.out.items in
    let later = c.lines.new.out.items in
    let opened = sent_waits old [] waits opening
    (c.open_line.ensures.items ∙ ap (λ (z : List ℕ). z ++ opening) c.new-out.ensures) in
    let sent = sent_then old old mid [] waits later opening rest opened c.in_default.ensures in
    subst (λ (z : List ℕ). Streams old [] new z (opening ++ rest) c.flush.result) c.flush.ensures.empty
    (streams_as old new [] [] c.flush.new.out.items _ _ c.flush.result refl (append-nil (opening ++ rest))
    (streams_then old mid new [] later c.flush.new.out.items (opening ++ rest) [] c.flush.result sent
    c.flush.ensures.stream))
