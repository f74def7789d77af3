-- A string among others: its first two bytes tell its length.
use Rattle.std.proofs.Common.{◌-◌, drop, ◌∙◌, arith}
use Rattle.std.proofs.lemmas.List.{length-take, length-drop}
use Rattle.oe_extent.proofs.PackedFacts.{amid, size_amid, string_amid}
use Rattle.oe_extent.proofs.packing.PackedStrings.at.Goals as goal

pub slice_bounds-read_u16-count : goal.slice_bounds-read_u16-count
slice_bounds-read_u16-count c =
    let a = amid c.self.inside.count c.self.inside.fill c.self.inside.bytes.items c.requires.begins.newer
    c.requires.string c.requires.begins.older
    c.args.offset c.self.invariant (c.self.view_is ∙ c.requires.begins.parts) c.requires.begins.behind in
    omega (arith, a.within, c.self.invariant.size)

pub slice_bounds-read_u16-start : goal.slice_bounds-read_u16-start
slice_bounds-read_u16-start c =
    let a = amid c.self.inside.count c.self.inside.fill c.self.inside.bytes.items c.requires.begins.newer
    c.requires.string c.requires.begins.older
    c.args.offset c.self.invariant (c.self.view_is ∙ c.requires.begins.parts) c.requires.begins.behind in
    omega (arith, a.within, c.self.invariant.size)

pub read_u16-size-requires : goal.read_u16-size-requires
read_u16-size-requires c =
    let a = amid c.self.inside.count c.self.inside.fill c.self.inside.bytes.items c.requires.begins.newer
    c.requires.string c.requires.begins.older
    c.args.offset c.self.invariant (c.self.view_is ∙ c.requires.begins.parts) c.requires.begins.behind in
    let rest = drop c.args.offset c.self.inside.bytes.items in
    omega (
      arith,
      a.within,
      a.framed.long,
      c.self.invariant.size,
      length-take (4096 - c.args.offset) rest,
      length-drop
          c.args.offset c.self.inside.bytes.items,
    )

pub slice_bounds-result-end : goal.slice_bounds-result-end
slice_bounds-result-end c =
    let a = amid c.self.inside.count c.self.inside.fill c.self.inside.bytes.items c.requires.begins.newer
    c.requires.string c.requires.begins.older
    c.args.offset c.self.invariant (c.self.view_is ∙ c.requires.begins.parts) c.requires.begins.behind in
    let size = size_amid c.self.inside.bytes.items c.requires.string c.args.offset c.read_u16-size.result a
    (rw (← c.deref.ensures.value) c.read_u16-size.ensures) in
    omega (arith, a.within, c.self.invariant.size, size)

pub returns : goal.returns
returns c s b =
    let a = amid c.self.inside.count c.self.inside.fill c.self.inside.bytes.items b.newer s b.older c.args.offset
    c.self.invariant
    (c.self.view_is ∙ b.parts) b.behind in
    let size = size_amid c.self.inside.bytes.items s c.args.offset c.read_u16-size.result a
    (rw (← c.deref.ensures.value) c.read_u16-size.ensures) in
    rw c.deref-2.ensures.value (string_amid c.self.inside.bytes.items s c.args.offset c.read_u16-size.result a size)
