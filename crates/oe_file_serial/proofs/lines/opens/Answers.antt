use Rattle.oe_file_serial.proofs.ToldFacts.{opens_scale}
use Rattle.oe_file_serial.proofs.lines.opens.Goals as goal

pub returns-in-OfScale : goal.returns-in-OfScale
returns-in-OfScale c =
    opens_scale c.args.line.now c.opening.result c.is_some.result c.is_some.ensures c.opening.ensures c.args.kind
    c.in-OfScale.is
