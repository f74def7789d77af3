use Rattle.std.proofs.Common.{List, Option, vec_len}
use Rattle.oe_theory.specs.Store.{newest_version}
use Rattle.oe_model.specs.System.{system}
use Rattle.oe_core.specs.Core.{store_of}
use Rattle.oe_core.specs.Works.{WorkState}
use Rattle.oe_core.proofs.CloseFacts.{IsClosing}
use Rattle.oe_core.proofs.cores.Core.close.Given as goal

abbrev pub invariant-loop-tx : goal.invariant-loop-tx
invariant-loop-tx l =
    (ws : List (Option WorkState)) × IsClosing (record { engine = l.engine; txs = l.txs.items; works = ws })
    (newest_version system (store_of l.fn.self))

abbrev pub decreases-loop-tx : goal.decreases-loop-tx
decreases-loop-tx l = vec_len l.txs
