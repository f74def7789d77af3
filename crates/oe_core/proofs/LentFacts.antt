-- The version that the engine lends, as the core's store has it.
use Rattle.std.proofs.Common.{◌≡◌, ℕ, sym, subst}
use Rattle.oe_engine.specs.View.{view_of, view_from}
use Rattle.oe_versions.specs.Versions.{VersionState, Stand}
use Rattle.oe_core.specs.Core.{CoreState, store_of, IsOrderly}
use Rattle.oe_core.proofs.MoveFacts.{standing}

-- the engine's tables and log as they stand, at this moment
abbrev pub IsLent : CoreState → ℕ → VersionState → Type 0
IsLent s m v = v ≡ record { tables = s.engine.tables; log = s.engine.undo; moment = m }

pub stands_here : (s : CoreState) → IsOrderly s → (m : ℕ) (v : VersionState) → IsLent s m v → Stand v.tables v.log
unfolding view_of view_from
stands_here s o m v is =
    subst (λ (x : VersionState). Stand x.tables x.log) (sym is) ((store_of s).slots, standing s o)
