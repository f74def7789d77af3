use Rattle.std.proofs.Common.{◌≡◌, map, drop}
use Rattle.oe_sources.specs.Name.{names, lookup}
use Rattle.oe_sources.proofs.names.look_up.Given as goal

-- no name so far is this one
abbrev pub invariant-loop-known : goal.invariant-loop-known
invariant-loop-known l =
    lookup names l.name ≡ lookup (map (λ n. (n.name.now, n.table)) (drop l.known-index l.known-items)) l.name
