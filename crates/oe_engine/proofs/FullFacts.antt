-- That a record has no room, in the words of the log and of the theory.
use Rattle.std.proofs.Common.{◌≡◌, ℕ, suc, length}
use Rattle.oe_values.specs.declared.numbers.TheConstants.{TERMINALS}
use Rattle.oe_theory.specs.Next.{record_on}
use Rattle.oe_model.specs.Changes.{Change}
use Rattle.oe_model.specs.Lengths.{record_length}
use Rattle.oe_model.specs.System.{system, size_of, terminal_limit}
use Rattle.oe_store.specs.Places.{rows}
use Rattle.oe_store.specs.Places as tables
use Rattle.oe_log.specs.Log.{IsFull, SegmentLog}
use Rattle.oe_log.proofs.UsedFacts.{full_here, full_there}
use Rattle.oe_locks.specs.Held.{Holdings}
use Rattle.oe_engine.specs.View.{view_from}
use Rattle.oe_engine.specs.Calls.{IsFullFor}

module _ (ts : tables.Places) (u : SegmentLog) (ls : Holdings) (t : ℕ) (c : Change)
    (size : length u.terminals ≡ suc TERMINALS) where
  pub full_so : IsFull u t (record_length (record_on system u.layout c (rows ts))) → IsFullFor (view_from ts u ls) t c
  unfolding view_from size_of terminal_limit
  full_so f = full_here u t (record_length (record_on system u.layout c (rows ts))) size f

  pub full_as : IsFullFor (view_from ts u ls) t c → IsFull u t (record_length (record_on system u.layout c (rows ts)))
  unfolding view_from size_of terminal_limit
  full_as f = full_there u t (record_length (record_on system u.layout c (rows ts))) size f
