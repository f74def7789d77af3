use Rattle.std.proofs.Common.{◌≡◌, take}
use Rattle.std.specs.Prelude.{is_ok}
use Rattle.std.specs.List.{list_all}
use Rattle.oe_file_loading.specs.Files.{reader_of}
use Rattle.oe_file_loading.proofs.opening.tell_closed.Given as goal

abbrev pub invariant-loop-table : goal.invariant-loop-table
invariant-loop-table g l =
    l.all_open ≡ list_all (λ t. is_ok (reader_of l.sources t).file) (take l.table-index l.table-items)
