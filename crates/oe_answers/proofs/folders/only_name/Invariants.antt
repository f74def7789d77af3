use Rattle.std.proofs.Common.{◌≡◌, take}
use Rattle.oe_answers.specs.Folders.{names_of, texts_of}
use Rattle.oe_answers.proofs.folders.only_name.Given as goal

-- the name so far, if any
abbrev pub invariant-loop-found : goal.invariant-loop-found
invariant-loop-found g l = texts_of l.only ≡ names_of l.table (take l.found-index l.names)
