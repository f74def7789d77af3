-- Names are compared in any case.
use Rattle.std.proofs.Common.{◌≡◌, ℕ, ◌↔◌, Bool, List, map}
use Rattle.std.specs.Char.{to_ascii_lowercase}
use Rattle.std.specs.Prelude.{IsTrue}
use Rattle.std.specs.Str.{bytes_eq}
use Rattle.std.proofs.lemmas.Bool.Decides.{same_from_decides}
use Rattle.std.proofs.lemmas.Slice.Eq.{bytes_eq-Decides}
use Rattle.oe_sources.specs.Name.{is_same}

pub same_is : (a b : List ℕ) (r : Bool) → IsTrue r ↔ (map to_ascii_lowercase a ≡ map to_ascii_lowercase b)
    → r ≡ is_same a b
unfolding is_same
same_is a b r h =
    let x = map to_ascii_lowercase a in
    let y = map to_ascii_lowercase b in
    same_from_decides r (bytes_eq x y) h (bytes_eq-Decides x y)
