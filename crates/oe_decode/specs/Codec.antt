-- What it means that reading is exact, both ways.
use Rattle.std.specs.Prelude.{◌≡◌, ◌<◌, ◌≤◌, ◌^◌, ℕ, List, ◌++◌, Option, Some}
use Rattle.oe_decode.specs.Fronts.{IsBytes}

-- the bytes are the text, and then the rest
pub record Takes (bytes text rest : List ℕ) : Type 0 where
  pub parts : bytes ≡ text ++ rest
  pub rest_fits : IsBytes rest

-- the same as `IsExact`, in a form that parts are put together by
pub record IsCodec {X : Type 0} (Fits : X → Type 0) (image : X → List ℕ) (at : List ℕ → Option (X × List ℕ)) : Type
    0 where
  pub takes : (bytes : List ℕ) (x : X × List ℕ) → IsBytes bytes → at bytes ≡ Some x
      → Fits x.0 × Takes bytes (image x.0) x.1
  pub again : (v : X) (rest : List ℕ) → Fits v → at (image v ++ rest) ≡ Some (v, rest)

-- numbers up to `high` have room in `width` bytes
pub record IsWidth (width high : ℕ) : Type 0 where
  pub low : 1 ≤ width
  pub small : width ≤ 4
  pub fits : 256 ^ width ≤ 4294967296
  pub room : high < 256 ^ width

-- one kind of value seen as another, one for one where they fit
pub record Shows {X Y : Type 0} (Fits : X → Type 0) (Shown : Y → Type 0) (f : X → Y) (g : Y → X) : Type 0 where
  pub there : (y : Y) → Shown y → f (g y) ≡ y
  pub back : (x : X) → Fits x → g (f x) ≡ x
  pub apart : (y : Y) → Shown y → Fits (g y)
  pub together : (x : X) → Fits x → Shown (f x)

-- columns of these types make up a row: each in its range, where the row is in its ranges
pub record IsRow {X Y : Type 0} (Sound : Type 0) (Fits : X → Type 0) (Shown : Y → Type 0) (f : X → Y) (g : Y → X)
    : Type 0 where
  pub kept : Sound
  pub shows : Shows Fits Shown f g
