-- What stands at the front of bytes, and the bytes that follow it, as functions on lists.
use Rattle.std.specs.Prelude.{ℕ, ◌+◌, ◌-◌, ◌*◌, ◌==◌, ◌&&◌, nat_lt, List, [], ◌∷◌, Option, Some, None, if◌then◌else◌}
use Rattle.std.specs.Char.{is_ascii_digit}

infixl 10 ◌>>=◌
abbrev pub ◌>>=◌ : {A B : Type 0} → Option A → (A → Option B) → Option B
None >>= f = None
(Some x) >>= f = f x

-- what follows the bytes `front`
abbrev pub after_of : List ℕ → List ℕ → Option (List ℕ)
after_of [] s = Some s
after_of (f ∷ fs) [] = None
after_of (f ∷ fs) (b ∷ s) = if b == f then after_of fs s else None

-- the number that two digits spell, and what follows them
unfoldable pub pair_of : List ℕ → Option (ℕ × List ℕ)
pair_of [] = None
pair_of (a ∷ []) = None
pair_of (a ∷ b ∷ s) =
    if is_ascii_digit a && is_ascii_digit b then Some ((a - 48) * 10 + (b - 48), s) else None

-- the number that goes on with the digits at the front, up to 15 of them in all, and what follows them
abbrev pub digits_from : ℕ → List ℕ → Option (ℕ × List ℕ)
digits_from value [] = Some (value, [])
digits_from value (b ∷ s) =
    if is_ascii_digit b
    then (if nat_lt value 100_000_000_000_000 then digits_from (value * 10 + (b - 48)) s else None)
    else Some (value, b ∷ s)

-- the number in decimal at the front, and what follows it; nothing follows a leading zero's digit
unfoldable pub decimal_of : List ℕ → Option (ℕ × List ℕ)
decimal_of [] = None
decimal_of (b ∷ s) =
    if b == 48 then Some (0, s)
    else if is_ascii_digit b then digits_from (b - 48) s
    else None

-- what was read, where nothing follows it
abbrev pub alone : {A : Type 0} → A → List ℕ → Option A
alone x [] = Some x
alone x (b ∷ s) = None
