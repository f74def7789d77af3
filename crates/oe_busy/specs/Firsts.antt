-- The names that were most often in the way.
use Rattle.std.specs.Prelude.{◌≡◌, ℕ, zero, suc, ◌==◌, nat_lt, Bool, true, false, if◌then◌else◌, cond, List, [], ◌∷◌}
use Rattle.std.specs.Prelude.{◌++◌, codes, decimal, Option, None, Some}
use Rattle.oe_rows.specs.declared.locks.Name.{Name}
use Rattle.oe_texts.specs.Key.{name_text}
use Rattle.oe_waits.specs.Names.{is_before, place}

-- A name comes before another where it was more often in the way, or as often, and is before it among all names.
abbrev pub precedes : (Name → ℕ) → Name → Name → Bool
precedes f a b = if f a == f b then is_before (place a) (place b) else nat_lt (f b) (f a)

-- it comes behind another, where there is one
abbrev pub is_behind : (Name → ℕ) → Option Name → Name → Bool
is_behind f None n = true
is_behind f (Some last) n = precedes f last n

-- it was in the way, and comes behind that
abbrev pub is_left : (Name → ℕ) → Option Name → Name → Bool
is_left f behind n = if f n == 0 then false else is_behind f behind n

-- it is left, and none that is left comes before it
abbrev pub IsFirst : (Name → ℕ) → Option Name → Name → Type 0
IsFirst f behind n = (is_left f behind n ≡ true)
    × ((q : Name) → is_left f behind q ≡ true → precedes f q n ≡ false)

-- at most so many names, each the first of those behind the last one
abbrev pub AreMostBusy : (Name → ℕ) → Option Name → ℕ → List Name → Type 0
AreMostBusy f behind zero ns = ns ≡ []
AreMostBusy f behind (suc k) [] = (q : Name) → is_left f behind q ≡ false
AreMostBusy f behind (suc k) (n ∷ ns) = IsFirst f behind n × AreMostBusy f (Some n) k ns

-- the first so far, or one more where that is left and comes before it
abbrev pub sooner : (Name → ℕ) → Option Name → Name → Bool → Option Name
sooner f first n false = first
sooner f None n true = Some n
sooner f (Some b) n true = cond (precedes f n b) (Some n) (Some b)

-- `Busy 12 Warehouse(1)`
abbrev pub name_line : (Name → ℕ) → Name → List ℕ
name_line f n = codes "Busy " ++ decimal (f n) ++ codes " " ++ name_text n ++ codes "\n"
