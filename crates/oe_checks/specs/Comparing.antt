-- How figures are compared. A figure is none where there is no row; then nothing is asked, unless said otherwise.
use Rattle.std.specs.Prelude.{cond, ℤ, pos, ◌+ℤ◌, ◌-ℤ◌, Option, Some, None, unwrap_or}
use Rattle.std.specs.Ordering.{int_eq}
use Rattle.std.specs.Int.RustNames.{int_lt}
use Rattle.oe_checks.specs.declared.figures.Apart.{Apart}

-- both figures, where they are not one
abbrev pub unless_equal : ℤ → ℤ → Option Apart
unless_equal a b = cond (int_eq a b) None (Some (record { first = a; second = b }))

-- a row's figure against what there is to it, 0 where there is nothing
abbrev pub against : Option ℤ → Option ℤ → Option Apart
against None sum = None
against (Some x) sum = unless_equal x (unwrap_or sum (pos 0))

-- both figures, each 0 where it is none
abbrev pub even : Option ℤ → Option ℤ → Option Apart
even a b = unless_equal (unwrap_or a (pos 0)) (unwrap_or b (pos 0))

-- a row's figure against the number after the greatest, 0 where there is no greatest
abbrev pub next : Option ℤ → Option ℤ → Option Apart
next None greatest = None
next (Some x) None = unless_equal x (pos 0)
next (Some x) (Some n) = unless_equal x (n +ℤ pos 1)

-- the same where there is a greatest
abbrev pub next_if_any : Option ℤ → Option ℤ → Option Apart
next_if_any None greatest = None
next_if_any (Some x) None = None
next_if_any (Some x) (Some n) = unless_equal x (n +ℤ pos 1)

-- how many numbers there are from the least to the greatest against how many rows
abbrev pub span : Option ℤ → Option ℤ → Option ℤ → Option Apart
span None least rows = None
span (Some g) None rows = None
span (Some g) (Some l) None = None
span (Some g) (Some l) (Some n) = unless_equal ((g -ℤ l) +ℤ pos 1) n

-- two figures of one row
abbrev pub single : Option ℤ → Option ℤ → Option Apart
single None b = None
single (Some a) None = None
single (Some a) (Some b) = unless_equal a b

-- all of some rows where the flag is 1, and none where it is 0, against how many there are
abbrev pub all_or_none : Option ℤ → Option ℤ → Option ℤ → Option Apart
all_or_none None all some = None
all_or_none (Some flag) None some = None
all_or_none (Some flag) (Some n) None = None
all_or_none (Some flag) (Some n) (Some m) = unless_equal (cond (int_eq flag (pos 1)) n (pos 0)) m

-- a flag against whether there are any: 1 where there are
abbrev pub any_against : Option ℤ → Option ℤ → Option Apart
any_against None count = None
any_against (Some flag) None = unless_equal flag (pos 0)
any_against (Some flag) (Some n) = unless_equal flag (cond (int_lt (pos 0) n) (pos 1) (pos 0))

-- a figure below 10 or above 100, with the bound that it passes
abbrev pub outside : Option ℤ → Option Apart
outside None = None
outside (Some x) =
    cond (int_lt x (pos 10)) (Some (record { first = x; second = pos 10 }))
    (cond (int_lt (pos 100) x) (Some (record { first = x; second = pos 100 })) None)

-- how many rows refer to one that is not there, and 0
abbrev pub orphans_apart : Option ℤ → Option ℤ → Option Apart
orphans_apart None there = None
orphans_apart (Some n) None = Some (record { first = n; second = pos 0 })
orphans_apart (Some n) (Some m) = None

-- how many rows there are where there is more than one, and 1
abbrev pub repeats_apart : Option ℤ → Option Apart
repeats_apart None = None
repeats_apart (Some n) = cond (int_lt (pos 1) n) (Some (record { first = n; second = pos 1 })) None
