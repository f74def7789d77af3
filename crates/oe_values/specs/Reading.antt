-- Reading a stamp from the front of its text, as functions on lists, and counting its days and seconds.
use Rattle.std.specs.Prelude.{◌≡◌, ℕ, ◌+◌, ◌*◌, ◌<◌, List, Option, Some, codes, pos, ◌+ℤ◌}
use Rattle.jiff_core.specs.Calendar.{IsDate, days_from_civil}
use Rattle.jiff_core.specs.Time.{IsTime}
use Rattle.oe_values.specs.Front.{◌>>=◌, after_of, pair_of, alone}

-- the year, month and day of YYYY-MM-DD, and what follows it
unfoldable pub date_of : List ℕ → Option ((ℕ × ℕ × ℕ) × List ℕ)
date_of s = do
  c ← pair_of s
  y ← pair_of c.1
  a ← after_of (codes "-") y.1
  m ← pair_of a
  b ← after_of (codes "-") m.1
  d ← pair_of b
  Some ((c.0 * 100 + y.0, m.0, d.0), d.1)

-- the hour, minute and second of HH:MM:SS, and what follows it
unfoldable pub time_of : List ℕ → Option ((ℕ × ℕ × ℕ) × List ℕ)
time_of s = do
  h ← pair_of s
  a ← after_of (codes ":") h.1
  m ← pair_of a
  b ← after_of (codes ":") m.1
  e ← pair_of b
  Some ((h.0, m.0, e.0), e.1)

-- the numbers of a text YYYY-MM-DDTHH:MM:SS
unfoldable pub numbers_of : List ℕ → Option ((ℕ × ℕ × ℕ) × (ℕ × ℕ × ℕ))
numbers_of s = do
  d ← date_of s
  a ← after_of (codes "T") d.1
  t ← time_of a
  alone (d.0, t.0) t.1

-- the calendar has the date, `n` days after 1900-01-01 and before 2101
abbrev pub IsDay : ℕ → ℕ → ℕ → ℕ → Type 0
IsDay year month day n =
    IsDate (pos year) (pos month) (pos day)
    × (days_from_civil (pos year) month day +ℤ pos 25_567 ≡ pos n)
    × (n < 73_414)

-- the clock shows the time, `n` seconds after midnight
abbrev pub IsSecond : ℕ → ℕ → ℕ → ℕ → Type 0
IsSecond hour minute second n =
    IsTime (pos hour) (pos minute) (pos second) (pos 0) × (n ≡ hour * 3600 + minute * 60 + second)
