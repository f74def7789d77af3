-- The text of a stamp: whole years, and then whole months, are taken off its day.
use Rattle.std.specs.Prelude.{ℕ, zero, suc, ◌+◌, ◌-◌, ◌/◌, ◌%◌, nat_lt, if◌then◌else◌, List, ◌∷◌, ◌++◌, ℤ, pos}
use Rattle.jiff_core.specs.Calendar.{days_in_year, days_in_month}
use Rattle.oe_values.specs.Stamp.{date_text, time_text}

-- the year of the day that lies `day` days after 1 January of `year`, and the day's number in it from 0; at most `more`
-- years are taken off
abbrev pub year_and_day : ℕ → ℕ → ℕ → ℕ × ℕ
year_and_day zero year day = (year, day)
year_and_day (suc more) year day =
    if nat_lt day (days_in_year (pos year)) then (year, day)
    else year_and_day more (year + 1) (day - days_in_year (pos year))

-- the month of the day that lies `day` days after the first of `month`, and the day's number in it from 0; at most
-- `more` months are taken off
abbrev pub month_and_day : ℕ → ℤ → ℕ → ℕ → ℕ × ℕ
month_and_day zero year month day = (month, day)
month_and_day (suc more) year month day =
    if nat_lt day (days_in_month year month) then (month, day)
    else month_and_day more year (month + 1) (day - days_in_month year month)

-- YYYY-MM-DD of a day, counted from 1900-01-01, up to the year 2100
unfoldable pub day_text : ℕ → List ℕ
day_text day =
    let year = year_and_day 200 1900 day in
    let month = month_and_day 11 (pos year.0) 1 year.1 in
    date_text year.0 month.0 (month.1 + 1)

-- YYYY-MM-DDTHH:MM:SS of a stamp, each day being 86,400 seconds
unfoldable pub stamp_text : ℕ → List ℕ
stamp_text stamp =
    let second = stamp % 86_400 in
    day_text (stamp / 86_400) ++ 84 ∷ time_text (second / 3600) (second % 3600 / 60) (second % 60)
