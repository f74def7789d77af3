-- The text of a stamp says it.
use Rattle.std.proofs.Common.{◌≡◌, refl, ℕ, zero, suc, ◌+◌, ◌-◌, ◌*◌, ◌/◌, ◌%◌, ◌<◌, ◌≤◌, arith, Bool, true, false}
use Rattle.std.proofs.Common.{cond, nat_lt, ltb-true, ltb-false, lit≤}
use Rattle.std.specs.Prelude.{ℤ, pos, ◌+ℤ◌, ◌*ℤ◌}
use Rattle.std.proofs.lemmas.Int.{ints}
use Rattle.jiff_core.specs.Calendar.{IsDate, days_in_year, days_in_month, day_count, days_from_civil}
use Rattle.jiff_core.specs.Time.{IsTime}
use Rattle.jiff_core.proofs.MarchLemmas.{day_count-early}
use Rattle.jiff_core.proofs.CalendarLemmas.{days_from_civil-day_count, day_count-next_year, day_count-next_month}
use Rattle.jiff_core.proofs.CalendarLemmas.{day_count-day, day_count-last_of_year}
use Rattle.jiff_core.proofs.SignedLemmas.{signed_arith}
use Rattle.oe_values.specs.Stamp.{SaysStamp}
use Rattle.oe_texts.specs.Stamp.{year_and_day, month_and_day, day_text, stamp_text}

-- a year from `first` to `last`, and the number in it of the day that lies `day` days after the first of them begins
record IsYearOf (first last day : ℕ) (r : ℕ × ℕ) : Type 0 where
  pub same : day_count (pos r.0) 1 1 + r.1 ≡ day_count (pos first) 1 1 + day
  pub within : r.1 < days_in_year (pos r.0)
  pub low : first ≤ r.0
  pub high : r.0 ≤ last

next_year : (year : ℕ) → day_count (pos (year + 1)) 1 1 ≡ day_count (pos year) 1 1 + days_in_year (pos year)
next_year year = day_count-next_year (pos year) (pos (year + 1)) (omega (arith, ints)) (omega (arith, ints))

year_step : (first last day : ℕ) (b : Bool) (r : ℕ × ℕ) → nat_lt day (days_in_year (pos first)) ≡ b → first ≤ last
    → (b ≡ false → IsYearOf (first + 1) last (day - days_in_year (pos first)) r)
    → IsYearOf first last day (cond b (first, day) r)
year_step first last day true r e h later = record { same = refl; within = ltb-true _ _ e; low = omega arith; high = h }
year_step first last day false r e h later =
    let left = later refl in
    let passed = ltb-false day (days_in_year (pos first)) e in
    record {
      same = omega (arith, left.same, next_year first, passed);
      within = left.within;
      low = omega (arith, left.low);
      high = left.high;
    }

years : (more first last day : ℕ) → first + more ≡ last
    → day_count (pos first) 1 1 + day < day_count (pos (last + 1)) 1 1
    → IsYearOf first last day (year_and_day more first day)
years zero first last day e h =
    let end : last ≡ first = omega arith in
    record { same = refl; within = omega (arith, next_year first, rw end at h); low = omega arith; high = omega arith }
years (suc more) first last day e h =
    year_step first last day (nat_lt day (days_in_year (pos first)))
    (year_and_day more (first + 1) (day - days_in_year (pos first))) refl (omega arith)
    (λ f. years more (first + 1) last (day - days_in_year (pos first)) (omega arith)
    (omega (arith, next_year first, ltb-false day (days_in_year (pos first)) f)))

-- likewise a month of a year
record IsMonthOf (year : ℤ) (first last day : ℕ) (r : ℕ × ℕ) : Type 0 where
  pub same : day_count year r.0 1 + r.1 ≡ day_count year first 1 + day
  pub within : r.1 < days_in_month year r.0
  pub low : first ≤ r.0
  pub high : r.0 ≤ last

month_step : (year : ℤ) (first last day : ℕ) (b : Bool) (r : ℕ × ℕ) → nat_lt day (days_in_month year first) ≡ b
    → 1 ≤ first → first ≤ last
    → (b ≡ false → IsMonthOf year (first + 1) last (day - days_in_month year first) r)
    → IsMonthOf year first last day (cond b (first, day) r)
month_step year first last day true r e f h later =
    record { same = refl; within = ltb-true _ _ e; low = omega arith; high = h }
month_step year first last day false r e f h later =
    let left = later refl in
    let passed = ltb-false day (days_in_month year first) e in
    record {
      same = omega (arith, left.same, day_count-next_month year first f, passed);
      within = left.within;
      low = omega (arith, left.low);
      high = left.high;
    }

months : (more : ℕ) (year : ℤ) (first last day : ℕ) → first + more ≡ last → 1 ≤ first
    → day_count year first 1 + day < day_count year (last + 1) 1
    → IsMonthOf year first last day (month_and_day more year first day)
months zero year first last day e f h =
    let end : last ≡ first = omega arith in
    record {
      same = refl;
      within = omega (arith, day_count-next_month year first f, rw end at h);
      low = omega arith;
      high = omega arith;
    }
months (suc more) year first last day e f h =
    month_step year first last day (nat_lt day (days_in_month year first))
    (month_and_day more year (first + 1) (day - days_in_month year first)) refl f (omega arith)
    (λ g. months more year (first + 1) last (day - days_in_month year first) (omega arith) (omega arith)
    (omega (arith, day_count-next_month year first f, ltb-false day (days_in_month year first) g)))

day_count-1900 : day_count (pos 1900) 1 1 ≡ 4_346_386
day_count-1900 = day_count-early (pos 1900) 11899 1 1 refl (lit≤ tt) (lit≤ tt) (lit≤ tt)

day_count-2101 : day_count (pos 2101) 1 1 ≡ 4_419_800
day_count-2101 = day_count-early (pos 2101) 12100 1 1 refl (lit≤ tt) (lit≤ tt) (lit≤ tt)

dated : (y m d : ℕ) → 1900 ≤ y → y ≤ 2100 → 1 ≤ m → m ≤ 12 → 1 ≤ d → d ≤ days_in_month (pos y) m
    → IsDate (pos y) (pos m) (pos d)
dated y m d p q r s t u = (
  (omega (arith, ints), omega (arith, ints)),
  (omega (arith, ints), omega (arith, ints)),
  (omega (arith, ints), omega (arith, ints)),
)

clock : (s : ℕ) → s < 86_400 → IsTime (pos (s / 3600)) (pos (s % 3600 / 60)) (pos (s % 60)) (pos 0)
clock s h = (
  (omega (arith, ints), omega (arith, ints)),
  (omega (arith, ints), omega (arith, ints)),
  (omega (arith, ints), omega (arith, ints)),
  (omega (arith, ints), omega (arith, ints)),
)

count : (y m d n : ℕ) → day_count (pos y) m d ≡ 4_346_386 + n / 86_400
    → pos n ≡ days_from_civil (pos y) m d *ℤ pos 86_400 +ℤ pos
    (n % 86_400 / 3600 * 3600 + n % 86_400 % 3600 / 60 * 60 + n % 86_400 % 60) +ℤ pos 2_208_988_800
count y m d n h = omega (arith, signed_arith, days_from_civil-day_count (pos y) m d, h)

-- the text of a stamp says it
pub stamp_text_says : (n : ℕ) → n < 6_342_969_600 → SaysStamp (stamp_text n) n
unfolding stamp_text day_text
stamp_text_says n h =
    let day = n / 86_400 in
    let y = year_and_day 200 1900 day in
    let year = years 200 1900 2100 day refl (omega (arith, day_count-1900, day_count-2101)) in
    let whole = day_count-last_of_year (pos y.0) in
    let december = day_count-next_month (pos y.0) 12 (lit≤ tt) in
    let thirty_one = day_count-day (pos y.0) 12 31 1 (lit≤ tt) (lit≤ tt) in
    let m = month_and_day 11 (pos y.0) 1 y.1 in
    let month = months 11 (pos y.0) 1 12 y.1 refl (lit≤ tt) (omega (arith, year.within, whole, december, thirty_one)) in
    let offset = day_count-day (pos y.0) m.0 (m.1 + 1) 1 (omega arith) (lit≤ tt) in
    record {
      year = y.0;
      month = m.0;
      day = m.1 + 1;
      hour = n % 86_400 / 3600;
      minute = n % 86_400 % 3600 / 60;
      second = n % 86_400 % 60;
      counted = record {
        is_date = dated y.0 m.0 (m.1 + 1) year.low year.high month.low month.high (omega arith)
            (omega (arith, month.within));
        is_time = clock (n % 86_400) (omega arith);
        count = count y.0 m.0 (m.1 + 1) n (omega (arith, offset, month.same, year.same, day_count-1900));
        before_2101 = h;
      };
      spelled = refl;
    }
