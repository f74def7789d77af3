-- Lemmas on the texts of stamps.
use Rattle.std.proofs.Common.{◌≡◌, refl, sym, ◌∙◌, ap, ℕ, ◌+◌, ◌*◌, ◌/◌, ◌%◌, ◌<◌, ◌≤◌, List, [], ◌++◌, ◌∷◌, codes}
use Rattle.std.proofs.Common.{arith, Bool, true, false, lit≤, Option, Some, None, IfSome}
use Rattle.std.specs.Prelude.{pos, negsuc, ◌+ℤ◌, ◌*ℤ◌, ◌≤ℤ◌, unsigned_abs, if◌then◌else◌}
use Rattle.std.proofs.lemmas.Int.{ints, by_lt_z}
use Rattle.jiff_core.specs.Calendar.{IsDate, days_in_month, days_from_civil, day_count, days_of_years, days_of_months}
use Rattle.jiff_core.specs.Date.{epoch_day}
use Rattle.jiff_core.specs.DateTime.{civil_seconds}
use Rattle.jiff_core.specs.declared.civil.date.Date.{Date}
use Rattle.jiff_core.specs.declared.civil.datetime.DateTime.{DateTime}
use Rattle.jiff_core.specs.Time.{IsTime, time_seconds}
use Rattle.jiff_core.proofs.CalendarLemmas.{days_from_civil-day_count, day_count-lt_year}
use Rattle.jiff_core.proofs.DateLemmas.{civil, epoch_day_injective}
use Rattle.jiff_core.proofs.SignedLemmas.{signed_arith}
use Rattle.oe_values.specs.Front.{after_of, pair_of}
use Rattle.oe_values.specs.Reading.{date_of, time_of, numbers_of}
use Rattle.oe_values.specs.Stamp.{two_digits, date_text, time_text, SaysStamp, IsCounted}
use Rattle.oe_values.proofs.FrontFacts.{bind_some, some_same, alone_found, after_found, pair_found, pair_only}

-- what a clock and a calendar show has two digits, and a year four
pub clock_small : (h i e : ℕ) → IsTime (pos h) (pos i) (pos e) (pos 0) → (h < 100) × (i < 100) × (e < 100)
clock_small h i e t = (omega (arith, ints), omega (arith, ints), omega (arith, ints))

pub year_small : (y m d : ℕ) → IsDate (pos y) (pos m) (pos d) → y < 10000
year_small y m d t = omega (arith, ints)

pub month_small : (y m d : ℕ) → IsDate (pos y) (pos m) (pos d) → m < 100
month_small y m d t = omega (arith, ints)

small_month : (a b c : Bool) → (if a then (if b then 29 else 28) else (if c then 30 else 31)) ≤ 31
small_month true true c = lit≤ tt
small_month true false c = lit≤ tt
small_month false b true = lit≤ tt
small_month false b false = lit≤ tt

pub day_small : (y m d : ℕ) → IsDate (pos y) (pos m) (pos d) → d < 100
day_small y m d t = let most : days_in_month (pos y) m ≤ 31 = small_month _ _ _ in omega (arith, ints, most)

-- what is read is spelled

date_found : (s : List ℕ) (d : ℕ × ℕ × ℕ) (r : List ℕ) → date_of s ≡ Some (d, r) → s ≡ date_text d.0 d.1 d.2 ++ r
unfolding date_of
date_found s d r e =
    let c = bind_some (pair_of s) _ (d, r) e in
    let y = bind_some (pair_of c.0.1) _ (d, r) c.2 in
    let a = bind_some (after_of (codes "-") y.0.1) _ (d, r) y.2 in
    let m = bind_some (pair_of a.0) _ (d, r) a.2 in
    let b = bind_some (after_of (codes "-") m.0.1) _ (d, r) m.2 in
    let t = bind_some (pair_of b.0) _ (d, r) b.2 in
    let century = pair_found s c.0.0 c.0.1 c.1 in
    let of_century = pair_found c.0.1 y.0.0 y.0.1 y.1 in
    let month = pair_found a.0 m.0.0 m.0.1 m.1 in
    let day = pair_found b.0 t.0.0 t.0.1 t.1 in
    let high : (c.0.0 * 100 + y.0.0) / 100 ≡ c.0.0 = omega (arith, of_century.1) in
    let low : (c.0.0 * 100 + y.0.0) % 100 ≡ y.0.0 = omega (arith, of_century.1) in
    let spelled : s ≡ date_text (c.0.0 * 100 + y.0.0) m.0.0 t.0.0 ++ t.0.1 =
    rw (high, low)
    (century.0 ∙ ap (λ z. two_digits c.0.0 ++ z)
    (of_century.0 ∙ ap (λ z. two_digits y.0.0 ++ z)
    (after_found (codes "-") y.0.1 a.0 a.1 ∙ ap (λ z. 45 ∷ z)
    (month.0 ∙ ap (λ z. two_digits m.0.0 ++ z)
    (after_found (codes "-") m.0.1 b.0 b.1 ∙ ap (λ z. 45 ∷ z) day.0))))) in
    spelled ∙ ap (λ (x : (ℕ × ℕ × ℕ) × List ℕ). date_text x.0.0 x.0.1 x.0.2 ++ x.1) (some_same _ (d, r) t.2)

time_found : (s : List ℕ) (d : ℕ × ℕ × ℕ) (r : List ℕ) → time_of s ≡ Some (d, r) → s ≡ time_text d.0 d.1 d.2 ++ r
unfolding time_of
time_found s d r e =
    let h = bind_some (pair_of s) _ (d, r) e in
    let a = bind_some (after_of (codes ":") h.0.1) _ (d, r) h.2 in
    let m = bind_some (pair_of a.0) _ (d, r) a.2 in
    let b = bind_some (after_of (codes ":") m.0.1) _ (d, r) m.2 in
    let t = bind_some (pair_of b.0) _ (d, r) b.2 in
    let hour = pair_found s h.0.0 h.0.1 h.1 in
    let minute = pair_found a.0 m.0.0 m.0.1 m.1 in
    let second = pair_found b.0 t.0.0 t.0.1 t.1 in
    let spelled : s ≡ time_text h.0.0 m.0.0 t.0.0 ++ t.0.1 =
    hour.0 ∙ ap (λ z. two_digits h.0.0 ++ z)
    (after_found (codes ":") h.0.1 a.0 a.1 ∙ ap (λ z. 58 ∷ z)
    (minute.0 ∙ ap (λ z. two_digits m.0.0 ++ z)
    (after_found (codes ":") m.0.1 b.0 b.1 ∙ ap (λ z. 58 ∷ z) second.0))) in
    spelled ∙ ap (λ (x : (ℕ × ℕ × ℕ) × List ℕ). time_text x.0.0 x.0.1 x.0.2 ++ x.1) (some_same _ (d, r) t.2)

pub numbers_found : (s : List ℕ) (d t : ℕ × ℕ × ℕ) → numbers_of s ≡ Some (d, t)
    → s ≡ date_text d.0 d.1 d.2 ++ 84 ∷ time_text t.0 t.1 t.2
unfolding numbers_of
numbers_found s d t e =
    let x = bind_some (date_of s) _ (d, t) e in
    let a = bind_some (after_of (codes "T") x.0.1) _ (d, t) x.2 in
    let y = bind_some (time_of a.0) _ (d, t) a.2 in
    let end = alone_found (x.0.0, y.0.0) (d, t) y.0.1 y.2 in
    let time : a.0 ≡ time_text y.0.0.0 y.0.0.1 y.0.0.2 ++ [] = rw end.0 at (time_found a.0 y.0.0 y.0.1 y.1) in
    date_found s x.0.0 x.0.1 x.1
    ∙ ap (λ z. date_text x.0.0.0 x.0.0.1 x.0.0.2 ++ z) (after_found (codes "T") x.0.1 a.0 a.1 ∙ ap (λ z. 84 ∷ z) time)
    ∙ ap (λ (p : (ℕ × ℕ × ℕ) × (ℕ × ℕ × ℕ)). date_text p.0.0 p.0.1 p.0.2 ++ 84 ∷ time_text p.1.0 p.1.1 p.1.2) end.1

-- and what is spelled is read

date_only : (y m d : ℕ) (r : List ℕ) → y < 10000 → m < 100 → d < 100
    → date_of (date_text y m d ++ r) ≡ Some ((y, m, d), r)
unfolding date_of
date_only y m d r p q t =
    let whole : y / 100 * 100 + y % 100 ≡ y = omega arith in
    rw (
      pair_only (y / 100) _ (omega arith),
      pair_only (y % 100) _ (omega arith),
      pair_only m _ q,
      pair_only d r t,
      whole,
    ) refl

time_only : (h i e : ℕ) (r : List ℕ) → h < 100 → i < 100 → e < 100
    → time_of (time_text h i e ++ r) ≡ Some ((h, i, e), r)
unfolding time_of
time_only h i e r p q t = rw (pair_only h _ p, pair_only i _ q, pair_only e r t) refl

pub numbers_only : (s : List ℕ) (n : ℕ) (r : SaysStamp s n)
    → numbers_of s ≡ Some ((r.year, r.month, r.day), (r.hour, r.minute, r.second))
unfolding numbers_of
numbers_only s n r =
    let is_date = r.counted.is_date in
    let clock = clock_small r.hour r.minute r.second r.counted.is_time in
    let date = date_only r.year r.month r.day (84 ∷ time_text r.hour r.minute r.second) (year_small _ _ _ is_date)
    (month_small _ _ _ is_date) (day_small _ _ _ is_date) in
    let time = time_only r.hour r.minute r.second [] clock.0 clock.1 clock.2 in
    rw (r.spelled, date, time) refl

-- one text says one number of each
pub IsCounted-read : (s : List ℕ) (n : ℕ) (r : SaysStamp s n) (d t : ℕ × ℕ × ℕ) → numbers_of s ≡ Some (d, t)
    → IsCounted d.0 d.1 d.2 t.0 t.1 t.2 n
IsCounted-read s n r d t e =
    let same = some_same _ (d, t) (sym (numbers_only s n r) ∙ e) in
    let date : (r.year, r.month, r.day) ≡ d = ap (λ (p : (ℕ × ℕ × ℕ) × (ℕ × ℕ × ℕ)). p.0) same in
    let time : (r.hour, r.minute, r.second) ≡ t = ap (λ (p : (ℕ × ℕ × ℕ) × (ℕ × ℕ × ℕ)). p.1) same in
    rw (← date, ← time) r.counted

pub SaysStamp-read : (s : List ℕ) (n : ℕ) (d t : ℕ × ℕ × ℕ) → numbers_of s ≡ Some (d, t)
    → IsCounted d.0 d.1 d.2 t.0 t.1 t.2 n → SaysStamp s n
SaysStamp-read s n d t e counted = record {
  year = d.0;
  month = d.1;
  day = d.2;
  hour = t.0;
  minute = t.1;
  second = t.2;
  counted = counted;
  spelled = numbers_found s d t e;
}

-- a text says one stamp
pub says_one : (s : List ℕ) (n n' : ℕ) → SaysStamp s n → SaysStamp s n' → n ≡ n'
says_one s n n' r r' =
    let again = IsCounted-read s n r _ _ (numbers_only s n' r') in
    let same : pos n ≡ pos n' = again.count ∙ sym r'.counted.count in
    cc

-- the seconds of a stamp are its days and those of its time
pub counted_at : (y m d h i e days seconds : ℕ) → IsDate (pos y) (pos m) (pos d)
    → days_from_civil (pos y) m d +ℤ pos 25_567 ≡ pos days → days < 73_414
    → IsTime (pos h) (pos i) (pos e) (pos 0) → seconds ≡ h * 3600 + i * 60 + e
    → IsCounted y m d h i e (days * 86_400 + seconds)
counted_at y m d h i e days seconds is_date at before is_time of_day = record {
  is_date = is_date;
  is_time = is_time;
  count = omega (arith, signed_arith);
  before_2101 = omega (arith, ints);
}

pub days_counted : (y m d h i e n : ℕ) → IsCounted y m d h i e n → (n / 86_400 < 73_414)
    × (days_from_civil (pos y) m d +ℤ pos 25_567 ≡ pos (n / 86_400))
days_counted y m d h i e n c = (omega (arith, c.before_2101), omega (arith, signed_arith, c.count, c.is_time))

pub if_some : {A : Type 0} (o : Option A) (P Q : A → Type 0) → ((x : A) → P x → Q x) → IfSome o P → IfSome o Q
if_some None P Q f h = tt
if_some (Some x) P Q f h = f x h

epoch_day-1900 : days_from_civil (pos 1900) 1 1 ≡ negsuc 25_566
unfolding days_from_civil day_count days_of_years days_of_months
epoch_day-1900 = refl

pub civil_seconds-parts : (t : DateTime) → civil_seconds t ≡ epoch_day t.date *ℤ pos 86_400 +ℤ pos (time_seconds t.time)
unfolding civil_seconds
civil_seconds-parts t = refl

-- a stamp's date lies in 1900 or later
pub since_1900 : (t : DateTime) (n : ℕ) → pos n ≡ civil_seconds t +ℤ pos 2_208_988_800 → pos 1900 ≤ℤ t.date.year
since_1900 t n e =
    by_lt_z t.date.year (pos 1900)
    (λ lt. absurd (omega (
      arith,
      signed_arith,
      civil_seconds-parts t,
      epoch_day-1900,
      days_from_civil-day_count
          t.date.year t.date.month t.date.day,
      days_from_civil-day_count (pos 1900) 1 1,
      day_count-lt_year t.date.year
          t.date.month t.date.day (pos 1900) 1 1 (civil t.date) (lit≤ tt) lt,
    )))
    (λ le. le)

-- what is spelled of a date and time says its stamp
pub SaysStamp-moment : (t : DateTime) (n : ℕ) (s : List ℕ) → pos n ≡ civil_seconds t +ℤ pos 2_208_988_800
    → pos 1900 ≤ℤ t.date.year → n < 6_342_969_600
    → s ≡ date_text (unsigned_abs t.date.year) t.date.month t.date.day
    ++ 84 ∷ time_text t.time.hour t.time.minute t.time.second → SaysStamp s n
SaysStamp-moment t n s count since before spelled =
    let year : pos (unsigned_abs t.date.year) ≡ t.date.year = omega (arith, ints) in
    record {
      year = unsigned_abs t.date.year;
      month = t.date.month;
      day = t.date.day;
      hour = t.time.hour;
      minute = t.time.minute;
      second = t.time.second;
      counted = record {
        is_date = rw year (t.date.year_in, omega (arith, ints, t.date.month_in), omega (arith, ints, t.date.day_in));
        is_time = (omega (arith, ints), omega (arith, ints), omega (arith, ints), omega (arith, ints));
        count = rw year (rw civil_seconds-parts at count);
        before_2101 = before;
      };
      spelled = spelled;
    }

-- a date of the calendar
abbrev civil_date : (y m d : ℕ) → IsDate (pos y) (pos m) (pos d) → Date
civil_date y m d h = record {
  year = pos y;
  month = m;
  day = d;
  year_in = h.0;
  month_in = omega (arith, ints, h.1);
  day_in = omega (arith, ints, h.2);
}

-- a stamp has one text
pub says_alone : (s t : List ℕ) (n : ℕ) → SaysStamp s n → SaysStamp t n → s ≡ t
says_alone s t n r r' =
    let days : days_from_civil (pos r.year) r.month r.day ≡ days_from_civil (pos r'.year) r'.month r'.day =
    omega (arith, signed_arith, r.counted.count, r'.counted.count, r.counted.is_time, r'.counted.is_time) in
    let date = epoch_day_injective (civil_date r.year r.month r.day r.counted.is_date)
    (civil_date r'.year r'.month r'.day r'.counted.is_date) days in
    let year : r.year ≡ r'.year = cc in
    let hour : r.hour ≡ r'.hour =
    omega (arith, signed_arith, r.counted.count, r'.counted.count, r.counted.is_time, r'.counted.is_time) in
    let minute : r.minute ≡ r'.minute = omega
    (arith, signed_arith, r.counted.count, r'.counted.count, r.counted.is_time, r'.counted.is_time) in
    let second : r.second ≡ r'.second = omega
    (arith, signed_arith, r.counted.count, r'.counted.count, r.counted.is_time, r'.counted.is_time) in
    r.spelled ∙ rw (year, date.1, date.2, hour, minute, second) (sym r'.spelled)
