-- The dates of messages ('Messaging in Jupyter' 5.3, "General Message Format": ISO 8601). They have the form of RFC
-- 3339, "Internet Date/Time Format", in UTC and with microseconds.
use Rattle.std.specs.Prelude.{ℕ, ◌+◌, ◌*◌, ◌-◌, ◌%◌, List, Bool, ◌&&◌, ◌||◌, not, nat_eq, nat_le, if◌then◌else◌}
use Rattle.std.specs.Prelude.{codes, get_or, map}
use Rattle.std.specs.Str.{bytes_eq}

-- a text's octet with each digit written as 0
abbrev pub zeroed : ℕ → ℕ
zeroed octet = if nat_le 48 octet && nat_le octet 57 then 48 else octet

-- A text has the form of such a date: it is `0000-00-00T00:00:00.000000Z`, with any digit in place of each 0.
abbrev pub has_form : List ℕ → Bool
has_form text = bytes_eq (map zeroed text) (codes "0000-00-00T00:00:00.000000Z")

-- the number that the digit at a place of a text is
abbrev pub digit : List ℕ → ℕ → ℕ
digit text place = get_or text place 48 - 48

-- the number that two digits from a place on are
abbrev pub two_digits : List ℕ → ℕ → ℕ
two_digits text place = 10 * digit text place + digit text (place + 1)

-- the year of a text of that form, by its four digits
abbrev pub year : List ℕ → ℕ
year text = 100 * two_digits text 0 + two_digits text 2

-- A year is a leap year if it can be divided by four and not by a hundred, or by four hundred (RFC 3339, appendix C).
abbrev pub is_leap : ℕ → Bool
is_leap years = (nat_eq (years % 4) 0 && not (nat_eq (years % 100) 0)) || nat_eq (years % 400) 0

-- how many days a month has (RFC 3339, section 5.7)
abbrev pub days_of : ℕ → ℕ → ℕ
days_of years month =
    if nat_eq month 2 then (if is_leap years then 29 else 28)
    else (if nat_eq month 4 || nat_eq month 6 || nat_eq month 9 || nat_eq month 11 then 30 else 31)

-- there is such a day in the calendar
abbrev pub is_day : ℕ → ℕ → ℕ → Bool
is_day years month day = (nat_le 1 month && nat_le month 12) && (nat_le 1 day && nat_le day (days_of years month))

-- A text of that form has a time of the day: the hour is up to 23, the minute up to 59. The second is up to 60, as it
-- is if a leap second is counted (RFC 3339, section 5.7).
abbrev pub is_time : List ℕ → Bool
is_time text = nat_le (two_digits text 11) 23 && (nat_le (two_digits text 14) 59 && nat_le (two_digits text 17) 60)

-- The numbers in a text of that form are within their ranges: the calendar has that day in that month and year, and a
-- day has that time.
abbrev pub is_in_range : List ℕ → Bool
is_in_range text = is_day (year text) (two_digits text 5) (two_digits text 8) && is_time text

-- a text is a date in UTC with microseconds: it has the form, and its numbers are within their ranges
abbrev pub is_utc_date : List ℕ → Bool
is_utc_date text = has_form text && is_in_range text
