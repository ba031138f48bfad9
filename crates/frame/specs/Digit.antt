-- One hexadecimal digit, upper case.
use Rattle.std.specs.Prelude.{ℕ, ◌+◌, ◌-◌, cond, ◌&&◌, Some, None, Option, nat_le, nat_lt}

-- The value of a character: 0 to 9 for '0' to '9', 10 to 15 for 'A' to 'F', and none for any other.
abbrev pub value_of : ℕ → Option ℕ
value_of c = cond (nat_le 48 c && nat_le c 57) (Some (c - 48)) (cond (nat_le 65 c && nat_le c 70) (Some (c - 55)) None)

-- The digit that is written for a value below 16.
abbrev pub digit_of : ℕ → ℕ
digit_of v = cond (nat_lt v 10) (48 + v) (55 + v)
