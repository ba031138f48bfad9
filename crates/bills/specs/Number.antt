-- Decimal numbers as they are written.
use Rattle.std.specs.Prelude.{ℕ, ◌+◌, ◌-◌, ◌*◌, Bool, true, cond, ◌&&◌, List, [], ◌∷◌, length, Some, None, fold, Option, nat_le}

-- A character from 0 to 9.
abbrev pub is_digit : ℕ → Bool
is_digit c = nat_le 48 c && nat_le c 57

abbrev pub all_digits : List ℕ → Bool
all_digits [] = true
all_digits (c ∷ cs) = is_digit c && all_digits cs

-- The value of some digits, the first of which is the highest.
abbrev pub value : List ℕ → ℕ
value cs = fold (λ v c. 10 * v + (c - 48)) 0 cs

-- The number of a text that is one to ten digits.
abbrev pub number_in : List ℕ → Option ℕ
number_in cs = cond (nat_le 1 (length cs) && (nat_le (length cs) 10 && all_digits cs)) (Some (value cs)) None
