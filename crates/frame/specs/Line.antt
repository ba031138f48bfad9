-- A line and the bytes that it spells.
use Rattle.std.specs.Prelude.{ℕ, ◌+◌, ◌*◌, ◌/◌, ◌%◌, List, [], ◌∷◌}
use Rattle.std.specs.Option.{unwrap_or}
use Rattle.frame.specs.Digit.{value_of, digit_of}

-- The line of some bytes: two digits to a byte, the high one first.
abbrev pub spelled : List ℕ → List ℕ
spelled [] = []
spelled (b ∷ bs) = digit_of (b / 16) ∷ digit_of (b % 16) ∷ spelled bs

-- The bytes of a line, two characters to a byte. A character that is no digit counts as 0.
abbrev pub bytes_of : List ℕ → List ℕ
bytes_of [] = []
bytes_of (c ∷ []) = []
bytes_of (high ∷ low ∷ line) = (16 * unwrap_or (value_of high) 0 + unwrap_or (value_of low) 0) ∷ bytes_of line
