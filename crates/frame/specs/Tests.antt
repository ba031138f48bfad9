-- Tests on a line, in the order of their numbers.
use Rattle.std.specs.Prelude.{◌≡◌, ℕ, ◌+◌, ◌%◌, not, ◌||◌, List, [], ◌∷◌, ◌++◌, length, is_some, None, sum, Option, ◌==◌, nat_lt}
use Rattle.std.specs.Option.{unwrap_or}
use Rattle.reading.specs.declared.fault.Fault.{Fault}
use Rattle.reading.specs.declared.fault.Fault.TheVariants.{Buffer, LineLength, Digit, Sum, Kind, PayloadLength}
pub use Rattle.reading.specs.First.{when, or_else, first}
use Rattle.frame.specs.Digit.{value_of}
use Rattle.frame.specs.Line.{spelled, bytes_of}
use Rattle.frame.specs.Seal.{kind_of, carries}

-- 1: the answer buffer is under 128 bytes.
abbrev pub buffer_test : ℕ → Option Fault
buffer_test size = when (nat_lt size 128) Buffer

-- 2: an odd number of characters, under 6 or over 128.
abbrev pub length_test : List ℕ → Option Fault
length_test line = when (length line % 2 == 1 || (nat_lt (length line) 6 || nat_lt 128 (length line))) LineLength

-- 3: the first character that is no digit, the first of these being in the given column.
abbrev pub digits_from : ℕ → List ℕ → Option Fault
digits_from column [] = None
digits_from column (c ∷ line) = or_else (when (not (is_some (value_of c))) (Digit column)) (digits_from (column + 1) line)

abbrev pub digit_test : List ℕ → Option Fault
digit_test line = digits_from 1 line

-- 4: the bytes do not sum to a multiple of 256.
abbrev pub sum_test : List ℕ → Option Fault
sum_test frame = when (not (sum frame % 256 == 0)) Sum

-- 5: the kind is not served. A call gives the payload length of each kind that it serves.
abbrev pub kind_test : (ℕ → Option ℕ) → List ℕ → Option Fault
kind_test served frame = when (not (is_some (served (kind_of frame)))) Kind

-- 6: the length byte differs from the kind's payload length, or from the payload present.
abbrev pub payload_test : (ℕ → Option ℕ) → List ℕ → Option Fault
payload_test served frame =
    when (not (carries (unwrap_or (served (kind_of frame)) 0) frame)) PayloadLength

-- 2 to 4, of every line.
abbrev pub line_tests : List ℕ → List (Option Fault)
line_tests line = length_test line ∷ digit_test line ∷ sum_test (bytes_of line) ∷ []

-- The line of a frame passes every test of a line, and its bytes are the frame's.
pub record ReadsBack (frame : List ℕ) : Type 0 where
  pub accepted : first (line_tests (spelled frame)) ≡ None
  pub same : bytes_of (spelled frame) ≡ frame

-- The tests of a call, in order: 2 to 4 of the line, 5 and 6 of its frame, and then those of the frame's fields.
abbrev pub call_tests : (ℕ → Option ℕ) → (List ℕ → List (Option Fault)) → List ℕ → List (Option Fault)
call_tests served fields line =
    line_tests line ++ (kind_test served (bytes_of line) ∷ payload_test served (bytes_of line) ∷ fields (bytes_of line))
