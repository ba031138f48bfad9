-- Amounts in whole cents as bytes, and the tests of a line that is read back.
use Rattle.std.specs.Prelude.{ℕ, List, [], ◌∷◌, ℤ, Option}
use Rattle.std.specs.Int.{w32}
use Rattle.std.proofs.Common.{to_z, of_z}
use Rattle.std.specs.List.{flat_map}
use Rattle.std.specs.Int.Digits.{number_from_digits}
use Rattle.reading.specs.declared.fault.Fault.{Fault}
use Rattle.frame.specs.Line.{bytes_of}
use Rattle.frame.specs.Seal.{four_bytes, payload_of}
use Rattle.frame.specs.Tests.{call_tests}
use Rattle.answer.specs.Kinds.{amounts_length}

-- An amount in four bytes, in two's complement: a negative one is written as 2^32 more.
abbrev pub amount_bytes : ℤ → List ℕ
amount_bytes z = four_bytes (of_z w32 z)

abbrev pub amounts_payload : List ℤ → List ℕ
amounts_payload amounts = flat_map amount_bytes amounts

-- The amounts that a payload spells, four bytes to each.
abbrev pub amounts_of : List ℕ → List ℤ
amounts_of [] = []
amounts_of (a ∷ []) = []
amounts_of (a ∷ b ∷ []) = []
amounts_of (a ∷ b ∷ c ∷ []) = []
amounts_of (a ∷ b ∷ c ∷ d ∷ payload) = to_z w32 (number_from_digits 256 (a ∷ b ∷ c ∷ d ∷ [])) ∷ amounts_of payload

-- The amounts on a line.
abbrev pub amounts_on : List ℕ → List ℤ
amounts_on line = amounts_of (payload_of (bytes_of line))

-- Tests 2 to 6 of a line that is read back.
abbrev pub amounts_tests : List ℕ → List (Option Fault)
amounts_tests line = call_tests amounts_length (λ _. []) line
