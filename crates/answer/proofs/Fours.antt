-- An amount and its four bytes, back and forth.
use Rattle.std.proofs.Common.{◌≡◌, ℕ, ◌/◌, ◌%◌, ◌<◌, [], ◌∷◌, ℤ, ap, ◌∙◌, arith, w32, SFits, to_z, of_z}
use Rattle.std.specs.Int.Digits.{number_from_digits}
use Rattle.std.proofs.lemmas.Int.{ints, to_z-of_z, of_z-to_z}
use Rattle.std.proofs.lemmas.Nat.{from_be_bytes-to_be_bytes_4}
use Rattle.frame.specs.Seal.{four_bytes}
use Rattle.answer.specs.Amounts.{amount_bytes}

number_four : (n : ℕ) → n < 4294967296 → number_from_digits 256 (four_bytes n) ≡ n
number_four n h = omega (arith, from_be_bytes-to_be_bytes_4 n h)

-- What is written reads back.
pub amount_back : (z : ℤ) → SFits w32 z → to_z w32 (number_from_digits 256 (amount_bytes z)) ≡ z
amount_back z h = let n : of_z w32 z < 4294967296 = omega (arith, ints) in ap (to_z w32) (number_four (of_z w32 z) n) ∙ to_z-of_z w32 z h

-- What is read was written so.
pub bytes_back : (a b c d : ℕ) → a < 256 → b < 256 → c < 256 → d < 256 → amount_bytes (to_z w32 (number_from_digits 256 (a ∷ b ∷ c ∷ d ∷ []))) ≡ a ∷ b ∷ c ∷ d ∷ []
bytes_back a b c d a-fits b-fits c-fits d-fits =
    let n = number_from_digits 256 (a ∷ b ∷ c ∷ d ∷ []) in
    let top : n / 16777216 % 256 ≡ a = omega arith in
    let second : n / 65536 % 256 ≡ b = omega arith in
    let third : n / 256 % 256 ≡ c = omega arith in
    let last : n % 256 ≡ d = omega arith in
    ap four_bytes (of_z-to_z w32 n (omega arith)) ∙ rw (top, second, third, last)
