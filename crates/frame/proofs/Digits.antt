-- A digit and its value: each has one spelling.
use Rattle.std.proofs.Common.{◌≡◌, ℕ, ◌<◌, ◌⊎◌, Some, None, Option, unwrap_or, refl, inl, inr, arith}
use Rattle.std.proofs.lemmas.Bool.Decides.{nat_tests}
use Rattle.frame.specs.Digit.{value_of, digit_of}

pub value_digit : (v : ℕ) → v < 16 → value_of (digit_of v) ≡ Some v
value_digit v h = grind (arith, nat_tests)

pub digit_value : (c v : ℕ) → value_of c ≡ Some v → digit_of v ≡ c
digit_value c v h = grind (arith, nat_tests)

pub value_below : (c : ℕ) → unwrap_or (value_of c) 0 < 16
value_below c = grind (arith, nat_tests)

pub value_some : (c v : ℕ) → value_of c ≡ Some v → v < 16
value_some c v h = grind (arith, nat_tests)

-- A character is a digit or none.
cases_option : (o : Option ℕ) → ((v : ℕ) × (o ≡ Some v)) ⊎ (o ≡ None)
cases_option None = inr refl
cases_option (Some v) = inl (v, refl)

pub cases_value : (c : ℕ) → ((v : ℕ) × (value_of c ≡ Some v)) ⊎ (value_of c ≡ None)
cases_value c = cases_option (value_of c)
