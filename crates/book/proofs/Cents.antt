-- Rounding to whole cents keeps the laws of a settlement, and the bound of a weight.
use Rattle.std.proofs.Common.{◌≡◌, ℕ, ◌*◌, ◌^◌, ◌≤◌, refl, arith}
use Rattle.book.specs.Money.{half_up, rounded}

pub half_up_nothing : half_up 0 ≡ 0
half_up_nothing = refl

pub half_up_rises : (m n : ℕ) → m ≤ n → half_up m ≤ half_up n
half_up_rises m n h = omega arith

pub half_up_bounded : (n : ℕ) → n ≤ 16 * 10 ^ 15 → half_up n ≤ 2000000000
half_up_bounded n h = omega arith

pub rounded_bounded : (n : ℕ) → n ≤ 10 ^ 15 → rounded n ≤ 10 ^ 15
rounded_bounded n h = omega arith
