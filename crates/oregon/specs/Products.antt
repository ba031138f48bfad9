-- Products of bounded factors.
use Rattle.std.specs.Prelude.{ℕ, ◌*◌, ◌≤◌}
use Rattle.std.proofs.lemmas.Nat.{mul-le}

pub three_bounded : (a b c l m n : ℕ) → a ≤ l → b ≤ m → c ≤ n → a * b * c ≤ l * m * n
three_bounded a b c l m n p q r = mul-le (a * b) c (l * m) n (mul-le a b l m p q) r
