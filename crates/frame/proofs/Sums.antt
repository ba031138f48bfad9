-- Sums of bytes, less the multiples of 256.
use Rattle.std.proofs.Common.{◌≡◌, ℕ, ◌+◌, ◌-◌, ◌%◌, ◌<◌, List, [], ◌∷◌, ◌++◌, length, get_or, take, sum, sym, ap, ◌∙◌, arith}
use Rattle.std.proofs.lemmas.List.Sums.{sum_by_more, sum_by_push}
use Rattle.frame.specs.Seal.{Sealed, check_byte}

-- One byte more of a running sum.
pub sum_more : (xs : List ℕ) (i t : ℕ) → i < length xs → t ≡ sum (take i xs) % 256 → (t + get_or xs i 0) % 256 ≡ sum (take (i + 1) xs) % 256
sum_more xs i t h e = let more = sum_by_more (λ x. x) xs i 0 h in omega arith

-- A sum of 0, of the part of a list that a slice from 0 on is.
pub sealed_part : (xs : List ℕ) (n t : ℕ) → t ≡ sum (take (n - 0) xs) % 256 → t ≡ 0 → Sealed (take n xs)
sealed_part xs n t is zero = let all : n - 0 ≡ n = omega arith in ap (λ m. sum (take m xs) % 256) (sym all) ∙ sym is ∙ zero

-- The check byte seals what it follows.
pub sealed : (body : List ℕ) → Sealed (body ++ check_byte body ∷ [])
sealed body = let more = sum_by_push (λ x. x) body (check_byte body) in omega arith
