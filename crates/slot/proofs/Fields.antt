-- Numbers in two and in four bytes, back and forth.
use Rattle.std.proofs.Common.{◌≡◌, ℕ, zero, suc, ◌+◌, ◌/◌, ◌%◌, ◌<◌, ◌≤◌, List, [], ◌∷◌, length, get_or, take, drop, refl, add-one, arith}
use Rattle.std.specs.List.{AllByRecursion as All}
use Rattle.std.proofs.ByRecursion.{All-get_or}
use Rattle.std.proofs.lemmas.List.{drop_more}
use Rattle.std.proofs.lemmas.Nat.{from_be_bytes-to_be_bytes_2, from_be_bytes-to_be_bytes_4}
use Rattle.frame.specs.Seal.{two_bytes, four_bytes}
use Rattle.slot.specs.Reading.{two_at, four_at}

-- What is written reads back.
pub two_back : (n : ℕ) → n < 65536 → two_at (two_bytes n) 0 ≡ n
two_back n h = omega (arith, from_be_bytes-to_be_bytes_2 n h)

pub four_back : (n : ℕ) → n < 4294967296 → four_at (four_bytes n) 0 ≡ n
four_back n h = omega (arith, from_be_bytes-to_be_bytes_4 n h)

-- Some bytes, one by one: the n from the given one on.
abbrev pub bytes_from : ℕ → ℕ → List ℕ → List ℕ
bytes_from i zero bs = []
bytes_from i (suc n) bs = get_or bs i 0 ∷ bytes_from (suc i) n bs

pub bytes_from_is : (i n : ℕ) (bs : List ℕ) → i + n ≤ length bs → bytes_from i n bs ≡ take n (drop i bs)
bytes_from_is i zero bs h = refl
bytes_from_is i (suc n) bs h =
    let next = bytes_from_is (suc i) n bs (omega arith) in
    let on = drop_more bs i 0 (omega arith) in
    rw (on, add-one i, ← next)

-- What is read was written so.
module _ (bs : List ℕ) (fit : All (λ b. b < 256) bs) (i : ℕ) where
  pub two_again : i + 1 < length bs → two_bytes (two_at bs i) ≡ get_or bs i 0 ∷ get_or bs (i + 1) 0 ∷ []
  two_again h =
      let a = All-get_or (λ b. b < 256) bs i 0 (omega arith) fit in
      let b = All-get_or (λ b. b < 256) bs (i + 1) 0 h fit in
      let n = two_at bs i in
      let first : n / 256 % 256 ≡ get_or bs i 0 = omega arith in
      let last : n % 256 ≡ get_or bs (i + 1) 0 = omega arith in
      rw (first, last)

  pub four_again : i + 3 < length bs → four_bytes (four_at bs i) ≡ get_or bs i 0 ∷ get_or bs (i + 1) 0 ∷ get_or bs (i + 2) 0 ∷ get_or bs (i + 3) 0 ∷ []
  four_again h =
      let a = All-get_or (λ b. b < 256) bs i 0 (omega arith) fit in
      let b = All-get_or (λ b. b < 256) bs (i + 1) 0 (omega arith) fit in
      let c = All-get_or (λ b. b < 256) bs (i + 2) 0 (omega arith) fit in
      let d = All-get_or (λ b. b < 256) bs (i + 3) 0 h fit in
      let n = four_at bs i in
      let first : n / 16777216 % 256 ≡ get_or bs i 0 = omega arith in
      let second : n / 65536 % 256 ≡ get_or bs (i + 1) 0 = omega arith in
      let third : n / 256 % 256 ≡ get_or bs (i + 2) 0 = omega arith in
      let last : n % 256 ≡ get_or bs (i + 3) 0 = omega arith in
      rw (first, second, third, last)
