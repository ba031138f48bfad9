-- The steps of reading a line two characters at a time.
use Rattle.std.proofs.Common.{◌≡◌, ℕ, zero, suc, ◌+◌, ◌*◌, ◌/◌, ◌<◌, ◌≤◌, not, List, [], ◌∷◌, ◌++◌, length, get_or, take, drop, set, is_some, Some, sym, refl, ap, ◌∙◌, arith}
use Rattle.std.proofs.lemmas.List.{append_assoc, take_more_set}
use Rattle.std.specs.Simd.{first_chunks}
use Rattle.reading.specs.declared.fault.Fault.{Fault}
use Rattle.reading.specs.declared.fault.Fault.TheVariants.{Digit}
use Rattle.frame.specs.Digit.{value_of}
use Rattle.frame.specs.Line.{bytes_of}
use Rattle.reading.specs.First.{when}
use Rattle.frame.specs.Tests.{digits_from, digit_test}

-- A character of a pair.
abbrev pub at : List (List ℕ) → ℕ → ℕ → ℕ
at pairs i j = get_or (get_or pairs i []) j 0

-- The line from a pair on.
pair_more : (k i : ℕ) (line : List ℕ) → 2 * k ≤ length line → i < k → drop (2 * i) line ≡ at (first_chunks 2 k line) i 0 ∷ at (first_chunks 2 k line) i 1 ∷ drop (2 * (i + 1)) line
pair_more zero i line room h = absurd (omega arith)
pair_more (suc k) i [] room h = absurd (omega arith)
pair_more (suc k) i (c ∷ []) room h = absurd (omega arith)
pair_more (suc k) zero (high ∷ low ∷ line) room h = refl
pair_more (suc k) (suc i) (high ∷ low ∷ line) room h =
    let here : 2 * suc i ≡ suc (suc (2 * i)) = omega arith in
    let next : 2 * (suc i + 1) ≡ suc (suc (2 * (i + 1))) = omega arith in
    rw (next, here) (pair_more k i line (omega arith) (omega arith))

-- The characters before index 2 * i are digits.
abbrev pub Passed : List ℕ → ℕ → Type 0
Passed line i = digits_from (2 * i + 1) (drop (2 * i) line) ≡ digit_test line

module _ (line : List ℕ) (pairs : List (List ℕ)) (i : ℕ) (cut : pairs ≡ first_chunks 2 (length line / 2) line) (more : i < length line / 2) where
  abbrev rest : List ℕ
  rest = drop (2 * (i + 1)) line

  split : drop (2 * i) line ≡ at pairs i 0 ∷ at pairs i 1 ∷ rest
  split = pair_more (length line / 2) i line (omega arith) more ∙ ap (λ ps. at ps i 0 ∷ at ps i 1 ∷ rest) (sym cut)

  module _ (passed : Passed line i) where
    here : digits_from (2 * i + 1) (at pairs i 0 ∷ at pairs i 1 ∷ rest) ≡ digit_test line
    here = ap (digits_from (2 * i + 1)) (sym split) ∙ passed

    -- The first of the two stops the reading.
    pub high_stops : (e : Fault) → Some e ≡ when (not (is_some (value_of (at pairs i 0)))) (Digit (2 * i + 1)) → Some e ≡ digit_test line
    high_stops e stop = rw (← stop) at here

    -- The second does.
    pub low_stops : (v : ℕ) (e : Fault) → value_of (at pairs i 0) ≡ Some v → Some e ≡ when (not (is_some (value_of (at pairs i 1)))) (Digit (2 * i + 1 + 1)) → Some e ≡ digit_test line
    low_stops v e high stop = rw (high, ← stop) at here

    -- Neither does.
    pub both_pass : (v w : ℕ) → value_of (at pairs i 0) ≡ Some v → value_of (at pairs i 1) ≡ Some w → Passed line (i + 1)
    both_pass v w high low =
        let on : 2 * (i + 1) + 1 ≡ 2 * i + 1 + 1 + 1 = omega arith in
        ap (λ k. digits_from k rest) on ∙ rw (high, low) at here

  -- The bytes so far with that of the pair.
  pub byte_more : (bytes : List ℕ) (v w : ℕ) → value_of (at pairs i 0) ≡ Some v → value_of (at pairs i 1) ≡ Some w → i < length bytes → take i bytes ++ bytes_of (drop (2 * i) line) ≡ bytes_of line → take (i + 1) (set bytes i (16 * v + w)) ++ bytes_of (drop (2 * (i + 1)) line) ≡ bytes_of line
  byte_more bytes v w high low room so_far =
      let here : bytes_of (drop (2 * i) line) ≡ (16 * v + w) ∷ bytes_of rest = ap bytes_of split ∙ rw (high, low) in
      ap (λ l. l ++ bytes_of rest) (take_more_set bytes i (16 * v + w) room)
      ∙ append_assoc (take i bytes) ((16 * v + w) ∷ []) (bytes_of rest)
      ∙ ap (λ l. take i bytes ++ l) (sym here)
      ∙ so_far
