-- A text read digit by digit.
use Rattle.std.proofs.Common.{◌≡◌, ℕ, ◌+◌, ◌-◌, ◌*◌, ◌^◌, ◌<◌, ◌≤◌, true, false, ◌&&◌, leb, List, length, get_or, take, Some, None, refl, ap, ◌∙◌, pow-suc, add-one, arith}
use Rattle.std.proofs.lemmas.Bool.{and_from, and_parts, and_right, cond-false, leb-true}
use Rattle.std.proofs.lemmas.List.{take_more}
use Rattle.std.proofs.lemmas.List.Recursion.{and_fails_at, and_push}
use Rattle.bills.specs.Number.{is_digit, all_digits, value, number_in}

-- One digit more.
pub digits_more : (cs : List ℕ) (i : ℕ) → i < length cs → all_digits (take i cs) ≡ true → is_digit (get_or cs i 0) ≡ true → all_digits (take (i + 1) cs) ≡ true
digits_more cs i below front digit =
    rw (take_more cs i 0 below)
    (and_push all_digits is_digit refl (λ _ _. refl) (take i cs) (get_or cs i 0) ∙ and_from (all_digits (take i cs)) (is_digit (get_or cs i 0)) front digit)

pub value_fits : (v i c : ℕ) → v < 10 ^ i → is_digit c ≡ true → 10 * v + (c - 48) < 10 ^ (i + 1)
value_fits v i c small digit =
    let e : 10 ^ (i + 1) ≡ 10 ^ i * 10 = ap (λ n. 10 ^ n) (add-one i) ∙ pow-suc 10 i in
    let most : c ≤ 57 = leb-true c 57 (and_parts (leb 48 c) (leb c 57) digit).1 in
    omega arith

-- A character that is no digit spoils the text.
pub stray : (cs : List ℕ) (i : ℕ) → i < length cs → is_digit (get_or cs i 0) ≡ false → number_in cs ≡ None
stray cs i below other =
    let none = and_fails_at all_digits is_digit refl (λ _ _. refl) cs i 0 below other in
    cond-false (leb 1 (length cs) && (leb (length cs) 10 && all_digits cs)) (Some (value cs)) None (and_right (leb 1 (length cs)) (leb (length cs) 10 && all_digits cs) (and_right (leb (length cs) 10) (all_digits cs) none))
