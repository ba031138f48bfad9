-- Lines and bytes, back and forth.
use Rattle.std.proofs.Common.{◌≡◌, ℕ, ◌+◌, ◌-◌, ◌*◌, ◌/◌, ◌%◌, ◌<◌, ◌≤◌, List, [], ◌∷◌, ◌++◌, length, get_or, take, drop, set, Some, None, sym, refl, ap, ◌∙◌, ⊎_elim, arith}
use Rattle.std.specs.List.{AllByRecursion as All}
use Rattle.std.proofs.lemmas.List.{drop_more, set_at, set-append_right, append_assoc, take_more, length-take-le, length-append}
use Rattle.reading.specs.declared.fault.Fault.TheVariants.{Digit}
use Rattle.frame.specs.Digit.{value_of, digit_of}
use Rattle.frame.specs.Line.{spelled, bytes_of}
use Rattle.frame.specs.Tests.{digits_from}
use Rattle.frame.specs.Written.{fronted}
use Rattle.frame.proofs.Digits.{value_digit, digit_value, value_below, value_some, cases_value}

pub length_spelled : (bs : List ℕ) → length (spelled bs) ≡ 2 * length bs
length_spelled [] = refl
length_spelled (b ∷ bs) = let more = length_spelled bs in omega arith

pub spelled_append : (xs ys : List ℕ) → spelled (xs ++ ys) ≡ spelled xs ++ spelled ys
spelled_append [] ys = refl
spelled_append (x ∷ xs) ys = ap (λ l. digit_of (x / 16) ∷ digit_of (x % 16) ∷ l) (spelled_append xs ys)

pub length_bytes : (line : List ℕ) → length (bytes_of line) ≡ length line / 2
length_bytes [] = refl
length_bytes (c ∷ []) = refl
length_bytes (high ∷ low ∷ line) = let more = length_bytes line in omega arith

pub bytes_below : (line : List ℕ) → All (λ b. b < 256) (bytes_of line)
bytes_below [] = tt
bytes_below (c ∷ []) = tt
bytes_below (high ∷ low ∷ line) = (omega (arith, value_below high, value_below low), bytes_below line)

-- What is written reads back.
pub bytes_spelled : (bs : List ℕ) → All (λ b. b < 256) bs → bytes_of (spelled bs) ≡ bs
bytes_spelled [] h = refl
bytes_spelled (b ∷ bs) (h, hs) =
    let high = value_digit (b / 16) (omega arith) in
    let low = value_digit (b % 16) (omega arith) in
    rw (high, low, bytes_spelled bs hs) (ap (λ x. x ∷ bs) (omega arith))

pub digits_spelled : (n : ℕ) (bs : List ℕ) → All (λ b. b < 256) bs → digits_from n (spelled bs) ≡ None
digits_spelled n [] h = refl
digits_spelled n (b ∷ bs) (h, hs) =
    let high = value_digit (b / 16) (omega arith) in
    let low = value_digit (b % 16) (omega arith) in
    rw (high, low) (digits_spelled (n + 1 + 1) bs hs)

pub digits_high : (n : ℕ) (high : ℕ) (line : List ℕ) → value_of high ≡ None → digits_from n (high ∷ line) ≡ Some (Digit n)
digits_high n high line hv = rw hv

-- The first character of a line that passes is a digit, and the rest passes.
digits_first : (n c : ℕ) (line : List ℕ) → digits_from n (c ∷ line) ≡ None → (v : ℕ) × (value_of c ≡ Some v) × (digits_from (n + 1) line ≡ None)
digits_first n c line h =
    ⊎_elim (λ s. (s.0, s.1, rw s.1 at h))
    (λ none. let z : ◌≡◌ {A = ℕ} 0 1 = cc (digits_high n c line none) in absurd (omega arith))
    (cases_value c)

-- A line that passes is the one spelling of its bytes.
pub spelled_bytes : (n : ℕ) (line : List ℕ) → digits_from n line ≡ None → length line % 2 ≡ 0 → spelled (bytes_of line) ≡ line
spelled_bytes n [] h e = refl
spelled_bytes n (c ∷ []) h e = absurd (omega arith)
spelled_bytes n (high ∷ low ∷ line) h e =
    let a = digits_first n high (low ∷ line) h in
    let b = digits_first (n + 1) low line a.2 in
    let v = a.0 in
    let w = b.0 in
    let vs = value_some high v a.1 in
    let ws = value_some low w b.1 in
    let x : (16 * v + w) / 16 ≡ v = omega arith in
    let y : (16 * v + w) % 16 ≡ w = omega arith in
    rw (a.1, b.1, x, y, digit_value high v a.1, digit_value low w b.1, spelled_bytes (n + 1 + 1) line b.2 (omega arith))

-- Two characters written behind those of the bytes before.
write_two : (s buffer : List ℕ) (n high low : ℕ) → length s ≡ n → n + 1 < length buffer → set (set (s ++ drop n buffer) n high) (n + 1) low ≡ s ++ high ∷ low ∷ drop (n + 1 + 1) buffer
write_two s buffer n high low len room =
    let x = get_or buffer n 0 in
    let y = get_or buffer (n + 1) 0 in
    let rest = drop (n + 1 + 1) buffer in
    let one : n + 1 - n ≡ 1 = omega arith in
    ap (λ l. set (set (s ++ l) n high) (n + 1) low) (drop_more buffer n 0 (omega arith) ∙ ap (λ l. x ∷ l) (drop_more buffer (n + 1) 0 room))
    ∙ ap (λ l. set l (n + 1) low) (set_at s x (y ∷ rest) high n len)
    ∙ set-append_right s (high ∷ y ∷ rest) n (n + 1) low len (omega arith)
    ∙ ap (λ k. s ++ set (high ∷ y ∷ rest) k low) one

-- One byte more of a line at the front of a buffer.
pub spell_more : (bs buffer front : List ℕ) (i : ℕ) → i < length bs → 2 * length bs ≤ length buffer → front ≡ fronted (spelled (take i bs)) buffer → set (set front (2 * i) (digit_of (get_or bs i 0 / 16))) (2 * i + 1) (digit_of (get_or bs i 0 % 16)) ≡ fronted (spelled (take (i + 1) bs)) buffer
spell_more bs buffer front i h room e =
    let s = spelled (take i bs) in
    let b = get_or bs i 0 in
    let two = digit_of (b / 16) ∷ digit_of (b % 16) ∷ [] in
    let len : length s ≡ 2 * i = length_spelled (take i bs) ∙ ap (λ n. 2 * n) (length-take-le i bs (omega arith)) in
    let next : spelled (take (i + 1) bs) ≡ s ++ two = ap spelled (take_more bs i 0 h) ∙ spelled_append (take i bs) (b ∷ []) in
    let longer : length (s ++ two) ≡ 2 * i + 1 + 1 = omega (arith, length-append s two) in
    ap (λ l. set (set l (2 * i) (digit_of (b / 16))) (2 * i + 1) (digit_of (b % 16))) (e ∙ ap (λ n. s ++ drop n buffer) len)
    ∙ write_two s buffer (2 * i) (digit_of (b / 16)) (digit_of (b % 16)) len (omega arith)
    ∙ sym (append_assoc s two (drop (2 * i + 1 + 1) buffer))
    ∙ ap (λ n. (s ++ two) ++ drop n buffer) (sym longer)
    ∙ ap (λ l. fronted l buffer) (sym next)
