-- A payload of amounts: written and read four bytes at a time, and back.
use Rattle.std.proofs.Common.{◌≡◌, ℕ, zero, suc, ◌+◌, ◌-◌, ◌*◌, ◌%◌, ◌<◌, ◌≤◌, List, [], ◌∷◌, ◌++◌, map, length, take, drop, ℤ, sym, refl, ap, ap₂, arith, w32, SFits, to_z}
use Rattle.std.specs.Int.Digits.{number_from_digits}
use Rattle.std.specs.List.{AllByRecursion as All, range_with_len}
use Rattle.std.proofs.lemmas.List.{take-take, drop_all, drop-take, drop-drop, length-drop, length-take-le}
use Rattle.frame.specs.Seal.{payload_of, field}
use Rattle.answer.specs.Amounts.{amounts_payload, amounts_of}
use Rattle.answer.proofs.Fours.{amount_back, bytes_back}

pub length_payload : (amounts : List ℤ) → length (amounts_payload amounts) ≡ 4 * length amounts
length_payload [] = refl
length_payload (z ∷ amounts) = let more = length_payload amounts in omega arith

pub payload_below : (amounts : List ℤ) → All (λ b. b < 256) (amounts_payload amounts)
payload_below [] = tt
payload_below (z ∷ amounts) = (omega arith, (omega arith, (omega arith, (omega arith, payload_below amounts))))

-- What is written reads back.
pub amounts_back : (amounts : List ℤ) → All (SFits w32) amounts → amounts_of (amounts_payload amounts) ≡ amounts
amounts_back [] h = refl
amounts_back (z ∷ amounts) (h, hs) = rw (amount_back z h, amounts_back amounts hs)

-- What is read was written so.
pub payload_back : (payload : List ℕ) → length payload % 4 ≡ 0 → All (λ b. b < 256) payload → amounts_payload (amounts_of payload) ≡ payload
payload_back [] whole h = refl
payload_back (a ∷ []) whole h = absurd (omega arith)
payload_back (a ∷ b ∷ []) whole h = absurd (omega arith)
payload_back (a ∷ b ∷ c ∷ []) whole h = absurd (omega arith)
payload_back (a ∷ b ∷ c ∷ d ∷ payload) whole (ha, (hb, (hc, (hd, hs)))) =
    ap₂ (λ four rest. four ++ rest) (bytes_back a b c d ha hb hc hd) (payload_back payload (omega arith) hs)

-- The first four bytes are the first amount.
amounts_first : (payload : List ℕ) → 4 ≤ length payload → amounts_of payload ≡ to_z w32 (number_from_digits 256 (take 4 payload)) ∷ amounts_of (drop 4 payload)
amounts_first [] h = absurd (omega arith)
amounts_first (a ∷ []) h = absurd (omega arith)
amounts_first (a ∷ b ∷ []) h = absurd (omega arith)
amounts_first (a ∷ b ∷ c ∷ []) h = absurd (omega arith)
amounts_first (a ∷ b ∷ c ∷ d ∷ payload) h = refl

pub length_payload_of : (frame : List ℕ) → 3 ≤ length frame → length (payload_of frame) ≡ length frame - 3
length_payload_of frame h = length-take-le (length frame - 3) (drop 2 frame) (simp length-drop (omega arith))

-- A field of four bytes within the payload.
field_four : (frame : List ℕ) (n : ℕ) → n + 7 ≤ length frame → field frame (3 + n) 4 ≡ number_from_digits 256 (take 4 (drop n (payload_of frame)))
field_four frame n h =
    let m = length frame - 3 - n in
    let all : length frame - 3 ≡ n + m = omega arith in
    let at : 3 + n - 1 ≡ 2 + n = omega arith in
    let least : 4 ≤ m = omega arith in
    rw (at, all, drop-take, drop-drop, take-take 4 m (drop (2 + n) frame) least)

-- The amounts in the frame's fields from the i-th on, n of them.
amounts_from : (frame : List ℕ) (n i : ℕ) → length frame ≡ 4 * (i + n) + 3 → map (λ k. to_z w32 (field frame (3 + 4 * k) 4)) (range_with_len i n) ≡ amounts_of (drop (4 * i) (payload_of frame))
amounts_from frame zero i long = rw (drop_all (4 * i) (payload_of frame) (rw (length_payload_of frame (omega arith)) (omega arith))) refl
amounts_from frame (suc n) i long =
    let payload = payload_of frame in
    let on : 4 * (i + 1) ≡ 4 * i + 4 = omega arith in
    let left : 4 ≤ length (drop (4 * i) payload) = simp (length-drop, length_payload_of frame (omega arith)) (omega arith) in
    let here = ap (to_z w32) (field_four frame (4 * i) (omega arith)) in
    let rest = amounts_from frame n (i + 1) (omega arith) in
    rw (here, rest, on, ← drop-drop 4 (4 * i) payload) (sym (amounts_first (drop (4 * i) payload) left))

pub amounts_in : (frame : List ℕ) → length frame ≡ 55 → map (λ k. to_z w32 (field frame (3 + 4 * k) 4)) (range_with_len 0 13) ≡ amounts_of (payload_of frame)
amounts_in frame long = amounts_from frame 13 0 (omega arith)
