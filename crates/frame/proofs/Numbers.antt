-- The number that bytes spell.
use Rattle.std.proofs.Common.{◌≡◌, ℕ, ◌+◌, ◌-◌, ◌*◌, ◌^◌, ◌<◌, ◌≤◌, List, length, get_or, take, drop, pow-suc, add-one, arith, lit≤}
use native.Mathlib.Nat.{pow-le-pow_right}
use Rattle.std.specs.Int.Digits.{number_from_digits}
use Rattle.std.specs.List.{AllByRecursion as All}
use Rattle.std.proofs.lemmas.Int.Digits.{number_more, number_lt}
use Rattle.std.proofs.ByRecursion.{All-take, All-drop}
use Rattle.std.proofs.lemmas.List.{length-take}
use Rattle.frame.specs.Seal.{field}

pub pow_more : (i : ℕ) → 256 ^ (i + 1) ≡ 256 ^ i * 256
pow_more i = rw (add-one i) (pow-suc 256 i)

-- One byte more.
pub number_step : (bs : List ℕ) (i t b : ℕ) → i < length bs → b ≡ get_or bs i 0 → b < 256 → t ≡ number_from_digits 256 (take i bs) → t < 256 ^ i → (t * 256 + b ≡ number_from_digits 256 (take (i + 1) bs)) × (t * 256 + b < 256 ^ (i + 1))
number_step bs i t b h e small is below =
    let more = number_more 256 bs i h in
    let power = pow_more i in
    (omega arith, omega arith)

-- What fits before the fourth byte.
pub room : (i t b : ℕ) → i < 4 → b < 256 → t < 256 ^ i → t * 256 + b < 2 ^ 32
room i t b h small below =
    let few : i ≤ 3 = omega arith in
    let power : 256 ^ i ≤ 256 ^ 3 = pow-le-pow_right (lit≤ tt) few in
    omega arith

-- A field of bytes.
pub field_below : (frame : List ℕ) (byte width : ℕ) → All (λ b. b < 256) frame → field frame byte width < 256 ^ width
field_below frame byte width fit =
    let bytes = take width (drop (byte - 1) frame) in
    let under = All-take (λ b. b < 256) width (drop (byte - 1) frame) (All-drop (λ b. b < 256) (byte - 1) frame fit) in
    let few : length bytes ≤ width = omega (arith, length-take width (drop (byte - 1) frame)) in
    let power : 256 ^ length bytes ≤ 256 ^ width = pow-le-pow_right (lit≤ tt) few in
    omega (arith, number_lt 256 bytes under)
