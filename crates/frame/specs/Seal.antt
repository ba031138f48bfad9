-- A frame as bytes: the kind, the length byte, the payload and the check byte.
use Rattle.std.specs.Prelude.{◌≡◌, ℕ, ◌+◌, ◌-◌, ◌/◌, ◌%◌, Bool, true, ◌&&◌, List, [], ◌∷◌, ◌++◌, length, take, drop, sum, ◌==◌, nat_lt, slice_index}
use Rattle.std.specs.Int.Digits.{number_from_digits}

-- Each number is a byte.
abbrev pub all_bytes : List ℕ → Bool
all_bytes [] = true
all_bytes (b ∷ bs) = nat_lt b 256 && all_bytes bs

-- The sum of all bytes is a multiple of 256.
abbrev pub Sealed : List ℕ → Type 0
Sealed frame = sum frame % 256 ≡ 0

-- The check byte that makes it so.
abbrev pub check_byte : List ℕ → ℕ
check_byte body = (256 - sum body % 256) % 256

-- The frame of a kind and a payload.
abbrev pub framed : ℕ → List ℕ → List ℕ
framed kind payload = (kind ∷ length payload ∷ payload) ++ check_byte (kind ∷ length payload ∷ payload) ∷ []

-- A frame's kind and its length byte.
abbrev pub kind_of : List ℕ → ℕ
kind_of frame = slice_index frame 0

abbrev pub length_byte : List ℕ → ℕ
length_byte frame = slice_index frame 1

-- The payload: all but the first two bytes and the last.
abbrev pub payload_of : List ℕ → List ℕ
payload_of frame = take (length frame - 3) (drop 2 frame)

-- The frame carries n bytes of payload: its length byte says so, and they are present.
abbrev pub carries : ℕ → List ℕ → Bool
carries n frame = length_byte frame == n && length frame == n + 3

-- The number in a field: so many bytes from the given one on, the high byte first. The bytes of a frame count from 1.
abbrev pub field : List ℕ → ℕ → ℕ → ℕ
field frame byte width = number_from_digits 256 (take width (drop (byte - 1) frame))

-- A number in two and in four bytes.
abbrev pub two_bytes : ℕ → List ℕ
two_bytes n = (n / 256 % 256) ∷ (n % 256) ∷ []

abbrev pub four_bytes : ℕ → List ℕ
four_bytes n = (n / 16777216 % 256) ∷ (n / 65536 % 256) ∷ (n / 256 % 256) ∷ (n % 256) ∷ []
