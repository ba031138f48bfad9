-- The front of a line that is kept.
use Rattle.std.proofs.Common.{◌≡◌, ℕ, ◌+◌, ◌-◌, ◌<◌, ◌≤◌, min, List, [], ◌∷◌, ◌++◌, length, take, set, Some, sym, ap, ◌∙◌, arith}
use Rattle.std.proofs.lemmas.List.{take_more_set, take_all, take_at, take_min, length-take, length-take-le, length-append}
use Rattle.std.proofs.lemmas.Slice.{take-put_mid}
use Rattle.std.proofs.Math.Seq.{take-append-add}
use borrow.Rule.Slice.PartMut.{put_mid}
use Rattle.std.proofs.lemmas.Bool.Decides.{nat_tests}
use Rattle.reading.specs.declared.fault.Fault.TheVariants.{LineLength}
use Rattle.reading.specs.First.{first}
use Rattle.frame.specs.Tests.{line_tests, length_test}
use Rattle.line_buffer.specs.Received.{StandsFor}

-- One character more, where there is room.
pub push_room : (bytes : List ℕ) (n b : ℕ) → length bytes ≡ 129 → n < 129 → take (n + 1) (set bytes n b) ≡ take 129 (take n bytes ++ b ∷ [])
push_room bytes n b len room =
    let few : length (take n bytes ++ b ∷ []) ≤ 129 = omega (arith, length-append (take n bytes) (b ∷ []), length-take-le n bytes (omega arith)) in
    take_more_set bytes n b (omega arith) ∙ sym (take_all 129 (take n bytes ++ b ∷ []) few)

-- Where there is none.
pub push_full : (bytes : List ℕ) (n b : ℕ) → length bytes ≡ 129 → n ≡ 129 → take n bytes ≡ take 129 (take n bytes ++ b ∷ [])
push_full bytes n b len full = sym (take_at (take n bytes) (b ∷ []) 129 (length-take-le n bytes (omega arith) ∙ full))

-- More characters, as far as there is room.
pub front_more : (kept bytes : List ℕ) (room n : ℕ) → room + length kept ≡ 129 → n ≡ min room (length bytes) → kept ++ take n bytes ≡ take 129 (kept ++ bytes)
front_more kept bytes room n left is =
    let all : 129 ≡ length kept + room = omega arith in
    let same : take n bytes ≡ take room bytes = ap (λ k. take k bytes) is ∙ take_min room bytes in
    ap (λ l. kept ++ l) same ∙ sym (take-append-add kept bytes room) ∙ ap (λ k. take k (kept ++ bytes)) (sym all)

-- They are copied behind what is kept.
pub extended : (bytes more copied : List ℕ) (len k room : ℕ) → length bytes ≡ 129 → len ≤ 129 → room ≡ min (129 - len) (length more) → copied ≡ take room more → take (len + room) (put_mid len k bytes copied) ≡ take 129 (take len bytes ++ more)
extended bytes more copied len k room whole few is same =
    let within : len ≤ length bytes = omega arith in
    let long : length copied ≡ room = ap length same ∙ length-take-le room more (omega arith) in
    let kept : length (take len bytes) ≡ len = length-take-le len bytes within in
    take-put_mid len k bytes copied (len + room) (omega arith) within
    ∙ ap (λ l. take len bytes ++ l) same
    ∙ front_more (take len bytes) more (129 - len) room (omega arith) is

too_long : (line : List ℕ) → 128 < length line → first (line_tests line) ≡ Some LineLength
too_long line h = let t : length_test line ≡ Some LineLength = grind (arith, nat_tests) in rw t

pub stands : (line kept : List ℕ) → kept ≡ take 129 line → StandsFor line kept
stands line kept is =
    let count : length kept ≡ min 129 (length line) = ap length is ∙ length-take 129 line in
    record {
      short = λ few. is ∙ take_all 129 line (omega arith);
      long = λ many. too_long line many;
      long_kept = λ many. too_long kept (omega arith);
    }
