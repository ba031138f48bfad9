-- The tests of a line, at lines that pass and at lines that do not.
use Rattle.std.proofs.Common.{◌≡◌, ℕ, ◌+◌, ◌*◌, ◌%◌, ◌≤◌, true, not, ◌||◌, eqb, ltb, List, length, None, sum, arith}
use Rattle.std.proofs.lemmas.Bool.Decides.{nat_tests}
use Rattle.std.proofs.lemmas.Bool.{eq-eqb}
use Rattle.reading.specs.declared.fault.Fault.TheVariants.{LineLength, PayloadLength}
use Rattle.frame.specs.Seal.{Sealed, all_bytes, carries, length_byte}
use Rattle.reading.specs.First.{when}
use Rattle.frame.specs.Tests.{buffer_test, sum_test, ReadsBack}
use Rattle.frame.proofs.Spelling.{length_spelled, bytes_spelled, digits_spelled}
use Rattle.frame.proofs.Bytes.{below_each}

length_fits : (n : ℕ) → 3 ≤ n → n ≤ 64 → when (eqb (2 * n % 2) 1 || (ltb (2 * n) 6 || ltb 128 (2 * n))) LineLength ≡ None
length_fits n least most = grind (arith, nat_tests)

pub buffer_room : (n : ℕ) → 128 ≤ n → None ≡ buffer_test n
buffer_room n h = grind (arith, nat_tests)

pub sum_passes : (frame : List ℕ) → Sealed frame → sum_test frame ≡ None
sum_passes frame h = rw (eq-eqb (sum frame % 256) 0 h)

pub carried : (frame : List ℕ) (n : ℕ) → length_byte frame ≡ n → length frame ≡ n + 3 → None ≡ when (not (carries n frame)) PayloadLength
carried frame n says present = rw (eq-eqb (length_byte frame) n says, eq-eqb (length frame) (n + 3) present)

-- A frame's line passes and gives the frame back.
pub reads_back : (frame : List ℕ) → 3 ≤ length frame → length frame ≤ 64 → all_bytes frame ≡ true → Sealed frame → ReadsBack frame
reads_back frame least most fit checked =
    let below = below_each frame fit in
    let same = bytes_spelled frame below in
    record {
      accepted =
          rw (length_spelled frame, length_fits (length frame) least most, digits_spelled 1 frame below, same, sum_passes frame checked);
      same = same;
    }
