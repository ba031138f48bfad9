use Rattle.std.proofs.Common.{◌≡◌, ◌^◌, ◌<◌, true, take}
use Rattle.bills.specs.Number.{all_digits, value}
use Rattle.bills.proofs.number.number.Given as goal

abbrev pub invariant-loop-byte : goal.invariant-loop-byte
invariant-loop-byte l =
    (l.value ≡ value (take l.byte-index l.text))
    × (all_digits (take l.byte-index l.text) ≡ true)
    × (l.value < 10 ^ l.byte-index)
