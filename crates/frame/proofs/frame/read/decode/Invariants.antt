use Rattle.std.proofs.Common.{◌≡◌, ◌*◌, ◌++◌, length, take, drop}
use Rattle.frame.specs.Line.{bytes_of}
use Rattle.frame.proofs.Decoding.{Passed}
use Rattle.frame.proofs.frame.read.decode.Given as goal

abbrev pub invariant-loop-i : goal.invariant-loop-i
invariant-loop-i l =
    Passed l.line l.i
    × (take l.i l.bytes ++ bytes_of (drop (2 * l.i) l.line) ≡ bytes_of l.line)
    × (length l.bytes ≡ 64)
