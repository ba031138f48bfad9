use Rattle.std.proofs.Common.{◌≡◌, take}
use Rattle.frame.specs.Line.{spelled}
use Rattle.frame.specs.Written.{fronted}
use Rattle.frame.proofs.frame.write.spell.Given as goal

abbrev pub invariant-loop-i : goal.invariant-loop-i
invariant-loop-i l = l.buffer ≡ fronted (spelled (take l.i l.bytes)) l.initial.buffer
