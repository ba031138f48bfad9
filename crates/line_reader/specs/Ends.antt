-- What becomes of a reader at the end of its input.
use Rattle.std.specs.Prelude.{ℕ, zero, suc}
use Rattle.line_reader.specs.declared.reader.AtEnd.{AtEnd}
use Rattle.line_reader.specs.declared.reader.AtEnd.TheVariants.{GoOn, Stop, Stopped}

-- After a read of so many bytes. None is the end of the input, where a reader that is to stop has stopped.
abbrev pub after_read : AtEnd → ℕ → AtEnd
after_read GoOn count = GoOn
after_read Stop zero = Stopped
after_read Stop (suc count) = Stop
after_read Stopped count = Stopped
