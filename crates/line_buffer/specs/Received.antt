-- What a line buffer holds, and which line that stands for.
use Rattle.std.specs.Prelude.{◌≡◌, ℕ, ◌<◌, ◌≤◌, List, length, take, Some}
use Rattle.reading.specs.declared.fault.Fault.TheVariants.{LineLength}
use Rattle.reading.specs.First.{first}
use Rattle.frame.specs.Tests.{line_tests}
use Rattle.line_buffer.specs.declared.buffer.LineBuffer.{LineBuffer}

-- The characters that were received, up to the 129th.
abbrev pub received : LineBuffer → List ℕ
received b = take b.len b.bytes

-- What was kept of a line is the line itself, or is refused for its length as the line is.
pub record StandsFor (line kept : List ℕ) : Type 0 where
  pub short : length line ≤ 128 → kept ≡ line
  pub long : 128 < length line → first (line_tests line) ≡ Some LineLength
  pub long_kept : 128 < length line → first (line_tests kept) ≡ Some LineLength
