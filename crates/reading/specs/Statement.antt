-- The lines of a statement.
use Rattle.std.specs.Prelude.{ℕ}

-- How many there are, numbered from 0.
abbrev pub lines : ℕ
lines = 13
