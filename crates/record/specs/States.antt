-- The states of a row.
use Rattle.std.specs.Prelude.{Bool, true, false}
use Rattle.record.specs.declared.row.State.{State}
use Rattle.record.specs.declared.row.State.TheVariants.{Empty, Open, Closed}

-- A row in use has a record.
abbrev pub used : State → Bool
used Empty = false
used Open = true
used Closed = true

abbrev pub is_closed : State → Bool
is_closed Empty = false
is_closed Open = false
is_closed Closed = true
