-- The name of a utility on a line.
use Rattle.std.specs.Prelude.{ℕ, List, codes, ◌≢◌}
use Rattle.bills.specs.declared.utility.Utility.{Utility}
use Rattle.bills.specs.declared.utility.Utility.TheVariants.{Oregon, Cooperative}

abbrev pub name_of : Utility → List ℕ
name_of Oregon = codes "oregon"
name_of Cooperative = codes "cooperative"

-- A name that no utility has.
abbrev pub Nobody : List ℕ → Type 0
Nobody name = (utility : Utility) → name ≢ name_of utility
