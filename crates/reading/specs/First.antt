-- Tests that are asked in order. Each gives its refusal where it fits and nothing where it does not; what comes of them is
-- the first that fits.
use Rattle.std.specs.Prelude.{Bool, cond, List, [], ◌∷◌, Some, None, Option}
use Rattle.reading.specs.declared.fault.Fault.{Fault}

-- The refusal, where the test is true.
abbrev pub when : Bool → Fault → Option Fault
when test fault = cond test (Some fault) None

-- The first of two, and of a list.
abbrev pub or_else : Option Fault → Option Fault → Option Fault
or_else None later = later
or_else (Some fault) later = Some fault

abbrev pub first : List (Option Fault) → Option Fault
first [] = None
first (test ∷ tests) = or_else test (first tests)
