-- The edits of a record's readings.
use Rattle.std.specs.Prelude.{◌≡◌, ℕ, cond, not, List, [], ◌∷◌, length, Some, None, Option, ◌==◌, nat_le}
use Rattle.reading.specs.First.{when}
use Rattle.reading.specs.declared.entry.Entry.{Entry}
use Rattle.reading.specs.declared.fault.Fault.{Fault}
use Rattle.reading.specs.declared.fault.Fault.TheVariants.{Standing, NoMeter, RecordFull}
use Rattle.record.specs.Meters.{of_meter, precedes, standing, stands}
use Rattle.record.specs.Holding.{Holding}

-- A reading added, before the first that it goes before.
abbrev pub added : Entry → List Entry → List Entry
added e [] = e ∷ []
added e (f ∷ es) = cond (precedes e f) (e ∷ f ∷ es) (f ∷ added e es)

-- A reading in the place of its meter's.
abbrev pub replaced : Entry → List Entry → List Entry
replaced e [] = []
replaced e (f ∷ es) = cond (of_meter e.meter f) (e ∷ es) (f ∷ replaced e es)

-- A meter's reading taken out.
abbrev pub taken_out : ℕ → List Entry → List Entry
taken_out meter [] = []
taken_out meter (f ∷ es) = cond (of_meter meter f) es (f ∷ taken_out meter es)

-- What stands by meter afterwards: the reading under its own meter, and under every other what stood before.
abbrev pub Puts : Entry → List Entry → List Entry → Type 0
Puts e before after = (meter : ℕ) → standing meter after ≡ cond (of_meter meter e) (Some e) (standing meter before)

-- Nothing under the meter, and under every other what stood before.
abbrev pub Takes : ℕ → List Entry → List Entry → Type 0
Takes gone before after = (meter : ℕ) → standing meter after ≡ cond (gone == meter) None (standing meter before)

-- A record with other readings.
abbrev pub with_readings : List Entry → Holding → Holding
with_readings es h = record { at = h.at; closed = h.closed; readings = es }

-- 12: the meter stands already.
abbrev pub stands_test : ℕ → List Entry → Option Fault
stands_test meter es = when (stands meter es) Standing

-- 14: there are sixteen readings.
abbrev pub room_test : List Entry → Option Fault
room_test es = when (nat_le 16 (length es)) RecordFull

-- What a reading is asked before it is added.
abbrev pub add_tests : Entry → List Entry → List (Option Fault)
add_tests e es = stands_test e.meter es ∷ room_test es ∷ []

-- 13: the meter does not stand.
abbrev pub meter_test : ℕ → List Entry → Option Fault
meter_test meter es = when (not (stands meter es)) NoMeter
