-- The 424 bytes of a slot: a header of 8, then sixteen entries of 26 each. High bytes come first.
use Rattle.std.specs.Prelude.{ℕ, List, ◌∷◌, ◌++◌}
use Rattle.std.specs.List.{flat_map}
use Rattle.reading.specs.declared.entry.Entry.{Entry}
use Rattle.frame.specs.Seal.{two_bytes, four_bytes}
use Rattle.record.specs.declared.row.Row.{Row}
use Rattle.record.specs.declared.row.State.{State}
use Rattle.record.specs.declared.row.State.TheVariants.{Empty, Open, Closed}

-- The state byte.
abbrev pub state_byte : State → ℕ
state_byte Empty = 0
state_byte Open = 1
state_byte Closed = 2

-- The header: state and count, a byte each, then the site in four bytes and the month in two.
abbrev pub header_bytes : Row → List ℕ
header_bytes row = state_byte row.state ∷ row.count ∷ (four_bytes row.at.site ++ two_bytes row.at.month)

-- An entry: meter and schedule in two bytes each, flags and power factor in one, kWh, off-hours kWh, demand and peak-hours
-- demand in four, kvar and load size in two.
abbrev pub entry_bytes : Entry → List ℕ
entry_bytes e =
    two_bytes e.meter
    ++ (two_bytes e.schedule
    ++ (e.flags ∷ e.power_factor ∷ (four_bytes e.kwh
    ++ (four_bytes e.off_hours
    ++ (four_bytes e.demand
    ++ (four_bytes e.peak_demand
    ++ (two_bytes e.kvar
    ++ two_bytes e.load)))))))

-- The slot of a row. That of a vacant one is all zero.
abbrev pub slot_bytes : Row → List ℕ
slot_bytes row = header_bytes row ++ flat_map entry_bytes row.entries
