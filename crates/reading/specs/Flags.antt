-- The flags of a reading, a bit each.
use Rattle.std.specs.Prelude.{ℕ, ◌/◌, ◌%◌, ◌^◌, Bool, ◌==◌}
use Rattle.reading.specs.declared.entry.Entry.{Entry}

-- Whether a bit is set, the lowest being bit 0.
abbrev pub bit : ℕ → ℕ → Bool
bit k flags = flags / 2 ^ k % 2 == 1

-- Delivery at primary voltage, else at secondary.
abbrev pub primary_delivery : Entry → Bool
primary_delivery e = bit 0 e.flags

-- Metering at primary voltage, else at secondary.
abbrev pub primary_metering : Entry → Bool
primary_metering e = bit 1 e.flags

-- Three-phase service, else single-phase.
abbrev pub three_phase : Entry → Bool
three_phase e = bit 2 e.flags

abbrev pub multi_family : Entry → Bool
multi_family e = bit 3 e.flags
