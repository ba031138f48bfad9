-- What a slot holds.
use Rattle.std.specs.Prelude.{ℕ, ◌+◌, ◌*◌, Bool, cond, ◌&&◌, ◌||◌, List, map, length, drop, Some, None, Option, ◌==◌, nat_le, nat_lt, slice_index}
use Rattle.std.specs.Simd.{first_chunks}
use Rattle.reading.specs.declared.entry.Entry.{Entry}
use Rattle.reading.specs.declared.site_month.SiteMonth.{SiteMonth}
use Rattle.record.specs.Rows.{vacant, tidy}
use Rattle.record.specs.declared.record.Record.{Record}
use Rattle.record.specs.declared.row.Row.{Row}
use Rattle.record.specs.declared.row.State.{State}
use Rattle.record.specs.declared.row.State.TheVariants.{Empty, Open, Closed}

-- The number in two bytes from one on, and in four. Bytes count from 0, and the high byte comes first.
abbrev pub two_at : List ℕ → ℕ → ℕ
two_at bytes at = slice_index bytes at * 256 + slice_index bytes (at + 1)

abbrev pub four_at : List ℕ → ℕ → ℕ
four_at bytes at =
    slice_index bytes at * 16777216 + slice_index bytes (at + 1) * 65536 + slice_index bytes (at + 2) * 256 + slice_index bytes (at + 3)

-- An entry from its 26 bytes.
abbrev pub entry_in : List ℕ → Entry
entry_in bytes =
    record {
      meter = two_at bytes 0;
      schedule = two_at bytes 2;
      flags = slice_index bytes 4;
      power_factor = slice_index bytes 5;
      kwh = four_at bytes 6;
      off_hours = four_at bytes 10;
      demand = four_at bytes 14;
      peak_demand = four_at bytes 18;
      kvar = two_at bytes 22;
      load = two_at bytes 24;
    }

-- So many entries, 26 bytes to each.
abbrev pub entries_in : ℕ → List ℕ → List Entry
entries_in n bytes = map entry_in (first_chunks 26 n bytes)

-- The state that a byte up to 2 says.
abbrev pub state_in : ℕ → State
state_in byte = cond (byte == 0) Empty (cond (byte == 1) Open Closed)

-- The site month of a slot: the site from byte 2 on, the month from byte 6 on.
abbrev pub site_month_in : List ℕ → SiteMonth
site_month_in slot = record { site = four_at slot 2; month = two_at slot 6 }

-- The row in a slot.
abbrev pub row_in : List ℕ → Row
row_in slot =
    record {
      at = site_month_in slot;
      state = state_in (slice_index slot 0);
      count = slice_index slot 1;
      entries = entries_in 16 (drop 8 slot);
    }

-- A slot that is all zero, or what is written for a lawful record.
abbrev pub lawful_slot : List ℕ → Bool
lawful_slot slot = length slot == 424 && (nat_le (slice_index slot 0) 2 && tidy (row_in slot))

-- The site month of a slot in use: one of at least eight bytes, with another state than empty.
abbrev pub head_in : List ℕ → Option SiteMonth
head_in slot = cond (nat_lt (length slot) 8 || slice_index slot 0 == 0) None (Some (site_month_in slot))

-- The row of a record that may be there.
abbrev pub row_of : Option Record → Row
row_of None = vacant
row_of (Some kept) = kept.row
