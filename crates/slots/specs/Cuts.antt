-- An image cut into slots.
use Rattle.std.specs.Prelude.{◌≡◌, ℕ, ◌+◌, ◌*◌, ◌/◌, ◌%◌, ◌<◌, Bool, ◌&&◌, List, ◌++◌, map, length, take, drop, ◌==◌, nat_le}
use Rattle.std.specs.Simd.{first_chunks}
use Rattle.std.specs.List.{list_all}
use Rattle.record.specs.declared.row.Row.{Row}
use Rattle.slot.specs.Reading.{row_in, lawful_slot}
use Rattle.store.specs.Meaning.{once}
use Rattle.store.specs.Table.{held_in}

-- So many slots of 424 bytes.
abbrev pub slots : ℕ → List ℕ → List (List ℕ)
slots n bytes = first_chunks 424 n bytes

-- How many whole slots an image has.
abbrev pub slot_count : List ℕ → ℕ
slot_count bytes = length bytes / 424

abbrev pub slots_of : List ℕ → List (List ℕ)
slots_of bytes = slots (slot_count bytes) bytes

-- An image as a table of rows.
abbrev pub table_of : List ℕ → List Row
table_of bytes = map row_in (slots_of bytes)

-- 1 to 1,024 whole slots, each empty or what is written for a lawful record, no site month twice.
abbrev pub lawful_image : List ℕ → Bool
lawful_image bytes =
    (length bytes % 424 == 0)
    && (nat_le 1 (slot_count bytes)
    && (nat_le (slot_count bytes) 1024
    && (list_all lawful_slot (slots_of bytes)
    && once (held_in (table_of bytes)))))

-- An image with a slot written over.
abbrev pub put_slot : ℕ → List ℕ → List ℕ → List ℕ
put_slot i slot bytes = take (424 * i) bytes ++ (slot ++ drop (424 * i + 424) bytes)

-- One slot is written over, and no other byte altered. Which one is free.
abbrev pub OneSlot : List ℕ → List ℕ → List ℕ → Type 0
OneSlot slot before after = (i : ℕ) × (i < slot_count before) × (after ≡ put_slot i slot before)
