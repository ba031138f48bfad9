-- Why an image cannot be taken into use: the first of these that fits.
use Rattle.std.specs.Prelude.{ℕ, ◌+◌, ◌%◌, cond, not, List, [], ◌∷◌, length, Some, None, Option, ◌==◌, nat_lt}
use Rattle.std.specs.List.{position_from}
use Rattle.std.specs.Option.{option_map}
use Rattle.reading.specs.declared.site_month.SiteMonth.{SiteMonth}
use Rattle.record.specs.Rows.{keyed}
use Rattle.record.specs.States.{used}
use Rattle.record.specs.declared.row.Row.{Row}
use Rattle.slot.specs.Reading.{lawful_slot}
use Rattle.slots.specs.declared.flaw.Flaw.{Flaw}
use Rattle.slots.specs.declared.flaw.Flaw.TheVariants.{PartSlot, NoSlot, TooManySlots, Unlawful, Twice}
use Rattle.slots.specs.Cuts.{slot_count, slots_of, table_of}

-- The first of two.
abbrev pub otherwise : Option Flaw → Option Flaw → Option Flaw
otherwise None later = later
otherwise (Some flaw) later = Some flaw

-- There is a part of a slot at the end, no slot, or more than 1,024.
abbrev pub size_flaw : List ℕ → Option Flaw
size_flaw bytes =
    cond (not (length bytes % 424 == 0)) (Some PartSlot)
    (cond (slot_count bytes == 0) (Some NoSlot)
    (cond (nat_lt 1024 (slot_count bytes)) (Some TooManySlots) None))

-- The first slot that is not lawful, the first of these being number i.
abbrev pub unlawful_from : ℕ → List (List ℕ) → Option Flaw
unlawful_from i [] = None
unlawful_from i (slot ∷ slots) = cond (lawful_slot slot) (unlawful_from (i + 1) slots) (Some (Unlawful i))

-- The first row that has a site month, the first of these being number i.
abbrev pub place_from : ℕ → SiteMonth → List Row → Option ℕ
place_from i at rows = position_from (keyed at) i rows

-- The first later row with the site month of row i, if row i has one.
abbrev pub again : ℕ → Row → List Row → Option ℕ
again i row rows = cond (used row.state) (place_from (i + 1) row.at rows) None

-- The first row whose site month stands again, and where.
abbrev pub twice_from : ℕ → List Row → Option Flaw
twice_from i [] = None
twice_from i (row ∷ rows) = otherwise (option_map (Twice i) (again i row rows)) (twice_from (i + 1) rows)

abbrev pub flaw_of : List ℕ → Option Flaw
flaw_of bytes = otherwise (size_flaw bytes) (otherwise (unlawful_from 0 (slots_of bytes)) (twice_from 0 (table_of bytes)))
