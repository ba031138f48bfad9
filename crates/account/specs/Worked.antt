-- A post worked by hand, on stores that have room for one record.
use Rattle.std.specs.Prelude.{◌≡◌, ℕ, false, List, [], ◌∷◌, Some, None, codes}
use Rattle.reading.specs.declared.entry.Entry.{Entry}
use Rattle.reading.specs.declared.fault.Fault.TheVariants.{Standing, StoreFull}
use Rattle.book.specs.Meaning as book
use Rattle.record.specs.Holding.{Holding}
use Rattle.store.specs.Meaning as store
use Rattle.account.specs.Change.{after}
use Rattle.account.specs.Tests.{refusal}

-- Meter 1 of site 7 in January 2021: 1,000 kWh on schedule 4, power factor 100.
abbrev pub post_line : List ℕ
post_line = codes "01340000000700FC0001000400000003E80000000000000000000000000000640000000000000000000000000000000000000000000074"

abbrev pub reading : Entry
reading =
    record {
      meter = 1;
      schedule = 4;
      flags = 0;
      power_factor = 100;
      kwh = 1000;
      off_hours = 0;
      demand = 0;
      peak_demand = 0;
      kvar = 0;
      load = 0;
    }

-- An open record with the reading, in the given month of the site.
abbrev pub record_in : ℕ → Holding
record_in month = record { at = record { site = 7; month = month }; closed = false; readings = reading ∷ [] }

abbrev pub holding_only : List Holding → store.Meaning
holding_only held = record { capacity = 1; held = held }

-- Under a book that takes the reading, the post opens a record on a new store. It is refused where its meter stands
-- already, and where another site month takes the room.
pub record Worked (b : book.Meaning) : Type 0 where
  pub accepted : refusal b (holding_only []) 128 post_line ≡ None
  pub opened : after b (holding_only []) 128 post_line ≡ record_in 252 ∷ []
  pub standing : refusal b (holding_only (record_in 252 ∷ [])) 128 post_line ≡ Some Standing
  pub full : refusal b (holding_only (record_in 251 ∷ [])) 128 post_line ≡ Some StoreFull

abbrev pub PostsWorked : Type 0
PostsWorked = (b : book.Meaning) → b.check reading ≡ None → Worked b
