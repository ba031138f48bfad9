-- What is held under a site month, of some records.
use Rattle.std.specs.Prelude.{◌≡◌, ◌≤◌, Bool, true, false, List, [], length, IfSome, Some, None, Option}
use Rattle.std.specs.Option.{option_map}
use Rattle.std.specs.List.{list_all}
use Rattle.reading.specs.declared.entry.Entry.{Entry}
use Rattle.reading.specs.declared.site_month.SiteMonth.{SiteMonth}
use Rattle.record.specs.Holding.{Holding, lawful_reading}
use Rattle.record.specs.Rows.{holding}
use Rattle.record.specs.declared.record.Record.{Record}
use Rattle.store.specs.Meaning.{look_up}

-- At most sixteen lawful readings, as a record has.
pub record Few (es : List Entry) : Type 0 where
  pub most : length es ≤ 16
  pub each : list_all lawful_reading es ≡ true

-- A record in memory as plain values, if there is one.
abbrev pub found : Option Record → Option Holding
found = option_map (λ x. holding x.row)

-- A record of this site month, or none.
abbrev pub Of : SiteMonth → Option Holding → Type 0
Of at h = IfSome h (λ x. x.at ≡ at)

-- The readings of a record, none where there is no record.
abbrev pub readings_of : Option Holding → List Entry
readings_of None = []
readings_of (Some h) = h.readings

-- Whether there is a record and it is closed.
abbrev pub closed_of : Option Holding → Bool
closed_of None = false
closed_of (Some h) = h.closed

-- The readings that stand in a site month.
abbrev pub readings_at : SiteMonth → List Holding → List Entry
readings_at at held = readings_of (look_up at held)

-- Whether the site month is closed.
abbrev pub closed_at : SiteMonth → List Holding → Bool
closed_at at held = closed_of (look_up at held)
