-- A record as plain values: what is held under one site month.
use Rattle.std.specs.Prelude.{Bool, ◌&&◌, List, length, ◌==◌, nat_le}
use Rattle.std.specs.List.{list_all}
use Rattle.reading.specs.Limits.{lawful}
use Rattle.reading.specs.declared.entry.Entry.{Entry}
use Rattle.reading.specs.declared.site_month.SiteMonth.{SiteMonth}
use Rattle.record.specs.Meters.{rising}

pub record Holding : Type 0 where
  pub at : SiteMonth
  -- Closed, else open.
  pub closed : Bool
  -- The readings that stand.
  pub readings : List Entry

-- One site month and another are the same.
abbrev pub same : SiteMonth → SiteMonth → Bool
same at other = at.site == other.site && at.month == other.month

-- A site is a number of four bytes, and months count from January 2000 as 0 to December 2199.
abbrev pub lawful_site_month : SiteMonth → Bool
lawful_site_month at = nat_le at.site 4294967295 && nat_le at.month 2399

-- A reading within its limits, whose meter and schedule are numbers of two bytes.
abbrev pub lawful_reading : Entry → Bool
lawful_reading e = lawful e && (nat_le e.meter 65535 && nat_le e.schedule 65535)

-- A record has 1 to 16 lawful readings in rising meter order.
abbrev pub lawful_holding : Holding → Bool
lawful_holding h =
    lawful_site_month h.at
    && (nat_le 1 (length h.readings)
    && (nat_le (length h.readings) 16
    && (list_all lawful_reading h.readings
    && rising h.readings)))
