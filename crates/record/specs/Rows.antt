-- Rows: a record as it lies in memory, in a fixed number of entries.
use Rattle.std.specs.Prelude.{Bool, not, ◌&&◌, ◌||◌, length, take, drop, replicate, ◌==◌, nat_le}
use Rattle.std.specs.List.{list_all}
use Rattle.reading.specs.declared.entry.Entry.{Entry}
use Rattle.reading.specs.declared.site_month.SiteMonth.{SiteMonth}
use Rattle.record.specs.declared.row.Row.{Row}
use Rattle.record.specs.declared.row.State.TheVariants.{Empty}
use Rattle.record.specs.Holding.{Holding, same, lawful_holding}
use Rattle.record.specs.Meters.{blank}
use Rattle.record.specs.States.{used, is_closed}

-- The record of a row in use.
abbrev pub holding : Row → Holding
holding row = record { at = row.at; closed = is_closed row.state; readings = take row.count row.entries }

-- An entry that is not in use is zero.
abbrev pub is_blank : Entry → Bool
is_blank e =
    (e.meter == 0)
    && (e.schedule == 0
    && (e.flags == 0
    && (e.power_factor == 0
    && (e.kwh == 0
    && (e.off_hours == 0
    && (e.demand == 0
    && (e.peak_demand == 0
    && (e.kvar == 0
    && e.load == 0))))))))

-- Sixteen entries, of which those not in use are zero.
abbrev pub padded : Row → Bool
padded row = nat_le row.count 16 && (length row.entries == 16 && list_all is_blank (drop row.count row.entries))

-- A row that has a lawful record.
abbrev pub lawful_row : Row → Bool
lawful_row row = used row.state && (padded row && lawful_holding (holding row))

-- A row not in use: all zero.
abbrev pub vacant : Row
vacant = record { at = record { site = 0; month = 0 }; state = Empty; count = 0; entries = replicate 16 blank }

abbrev pub is_vacant : Row → Bool
is_vacant row =
    (row.at.site == 0)
    && (row.at.month == 0
    && (not (used row.state)
    && (row.count == 0
    && padded row)))

-- A row is vacant or has a lawful record.
abbrev pub tidy : Row → Bool
tidy row = is_vacant row || lawful_row row

-- A row has the record of a site month.
abbrev pub keyed : SiteMonth → Row → Bool
keyed at row = used row.state && same at row.at
