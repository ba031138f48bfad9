-- A reading from the numbers on a line.
use Rattle.std.specs.Prelude.{◌≡◌}
use Rattle.reading.specs.declared.entry.Entry.{Entry}
use Rattle.bills.specs.declared.fields.Numbers.{Numbers}

-- Each number of the entry is as it was written.
pub record Entered (written : Numbers) (entry : Entry) : Type 0 where
  pub schedule : entry.schedule ≡ written.schedule
  pub flags : entry.flags ≡ written.flags
  pub kwh : entry.kwh ≡ written.kwh
  pub off_hours : entry.off_hours ≡ written.off_hours
  pub demand : entry.demand ≡ written.demand
  pub peak_demand : entry.peak_demand ≡ written.peak_demand
  pub kvar : entry.kvar ≡ written.kvar
  pub power_factor : entry.power_factor ≡ written.power_factor
  pub load : entry.load ≡ written.load
