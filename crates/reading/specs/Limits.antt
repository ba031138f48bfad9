-- The limits of a reading.
use Rattle.std.specs.Prelude.{◌≤◌, Bool, ◌&&◌, nat_le}
use Rattle.reading.specs.declared.entry.Entry.{Entry}

-- Each field is within its limit.
abbrev pub within_limits : Entry → Bool
within_limits e =
    nat_le e.flags 15
    && (nat_le e.kwh 999999
    && (nat_le e.demand 99999
    && (nat_le e.peak_demand 99999
    && (nat_le e.kvar 9999
    && (nat_le e.power_factor 100
    && nat_le e.load 10000)))))

-- The off-hours kWh are among the kWh, and the peak-hours demand is no more than the demand.
abbrev pub within_each_other : Entry → Bool
within_each_other e = nat_le e.off_hours e.kwh && nat_le e.peak_demand e.demand

-- An entry that a reading may have.
abbrev pub lawful : Entry → Bool
lawful e = within_limits e && within_each_other e

-- What is known of one, field by field.
pub record Limits (e : Entry) : Type 0 where
  pub flags : e.flags ≤ 15
  pub kwh : e.kwh ≤ 999999
  pub off_hours : e.off_hours ≤ e.kwh
  pub demand : e.demand ≤ 99999
  pub peak_demand : e.peak_demand ≤ e.demand
  pub kvar : e.kvar ≤ 9999
  pub power_factor : e.power_factor ≤ 100
  pub load : e.load ≤ 10000
