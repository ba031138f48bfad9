-- The cooperative's industrial schedule: five statement lines, each rounded half up to a cent at the meter.
use Rattle.std.specs.Prelude.{ℕ, ◌+◌, ◌-◌, ◌*◌, min, cond, not, [], ◌∷◌, is_some, Some, None, Option, ◌==◌, slice_index}
use Rattle.reading.specs.declared.entry.Entry.{Entry}
use Rattle.reading.specs.declared.fault.Fault.{Fault}
use Rattle.reading.specs.declared.fault.Fault.TheVariants as fault
use Rattle.book.specs.Meaning.{Meaning}
use Rattle.book.specs.Money.{cent, half_up, rounded}
use Rattle.book.specs.declared.sense.Sense.{Sense}
use Rattle.book.specs.declared.sense.Sense.TheVariants.{Charge, Credit}

-- It has schedule 5, and offers no flag.
abbrev pub check : Entry → Option Fault
check e = cond (not (e.schedule == 5)) (Some fault.Schedule) (cond (not (e.flags == 0)) (Some fault.Flag) None)

-- Line 0, basic charge: 220 dollars.
abbrev pub basic : ℕ
basic = 22000 * cent

-- Line 1, demand: 625 cents for each kW of peak-hours demand, which is in tenths of a kW.
abbrev pub demand : Entry → ℕ
demand e = 625 * e.peak_demand * 1000000

-- Line 2, energy: 3.52 cents for each of the first 75,000 kWh, then 4.32. A thousandth of a cent is 10,000 units.
abbrev pub energy : Entry → ℕ
energy e = (3520 * min e.kwh 75000 + 4320 * (e.kwh - 75000)) * 10000

-- Line 3, off-hours credit: 0.52 cents for each off-hours kWh.
abbrev pub credit : Entry → ℕ
credit e = 520 * e.off_hours * 10000

-- Line 4, power factor: the percent missing to 97, divided by 100, times the demand times 625 cents.
abbrev pub power_factor : Entry → ℕ
power_factor e = (97 - e.power_factor) * (625 * e.demand) * 10000

-- The lines in order; every further one is 0.
abbrev pub exact : Entry → ℕ → ℕ
exact e line = slice_index (basic ∷ demand e ∷ energy e ∷ credit e ∷ power_factor e ∷ []) line

abbrev pub weight : Entry → ℕ → ℕ
weight e line = cond (is_some (check e)) 0 (rounded (exact e line))

abbrev pub sense : ℕ → Sense
sense line = cond (line == 3) Credit Charge

abbrev pub cooperative : Meaning
cooperative = record { sense = sense; check = check; weight = weight; settle = λ line sum. half_up sum }
