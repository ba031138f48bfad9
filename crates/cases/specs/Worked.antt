-- The worked cases.
use Rattle.std.specs.Prelude.{ℕ, List, [], ◌∷◌, replicate, ℤ, pos, negsuc}
use Rattle.reading.specs.declared.entry.Entry.{Entry}
use Rattle.book.specs.Meaning.{Meaning}
use Rattle.oregon_card.specs.Layout.{Values}
use Rattle.oregon.specs.Sheet.{oregon_sheet}
use Rattle.cooperative.specs.Schedule.{cooperative}
use Rattle.cases.specs.Change.{Change}

-- A card with one supply rate and one low-income rate for every schedule, in thousandths of a cent per kWh.
abbrev pub card : ℕ → ℕ → ℕ → Values
card cap supply low_income = record { cap = cap; supply = replicate 7 supply; low_income = replicate 7 low_income }

-- A reading of kWh alone.
abbrev pub energy : ℕ → ℕ → ℕ → Entry
energy meter schedule kwh =
    record { meter = meter; schedule = schedule; flags = 0; power_factor = 100; kwh = kwh; off_hours = 0; demand = 0; peak_demand = 0; kvar = 0; load = 0 }

-- The same with flags, a demand in tenths of a kW, kvar and a load size.
abbrev pub service : ℕ → ℕ → ℕ → ℕ → ℕ → ℕ → Entry
service schedule flags kwh demand kvar load =
    record { meter = 1; schedule = schedule; flags = flags; power_factor = 100; kwh = kwh; off_hours = 0; demand = demand; peak_demand = 0; kvar = kvar; load = load }

-- A first post of one reading under a book.
abbrev pub posted : Meaning → Entry → List (ℕ × ℤ) → Change
posted book e expected = record { book = book; before = []; after = e ∷ []; expected = expected }

-- 5,000 cents of cap, 5 cents of supply and 0.02 cents of low-income charge.
abbrev pub oregon : Meaning
oregon = oregon_sheet (card 5000 5000 20)

-- Schedule 4, 1,000 kWh: all thirteen lines.
abbrev pub residential : Change
residential =
    posted oregon (energy 1 4 1000)
    ((0, pos 950) ∷ (1, pos 0) ∷ (2, pos 3523) ∷ (3, pos 0) ∷ (4, pos 0) ∷ (5, pos 818) ∷ (6, pos 146) ∷ (7, pos 0) ∷ (8, pos 5000) ∷ (9, pos 5) ∷ (10, pos 38) ∷ (11, pos 4) ∷ (12, pos 20) ∷ [])

-- Schedule 23, three-phase, 8,000 kWh, 20.4 kW, 10 kvar, load 20.
abbrev pub small_service : Change
small_service =
    posted oregon (service 23 4 8000 204 10 20)
    ((0, pos 2590) ∷ (1, pos 3020) ∷ (2, pos 25456) ∷ (3, pos 0) ∷ (4, pos 130) ∷ (5, pos 5784) ∷ (6, pos 1064) ∷ [])

-- Schedule 28, 50 kW, on either side of a band's edge.
abbrev pub band_below : Change
band_below = posted oregon (service 28 0 0 500 0 50) ((0, pos 1900) ∷ (1, pos 26150) ∷ [])

abbrev pub band_above : Change
band_above = posted oregon (service 28 0 0 500 0 51) ((0, pos 3500) ∷ (1, pos 24995) ∷ [])

-- Schedule 28 metered at primary, 10,000 kWh.
abbrev pub primary_metering : Change
primary_metering = posted oregon (service 28 2 10000 0 0 0) ((2, pos 4046) ∷ [])

-- Schedule 28, 500 kWh: half a cent goes up.
abbrev pub half_cent : Change
half_cent = posted oregon (energy 1 28 500) ((6, pos 74) ∷ [])

-- Schedule 29, 15 kW: the credit exceeds the charges by 26 cents, and with 100 kWh less by nothing.
abbrev pub floor_reached : Change
floor_reached = posted oregon (service 29 0 33700 150 0 0) ((7, pos 26) ∷ [])

abbrev pub floor_not_reached : Change
floor_not_reached = posted oregon (service 29 0 33600 150 0 0) ((7, pos 0) ∷ [])

-- The cap of 5,000 cents at 0.05 cents per kWh: 60,000 kWh, then 50,000 more, then the first cancelled. The cancel gives
-- back less than was once charged.
abbrev pub capped : Meaning
capped = oregon_sheet (card 5000 5000 50)

abbrev pub under_the_cap : Change
under_the_cap = posted capped (energy 1 4 60000) ((12, pos 3000) ∷ [])

abbrev pub at_the_cap : Change
at_the_cap =
    record { book = capped; before = energy 1 4 60000 ∷ []; after = energy 1 4 60000 ∷ energy 2 4 50000 ∷ []; expected = (12, pos 2000) ∷ [] }

abbrev pub cancelled_at_the_cap : Change
cancelled_at_the_cap =
    record { book = capped; before = energy 1 4 60000 ∷ energy 2 4 50000 ∷ []; after = energy 2 4 50000 ∷ []; expected = (12, negsuc 2499) ∷ [] }

-- Three meters of 70 kWh on schedule 4: line 9 is not rounded at the meter.
abbrev pub first_meter : Change
first_meter = posted oregon (energy 1 4 70) ((9, pos 0) ∷ [])

abbrev pub second_meter : Change
second_meter =
    record { book = oregon; before = energy 1 4 70 ∷ []; after = energy 1 4 70 ∷ energy 2 4 70 ∷ []; expected = (9, pos 1) ∷ [] }

abbrev pub third_meter : Change
third_meter =
    record {
      book = oregon;
      before = energy 1 4 70 ∷ energy 2 4 70 ∷ [];
      after = energy 1 4 70 ∷ energy 2 4 70 ∷ energy 3 4 70 ∷ [];
      expected = (9, pos 0) ∷ [];
    }

-- The cooperative: 100,000 kWh, 30,000 of them off-hours, 350 kW in peak hours and 400 at most, 95 percent.
abbrev pub industrial : Change
industrial =
    posted cooperative
    (record { meter = 1; schedule = 5; flags = 0; power_factor = 95; kwh = 100000; off_hours = 30000; demand = 4000; peak_demand = 3500; kvar = 0; load = 0 })
    ((0, pos 22000) ∷ (1, pos 218750) ∷ (2, pos 372000) ∷ (3, pos 15600) ∷ (4, pos 5000) ∷ [])

-- Schedule 28, 10 kvar and no demand: the 40 percent are taken of the demand, not of the floor.
abbrev pub reactive_without_demand : Change
reactive_without_demand = posted oregon (service 28 0 0 0 10 0) ((4, pos 650) ∷ [])

-- Schedule 23 delivered at primary and metered at secondary, a load of 15 and as much demand: what the factor lifts over 15 kW.
abbrev pub lifted_over_15 : Change
lifted_over_15 = posted oregon (service 23 1 0 150 0 15) ((1, pos 141) ∷ [])

-- Schedule 4, 500 kWh: line 6 is one rate.
abbrev pub one_usage_rate : Change
one_usage_rate = posted oregon (energy 1 4 500) ((6, pos 73) ∷ [])

abbrev pub worked : List Change
worked =
    residential
    ∷ small_service
    ∷ band_below
    ∷ band_above
    ∷ primary_metering
    ∷ half_cent
    ∷ floor_reached
    ∷ floor_not_reached
    ∷ under_the_cap
    ∷ at_the_cap
    ∷ cancelled_at_the_cap
    ∷ first_meter
    ∷ second_meter
    ∷ third_meter
    ∷ industrial
    ∷ reactive_without_demand
    ∷ lifted_over_15
    ∷ one_usage_rate
    ∷ []
