-- What a reading costs by Oregon's sheets, line by line. Amounts are in units: a kWh at a thousandth of a cent and a
-- ten-thousandth of the factor is one unit, and a cent is 10,000,000.
use Rattle.std.specs.Prelude.{ℕ, ◌+◌, ◌-◌, ◌*◌, min, max, Bool, true, false, cond, List, [], ◌∷◌, get_or, is_some, Some, None, Option, ◌==◌, nat_lt, slice_index, slice_index_or}
use Rattle.reading.specs.Demand.{kw_nearest}
use Rattle.reading.specs.Flags.{primary_delivery, primary_metering, three_phase, multi_family}
use Rattle.reading.specs.declared.entry.Entry.{Entry}
use Rattle.book.specs.Meaning.{Meaning}
use Rattle.book.specs.Money.{cent, half_up, rounded}
use Rattle.book.specs.declared.sense.Sense.{Sense}
use Rattle.book.specs.declared.sense.Sense.TheVariants.{Charge, Credit}
use Rattle.oregon_card.specs.Layout.{Values}
use Rattle.oregon.specs.Rates.{energy_rates, transmission_rates, transmission_kw_rates, usage_rates, demand_rates, reactive_rates, rates_203, rates_204, rates_207, floors, band_28, basic_28, load_28, band_730, basic_730, load_730}
use Rattle.oregon_card.specs.Schedules.{schedule_of, place, check}
use Rattle.oregon_card.specs.declared.schedule.Schedule.{Schedule}
use Rattle.oregon_card.specs.declared.schedule.Schedule.TheVariants.{S4, S5, S23, S28, S29, S728, S730}

-- A rate of a table, by its row and the voltage of delivery.
abbrev pub rate : List (List ℕ) → ℕ → Entry → ℕ
rate table row e = slice_index (slice_index_or table row []) (cond (primary_delivery e) 1 0)

-- The factor, in ten-thousandths: delivery at secondary with metering at primary takes 0.9845, the reverse 1.0157.
abbrev pub factor : Entry → ℕ
factor e = cond (primary_delivery e) (cond (primary_metering e) 10000 10157) (cond (primary_metering e) 9845 10000)

-- A rate in thousandths of a cent for each kWh, as adjusted by the factor.
abbrev pub per_kwh : ℕ → ℕ → Entry → ℕ
per_kwh rate kwh e = rate * kwh * factor e

-- A rate in cents for each kW, as adjusted.
abbrev pub per_kw : ℕ → ℕ → Entry → ℕ
per_kw rate kw e = rate * kw * factor e * 1000

-- The demand in kW, and the billed demand: raised to the schedule's floor.
abbrev pub kw : Entry → ℕ
kw e = kw_nearest e.demand

abbrev pub billed : Schedule → Entry → ℕ
billed s e = max (kw e) (slice_index floors (place s))

-- Line 0, basic charge, in cents. Bands go by the load size before the factor.
abbrev pub basic : Schedule → Entry → ℕ
basic S4 e = cond (multi_family e) 800 950
basic S5 e = cond (multi_family e) 800 950
basic S23 e = cond (three_phase e) 2590 1735
basic S28 e = rate basic_28 (band_28 e.load) e
basic S29 e = 3700
basic S728 e = rate basic_28 (band_28 e.load) e
basic S730 e = rate basic_730 (band_730 e.load) e

-- Three-phase service on 4 and 5: 220 cents per kW of billed demand, at least 380.
abbrev pub three_phase_demand : Schedule → Entry → ℕ
three_phase_demand s e = cond (three_phase e) (max 380 (220 * billed s e) * cent) 0

-- What is over 15 kW, as adjusted, in ten-thousandths of a kW.
abbrev pub over_15 : ℕ → Entry → ℕ
over_15 kw e = kw * factor e - 150000

-- Line 1, load size and demand.
abbrev pub load_demand : Schedule → Entry → ℕ
load_demand S4 e = three_phase_demand S4 e
load_demand S5 e = three_phase_demand S5 e
load_demand S23 e = (140 * over_15 e.load e + rate demand_rates (place S23) e * over_15 (billed S23 e) e) * 1000
load_demand S28 e = per_kw (rate load_28 (band_28 e.load) e) e.load e + per_kw (rate demand_rates (place S28) e) (billed S28 e) e
load_demand S29 e = 0
load_demand S728 e = per_kw (rate load_28 (band_28 e.load) e) e.load e + per_kw (rate demand_rates (place S728) e) (billed S728 e) e
load_demand S730 e = per_kw (rate load_730 (band_730 e.load) e) e.load e + per_kw (rate demand_rates (place S730) e) (billed S730 e) e

-- Schedule 29 pays by a block: the first 50 kWh for each kW of billed demand.
abbrev pub has_block : Schedule → Bool
has_block S4 = false
has_block S5 = false
has_block S23 = false
has_block S28 = false
has_block S29 = true
has_block S728 = false
has_block S730 = false

abbrev pub block : Entry → ℕ
block e = min e.kwh (50 * billed S29 e)

-- Line 2, energy: schedule 29 pays 18.94 cents for each kWh of its block.
abbrev pub energy : Schedule → Entry → ℕ
energy s e = cond (has_block s) (per_kwh 18940 (block e) e) (per_kwh (rate energy_rates (place s) e) e.kwh e)

-- Line 3, credit: schedule 29 gets 1.335 cents for each kWh past its block.
abbrev pub credit : Schedule → Entry → ℕ
credit s e = cond (has_block s) (per_kwh 1335 (e.kwh - block e) e) 0

-- Line 4, reactive power: for each kvar over 40 percent of the demand in kW, as adjusted. The excess is in tenths.
abbrev pub reactive : Schedule → Entry → ℕ
reactive s e = rate reactive_rates (place s) e * (10 * e.kvar - 4 * kw e) * factor e * 100

-- Line 5, transmission: by the kWh, and by the kW of billed demand. A schedule has one of the two.
abbrev pub transmission : Schedule → Entry → ℕ
transmission s e = per_kwh (rate transmission_rates (place s) e) e.kwh e + per_kw (rate transmission_kw_rates (place s) e) (billed s e) e

-- Line 6, system usage.
abbrev pub usage : Schedule → Entry → ℕ
usage s e = per_kwh (rate usage_rates (place s) e) e.kwh e

-- Line 7, floor: what the credit exceeds energy, transmission and system usage by, each in rounded cents.
abbrev pub floor : Schedule → Entry → ℕ
floor s e = (half_up (credit s e) - (half_up (energy s e) + half_up (transmission s e) + half_up (usage s e))) * cent

-- Lines 8 and 12, supply and the low-income charge, at the card's rates.
abbrev pub at_card : List ℕ → Schedule → Entry → ℕ
at_card rates s e = per_kwh (slice_index rates (place s)) e.kwh e

-- Lines 9 to 11, Schedules 203, 204 and 207.
abbrev pub rider : List (List ℕ) → Schedule → Entry → ℕ
rider rates s e = per_kwh (rate rates (place s) e) e.kwh e

-- The lines in order, exactly.
abbrev pub lines : Values → Schedule → Entry → List ℕ
lines card s e =
    basic s e * cent
    ∷ load_demand s e
    ∷ energy s e
    ∷ credit s e
    ∷ reactive s e
    ∷ transmission s e
    ∷ usage s e
    ∷ floor s e
    ∷ at_card card.supply s e
    ∷ rider rates_203 s e
    ∷ rider rates_204 s e
    ∷ rider rates_207 s e
    ∷ at_card card.low_income s e
    ∷ []

abbrev pub exact : Values → Schedule → Entry → ℕ → ℕ
exact card s e line = get_or (lines card s e) line 0

-- Lines 0 to 8 round half up to a cent at each meter; the others round when the record settles.
abbrev pub metered : Values → Schedule → Entry → ℕ → ℕ
metered card s e line = cond (nat_lt line 9) (rounded (exact card s e line)) (exact card s e line)

abbrev pub on_schedule : Option Schedule → (Schedule → ℕ) → ℕ
on_schedule None f = 0
on_schedule (Some s) f = f s

-- The weight of a reading: 0 where the book refuses it.
abbrev pub weight : Values → Entry → ℕ → ℕ
weight card e line = cond (is_some (check e)) 0 (on_schedule (schedule_of e.schedule) (λ s. metered card s e line))

-- Only line 3 is a credit.
abbrev pub sense : ℕ → Sense
sense line = cond (line == 3) Credit Charge

-- The settlement of a sum of weights: rounded half up, and on line 12 no more than the cap.
abbrev pub uncapped : ℕ → ℕ
uncapped sum = half_up sum

abbrev pub settle : Values → ℕ → ℕ → ℕ
settle card line sum = cond (line == 12) (min card.cap (uncapped sum)) (uncapped sum)

abbrev pub oregon_sheet : Values → Meaning
oregon_sheet card = record { sense = sense; check = check; weight = weight card; settle = settle card }
