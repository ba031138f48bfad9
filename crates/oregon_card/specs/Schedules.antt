-- Oregon's schedules, and the check of a reading.
use Rattle.std.specs.Prelude.{ℕ, Bool, true, false, cond, not, ◌&&◌, ◌||◌, Some, None, Option, ◌==◌}
use Rattle.reading.specs.Flags.{primary_delivery, primary_metering, multi_family}
use Rattle.reading.specs.declared.entry.Entry.{Entry}
use Rattle.reading.specs.declared.fault.Fault.{Fault}
use Rattle.reading.specs.declared.fault.Fault.TheVariants as fault
use Rattle.oregon_card.specs.declared.schedule.Schedule.{Schedule}
use Rattle.oregon_card.specs.declared.schedule.Schedule.TheVariants.{S4, S5, S23, S28, S29, S728, S730}

-- The schedule of a number.
abbrev pub schedule_of : ℕ → Option Schedule
schedule_of number =
    cond (number == 4) (Some S4)
    (cond (number == 5) (Some S5)
    (cond (number == 23) (Some S23)
    (cond (number == 28) (Some S28)
    (cond (number == 29) (Some S29)
    (cond (number == 728) (Some S728)
    (cond (number == 730) (Some S730) None))))))

-- A schedule's place in the rate tables and on the card.
abbrev pub place : Schedule → ℕ
place S4 = 0
place S5 = 1
place S23 = 2
place S28 = 3
place S29 = 4
place S728 = 5
place S730 = 6

-- The flags for delivery and metering at primary voltage are offered on 23, 28, 728 and 730.
abbrev pub offers_voltage : Schedule → Bool
offers_voltage S4 = false
offers_voltage S5 = false
offers_voltage S23 = true
offers_voltage S28 = true
offers_voltage S29 = false
offers_voltage S728 = true
offers_voltage S730 = true

-- The flag for multi-family service is offered on 4 and 5. That for three-phase service is offered everywhere.
abbrev pub offers_multi_family : Schedule → Bool
offers_multi_family S4 = true
offers_multi_family S5 = true
offers_multi_family S23 = false
offers_multi_family S28 = false
offers_multi_family S29 = false
offers_multi_family S728 = false
offers_multi_family S730 = false

-- A flag is set that the schedule does not offer.
abbrev pub unoffered : Schedule → Entry → Bool
unoffered s e =
    ((primary_delivery e || primary_metering e) && not (offers_voltage s)) || (multi_family e && not (offers_multi_family s))

abbrev pub refusal : Option Schedule → Entry → Option Fault
refusal None e = Some fault.Schedule
refusal (Some s) e = cond (unoffered s e) (Some fault.Flag) None

-- The check of a reading.
abbrev pub check : Entry → Option Fault
check e = refusal (schedule_of e.schedule) e
