use Rattle.std.proofs.Common.{◌≡◌, drop}
use Rattle.slots.specs.Cuts.{table_of}
use Rattle.slots.specs.Flaws.{twice_from}
use Rattle.slots.proofs.inspect.check_site_months.Given as goal

abbrev pub invariant-loop-slot : goal.invariant-loop-slot
invariant-loop-slot l = twice_from l.slot (drop l.slot (table_of l.bytes)) ≡ twice_from 0 (table_of l.bytes)
