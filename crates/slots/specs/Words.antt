-- What is said of a flaw. Slots count from 0.
use Rattle.std.specs.Prelude.{ℕ, List, ◌++◌, codes}
use Rattle.std.specs.Fmt.{decimal}
use Rattle.slots.specs.declared.flaw.Flaw.{Flaw}
use Rattle.slots.specs.declared.flaw.Flaw.TheVariants.{PartSlot, NoSlot, TooManySlots, Unlawful, Twice}

abbrev pub words : Flaw → List ℕ
words PartSlot = codes "the last slot is not whole"
words NoSlot = codes "it has no slot"
words TooManySlots = codes "it has more than 1024 slots"
words (Unlawful slot) = codes "slot " ++ (decimal slot ++ codes " is neither empty nor a lawful record")
words (Twice slot again) = codes "slots " ++ (decimal slot ++ (codes " and " ++ (decimal again ++ codes " have the same site month")))
