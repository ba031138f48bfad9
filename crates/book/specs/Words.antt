-- How a statement names the sense of a line.
use Rattle.std.specs.Prelude.{ℕ, List, codes}
use Rattle.book.specs.declared.sense.Sense.{Sense}
use Rattle.book.specs.declared.sense.Sense.TheVariants.{Charge, Credit}

abbrev pub word : Sense → List ℕ
word Charge = codes "charge"
word Credit = codes "credit"
