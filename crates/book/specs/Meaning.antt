-- What a book means, and the laws that every book keeps.
use Rattle.std.specs.Prelude.{◌≡◌, ℕ, ◌*◌, ◌^◌, ◌≤◌, true, Some, Option}
use Rattle.reading.specs.Limits.{lawful}
use Rattle.reading.specs.Refusal.{layer_of}
use Rattle.reading.specs.declared.entry.Entry.{Entry}
use Rattle.reading.specs.declared.fault.Fault.{Fault}
use Rattle.reading.specs.declared.fault.Layer.TheVariants.{Book}
use Rattle.book.specs.declared.sense.Sense.{Sense}

-- Four functions of plain values, so that equal questions get equal answers. A unit is a ten-millionth of a cent.
pub record Meaning : Type 0 where
  -- Whether a statement line is a charge or a credit. Every amount is stated in its line's own sense.
  pub sense : ℕ → Sense
  -- The refusal of a reading, if the book has one.
  pub check : Entry → Option Fault
  -- The weight of a reading on a statement line, in units.
  pub weight : Entry → ℕ → ℕ
  -- The settlement on a statement line of a sum of weights, in whole cents.
  pub settle : ℕ → ℕ → ℕ

pub record Lawful (book : Meaning) : Type 0 where
  -- Nothing settles to 0.
  pub nothing : (line : ℕ) → book.settle line 0 ≡ 0
  -- A larger sum never settles to less.
  pub rises : (line m n : ℕ) → m ≤ n → book.settle line m ≤ book.settle line n
  -- Sixteen of the heaviest readings settle to at most 20 million dollars.
  pub bounded : (line n : ℕ) → n ≤ 16 * 10 ^ 15 → book.settle line n ≤ 2000000000
  -- No reading weighs more than a million dollars.
  pub light : (entry : Entry) (line : ℕ) → lawful entry ≡ true → book.weight entry line ≤ 10 ^ 15
  -- A reading that the book refuses weighs nothing.
  pub weightless : (entry : Entry) (line : ℕ) (fault : Fault) → book.check entry ≡ Some fault → book.weight entry line ≡ 0
  -- It is refused for its schedule or for a flag.
  pub own : (entry : Entry) (fault : Fault) → book.check entry ≡ Some fault → layer_of fault ≡ Book
