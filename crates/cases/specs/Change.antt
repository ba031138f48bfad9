-- A change of the readings that stand, and the amounts that it answers.
use Rattle.std.specs.Prelude.{◌≡◌, ℕ, List, ℤ, pos, ◌-ℤ◌}
use Rattle.std.specs.List.{AllByRecursion}
use Rattle.reading.specs.declared.entry.Entry.{Entry}
use Rattle.book.specs.Meaning.{Meaning}
pub use Rattle.book.specs.Settled.{settled}

-- Readings before and after, and the amount expected on some of the statement lines.
pub record Change : Type 0 where
  pub book : Meaning
  pub before : List Entry
  pub after : List Entry
  pub expected : List (ℕ × ℤ)

-- Settlement after less settlement before.
abbrev pub answered : Change → ℕ → ℤ
answered c line = pos (settled c.book c.after line) -ℤ pos (settled c.book c.before line)

-- The amounts answered are those expected.
abbrev pub Right : Change → Type 0
Right c = AllByRecursion (λ x. answered c x.0 ≡ x.1) c.expected
