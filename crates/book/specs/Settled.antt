-- What some readings settle to.
use Rattle.std.specs.Prelude.{ℕ, List, sum_by}
use Rattle.reading.specs.declared.entry.Entry.{Entry}
use Rattle.book.specs.Meaning.{Meaning}

-- The settlement of some readings on a statement line: that of the sum of their weights.
abbrev pub settled : Meaning → List Entry → ℕ → ℕ
settled book entries line = book.settle line (sum_by (λ e. book.weight e line) entries)
