-- Making a record from a row.
use Rattle.std.specs.Prelude.{◌≡◌, false, Result, MatchResult}
use Rattle.reading.specs.declared.reading.Unlawful.{Unlawful}
use Rattle.record.specs.declared.record.Record.{Record}
use Rattle.record.specs.declared.row.Row.{Row}
use Rattle.record.specs.Rows.{lawful_row}

-- The record has the row, and only a row that breaks a rule is refused.
abbrev pub Checked : Row → Result Record Unlawful → Type 0
Checked row r = MatchResult r (λ x. x.row ≡ row) (λ _. lawful_row row ≡ false)
