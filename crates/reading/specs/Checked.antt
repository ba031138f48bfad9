-- Making a reading from an entry.
use Rattle.std.specs.Prelude.{◌≡◌, false, Result, MatchResult}
use Rattle.reading.specs.declared.entry.Entry.{Entry}
use Rattle.reading.specs.declared.reading.Reading.{Reading}
use Rattle.reading.specs.declared.reading.Unlawful.{Unlawful}
use Rattle.reading.specs.Limits.{lawful}

-- The reading has the entry, and only an entry that breaks a limit is refused.
abbrev pub Checked : Entry → Result Reading Unlawful → Type 0
Checked entry r = MatchResult r (λ x. x.entry ≡ entry) (λ _. lawful entry ≡ false)
