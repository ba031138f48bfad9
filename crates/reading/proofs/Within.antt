-- The limits of a lawful entry, field by field.
use Rattle.std.proofs.Common.{◌≡◌, true, rules}
use Rattle.reading.specs.Limits.{lawful, Limits}
use Rattle.reading.specs.declared.entry.Entry.{Entry}

pub limits : (e : Entry) → lawful e ≡ true → Limits e
limits e h = search rules
