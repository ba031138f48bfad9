-- The kinds of answer that carry amounts: each is the request's kind plus 80 hexadecimal.
use Rattle.std.specs.Prelude.{ℕ, ◌*◌, cond, Some, None, Option, ◌==◌}
use Rattle.std.specs.Option.{option_map}
use Rattle.reading.specs.Statement.{lines}
use Rattle.answer.specs.declared.kind.AmountsKind.{AmountsKind}
use Rattle.answer.specs.declared.kind.AmountsKind.TheVariants.{Post, Cancel, Correct, Account}

-- The kind byte.
abbrev pub kind_byte : AmountsKind → ℕ
kind_byte Post = 0x81
kind_byte Cancel = 0x82
kind_byte Correct = 0x83
kind_byte Account = 0x85

-- The kind that a byte names.
abbrev pub amounts_kind : ℕ → Option AmountsKind
amounts_kind byte =
    cond (byte == 0x81) (Some Post)
    (cond (byte == 0x82) (Some Cancel)
    (cond (byte == 0x83) (Some Correct)
    (cond (byte == 0x85) (Some Account) None)))

-- The payload length of each kind that is read back: an amount of four bytes for each statement line.
abbrev pub amounts_length : ℕ → Option ℕ
amounts_length byte = option_map (λ _. 4 * lines) (amounts_kind byte)
