-- The kinds of request.
use Rattle.std.specs.Prelude.{ℕ, cond, Some, None, Option, ◌==◌}
use Rattle.std.specs.Option.{option_map}
use Rattle.request.specs.declared.kind.RequestKind.{RequestKind}
use Rattle.request.specs.declared.kind.RequestKind.TheVariants.{Post, Cancel, Correct, Close, Account}

-- The kind that a byte names.
abbrev pub request_kind : ℕ → Option RequestKind
request_kind byte =
    cond (byte == 1) (Some Post)
    (cond (byte == 2) (Some Cancel)
    (cond (byte == 3) (Some Correct)
    (cond (byte == 4) (Some Close)
    (cond (byte == 5) (Some Account) None))))

-- The payload length of each kind.
abbrev pub payload_length : RequestKind → ℕ
payload_length Post = 52
payload_length Cancel = 8
payload_length Correct = 52
payload_length Close = 6
payload_length Account = 6

abbrev pub request_length : ℕ → Option ℕ
request_length byte = option_map payload_length (request_kind byte)
