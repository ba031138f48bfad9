-- The line of each answer, and what reading it back gives.
use Rattle.std.specs.Prelude.{◌≡◌, ℕ, List, [], ◌∷◌, length, ℤ, Some, None, FitsSigned}
use Rattle.std.specs.Int.{w32}
use Rattle.std.specs.List.{AllByRecursion}
use Rattle.reading.specs.Statement.{lines}
use Rattle.reading.specs.Refusal.{number_of, layer_of, layer_number, place_of}
use Rattle.frame.specs.Line.{spelled, bytes_of}
use Rattle.frame.specs.Seal.{framed, kind_of, two_bytes}
use Rattle.reading.specs.First.{first}
use Rattle.answer.specs.declared.kind.AmountsKind.{AmountsKind}
use Rattle.answer.specs.declared.answer.Answer.{Answer}
use Rattle.answer.specs.declared.answer.Answer.TheVariants.{Amounts, Closed, CardAccepted, Refused}
use Rattle.answer.specs.Kinds.{kind_byte, amounts_kind}
use Rattle.answer.specs.Amounts.{amounts_payload, amounts_on, amounts_tests}

-- The frame of an answer. A refusal has its number, its layer and its place.
abbrev pub answer_frame : Answer → List ℕ
answer_frame (Amounts kind amounts) = framed (kind_byte kind) (amounts_payload amounts)
answer_frame Closed = framed 0x84 []
answer_frame CardAccepted = framed 0x90 []
answer_frame (Refused fault) = framed 0x7f (number_of fault ∷ layer_number (layer_of fault) ∷ two_bytes (place_of fault))

-- The line of an answer.
abbrev pub answer_line : Answer → List ℕ
answer_line answer = spelled (answer_frame answer)

-- A line of amounts is accepted, and gives back its kind and its amounts.
pub record ReadBack (kind : AmountsKind) (amounts : List ℤ) : Type 0 where
  pub accepted : first (amounts_tests (answer_line (Amounts kind amounts))) ≡ None
  pub same_kind : amounts_kind (kind_of (bytes_of (answer_line (Amounts kind amounts)))) ≡ Some kind
  pub same : amounts_on (answer_line (Amounts kind amounts)) ≡ amounts

-- So it is of every amounts of 32 bits, one for each statement line.
abbrev pub AmountsReadBack : Type 0
AmountsReadBack = (kind : AmountsKind) (amounts : List ℤ) → length amounts ≡ lines → AllByRecursion (FitsSigned w32) amounts → ReadBack kind amounts
