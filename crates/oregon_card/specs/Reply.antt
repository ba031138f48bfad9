-- What the card's call answers, and the card that it gives.
use Rattle.std.specs.Prelude.{ℕ, List, Some, None, Ok, Err, Option, Result}
use Rattle.reading.specs.declared.fault.Fault.{Fault}
use Rattle.frame.specs.Line.{bytes_of}
use Rattle.reading.specs.First.{first}
use Rattle.answer.specs.Answers.{answer_line}
use Rattle.answer.specs.declared.answer.Answer.TheVariants.{CardAccepted, Refused}
use Rattle.oregon_card.specs.declared.card.Card.{Card}
use Rattle.oregon_card.specs.Layout.{Values, values_in, card_tests}
use Rattle.oregon_card.specs.Rates.{supply_rates, low_income_rates}

-- A card in memory.
abbrev pub values : Card → Values
values card = record { cap = card.cap; supply = supply_rates card.prices; low_income = low_income_rates card.prices }

-- The answer line, by the first test that fits.
abbrev pub reply_line : Option Fault → List ℕ
reply_line None = answer_line CardAccepted
reply_line (Some fault) = answer_line (Refused fault)

-- The card of a frame where no test fits, else the refusal.
abbrev pub given : Option Fault → List ℕ → Result Values Fault
given None frame = Ok (values_in frame)
given (Some fault) frame = Err fault

abbrev pub card_line : List ℕ → List ℕ
card_line line = reply_line (first (card_tests line))

abbrev pub card_on : List ℕ → Result Values Fault
card_on line = given (first (card_tests line)) (bytes_of line)
