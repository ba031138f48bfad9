-- What the reply to a line says in amounts.
use Rattle.std.proofs.Common.{◌≡◌, List, length, ℤ, Some, None, Ok, Err, Option, refl, w32, SFits}
use Rattle.std.specs.List.{AllByRecursion as All}
use Rattle.reading.specs.First.{first}
use Rattle.reading.specs.Statement.{lines}
use Rattle.reading.specs.declared.fault.Fault.{Fault}
use Rattle.answer.specs.Amounts.{amounts_on, amounts_tests}
use Rattle.answer.specs.Answers.{answer_line}
use Rattle.answer.specs.declared.answer.Answer.TheVariants.{Amounts, Closed, Refused}
use Rattle.answer.specs.declared.kind.AmountsKind.{AmountsKind}
use Rattle.answer.proofs.Reading.{read_back}
use Rattle.account.specs.Exchange.{said, said_if}

no_kind : (test : Option Fault) (amounts : List ℤ) → said_if test None amounts ≡ None
no_kind None amounts = refl
no_kind (Some fault) amounts = refl

-- A fault that comes back unwritten says no amounts.
pub unwritten_says : (fault : Fault) → said (Err fault) ≡ None
unfolding said
unwritten_says fault = refl

-- Nor does a refusal, nor the answer to a close.
pub refused_says : (fault : Fault) → said (Ok (answer_line (Refused fault))) ≡ None
unfolding said
refused_says fault = no_kind (first (amounts_tests (answer_line (Refused fault)))) (amounts_on (answer_line (Refused fault)))

pub closed_says : said (Ok (answer_line Closed)) ≡ None
unfolding said
closed_says = no_kind (first (amounts_tests (answer_line Closed))) (amounts_on (answer_line Closed))

-- A line of amounts says its kind and them.
pub amounts_say : (kind : AmountsKind) (amounts : List ℤ) → length amounts ≡ lines → All (SFits w32) amounts → said (Ok (answer_line (Amounts kind amounts))) ≡ Some (record { kind = kind; amounts = amounts })
unfolding said
amounts_say kind amounts count fit =
    let back = read_back kind amounts count fit in
    rw (back.accepted, back.same_kind, back.same)
