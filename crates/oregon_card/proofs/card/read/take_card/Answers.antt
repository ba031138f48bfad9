use Rattle.std.proofs.Common.{Option, Ok, ap, ◌∙◌}
use Rattle.reading.specs.declared.fault.Fault.{Fault}
use Rattle.frame.specs.Line.{bytes_of}
use Rattle.oregon_card.specs.Reply.{given}
use Rattle.oregon_card.proofs.card.read.take_card.Goals as goal
use Rattle.oregon_card.proofs.card.read.take_card.Goals.{in-Ok, in-Err}

pub returns-clause-card : goal.returns-clause-card
returns-clause-card c =
    let by = λ (test : Option Fault). given test (bytes_of c.args.line.now) in
    elim c.match-card.branch [
      | in-Ok w ↦ rw (w.card-is, w.in-Ok.is) (ap Ok w.in-Ok.ensures.value ∙ ap by w.in-Ok.ensures.refused)
      | in-Err w ↦ rw w.card-is (ap by w.in-Err.ensures.refused)
    ]
