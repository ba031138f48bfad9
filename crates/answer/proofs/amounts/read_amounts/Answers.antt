use Rattle.std.proofs.Common.{[]}
use Rattle.reading.proofs.Handed.{handed_on}
use Rattle.frame.specs.Held.{held}
use Rattle.frame.proofs.Firsts.{line_stops, payload_stops}
use Rattle.answer.specs.Kinds.{amounts_length}
use Rattle.answer.proofs.Reading.{length_of, one_line}
use Rattle.answer.proofs.amounts.read_amounts.Goals as goal

pub returns-in_err-frame-clause-refused : goal.returns-in_err-frame-clause-refused
returns-in_err-frame-clause-refused c =
    rw (handed_on c.from_residual.ensures.1) (line_stops amounts_length (λ _. []) c.args.line.now _ c.in_err-frame.ensures.refused)

pub returns-in_err-expect-clause-refused : goal.returns-in_err-expect-clause-refused
returns-in_err-expect-clause-refused c =
    let read = c.in_ok-frame.ensures in
    let frame = held c.in_ok-frame.frame in
    let served = length_of c.kind.result _ frame c.kind.ensures c.in_ok-kind.ensures.value in
    rw (handed_on c.from_residual-in_err-expect.ensures.1) (payload_stops amounts_length (λ _. []) c.args.line.now frame read.value read.refused 52 served _ c.in_err-expect.ensures.refused)

pub returns-clause-spelling : goal.returns-clause-spelling
returns-clause-spelling c =
    let read = c.in_ok-frame.ensures in
    let whole = c.in_ok-expect.ensures in
    one_line c.args.line.now _ _ read.value read.spelling whole.len whole.whole c.kind.ensures c.in_ok-kind.ensures.value c.take_amounts.ensures
