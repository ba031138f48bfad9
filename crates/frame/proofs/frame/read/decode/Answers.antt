use Rattle.std.proofs.Common.{◌/◌, ◌<◌, length, ◌∙◌, arith, length-set}
use Rattle.reading.proofs.Handed.{handed_on}
use Rattle.frame.proofs.Decoding.{high_stops, low_stops, both_pass, byte_more}
use Rattle.frame.proofs.frame.read.decode.Goals as goal

pub returns-in_err-high-clause-refused : goal.returns-in_err-high-clause-refused
returns-in_err-high-clause-refused c =
    rw (handed_on c.from_residual.ensures.1)
    (high_stops c.args.line.now c.as_chunks.result.0.now c.loop-i.i c.as_chunks.ensures.front (omega arith) c.loop-i.invariant.0 _ c.in_err-high.ensures.refused)

pub returns-in_err-low-clause-refused : goal.returns-in_err-low-clause-refused
returns-in_err-low-clause-refused c =
    rw (handed_on c.from_residual-in_err-low.ensures.1)
    (low_stops c.args.line.now c.as_chunks.result.0.now c.loop-i.i c.as_chunks.ensures.front (omega arith) c.loop-i.invariant.0 c.in_ok-high.high _ c.in_ok-high.ensures.value c.in_err-low.ensures.refused)

pub loop-i-preserved : goal.loop-i-preserved
loop-i-preserved c =
    let line = c.args.line.now in
    let pairs = c.as_chunks.result.0.now in
    let i = c.loop-i.i in
    let front = c.as_chunks.ensures.front in
    let more : i < length line / 2 = omega arith in
    let room : i < length c.loop-i.bytes = omega (arith, c.loop-i.invariant.2, c.requires) in
    let high = c.in_ok-high.ensures.value in
    let low = c.in_ok-low.ensures.value in (
      both_pass line pairs i front more c.loop-i.invariant.0 _ _ high low,
      byte_more line pairs i front more c.loop-i.bytes _ _ high low room c.loop-i.invariant.1,
      length-set c.loop-i.bytes i _ ∙ c.loop-i.invariant.2,
    )
