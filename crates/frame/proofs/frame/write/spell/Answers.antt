use Rattle.std.proofs.Common.{◌+◌, ◌*◌, set, ap, ◌∙◌, ap₂}
use Rattle.std.proofs.lemmas.List.{take_all}
use Rattle.frame.specs.Line.{spelled}
use Rattle.frame.specs.Written.{fronted}
use Rattle.frame.proofs.Spelling.{spell_more}
use Rattle.frame.proofs.frame.write.spell.Goals as goal

pub loop-i-preserved : goal.loop-i-preserved
loop-i-preserved c =
    let i = c.loop-i.i in
    ap₂ (λ high low. set (set c.loop-i.buffer (2 * i) high) (2 * i + 1) low) c.digit_of.ensures c.digit_of-in-loop-i.ensures
    ∙ spell_more c.args.bytes.now c.args.buffer.now c.loop-i.buffer i c.loop-i-test.true c.requires c.loop-i.invariant

pub returns : goal.returns
returns c =
    let all = take_all c.loop-i.i c.args.bytes.now c.loop-i-test.false in
    c.loop-i.invariant ∙ ap (λ bs. fronted (spelled bs) c.args.buffer.now) all
