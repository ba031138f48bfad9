use Rattle.std.proofs.Common.{length, sym, ap, ◌∙◌, arith}
use Rattle.frame.specs.Line.{spelled}
use Rattle.frame.specs.Written.{fronted}
use Rattle.frame.specs.Held.{held}
use Rattle.frame.proofs.Spelling.{length_spelled}
use Rattle.frame.proofs.Tests.{reads_back, buffer_room}
use Rattle.frame.proofs.frame.Frame.write.Goals as goal

pub returns-clause-written : goal.returns-clause-written
returns-clause-written c =
    let bytes = c.bytes-bytes.result.now in
    let is = c.bytes-bytes.ensures.value in
    let len = ap length (sym is) ∙ c.bytes-bytes.ensures.len in
    let most = c.args.self.now.most in
    record {
      refused = buffer_room (length c.args.buffer.now) c.if-buffer-lt-LINE.false;
      count = sym (length_spelled bytes) ∙ ap (λ l. length (spelled l)) is;
      bound = omega arith;
      kept = c.spell.ensures ∙ ap (λ l. fronted (spelled l) c.args.buffer.now) is;
    }

pub returns-clause-reads_back : goal.returns-clause-reads_back
returns-clause-reads_back c =
    let frame = c.args.self.now in
    let len = ap length (sym c.bytes-bytes.ensures.value) ∙ c.bytes-bytes.ensures.len in
    reads_back (held frame) (omega (arith, len)) (omega (arith, len)) frame.fit frame.checked
