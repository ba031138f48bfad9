use Rattle.std.proofs.Common.{◌≡◌, not, Some, ap, ◌∙◌, subst}
use Rattle.std.proofs.lemmas.Result.{IfOk-weaker}
use Rattle.reading.proofs.Handed.{handed_on}
use Rattle.reading.specs.declared.fault.Fault.TheVariants.{PayloadLength}
use Rattle.frame.specs.Held.{held}
use Rattle.frame.specs.Line.{bytes_of}
use Rattle.frame.specs.Seal.{carries}
use Rattle.reading.specs.First.{when}
use Rattle.frame.proofs.Firsts.{line_stops, payload_stops, fields_decide}
use Rattle.request.specs.Asked.{asked, asked_in, requested}
use Rattle.request.specs.Kinds.{request_length, payload_length}
use Rattle.request.specs.Tests.{request_field_tests}
use Rattle.request.proofs.Served.{length_of, fields_of, requested_as}
use Rattle.request.proofs.request.Request.read.Goals as goal

pub returns-in_err-frame : goal.returns-in_err-frame
returns-in_err-frame c =
    rw (handed_on c.from_residual.ensures.1)
    record {
      refused = line_stops request_length request_field_tests c.args.line.now _ c.in_err-frame.ensures.refused;
      value = tt;
    }

pub returns-in_err-expect : goal.returns-in_err-expect
returns-in_err-expect c =
    let f = held c.in_ok-frame.frame in
    let read = c.in_ok-frame.ensures in
    let kind = c.in_ok-kind.kind in
    rw (handed_on c.from_residual-in_err-expect.ensures.1)
    record {
      refused =
          payload_stops request_length request_field_tests c.args.line.now f read.value read.refused (payload_length kind)
          (length_of c.kind.result kind f c.kind.ensures c.in_ok-kind.ensures.value) _
          (c.in_err-expect.ensures.refused ∙ ap (λ n. when (not (carries n f)) PayloadLength) c.payload.ensures);
      value = tt;
    }

pub returns : goal.returns
returns c =
    let f = held c.in_ok-frame.frame in
    let read = c.in_ok-frame.ensures in
    let kind = c.in_ok-kind.kind in
    let named = c.in_ok-kind.ensures.value in
    record {
      refused =
          fields_decide request_length request_field_tests c.args.line.now f read.value read.refused (payload_length kind)
          (length_of c.kind.result kind f c.kind.ensures named) _
          (c.in_ok-expect.ensures.refused ∙ ap (λ n. when (not (carries n f)) PayloadLength) c.payload.ensures)
          (fields_of c.kind.result kind f _ c.kind.ensures named c.of.ensures.refused);
      value =
          IfOk-weaker c.of.result (λ q. asked q ≡ asked_in kind f) (λ q. requested (bytes_of c.args.line.now) ≡ Some (asked q))
          (λ q h. subst (λ l. requested l ≡ Some (asked q)) read.value (requested_as c.kind.result kind f (asked q) c.kind.ensures named h))
          c.of.ensures.value;
    }
