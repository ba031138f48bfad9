use Rattle.std.proofs.Common.{◌∙◌}
use Rattle.std.proofs.lemmas.Bool.{both_ways}
use Rattle.reading.proofs.Handed.{handed_on}
use Rattle.reading.specs.Limits.{lawful}
use Rattle.frame.specs.Held.{held}
use Rattle.frame.proofs.Firsts.{stops}
use Rattle.request.specs.Fields.{reading_limits}
use Rattle.request.specs.Tests.{limit_test, excess_test}
use Rattle.request.proofs.Readings.{within, off_hours_exceed, peak_exceeds, nothing_exceeds, lawful_in}
use Rattle.request.proofs.fields.ReadingFrame.reading.Goals as goal

pub returns-in_err-check_limits : goal.returns-in_err-check_limits
returns-in_err-check_limits c =
    let frame = held c.args.self.now.frame.now in
    rw (handed_on c.from_residual.ensures.1)
    record { refused = stops (limit_test reading_limits frame) (excess_test frame) _ c.in_err-check_limits.ensures; value = tt }

pub entry-entry-requires : goal.entry-entry-requires
entry-entry-requires c = (within (held c.args.self.now.frame.now) c.in_ok-check_limits.ensures).demand

pub returns-then-entry : goal.returns-then-entry
returns-then-entry c =
    record {
      refused = off_hours_exceed (held c.args.self.now.frame.now) c.entry-entry.result c.entry-entry.ensures c.in_ok-check_limits.ensures c.if-entry.true;
      value = tt;
    }

pub returns-then-entry-2 : goal.returns-then-entry-2
returns-then-entry-2 c =
    record {
      refused = peak_exceeds (held c.args.self.now.frame.now) c.entry-entry.result c.entry-entry.ensures c.in_ok-check_limits.ensures c.if-entry.false c.if-entry-2.true;
      value = tt;
    }

pub unreachable-requires : goal.unreachable-requires
unreachable-requires c =
    both_ways (lawful c.entry-entry.result) c.in_default.ensures.cases
    (lawful_in (held c.args.self.now.frame.now) c.entry-entry.result c.entry-entry.ensures c.in_ok-check_limits.ensures c.if-entry.false c.if-entry-2.false)

pub returns : goal.returns
returns c =
    record {
      refused = nothing_exceeds (held c.args.self.now.frame.now) c.entry-entry.result c.entry-entry.ensures c.in_ok-check_limits.ensures c.if-entry.false c.if-entry-2.false;
      value = c.in-Ok.ensures.cases ∙ c.entry-entry.ensures;
    }
