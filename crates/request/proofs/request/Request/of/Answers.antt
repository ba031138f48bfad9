use Rattle.std.proofs.Common.{refl, ap₂}
use Rattle.reading.proofs.Handed.{handed_on}
use Rattle.frame.specs.Held.{held}
use Rattle.request.specs.declared.kind.RequestKind.TheVariants.{Post, Correct}
use Rattle.request.specs.Asked.{post, correct}
use Rattle.request.proofs.Served.{reading_tested}
use Rattle.request.proofs.request.Request.of.Goals as goal

pub returns-in_err-reading-in-Post-clause-refused : goal.returns-in_err-reading-in-Post-clause-refused
returns-in_err-reading-in-Post-clause-refused c =
    rw (handed_on c.from_residual-in_err-reading-in-Post.ensures.1) (reading_tested c.args.kind Post (held c.args.frame.now) _ c.in-Post.is refl c.in_err-reading-in-Post.ensures.refused)

pub returns-in_err-reading-in-Correct-clause-refused : goal.returns-in_err-reading-in-Correct-clause-refused
returns-in_err-reading-in-Correct-clause-refused c =
    rw (handed_on c.from_residual-in_err-reading-in-Correct.ensures.1) (reading_tested c.args.kind Correct (held c.args.frame.now) _ c.in-Correct.is refl c.in_err-reading-in-Correct.ensures.refused)

pub returns-in_ok-reading-in-Post-clause-refused : goal.returns-in_ok-reading-in-Post-clause-refused
returns-in_ok-reading-in-Post-clause-refused c = reading_tested c.args.kind Post (held c.args.frame.now) _ c.in-Post.is refl c.in_ok-reading-in-Post.ensures.refused

pub returns-in_ok-reading-in-Post-clause-value : goal.returns-in_ok-reading-in-Post-clause-value
returns-in_ok-reading-in-Post-clause-value c = rw c.in-Post.is (ap₂ post c.in_ok-at.ensures.value c.in_ok-reading-in-Post.ensures.value)

pub returns-in_ok-reading-in-Correct-clause-refused : goal.returns-in_ok-reading-in-Correct-clause-refused
returns-in_ok-reading-in-Correct-clause-refused c = reading_tested c.args.kind Correct (held c.args.frame.now) _ c.in-Correct.is refl c.in_ok-reading-in-Correct.ensures.refused

pub returns-in_ok-reading-in-Correct-clause-value : goal.returns-in_ok-reading-in-Correct-clause-value
returns-in_ok-reading-in-Correct-clause-value c = rw c.in-Correct.is (ap₂ correct c.in_ok-at.ensures.value c.in_ok-reading-in-Correct.ensures.value)
