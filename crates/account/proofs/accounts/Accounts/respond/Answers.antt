use Rattle.reading.proofs.Handed.{handed_on}
use Rattle.request.specs.Asked.{post, correct, cancel, close, account}
use Rattle.account.proofs.Verdicts.{month_within, line_refused, line_decides}
use Rattle.account.proofs.accounts.Accounts.respond.Goals as goal

pub returns-in_err-at-clause-responds : goal.returns-in_err-at-clause-responds
returns-in_err-at-clause-responds g c = rw (handed_on c.from_residual.ensures.1) (line_refused _ _ c.args.line.now _ c.in_err-at.ensures.refused)

pub post-requires : goal.post-requires
post-requires g c = month_within c.args.line.now (post c.in-Post.at c.in-Post.reading.entry) c.in_ok-at.ensures.refused (rw c.in-Post.is at c.in_ok-at.ensures.value)

pub returns-in-Post-clause-responds : goal.returns-in-Post-clause-responds
returns-in-Post-clause-responds g c = line_decides _ _ _ c.args.line.now (post c.in-Post.at c.in-Post.reading.entry) _ c.in_ok-at.ensures.refused (rw c.in-Post.is at c.in_ok-at.ensures.value) c.post.ensures.responds

pub returns-in-Correct-clause-responds : goal.returns-in-Correct-clause-responds
returns-in-Correct-clause-responds g c = line_decides _ _ _ c.args.line.now (correct c.in-Correct.at c.in-Correct.reading.entry) _ c.in_ok-at.ensures.refused (rw c.in-Correct.is at c.in_ok-at.ensures.value) c.correct.ensures.responds

pub returns-in-Cancel-clause-responds : goal.returns-in-Cancel-clause-responds
returns-in-Cancel-clause-responds g c = line_decides _ _ _ c.args.line.now (cancel c.in-Cancel.at c.in-Cancel.meter) _ c.in_ok-at.ensures.refused (rw c.in-Cancel.is at c.in_ok-at.ensures.value) c.cancel.ensures.responds

pub returns-in-Close-clause-responds : goal.returns-in-Close-clause-responds
returns-in-Close-clause-responds g c = line_decides _ _ _ c.args.line.now (close c.in-Close.at) _ c.in_ok-at.ensures.refused (rw c.in-Close.is at c.in_ok-at.ensures.value) (c.close.ensures.responds _)

pub returns-in-Account-clause-responds : goal.returns-in-Account-clause-responds
returns-in-Account-clause-responds g c = line_decides _ _ _ c.args.line.now (account c.in-Account.at) _ c.in_ok-at.ensures.refused (rw c.in-Account.is at c.in_ok-at.ensures.value) c.account.ensures
