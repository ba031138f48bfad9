use Rattle.std.proofs.Common.{arith}
use Rattle.oregon_account.proofs.exchange.serve_oregon.Goals as goal

pub returns-clause-low_income : goal.returns-clause-low_income
returns-clause-low_income g c h ran at = (c.serve.ensures.sums h ran).1.sums at 12 (omega arith)
