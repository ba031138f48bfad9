use Rattle.std.proofs.Common.{◌≡◌, drop}
use Rattle.frame.specs.Held.{held}
use Rattle.request.specs.Tests.{limit_test}
use Rattle.request.proofs.limit.check_limits.Given as goal

abbrev pub invariant-loop-limit : goal.invariant-loop-limit
invariant-loop-limit l = limit_test (drop l.limit-index l.limits) (held l.frame) ≡ limit_test l.limits (held l.frame)
