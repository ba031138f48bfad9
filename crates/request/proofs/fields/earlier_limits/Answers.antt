use Rattle.std.proofs.Common.{◌+◌, ◌*◌, rules}
use Rattle.reading.proofs.Made.{from_fn_same}
use Rattle.request.specs.Fields.{limit}
use Rattle.request.proofs.fields.earlier_limits.Goals as goal

pub returns : goal.returns
returns c = from_fn_same c.from_fn.ensures.items (λ i. limit (33 + 2 * i) 2 9999) (λ i l f' below call. search rules)
