use Rattle.std.proofs.Common.{◌+◌, ◌*◌, rules}
use Rattle.frame.specs.Held.{held}
use Rattle.frame.specs.Seal.{field}
use Rattle.reading.proofs.Made.{from_fn_same}
use Rattle.request.proofs.fields.ReadingFrame.earlier.Goals as goal

pub returns : goal.returns
returns c =
    from_fn_same c.from_fn.ensures.items (λ i. field (held c.args.self.now.frame.now) (33 + 2 * i) 2) (λ i kw f' below call. search rules)
