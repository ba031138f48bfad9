use Rattle.std.proofs.Common.{rules, pos}
use Rattle.book.specs.Settled.{settled}
use Rattle.reading.proofs.Made.{from_fn_same}
use Rattle.account.proofs.readings.Readings.settlements.Goals as goal

pub returns : goal.returns
returns g c = from_fn_same c.from_fn.ensures.items (λ line. pos (settled (g.B.Book.meaning c.args.book.now) c.args.self.now.entries.now line)) (λ line y f' below call. search rules)
