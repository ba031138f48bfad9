use Rattle.std.proofs.Common.{◌≡◌, ◌*◌, ◌^◌, ◌≤◌, take, sum_by}
use Rattle.account.proofs.readings.Readings.weight.Given as goal

abbrev pub invariant-loop-entry : goal.invariant-loop-entry
invariant-loop-entry g l =
    (l.sum ≡ sum_by (λ e. (g.B.Book.meaning l.book).weight e l.line) (take l.entry-index l.self.entries.now))
    × (l.sum ≤ l.entry-index * 10 ^ 15)
