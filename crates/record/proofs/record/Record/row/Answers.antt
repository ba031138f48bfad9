use Rattle.record.proofs.Pinned.{one_row}
use Rattle.record.proofs.record.Record.row.Goals as goal

pub returns-clause-only : goal.returns-clause-only
returns-clause-only c other h e = one_row other c.args.self.now.row h c.args.self.now.lawful e
