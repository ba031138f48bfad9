use Rattle.std.proofs.Common.{rules}
use Rattle.account.proofs.Served.{answer_made}
use Rattle.account.proofs.accounts.Accounts.reply.Goals as goal

pub returns-clause-value : goal.returns-clause-value
returns-clause-value g c = answer_made (g.B.Book.meaning c.args.self.now.book.now) (g.S.Store.meaning c.args.self.now.store.now).held _ c.respond.result c.unwrap_or_else.result (search rules) c.respond.ensures.responds.answers
