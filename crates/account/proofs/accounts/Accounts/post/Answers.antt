use Rattle.std.proofs.Common.{rules}
use Rattle.account.proofs.Requests.{post_responds}
use Rattle.account.proofs.accounts.Accounts.post.Goals as goal

pub returns-clause-responds : goal.returns-clause-responds
returns-clause-responds g c =
    post_responds (g.B.Book.meaning c.args.self.now.book.now) (g.S.Store.meaning c.args.self.now.store.now) _ c.args.at c.args.reading.now.entry (g.S.Store.lawful c.args.self.now.store.now).apart (search rules) c.edit.result c.edit.ensures.edits (λ before x gave. search rules)
