use Rattle.std.proofs.Common.{rules}
use Rattle.account.proofs.Served.{served_by}
use Rattle.account.proofs.Stand.{runs_stand}
use Rattle.account.proofs.exchange.serve.Goals as goal

pub returns-in_err-check_buffer-clause-sums : goal.returns-in_err-check_buffer-clause-sums
returns-in_err-check_buffer-clause-sums g c =
    let b = g.B.Book.meaning c.args.book.now in
    let s = g.S.Store.meaning c.args.store.now in
    let lawful = g.S.Store.lawful c.args.store.now in
    runs_stand b (g.met.B.Book.lawful c.args.book.now) s s lawful lawful _ (served_by b s s c.args.line.now c.args.answer.now c.args.answer.now _ (search rules) (search rules))

pub returns-clause-sums : goal.returns-clause-sums
returns-clause-sums g c =
    let b = g.B.Book.meaning c.args.book.now in
    let s = g.S.Store.meaning c.args.store.now in
    runs_stand b (g.met.B.Book.lawful c.args.book.now) s _ (g.S.Store.lawful c.args.store.now) (g.S.Store.lawful _) _ (served_by b s _ c.args.line.now c.args.answer.now c.write.new.buffer c.write.result (search rules) (search rules))
