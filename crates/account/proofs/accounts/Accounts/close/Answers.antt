use Rattle.record.specs.Rows.{holding}
use Rattle.account.specs.Readings.{found}
use Rattle.account.proofs.Requests.{close_responds}
use Rattle.account.proofs.accounts.Accounts.close.Goals as goal

pub returns-clause-responds : goal.returns-clause-responds
returns-clause-responds g c b =
    let held = c.find.result in
    let closed = c.in_ok-closed.ensures in
    close_responds b (g.S.Store.meaning c.args.self.now.store.now) (g.S.Store.meaning c.keep.new.self) c.args.at (found held.kept) c.find.ensures.value closed.refused (holding c.in_ok-closed.closed.row) closed.value c.in_ok-keep.ensures
