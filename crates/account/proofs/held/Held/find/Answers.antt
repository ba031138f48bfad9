use Rattle.std.proofs.Common.{◌≡◌, rules, sym, subst}
use Rattle.store.specs.Meaning.{look_up}
use Rattle.account.specs.Readings.{Of, found}
use Rattle.account.proofs.Requests.{own}
use Rattle.account.proofs.held.Held.find.Goals as goal

pub invariant_of-result : goal.invariant_of-result
invariant_of-result g c =
    let held = (g.S.Store.meaning c.args.store.now).held in
    let is : found c.then_some-kept.result ≡ look_up c.args.at held = search rules in
    record { own = subst (Of c.args.at) (sym is) (own c.args.at held) }
