use Rattle.std.proofs.Common.{◌≡◌, true, is_some, rules, ap, ◌∙◌}
use Rattle.answer.specs.declared.answer.Answer.TheVariants.{Amounts}
use Rattle.answer.specs.declared.kind.AmountsKind.TheVariants.{Account}
use Rattle.request.specs.Asked.{account}
use Rattle.store.specs.Meaning.{look_up}
use Rattle.account.specs.Readings.{readings_of}
use Rattle.account.specs.Reply.{settlements}
use Rattle.account.proofs.Requests.{served, account_served, unchanged}
use Rattle.account.proofs.accounts.Accounts.account.Goals as goal

pub returns : goal.returns
returns g c =
    let b = g.B.Book.meaning c.args.self.now.book.now in
    let s = g.S.Store.meaning c.args.self.now.store.now in
    let is = c.find-held.ensures.value in
    let here : is_some (look_up c.args.at s.held) ≡ true = search rules in
    served b s s (account c.args.at) _ (account_served b s s c.args.at here)
    (ap (Amounts Account) (c.settlements.ensures ∙ ap (settlements b) (c.readings.ensures ∙ ap readings_of is))) (unchanged s)
