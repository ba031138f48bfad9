use Rattle.std.proofs.Common.{refl, ap, ◌∙◌}
use Rattle.oregon_card.specs.Reply.{values}
use Rattle.oregon.specs.Laws.{weight_served}
use Rattle.oregon.specs.Sheet.{metered}
use Rattle.oregon.proofs.oregon.OregonBook.weight.Goals as goal

pub returns-in-Ok : goal.returns-in-Ok
returns-in-Ok c =
    let card = values c.args.self.now.card in
    let served = c.in-Ok.ensures in
    weight_served card _ _ c.args.line _ _ refl served.refused served.schedule
    (c.metered.ensures ∙ ap (λ e. metered card c.in-Ok.service.schedule e c.args.line) served.entry)
