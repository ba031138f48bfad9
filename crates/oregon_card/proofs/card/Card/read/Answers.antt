use Rattle.std.proofs.Common.{ap, ◌∙◌}
use Rattle.reading.proofs.Handed.{handed_on}
use Rattle.frame.specs.Held.{held}
use Rattle.frame.proofs.Firsts.{line_stops, payload_stops, fields_decide}
use Rattle.oregon_card.specs.Layout.{card_length, card_field_tests, values_in}
use Rattle.oregon_card.specs.Rates.{supply_rates, low_income_rates}
use Rattle.oregon_card.proofs.Cards.{card_named, cap_stops, same_values}
use Rattle.oregon_card.proofs.card.Card.read.Goals as goal

pub returns-in_err-frame-clause-refused : goal.returns-in_err-frame-clause-refused
returns-in_err-frame-clause-refused c =
    rw (handed_on c.from_residual.ensures.1) (line_stops card_length card_field_tests c.args.line.now _ c.in_err-frame.ensures.refused)

pub returns-in_err-expect-clause-refused : goal.returns-in_err-expect-clause-refused
returns-in_err-expect-clause-refused c =
    let f = held c.in_ok-frame.frame in
    let read = c.in_ok-frame.ensures in
    rw (handed_on c.from_residual-in_err-expect.ensures.1)
    (payload_stops card_length card_field_tests c.args.line.now f read.value read.refused 32
    (card_named c.kind.result f c.kind.ensures c.if-kind-ne-KIND.false) _ c.in_err-expect.ensures.refused)

pub returns-then-cap-gt99999999-clause-refused : goal.returns-then-cap-gt99999999-clause-refused
returns-then-cap-gt99999999-clause-refused c =
    let f = held c.in_ok-frame.frame in
    let read = c.in_ok-frame.ensures in
    fields_decide card_length card_field_tests c.args.line.now f read.value read.refused 32
    (card_named c.kind.result f c.kind.ensures c.if-kind-ne-KIND.false) _ c.in_ok-expect.ensures.refused
    (cap_stops c.number-cap.result f c.number-cap.ensures.value c.if-cap-gt99999999.true)

pub returns-clause-value : goal.returns-clause-value
returns-clause-value c =
    same_values _ _ _ _ _ _ c.number-cap.ensures.value (ap supply_rates c.prices.ensures.value) (ap low_income_rates c.prices.ensures.value)
    ∙ ap values_in c.in_ok-frame.ensures.value
