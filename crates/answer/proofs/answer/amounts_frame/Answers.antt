use Rattle.std.proofs.Common.{pos, ap, ◌∙◌, ap₂, rules}
use Rattle.std.specs.List.{flat_map}
use Rattle.std.proofs.lemmas.List.Folds.{flat_map-map}
use Rattle.frame.specs.Seal.{framed}
use Rattle.answer.specs.Amounts.{amount_bytes}
use Rattle.reading.proofs.Made.{map_same}
use Rattle.answer.proofs.answer.amounts_frame.Goals as goal

pub returns : goal.returns
returns c =
    let amounts = c.args.amounts.now in
    let bytes = map_same c.map-payload.ensures.items amount_bytes (λ z y f' call. search rules) (pos 0) c.told-amounts in
    let payload = c.as_flattened.ensures.value ∙ ap (flat_map (λ x. x)) bytes ∙ flat_map-map (λ x. x) amount_bytes amounts in
    c.new.ensures ∙ ap₂ framed c.from.ensures payload
