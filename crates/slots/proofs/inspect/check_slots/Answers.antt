use Rattle.std.proofs.Common.{◌≡◌, not, sym, ap, ◌∙◌, rules, tests}
use Rattle.std.proofs.lemmas.Iterator.{YieldsList-from_slice}
use Rattle.std.proofs.lemmas.Iterator.Search.{position_from_yields_List}
use Rattle.std.specs.List.{position}
use Rattle.std.specs.Option.{option_map}
use Rattle.slot.specs.Reading.{lawful_slot}
use Rattle.slots.specs.declared.flaw.Flaw.TheVariants.{Unlawful}
use Rattle.slots.specs.Cuts.{slots_of}
use Rattle.slots.proofs.Places.{first_unlawful}
use Rattle.slots.proofs.inspect.check_slots.Goals as goal

pub returns-in-Some : goal.returns-in-Some
returns-in-Some c =
    let slots = slots_of c.args.bytes.now in
    let first : c.position.result ≡ position (λ slot. not (lawful_slot slot)) slots = position_from_yields_List (λ slot. not (lawful_slot slot)) _ _ c.position.result c.position.ensures.ran (YieldsList-from_slice slots (cc)) (λ x b q k. search (rules, tests)) in
    ap (option_map Unlawful) (sym c.in-Some.is ∙ first) ∙ first_unlawful slots

pub returns-in-None : goal.returns-in-None
returns-in-None c =
    let slots = slots_of c.args.bytes.now in
    let first : c.position.result ≡ position (λ slot. not (lawful_slot slot)) slots = position_from_yields_List (λ slot. not (lawful_slot slot)) _ _ c.position.result c.position.ensures.ran (YieldsList-from_slice slots (cc)) (λ x b q k. search (rules, tests)) in
    ap (option_map Unlawful) (sym c.in-None.is ∙ first) ∙ first_unlawful slots
