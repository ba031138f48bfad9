use Rattle.std.proofs.Common.{◌≡◌, ◌+◌, ◌-◌, ℕ, List, length, take, drop, Some, None, ap, ◌∙◌, rules, tests}
use Rattle.std.proofs.lemmas.Iterator.{YieldsList-from_slice}
use Rattle.std.proofs.lemmas.Iterator.Search.{position_from_yields_List}
use Rattle.std.proofs.lemmas.List.{take_rest}
use Rattle.std.specs.Option.{option_map}
use Rattle.slot.specs.Reading.{row_in}
use Rattle.slots.specs.Cuts.{slots_of}
use Rattle.slots.proofs.Places.{first_from}
use Rattle.store.proofs.Searching.{is_free}
use Rattle.slots.proofs.cut.vacancy_from.Goals as goal

pub returns-in_err-i : goal.returns-in_err-i
returns-in_err-i c =
    let from = c.args.from in
    let later = c.in_ok-later.later.now in
    let rest = c.in_ok-later.ensures.lookup.0.2 ∙ ap (λ (slots : List (List ℕ)). take (length slots - from) (drop from slots)) c.slots_of.ensures.value ∙ take_rest (slots_of c.args.bytes.now) from in
    let first = position_from_yields_List (λ slot. is_free (row_in slot)) _ _ c.position.result c.position.ensures.ran (YieldsList-from_slice later (cc)) (λ x b q k. search (rules, tests)) in
    let none : None ≡ c.position.result = search rules in
    let result : c.from_residual-in_err-i.result ≡ None = search rules in
    result ∙ ap (option_map (λ k. from + k)) none ∙ first_from is_free c.args.bytes.now from later c.position.result rest first

pub returns : goal.returns
returns c =
    let from = c.args.from in
    let later = c.in_ok-later.later.now in
    let rest = c.in_ok-later.ensures.lookup.0.2 ∙ ap (λ (slots : List (List ℕ)). take (length slots - from) (drop from slots)) c.slots_of.ensures.value ∙ take_rest (slots_of c.args.bytes.now) from in
    let first = position_from_yields_List (λ slot. is_free (row_in slot)) _ _ c.position.result c.position.ensures.ran (YieldsList-from_slice later (cc)) (λ x b q k. search (rules, tests)) in
    let some : Some c.in_ok-i.i ≡ c.position.result = search rules in
    ap (option_map (λ k. from + k)) some ∙ first_from is_free c.args.bytes.now from later c.position.result rest first
