use Rattle.std.proofs.Common.{◌≡◌, true, false, leb, get_or, sym, ap, ◌∙◌}
use Rattle.std.specs.List.{list_all}
use Rattle.std.proofs.lemmas.Bool.{leb-true}
use Rattle.frame.proofs.Bytes.{slice_below}
use Rattle.record.specs.Rows.{lawful_row}
use Rattle.slot.specs.Layout.{slot_bytes}
use Rattle.slot.specs.Reading.{row_in}
use Rattle.slot.proofs.Rows.{slot_again}
use Rattle.slot.proofs.Zeros.{is_zero, zeros_vacant}
use Rattle.slot.proofs.Verdicts.{zeros_row, zeros_lawful, row_lawful, neither}
use Rattle.slot.proofs.slot.decode.Goals as goal

pub returns-then-all_zero : goal.returns-then-all_zero
returns-then-all_zero c =
    let slot = c.args.slot.now in
    let whole = c.in-Ok.ensures.1 in
    let zero : list_all is_zero slot ≡ true = ap (list_all is_zero) (sym whole.same) ∙ sym c.if-all_zero.ensures in
    record { refused = zeros_lawful slot whole.long zero; value = zeros_row slot whole.long zero; spelling = zeros_vacant slot whole.long zero }

pub returns-in-Err-clause-refused : goal.returns-in-Err-clause-refused
returns-in-Err-clause-refused c =
    let slot = c.args.slot.now in
    let whole = c.in-Ok.ensures.1 in
    let some : list_all is_zero slot ≡ false = ap (list_all is_zero) (sym whole.same) ∙ sym c.if-all_zero.ensures in
    let low : leb (get_or slot 0 0) 2 ≡ true = ap (λ s. leb (get_or s 0 0) 2) (sym whole.same) ∙ sym c.in_ok-row_in.ensures.refused in
    let row = c.in_ok-row_in.ensures.value ∙ ap row_in whole.same in
    let unlawful = ap lawful_row (sym row) ∙ c.in-Err.ensures.cases in
    neither slot whole.long low (slice_below slot c.type_inv.slot) some unlawful

pub returns-in-Ok-try_from : goal.returns-in-Ok-try_from
returns-in-Ok-try_from c =
    let slot = c.args.slot.now in
    let whole = c.in-Ok.ensures.1 in
    let low : leb (get_or slot 0 0) 2 ≡ true = ap (λ s. leb (get_or s 0 0) 2) (sym whole.same) ∙ sym c.in_ok-row_in.ensures.refused in
    let row = c.in-Ok-try_from.ensures.cases ∙ c.in_ok-row_in.ensures.value ∙ ap row_in whole.same in
    let lawful = ap lawful_row (sym row) ∙ c.in-Ok-try_from.kept.lawful in
    record {
      refused = row_lawful slot whole.long low lawful;
      value = row;
      spelling = sym (ap slot_bytes row ∙ slot_again slot whole.long (leb-true (get_or slot 0 0) 2 low) (slice_below slot c.type_inv.slot));
    }
