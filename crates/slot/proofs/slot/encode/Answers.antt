use Rattle.std.proofs.Common.{◌≡◌, true, refl, ap, ◌∙◌}
use Rattle.std.specs.List.{flat_map}
use Rattle.std.proofs.lemmas.Bool.{or_right}
use Rattle.std.proofs.lemmas.List.Folds.{flat_map-map}
use Rattle.record.specs.Rows.{is_vacant, lawful_row, tidy}
use Rattle.slot.specs.Layout.{entry_bytes, slot_bytes}
use Rattle.slot.specs.Reading.{row_in, lawful_slot}
use Rattle.slot.proofs.Entries.{both}
use Rattle.slot.proofs.Rows.{both_put, row_back, slot_lawful}
use Rattle.slot.proofs.slot.encode.Goals as goal

pub returns : goal.returns
returns c =
    let row = c.args.kept.now.row in
    let lawful : tidy row ≡ true = or_right (is_vacant row) (lawful_row row) c.args.kept.now.lawful in
    let header = c.copy_from_slice.ensures.after ∙ c.header_bytes.ensures in
    let joined = ap (flat_map (λ x. x)) c.entries_bytes.ensures ∙ flat_map-map (λ x. x) entry_bytes c.row-row.result.now.entries in
    let entries = c.copy_from_slice-2.ensures.after ∙ c.as_flattened.ensures.value ∙ joined in
    let written = both header entries ∙ ap slot_bytes c.row-row.ensures.value in
    let value = both_put c.copy_from_slice.new.self c.copy_from_slice-2.new.self _ c.copy_from_slice.ensures.len refl ∙ written in
    record {
      value = value;
      reads_back = ap row_in value ∙ row_back row lawful;
      lawful = ap lawful_slot value ∙ slot_lawful row lawful;
    }
