use Rattle.std.proofs.Common.{◌≡◌, ◌<◌, false, get_or, is_ok, None, Ok, sym, ap, ◌∙◌, arith, rules}
use Rattle.std.proofs.lemmas.Bool.{both_ways, and_parts}
use Rattle.std.proofs.lemmas.Result.{IfOk-at_ok}
use Rattle.record.specs.Holding.{same}
use Rattle.record.specs.Rows.{holding, vacant}
use Rattle.record.specs.States.{used}
use Rattle.record.specs.declared.row.Row.{Row}
use Rattle.slot.specs.Reading.{row_in, lawful_slot, row_of}
use Rattle.store.proofs.Stored.{read_row, read_found}
use Rattle.slots.specs.Cuts.{slot_count, table_of}
use Rattle.slots.proofs.Cutting.{table_long}
use Rattle.slots.proofs.Imaged.{table_is_lawful, slot_fit}
use Rattle.image_store.proofs.image.as_store.ImageStore.read.Goals as goal
use Rattle.image_store.proofs.image.as_store.ImageStore.read.Goals.{in_default-decode-via-in-Ok+in_default, in_default-decode-via-in_default}

pub slot_at-requires : goal.slot_at-requires
slot_at-requires c = let n = table_long c.args.self.now.bytes.now in let found = c.in-Some.ensures in omega arith

pub unreachable-requires : goal.unreachable-requires
unreachable-requires c =
    let store = c.args.self.now in
    let bytes = store.bytes.now in
    let row = get_or (table_of bytes) c.in-Some.i vacant in
    let found = c.in-Some.ensures in
    let within : c.in-Some.i < slot_count bytes = let n = table_long bytes in omega arith in
    elim c.in_default-decode.branch [
      | in_default-decode-via-in-Ok+in_default w ↦
          let none : c.decode.result ≡ Ok None = search rules in
          let is : vacant ≡ row = IfOk-at_ok (λ found. row_of found ≡ row_in c.slot_at.result.now) none c.decode.ensures.value ∙ c.slot_at.ensures.row in
          both_ways (used row.state) (ap (λ (r : Row). used r.state) (sym is)) (and_parts (used row.state) (same c.args.at row.at) found.1).0
      | in_default-decode-via-in_default w ↦
          let bad : is_ok c.decode.result ≡ false = search rules in
          both_ways (lawful_slot c.slot_at.result.now) (sym c.decode.ensures.refused ∙ bad) (ap lawful_slot c.slot_at.ensures.value ∙ slot_fit bytes c.in-Some.i store.lawful within)
    ]

pub returns : goal.returns
returns c =
    let store = c.args.self.now in
    let rows = table_of store.bytes.now in
    let found = c.in-Some.ensures in
    let is = ap row_of (sym c.in-Ok-Some.field-0-is) ∙ c.in-Ok-Some.ensures.value ∙ c.slot_at.ensures.row in
    record {
      found = read_found rows (table_is_lawful store.bytes.now store.lawful) c.in-Some.i found.0 c.args.at found.1;
      after = rw (read_row rows (table_is_lawful store.bytes.now store.lawful) c.in-Some.i found.0 c.args.at found.1) (ap holding is);
    }
