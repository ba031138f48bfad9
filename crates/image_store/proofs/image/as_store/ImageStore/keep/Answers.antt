use Rattle.std.proofs.Common.{◌<◌, Some, None, Ok, sym, refl, ap, ◌∙◌, subst, arith}
use Rattle.record.specs.Rows.{holding}
use Rattle.store.specs.Changes.{Kept}
use Rattle.store.specs.Table.{Room, table_meaning}
use Rattle.store.proofs.Stored.{kept_not}
use Rattle.slots.specs.Cuts.{slot_count, table_of, lawful_image, put_slot}
use Rattle.slots.proofs.Cutting.{table_long}
use Rattle.image_store.proofs.Writing.{kept_lawful, kept}
use Rattle.image_store.proofs.image.as_store.ImageStore.keep.Goals as goal

pub returns-in_default : goal.returns-in_default
returns-in_default c =
    let rows = table_of c.args.self.now.bytes.now in
    let row = c.args.kept.now.row in
    let full = subst (λ at. Room rows at None) c.at.ensures c.in_default.ensures in
    record { kept = kept_not rows row full.0 full.1; bytes = refl }

pub put-requires : goal.put-requires
put-requires c = let n = table_long c.args.self.now.bytes.now in let room = c.in-Some.ensures in omega arith

pub invariant_of-self : goal.invariant_of-self
invariant_of-self c =
    let store = c.args.self.now in
    let bytes = store.bytes.now in
    let row = c.args.kept.now.row in
    let i = c.in-Some.i in
    let room = subst (λ at. Room (table_of bytes) at (Some i)) c.at.ensures c.in-Some.ensures in
    let within : i < slot_count bytes = let n = table_long bytes in omega arith in
    record { lawful = ap lawful_image c.put.ensures ∙ kept_lawful bytes store.lawful i within row c.encode.result c.encode.ensures.reads_back c.encode.ensures.lawful (omega arith) c.args.kept.now.lawful room.1 }

pub returns : goal.returns
returns c =
    let store = c.args.self.now in
    let bytes = store.bytes.now in
    let row = c.args.kept.now.row in
    let i = c.in-Some.i in
    let room = subst (λ at. Room (table_of bytes) at (Some i)) c.at.ensures c.in-Some.ensures in
    let within : i < slot_count bytes = let n = table_long bytes in omega arith in
    record {
      kept =
          subst (λ after. Kept (table_meaning (table_of bytes)) (holding row) (table_meaning (table_of after)) (Ok tt)) (sym c.put.ensures)
          (kept bytes store.lawful i within row c.encode.result c.encode.ensures.reads_back c.encode.ensures.lawful (omega arith) c.args.kept.now.lawful room.1);
      bytes = (i, within, c.put.ensures ∙ ap (λ slot. put_slot i slot bytes) c.encode.ensures.value);
    }
