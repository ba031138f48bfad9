use Rattle.std.proofs.Common.{◌<◌, true, sym, ap, ◌∙◌, subst, arith}
use Rattle.store.specs.Changes.{Removed}
use Rattle.store.specs.Table.{table_meaning}
use Rattle.slots.specs.Cuts.{slot_count, table_of, lawful_image}
use Rattle.slots.proofs.Cutting.{table_long}
use Rattle.image_store.proofs.Writing.{emptied, emptied_lawful}
use Rattle.image_store.proofs.image.as_store.ImageStore.remove.Goals as goal

pub put-requires : goal.put-requires
put-requires c = let n = table_long c.args.self.now.bytes.now in let found = c.in-Some.ensures in omega arith

pub invariant_of-self : goal.invariant_of-self
invariant_of-self c =
    let store = c.args.self.now in
    let bytes = store.bytes.now in
    let found = c.in-Some.ensures in
    let within : c.in-Some.i < slot_count bytes = let n = table_long bytes in omega arith in
    record { lawful = ap lawful_image c.put.ensures ∙ emptied_lawful bytes store.lawful c.in-Some.i within c.args.at found.1 }

pub returns : goal.returns
returns c =
    let store = c.args.self.now in
    let bytes = store.bytes.now in
    let found = c.in-Some.ensures in
    let within : c.in-Some.i < slot_count bytes = let n = table_long bytes in omega arith in
    record {
      removed = subst (λ after. Removed (table_meaning (table_of bytes)) c.args.at (table_meaning (table_of after)) true) (sym c.put.ensures) (emptied bytes store.lawful c.in-Some.i within c.args.at found.1);
      bytes = (c.in-Some.i, within, c.put.ensures);
    }
