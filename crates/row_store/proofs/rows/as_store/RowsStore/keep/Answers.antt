use Rattle.std.proofs.Common.{◌≤◌, set, Some, None, Ok, Err, sym, refl, ap, subst}
use Rattle.std.proofs.lemmas.List.{length-set}
use Rattle.reading.specs.declared.fault.Fault.TheVariants.{StoreFull}
use Rattle.record.specs.Rows.{holding}
use Rattle.record.specs.declared.row.Row.{Row}
use Rattle.store.specs.Changes.{Kept}
use Rattle.store.specs.Table.{table_meaning}
use Rattle.store.proofs.Searching.{room_position}
use Rattle.store.proofs.Stored.{kept_in, kept_in_lawful, kept_not}
use Rattle.row_store.proofs.rows.as_store.RowsStore.keep.Goals as goal

pub returns-in_default : goal.returns-in_default
returns-in_default c =
    let rows = c.args.self.now.rows.now in
    let new = c.row-row.result.now in
    let full = room_position rows new.at None c.in_default.ensures in
    record {
      kept = subst (λ (row : Row). Kept (table_meaning rows) (holding row) (table_meaning rows) (Err StoreFull)) c.row-row.ensures.value (kept_not rows new full.0 full.1);
      rows = refl;
    }

pub invariant_of-self : goal.invariant_of-self
invariant_of-self c =
    let store = c.args.self.now in
    let rows = store.rows.now in
    let i = c.in-Some.i in
    let new = c.row-row.result.now in
    let room = room_position rows new.at (Some i) c.in-Some.ensures in
    let long = sym (length-set rows i new) in
    record { lawful = kept_in_lawful rows store.lawful i room.0 new c.row-row.ensures.lawful room.1; least = subst (λ m. 1 ≤ m) long store.least; most = subst (λ m. m ≤ 1024) long store.most }

pub returns : goal.returns
returns c =
    let store = c.args.self.now in
    let rows = store.rows.now in
    let i = c.in-Some.i in
    let new = c.row-row.result.now in
    let room = room_position rows new.at (Some i) c.in-Some.ensures in
    record {
      kept =
          subst (λ (row : Row). Kept (table_meaning rows) (holding row) (table_meaning (set rows i new)) (Ok tt)) c.row-row.ensures.value
          (kept_in rows store.lawful i room.0 new c.row-row.ensures.lawful room.1);
      rows = (i, room.0, ap (set rows i) c.row-row.ensures.value);
    }
