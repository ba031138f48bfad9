use Rattle.std.proofs.Common.{◌≤◌, Some, None, sym, refl, subst}
use Rattle.std.proofs.lemmas.List.{length-set}
use Rattle.record.specs.Rows.{vacant}
use Rattle.store.proofs.Searching.{found_position}
use Rattle.store.proofs.Stored.{removed_lawful, removed_row, removed_not}
use Rattle.row_store.proofs.rows.as_store.RowsStore.remove.Goals as goal

pub invariant_of-self : goal.invariant_of-self
invariant_of-self c =
    let store = c.args.self.now in
    let rows = store.rows.now in
    let i = c.in-Some.i in
    let found = found_position c.args.at rows (Some i) c.in-Some.ensures in
    let long = sym (length-set rows i vacant) in
    record { lawful = removed_lawful rows store.lawful i found.0 c.args.at found.1; least = subst (λ m. 1 ≤ m) long store.least; most = subst (λ m. m ≤ 1024) long store.most }

pub returns : goal.returns
returns c =
    let store = c.args.self.now in
    let rows = store.rows.now in
    let i = c.in-Some.i in
    let found = found_position c.args.at rows (Some i) c.in-Some.ensures in
    record { removed = removed_row rows store.lawful i found.0 c.args.at found.1; rows = (i, found.0, refl) }

pub returns-in_default-clause-removed : goal.returns-in_default-clause-removed
returns-in_default-clause-removed c =
    let rows = c.args.self.now.rows.now in
    removed_not rows c.args.at (found_position c.args.at rows None c.in_default.ensures)
