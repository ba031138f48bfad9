use Rattle.std.proofs.Common.{get_or, Some, None, ap, ◌∙◌}
use Rattle.std.proofs.lemmas.List.{get_or_default}
use Rattle.std.proofs.lemmas.Bool.{both_ways}
use Rattle.record.specs.Rows.{holding, lawful_row, vacant}
use Rattle.store.proofs.Searching.{found_position}
use Rattle.store.proofs.Stored.{read_lawful, read_row, read_found, read_not}
use Rattle.row_store.proofs.rows.as_store.RowsStore.read.Goals as goal

pub returns-in_default : goal.returns-in_default
returns-in_default c =
    let rows = c.args.self.now.rows.now in
    read_not rows c.args.at (found_position c.args.at rows None c.in_default.ensures) _

pub unreachable-requires : goal.unreachable-requires
unreachable-requires c =
    let store = c.args.self.now in
    let rows = store.rows.now in
    let i = c.in-Some.i in
    let found = found_position c.args.at rows (Some i) c.in-Some.ensures in
    both_ways (lawful_row (get_or rows i vacant)) (ap lawful_row (get_or_default rows i vacant _ found.0) ∙ c.in_default-try_from.ensures.cases) (read_lawful rows store.lawful i found.0 c.args.at found.1)

pub returns : goal.returns
returns c =
    let store = c.args.self.now in
    let rows = store.rows.now in
    let i = c.in-Some.i in
    let found = found_position c.args.at rows (Some i) c.in-Some.ensures in
    let is = c.in-Ok.ensures.cases ∙ get_or_default rows i _ vacant found.0 in
    record {
      found = read_found rows store.lawful i found.0 c.args.at found.1;
      after = rw (read_row rows store.lawful i found.0 c.args.at found.1) (ap holding is);
    }
