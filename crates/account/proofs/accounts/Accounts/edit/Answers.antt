use Rattle.std.proofs.Common.{rules, Ok, Err, refl}
use Rattle.std.proofs.lemmas.Fn.{gave_at}
use Rattle.reading.proofs.Handed.{handed_on}
use Rattle.account.proofs.Edits.{closed_edits, open_edits}
use Rattle.account.proofs.accounts.Accounts.edit.Goals as goal

pub returns-in_err-check_open-clause-edits : goal.returns-in_err-check_open-clause-edits
returns-in_err-check_open-clause-edits g c =
    rw (handed_on c.from_residual.ensures.1) (closed_edits _ _ c.args.kind c.args.at c.find-before.result c.find-before.ensures.at c.find-before.ensures.value _ c.in_err-check_open.ensures)

pub returns-in_err-after-clause-edits : goal.returns-in_err-after-clause-edits
returns-in_err-after-clause-edits g c =
    rw (handed_on c.from_residual-in_err-after.ensures.1) (open_edits _ _ c.args.kind c.args.at c.find-before.result c.find-before.ensures.at c.find-before.ensures.value c.in_ok-check_open.ensures (Err c.in_err-after.field-0.0) (gave_at g.F.FnOnce c.in_err-after.ensures refl) _ _ (refl, refl))

pub returns-in_err-keep-clause-edits : goal.returns-in_err-keep-clause-edits
returns-in_err-keep-clause-edits g c =
    rw (handed_on c.from_residual-in_err-keep.ensures.1) (open_edits _ _ c.args.kind c.args.at c.find-before.result c.find-before.ensures.at c.find-before.ensures.value c.in_ok-check_open.ensures (Ok c.in_ok-after.after) (gave_at g.F.FnOnce c.in_ok-after.ensures refl) _ _ (c.in_err-keep.ensures, tt))

pub returns-clause-edits : goal.returns-clause-edits
returns-clause-edits g c =
    open_edits _ _ c.args.kind c.args.at c.find-before.result c.find-before.ensures.at c.find-before.ensures.value c.in_ok-check_open.ensures (Ok c.in_ok-after.after) (gave_at g.F.FnOnce c.in_ok-after.ensures refl) _ _ (c.in_ok-keep.ensures, search rules)
