-- Edits of what is held under a site month.
use Rattle.std.specs.Prelude.{◌≡◌, true, false, List, [], IfOk, Err, Ok, Result, MatchOption}
use Rattle.reading.specs.declared.entry.Entry.{Entry}
use Rattle.reading.specs.declared.fault.Fault.{Fault}
use Rattle.reading.specs.declared.fault.Fault.TheVariants.{Closed}
use Rattle.reading.specs.declared.site_month.SiteMonth.{SiteMonth}
use Rattle.answer.specs.declared.answer.Answer.{Answer}
use Rattle.answer.specs.declared.answer.Answer.TheVariants.{Amounts}
use Rattle.answer.specs.declared.kind.AmountsKind.{AmountsKind}
use Rattle.book.specs.Meaning as book
use Rattle.record.specs.Rows.{holding}
use Rattle.store.specs.Meaning as store
use Rattle.store.specs.Meaning.{look_up}
use Rattle.account.specs.Change.{Left}
use Rattle.account.specs.Readings.{found, readings_of, closed_of}
use Rattle.account.specs.Reply.{differences, taken}
use Rattle.account.specs.declared.held.Held.{Held}

-- What is left of a site month: its readings as edited, open or closed as it was, or no record where none is left.
abbrev pub Edited : Held → (List Entry → List Entry) → Held → Type 0
Edited before edit after =
    let es = edit (readings_of (found before.kept)) in
    (after.at ≡ before.at) × MatchOption after.kept (es ≡ []) (λ x. holding x.row ≡ record { at = before.at; closed = closed_of (found before.kept); readings = es })

-- What an edit comes to: a refusal that leaves the store, or the difference that is made where what is left was kept.
abbrev pub Comes : book.Meaning → store.Meaning → AmountsKind → Held → Result Held Fault → Result Answer Fault → store.Meaning → Type 0
Comes b s kind before (Err fault) answer t = (answer ≡ Err fault) × (t ≡ s)
Comes b s kind before (Ok after) answer t =
    Left s after.at (found after.kept) t (taken answer)
    × IfOk answer (λ a. a ≡ Amounts kind (differences b (readings_of (found before.kept)) (readings_of (found after.kept))))

-- What a store holds under a site month was edited, or is closed. `Gives` says what the edit may give.
pub record Edits (Gives : Held → Result Held Fault → Type 0) (b : book.Meaning) (s : store.Meaning) (kind : AmountsKind) (at : SiteMonth) (answer : Result Answer Fault) (t : store.Meaning) : Type 0 where
  pub before : Held
  pub is_at : before.at ≡ at
  pub is_held : found before.kept ≡ look_up at s.held
  pub edited : Result Held Fault
  pub closed : closed_of (found before.kept) ≡ true → edited ≡ Err Closed
  pub opened : closed_of (found before.kept) ≡ false → Gives before edited
  pub comes : Comes b s kind before edited answer t
