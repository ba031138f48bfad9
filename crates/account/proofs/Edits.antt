-- How an edit comes about.
use Rattle.std.proofs.Common.{◌≡◌, Bool, true, false, Some, None, Err, Result, refl, ap}
use Rattle.reading.specs.First.{when}
use Rattle.reading.specs.declared.fault.Fault.{Fault}
use Rattle.reading.specs.declared.fault.Fault.TheVariants.{Closed}
use Rattle.reading.specs.declared.site_month.SiteMonth.{SiteMonth}
use Rattle.answer.specs.declared.answer.Answer.{Answer}
use Rattle.answer.specs.declared.kind.AmountsKind.{AmountsKind}
use Rattle.book.specs.Meaning as book
use Rattle.store.specs.Meaning as store
use Rattle.store.specs.Meaning.{look_up}
use Rattle.account.specs.Edits.{Comes, Edits}
use Rattle.account.specs.Readings.{found, closed_of}
use Rattle.account.specs.declared.held.Held.{Held}

fits : (test : Bool) (fault other : Fault) → Some fault ≡ when test other → (test ≡ true) × (fault ≡ other)
fits true fault other is = (refl, cc)
fits false fault other is = cc

passes : (test : Bool) (fault : Fault) → None ≡ when test fault → test ≡ false
passes true fault none = cc
passes false fault none = refl

module _ {Gives : Held → Result Held Fault → Type 0} (b : book.Meaning) (s : store.Meaning) (kind : AmountsKind) (at : SiteMonth) (before : Held) (is_at : before.at ≡ at) (is_held : found before.kept ≡ look_up at s.held) where
  pub closed_edits : (fault : Fault) → Some fault ≡ when (closed_of (found before.kept)) Closed → Edits Gives b s kind at (Err fault) s
  closed_edits fault closed =
      let is = fits (closed_of (found before.kept)) fault Closed closed in
      record {
        before = before;
        is_at = is_at;
        is_held = is_held;
        edited = Err Closed;
        closed = λ _. refl;
        opened = λ no. let both : true ≡ false = cc in cc;
        comes = (ap Err is.1, refl);
      }

  pub open_edits : None ≡ when (closed_of (found before.kept)) Closed → (edited : Result Held Fault) → Gives before edited → (answer : Result Answer Fault) (t : store.Meaning) → Comes b s kind before edited answer t → Edits Gives b s kind at answer t
  open_edits none edited gives answer t comes =
      let no = passes (closed_of (found before.kept)) Closed none in
      record {
        before = before;
        is_at = is_at;
        is_held = is_held;
        edited = edited;
        closed = λ yes. let both : true ≡ false = cc in cc;
        opened = λ _. gives;
        comes = comes;
      }
