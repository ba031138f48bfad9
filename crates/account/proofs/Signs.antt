-- No amount answered to a post is negative, none answered to a cancel is positive.
use Rattle.std.proofs.Common.{◌≡◌, ℕ, ◌≤◌, true, List, [], ◌∷◌, pos, ◌-ℤ◌, ◌≤ℤ◌, Ok, sym, refl, subst, arith}
use Rattle.std.proofs.lemmas.Int.{ints}
use Rattle.reading.specs.First.{first}
use Rattle.reading.specs.declared.site_month.SiteMonth.{SiteMonth}
use Rattle.frame.specs.Line.{bytes_of}
use Rattle.frame.specs.Tests.{buffer_test}
use Rattle.answer.specs.Answers.{answer_line}
use Rattle.answer.specs.declared.answer.Answer.TheVariants.{Amounts}
use Rattle.answer.specs.declared.kind.AmountsKind.{AmountsKind}
use Rattle.answer.specs.declared.kind.AmountsKind.TheVariants.{Post, Cancel, Correct, Account}
use Rattle.request.specs.Asked.{Asked, post, correct, cancel, close, account, requested}
use Rattle.book.specs.Meaning as book
use Rattle.book.specs.Settled.{settled}
use Rattle.record.specs.Edits.{added, taken_out}
use Rattle.record.specs.Holding.{Holding}
use Rattle.store.specs.Meaning as store
use Rattle.store.specs.Meaning.{once}
use Rattle.account.specs.Change.{change, changed}
use Rattle.account.specs.Exchange.{Exchange, said}
use Rattle.account.specs.Readings.{Few, readings_at}
use Rattle.account.specs.Reply.{difference, altered, settlements, answer_to}
use Rattle.account.specs.Runs.{Ran, Served, Sign, Signed, Signs}
use Rattle.account.specs.Tests.{line_stops}
use Rattle.account.proofs.Holdings.{readings_with}
use Rattle.account.proofs.Said.{closed_says, amounts_say}
use Rattle.account.proofs.Steps.{by_verdict}
use Rattle.account.proofs.Telescope.{few_after}
use Rattle.account.proofs.Weights.{few_at, each_line, settlements_fit, differences_fit, added_settles, taken_out_settles}

rise : (m n : ℕ) → n ≤ m → pos 0 ≤ℤ (pos m -ℤ pos n)
rise m n more = omega (arith, ints)

fall : (m n : ℕ) → m ≤ n → (pos m -ℤ pos n) ≤ℤ pos 0
fall m n less = omega (arith, ints)

module _ (b : book.Meaning) (laws : book.Lawful b) where
  module _ (held : List Holding) (o : once held ≡ true) (few : (at : SiteMonth) → Few (readings_at at held)) where
    said_signed : (kind : AmountsKind) (at : SiteMonth) (a : Asked) → Few (readings_at at (change a held)) → ((line : ℕ) → Sign kind (difference b (readings_at at held) (readings_at at (change a held)) line)) → Signed (said (Ok (answer_line (Amounts kind (altered b held at a)))))
    said_signed kind at a more each =
        subst Signed (sym (amounts_say kind (altered b held at a) refl (differences_fit b laws (readings_at at held) (readings_at at (change a held)) (few at) more)))
        (each_line (Sign kind) (difference b (readings_at at held) (readings_at at (change a held))) each)

    -- The answer to each request.
    answer_signed : (a : Asked) → ((at : SiteMonth) → Few (readings_at at (change a held))) → Signed (said (Ok (answer_line (answer_to b held a))))
    answer_signed (post at e) more =
        let es = readings_at at held in
        said_signed Post at (post at e) (more at)
        (λ line. rw (readings_with at held o (added e es)) (rise (settled b (added e es) line) (settled b es line) (added_settles b laws e es line)))
    answer_signed (correct at e) more = said_signed Correct at (correct at e) (more at) (λ line. tt)
    answer_signed (cancel at meter) more =
        let es = readings_at at held in
        said_signed Cancel at (cancel at meter) (more at)
        (λ line. rw (readings_with at held o (taken_out meter es)) (fall (settled b (taken_out meter es) line) (settled b es line) (taken_out_settles b laws meter es line)))
    answer_signed (close at) more = subst Signed (sym closed_says) tt
    answer_signed (account at) more =
        subst Signed (sym (amounts_say Account (settlements b (readings_at at held)) refl (settlements_fit b laws (readings_at at held) (few at))))
        (each_line (Sign Account) (λ line. pos (settled b (readings_at at held) line)) (λ line. tt))

  -- The reply to a line.
  reply_signed : (s : store.Meaning) (e : Exchange) (t : store.Meaning) → store.Lawful s → store.Lawful t → Served b s e t → Signed (said e.reply)
  reply_signed s e t before lawful served =
      subst (λ r. Signed (said r)) (sym served.replies)
      (by_verdict b s.held (λ v x. ((at : SiteMonth) → Few (readings_at at (changed v s.held))) → Signed x) (λ fault _. tt)
      (buffer_test e.size) (first (line_stops b s e.line)) (requested (bytes_of e.line))
      (λ a _. answer_signed s.held before.apart (λ at. few_at at s.held before.each) a)
      (few_after b s e t lawful served))

  pub signs : (h : List Exchange) (s : store.Meaning) → store.Lawful s → Ran b h s → Signs h
  signs [] s lawful none = tt
  signs (e ∷ h) t lawful (s, before, ran, served) = (reply_signed s e t before lawful served, signs h s before ran)
