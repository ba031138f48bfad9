-- Why the amounts answered in a site month add up to its settlement.
use Rattle.std.proofs.Common.{◌≡◌, ℕ, ◌<◌, cond, List, [], ◌∷◌, pos, ◌+ℤ◌, sym, refl, ap, ◌∙◌, subst}
use Rattle.std.proofs.lemmas.List.{nil_from_length}
use Rattle.reading.specs.First.{first}
use Rattle.reading.specs.Statement.{lines}
use Rattle.reading.specs.declared.site_month.SiteMonth.{SiteMonth}
use Rattle.frame.specs.Line.{bytes_of}
use Rattle.frame.specs.Tests.{buffer_test}
use Rattle.book.specs.Meaning as book
use Rattle.book.specs.Settled.{settled}
use Rattle.record.specs.Holding.{same}
use Rattle.store.specs.Meaning as store
use Rattle.account.specs.Change.{after}
use Rattle.account.specs.Exchange.{Exchange, names, said}
use Rattle.account.specs.Readings.{Few, readings_of, readings_at}
use Rattle.account.specs.Runs.{Ran, Served, amount_said, answered, Sums, Same}
use Rattle.account.specs.Tests.{line_stops}
use Rattle.account.proofs.Steps.{step}
use Rattle.account.proofs.Tallied.{tallied}
use Rattle.account.proofs.Weights.{few_at}

-- In each site month the readings after an exchange are few.
pub few_after : (b : book.Meaning) (s : store.Meaning) (e : Exchange) (t : store.Meaning) → store.Lawful t → Served b s e t → (at : SiteMonth) → Few (readings_at at (after b s e.size e.line))
few_after b s e t lawful served at = subst (λ l. Few (readings_of l)) (served.changes.each at) (few_at at t.held lawful.each)

module _ (b : book.Meaning) (laws : book.Lawful b) where
  -- One exchange.
  adds : (s : store.Meaning) (e : Exchange) (t : store.Meaning) → store.Lawful s → store.Lawful t → Served b s e t → (at : SiteMonth) (line : ℕ) → line < lines → cond (same at (names e)) (amount_said (said e.reply) line) (pos 0) +ℤ pos (settled b (readings_at at s.held) line) ≡ pos (settled b (readings_at at t.held) line)
  adds s e t before lawful served at line below =
      let made = step b laws s.held before.apart line (bytes_of e.line) (buffer_test e.size) (first (line_stops b s e.line)) at below (few_at at s.held before.each) (few_after b s e t lawful served at) in
      ap (λ r. cond (same at (names e)) (amount_said (said r) line) (pos 0) +ℤ pos (settled b (readings_at at s.held) line)) served.replies
      ∙ made
      ∙ ap (λ l. pos (settled b (readings_of l) line)) (sym (served.changes.each at))

  -- A run: what was answered is the settlement of what the store holds.
  held_sums : (h : List Exchange) (s : store.Meaning) → store.Lawful s → Ran b h s → (at : SiteMonth) (line : ℕ) → line < lines → answered h at line ≡ pos (settled b (readings_at at s.held) line)
  held_sums [] s lawful none at line below = ap pos (sym (laws.nothing line)) ∙ ap (λ held. pos (settled b (readings_at at held) line)) (sym (nil_from_length s.held none))
  held_sums (e ∷ h) t lawful (s, before, ran, served) at line below =
      ap (λ sum. cond (same at (names e)) (amount_said (said e.reply) line) (pos 0) +ℤ sum) (held_sums h s before ran at line below)
      ∙ adds s e t before lawful served at line below

  pub sums : (h : List Exchange) (s : store.Meaning) → store.Lawful s → Ran b h s → Sums b s.capacity h
  sums h s lawful ran at line below =
      held_sums h s lawful ran at line below
      ∙ ap (λ l. pos (settled b (readings_of l) line)) ((tallied b s.capacity h s refl ran).each at)

  pub same_sums : (h : List Exchange) (s : store.Meaning) → store.Lawful s → Ran b h s → Same b s.capacity h
  same_sums h s lawful ran other t kept led at is line below =
      sums h s lawful ran at line below
      ∙ ap (λ es. pos (settled b es line)) is
      ∙ sym (sums other t kept led at line below)
