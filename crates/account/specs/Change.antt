-- The change that each request makes on what is held.
use Rattle.std.specs.Prelude.{◌≡◌, ℕ, true, cond, List, [], ◌∷◌, length, Some, None, Ok, Err, Option, Result}
use Rattle.reading.specs.declared.entry.Entry.{Entry}
use Rattle.reading.specs.declared.fault.Fault.{Fault}
use Rattle.reading.specs.declared.site_month.SiteMonth.{SiteMonth}
use Rattle.request.specs.Asked.{Asked, post, correct, cancel, close, account}
use Rattle.book.specs.Meaning as book
use Rattle.record.specs.Edits.{added, replaced, taken_out}
use Rattle.record.specs.Holding.{Holding, same}
use Rattle.store.specs.Changes.{Kept, Removed}
use Rattle.store.specs.Meaning as store
use Rattle.store.specs.Meaning.{look_up, holds}
use Rattle.account.specs.Readings.{readings_at, closed_at}
use Rattle.account.specs.Tests.{verdict}

-- A record put in the place of its site month's, else at the end.
abbrev pub put : Holding → List Holding → List Holding
put h [] = h ∷ []
put h (g ∷ held) = cond (same h.at g.at) (h ∷ held) (g ∷ put h held)

-- The record of a site month taken out.
abbrev pub without : SiteMonth → List Holding → List Holding
without at [] = []
without at (g ∷ held) = cond (same at g.at) held (g ∷ without at held)

-- A site month with these readings, open or closed as it was. One that was not held is open; one without readings is not held.
abbrev pub left_with : SiteMonth → List Entry → List Holding → List Holding
left_with at [] held = without at held
left_with at (e ∷ es) held = put (record { at = at; closed = closed_at at held; readings = e ∷ es }) held

-- Post adds its reading, correct puts another in its meter's place, cancel takes it out, close closes the record, and
-- account alters nothing.
abbrev pub change : Asked → List Holding → List Holding
change (post at e) held = left_with at (added e (readings_at at held)) held
change (correct at e) held = left_with at (replaced e (readings_at at held)) held
change (cancel at meter) held = left_with at (taken_out meter (readings_at at held)) held
change (close at) held = put (record { at = at; closed = true; readings = readings_at at held }) held
change (account at) held = held

-- A request that is served makes its change, a refusal none.
abbrev pub changed : Result Asked Fault → List Holding → List Holding
changed (Ok q) held = change q held
changed (Err fault) held = held

-- A store where the record that is left of a site month was kept, or taken out where none is left.
abbrev pub Left : store.Meaning → SiteMonth → Option Holding → store.Meaning → Result Unit Fault → Type 0
Left before at None now answer = Removed before at now (holds at before.held) × (answer ≡ Ok tt)
Left before at (Some h) now answer = Kept before h now answer

-- A store is left with these records, of which only look-up and count show, and with the capacity that it had.
pub record Leaves (before : store.Meaning) (held : List Holding) (now : store.Meaning) : Type 0 where
  pub capacity : now.capacity ≡ before.capacity
  pub each : (at : SiteMonth) → look_up at now.held ≡ look_up at held
  pub count : length now.held ≡ length held

-- What is held after a line, by the length of its answer buffer and what the store held before.
abbrev pub after : book.Meaning → store.Meaning → ℕ → List ℕ → List Holding
after b s size line = changed (verdict b s size line) s.held
