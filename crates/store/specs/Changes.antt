-- What the calls of a store answer and leave, by look-up and by how many records are held.
use Rattle.std.specs.Prelude.{◌≡◌, ◌+◌, Bool, cond, not, ◌&&◌, length, is_ok, Some, None, Option, Result, MatchOption, nat_le}
use Rattle.std.specs.Result.{result_err}
use Rattle.reading.specs.First.{when}
use Rattle.reading.specs.declared.fault.Fault.{Fault}
use Rattle.reading.specs.declared.fault.Fault.TheVariants.{StoreFull}
use Rattle.reading.specs.declared.site_month.SiteMonth.{SiteMonth}
use Rattle.record.specs.Holding.{Holding, same}
use Rattle.record.specs.Rows.{holding}
use Rattle.record.specs.declared.row.Row.{Row}
use Rattle.store.specs.Meaning.{Meaning, look_up, holds}

-- A place after a read: a copy of the record that is held, else as it was.
abbrev pub Copied : Option Holding → Row → Row → Type 0
Copied found before after = MatchOption found (after ≡ before) (λ h. holding after ≡ h)

-- 15: the site month is new, and the store holds its capacity.
abbrev pub full_test : SiteMonth → Meaning → Option Fault
full_test at store = when (not (holds at store.held) && nat_le store.capacity (length store.held)) StoreFull

-- A record is put under its site month, or refused.
pub record Kept (before : Meaning) (h : Holding) (after : Meaning) (answer : Result Unit Fault) : Type 0 where
  pub refused : result_err answer ≡ full_test h.at before
  pub capacity : after.capacity ≡ before.capacity
  -- No other site month is touched, and none where the record is refused.
  pub each : (at : SiteMonth) → look_up at after.held ≡ cond (is_ok answer && same at h.at) (Some h) (look_up at before.held)
  pub count : length after.held ≡ cond (is_ok answer && not (holds h.at before.held)) (length before.held + 1) (length before.held)

-- A record is taken away, if one is held.
pub record Removed (before : Meaning) (at : SiteMonth) (after : Meaning) (answer : Bool) : Type 0 where
  pub found : answer ≡ holds at before.held
  pub capacity : after.capacity ≡ before.capacity
  pub each : (other : SiteMonth) → look_up other after.held ≡ cond (same other at) None (look_up other before.held)
  pub count : length before.held ≡ cond answer (length after.held + 1) (length after.held)
