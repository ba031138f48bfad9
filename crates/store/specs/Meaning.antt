-- What a store means, and the laws that every store keeps.
use Rattle.std.specs.Prelude.{◌≡◌, ℕ, ◌≤◌, Bool, true, cond, not, ◌&&◌, List, [], ◌∷◌, length, is_some, Some, None, Option}
use Rattle.std.specs.List.{list_all}
use Rattle.reading.specs.declared.site_month.SiteMonth.{SiteMonth}
use Rattle.record.specs.Holding.{Holding, same, lawful_holding}

-- How many records may be held, and those that are, in an order that nobody may rely on.
pub record Meaning : Type 0 where
  pub capacity : ℕ
  pub held : List Holding

-- The record under a site month.
abbrev pub look_up : SiteMonth → List Holding → Option Holding
look_up at [] = None
look_up at (h ∷ hs) = cond (same at h.at) (Some h) (look_up at hs)

-- Whether there is one.
abbrev pub holds : SiteMonth → List Holding → Bool
holds at hs = is_some (look_up at hs)

-- No site month twice.
abbrev pub once : List Holding → Bool
once [] = true
once (h ∷ hs) = not (holds h.at hs) && once hs

pub record Lawful (store : Meaning) : Type 0 where
  pub least : 1 ≤ store.capacity
  pub most : store.capacity ≤ 1024
  -- No more are held than the capacity.
  pub room : length store.held ≤ store.capacity
  pub apart : once store.held ≡ true
  -- Each record is lawful.
  pub each : list_all lawful_holding store.held ≡ true
