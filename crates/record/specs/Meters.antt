-- Readings told apart by their meters.
use Rattle.std.specs.Prelude.{◌≡◌, ℕ, zero, suc, ◌<◌, ◌≤◌, Bool, true, cond, ◌&&◌, List, [], ◌∷◌, length, is_some, Some, None, Option, ◌==◌, nat_lt, slice_index_or}
use Rattle.std.specs.List.{list_all}
use Rattle.reading.specs.declared.entry.Entry.{Entry}

-- An entry that is not in use.
abbrev pub blank : Entry
blank =
    record {
      meter = 0;
      schedule = 0;
      flags = 0;
      power_factor = 0;
      kwh = 0;
      off_hours = 0;
      demand = 0;
      peak_demand = 0;
      kvar = 0;
      load = 0;
    }

-- A reading of this meter.
abbrev pub of_meter : ℕ → Entry → Bool
of_meter meter e = e.meter == meter

-- A reading that goes before another.
abbrev pub precedes : Entry → Entry → Bool
precedes e f = nat_lt e.meter f.meter

-- In rising meter order: each reading goes before all that follow it, so no meter stands twice.
abbrev pub rising : List Entry → Bool
rising [] = true
rising (e ∷ es) = list_all (precedes e) es && rising es

-- The reading of a meter, where it stands.
abbrev pub standing : ℕ → List Entry → Option Entry
standing meter [] = None
standing meter (e ∷ es) = cond (of_meter meter e) (Some e) (standing meter es)

-- Whether it stands.
abbrev pub stands : ℕ → List Entry → Bool
stands meter es = is_some (standing meter es)

-- A meter's place: where its reading stands or would be put, behind as many readings as have lower meters.
abbrev pub Place : ℕ → List Entry → ℕ → Type 0
Place meter [] zero = Unit {0}
Place meter [] (suc k) = ⊥
Place meter (e ∷ es) zero = meter ≤ e.meter
Place meter (e ∷ es) (suc k) = (e.meter < meter) × Place meter es k

-- The meter's reading is the one at this place.
pub record StandsAt (meter : ℕ) (es : List Entry) (k : ℕ) : Type 0 where
  pub within : k < length es
  pub place : Place meter es k
  pub own : (slice_index_or es k blank).meter ≡ meter

-- There is none, and this is where it would be put.
pub record BelongsAt (meter : ℕ) (es : List Entry) (k : ℕ) : Type 0 where
  pub within : k ≤ length es
  pub place : Place meter es k
  pub none : standing meter es ≡ None
