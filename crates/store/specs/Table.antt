-- A table of rows, some of them vacant: what both stores are, whether they lie in memory as rows or as bytes.
use Rattle.std.specs.Prelude.{◌≡◌, ℕ, ◌<◌, Bool, true, false, cond, ◌&&◌, ◌⊎◌, List, [], ◌∷◌, length, get_or, Option, MatchOption, slice_index_or, slice_set}
use Rattle.std.specs.List.{list_all}
use Rattle.reading.specs.declared.site_month.SiteMonth.{SiteMonth}
use Rattle.record.specs.Holding.{Holding}
use Rattle.record.specs.Rows.{holding, tidy, keyed, vacant}
use Rattle.record.specs.States.{used}
use Rattle.record.specs.declared.row.Row.{Row}
use Rattle.store.specs.Meaning.{Meaning, holds, once}

-- The records of a table.
abbrev pub held_in : List Row → List Holding
held_in [] = []
held_in (row ∷ rows) = cond (used row.state) (holding row ∷ held_in rows) (held_in rows)

-- A table as a store: a record for each row in use, and room for one in each.
abbrev pub table_meaning : List Row → Meaning
table_meaning rows = record { capacity = length rows; held = held_in rows }

-- Each row is vacant or has a lawful record, and no site month stands twice.
abbrev pub lawful_table : List Row → Bool
lawful_table rows = list_all tidy rows && once (held_in rows)

-- Where a search for a site month ends: at a row that has it, or nowhere since it is not held.
abbrev pub Found : List Row → SiteMonth → Option ℕ → Type 0
Found rows at result = MatchOption result (holds at (held_in rows) ≡ false) (λ i. (i < length rows) × (keyed at (slice_index_or rows i vacant) ≡ true))

-- Where a search for a vacant row ends: at one, or nowhere since all are in use.
abbrev pub Free : List Row → Option ℕ → Type 0
Free rows result = MatchOption result (list_all (λ row. used row.state) rows ≡ true) (λ i. (i < length rows) × (used (get_or rows i vacant).state ≡ false))

-- Where a record is kept: in its own row, else in a vacant one, or nowhere.
abbrev pub Room : List Row → SiteMonth → Option ℕ → Type 0
Room rows at result =
    MatchOption result ((holds at (held_in rows) ≡ false) × (list_all (λ row. used row.state) rows ≡ true))
    (λ i. (i < length rows) × ((keyed at (slice_index_or rows i vacant) ≡ true) ⊎ ((holds at (held_in rows) ≡ false) × (used (slice_index_or rows i vacant).state ≡ false))))

-- One row is written over, and no other altered. Which one is free.
abbrev pub OneRow : Row → List Row → List Row → Type 0
OneRow row before after = (i : ℕ) × (i < length before) × (after ≡ slice_set before i row)
