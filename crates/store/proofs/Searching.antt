-- What the first place of a key, or of a vacant row, says of a table.
use Rattle.std.proofs.Common.{◌≡◌, ℕ, ◌+◌, Bool, true, false, not, List, [], ◌∷◌, get_or, Some, None, Option, sym, refl, subst, inl, inr, ◌∙◌}
use Rattle.std.specs.List.{list_all, position, position_from}
use Rattle.std.specs.Option.{option_or}
use Rattle.std.proofs.lemmas.Bool.{and_from, cond-true, cond-false, not-true}
use Rattle.std.proofs.lemmas.Iterator.Adapters.{position_from-zero}
use Rattle.std.proofs.lemmas.List.Quantifiers.{position-Some}
use Rattle.reading.specs.declared.site_month.SiteMonth.{SiteMonth}
use Rattle.record.specs.Rows.{vacant, keyed}
use Rattle.record.specs.States.{used}
use Rattle.record.specs.declared.row.Row.{Row}
use Rattle.store.specs.Meaning.{holds}
use Rattle.store.specs.Table.{held_in, Found, Free, Room}
use Rattle.store.proofs.Tables.{holds_from}

-- A row that is not in use.
abbrev pub is_free : Row → Bool
is_free row = not (used row.state)

none_keyed : (at : SiteMonth) (rows : List Row) (i : ℕ) → position_from (keyed at) i rows ≡ None → holds at (held_in rows) ≡ false
none_keyed at [] i h = refl
none_keyed at (row ∷ rows) i h = by (keyed at row) refl (none_keyed at rows (i + 1))
  where
    by : (t : Bool) → keyed at row ≡ t → (position_from (keyed at) (i + 1) rows ≡ None → holds at (held_in rows) ≡ false) → holds at (held_in (row ∷ rows)) ≡ false
    by true is rest = let some = sym (cond-true (keyed at row) (Some i) (position_from (keyed at) (i + 1) rows) is) ∙ h in cc
    by false is rest = holds_from at row rows is (rest (sym (cond-false (keyed at row) (Some i) (position_from (keyed at) (i + 1) rows) is) ∙ h))

none_free : (rows : List Row) (i : ℕ) → position_from is_free i rows ≡ None → list_all (λ row. used row.state) rows ≡ true
none_free [] i h = refl
none_free (row ∷ rows) i h = by (used row.state) refl (none_free rows (i + 1))
  where
    by : (t : Bool) → used row.state ≡ t → (position_from is_free (i + 1) rows ≡ None → list_all (λ r. used r.state) rows ≡ true) → list_all (λ r. used r.state) (row ∷ rows) ≡ true
    by true is rest = and_from (used row.state) (list_all (λ r. used r.state) rows) is (rest (rw is at h))
    by false is rest = let some : Some i ≡ None = rw is at h in cc

pub found_position : (at : SiteMonth) (rows : List Row) (r : Option ℕ) → r ≡ position (keyed at) rows → Found rows at r
found_position at rows None h = none_keyed at rows 0 (sym (position_from-zero (keyed at) rows) ∙ sym h)
found_position at rows (Some i) h = let p = position-Some (keyed at) rows i vacant (sym h) in (p.0, p.1)

pub free_position : (rows : List Row) (r : Option ℕ) → r ≡ position is_free rows → Free rows r
free_position rows None h = none_free rows 0 (sym (position_from-zero is_free rows) ∙ sym h)
free_position rows (Some i) h = let p = position-Some is_free rows i vacant (sym h) in (p.0, not-true (used (get_or rows i vacant).state) p.1)

pub room_from : (rows : List Row) (at : SiteMonth) (own free : Option ℕ) → Found rows at own → Free rows free → Room rows at (option_or own free)
room_from rows at None None none full = (none, full)
room_from rows at None (Some i) none free = (free.0, inr (none, free.1))
room_from rows at (Some i) free found _ = (found.0, inl found.1)

pub room_position : (rows : List Row) (at : SiteMonth) (r : Option ℕ) → r ≡ option_or (position (keyed at) rows) (position is_free rows) → Room rows at r
room_position rows at r h = subst (Room rows at) (sym h) (room_from rows at (position (keyed at) rows) (position is_free rows) (found_position at rows (position (keyed at) rows) refl) (free_position rows (position is_free rows) refl))
