-- A table is a store: the laws, and what keeping and removing a record by one row leaves.
use Rattle.std.proofs.Common.{◌≡◌, ℕ, ◌<◌, ◌≤◌, true, false, cond, ◌&&◌, leb, ◌⊎◌, List, length, get_or, set, is_some, Some, None, Ok, Err, Option, sym, refl, ap, ◌∙◌, inl, inr, arith}
use Rattle.std.specs.List.{list_all}
use Rattle.std.proofs.lemmas.List.{length-set}
use Rattle.std.proofs.lemmas.Bool.{and_parts, and_from, cond-true, cond-false, cond_both, both_ways, le-leb, lt-leb, or_right}
use Rattle.reading.specs.declared.fault.Fault.TheVariants.{StoreFull}
use Rattle.reading.specs.declared.site_month.SiteMonth.{SiteMonth}
use Rattle.std.proofs.lemmas.List.Sums.{AllPass-from_list_all}
use Rattle.record.specs.Holding.{same, lawful_holding}
use Rattle.record.specs.Rows.{holding, padded, lawful_row, is_vacant, tidy, vacant, keyed}
use Rattle.record.specs.States.{used}
use Rattle.record.specs.declared.row.Row.{Row}
use Rattle.store.specs.Changes.{Copied, Kept, Removed}
use Rattle.store.specs.Meaning.{Lawful, look_up, holds, once}
use Rattle.store.specs.Table.{held_in, lawful_table, table_meaning, Found}
use Rattle.store.proofs.Keys.{same_itself, same_is, none_held}
use Rattle.store.proofs.Tables.{own, one, Apart, Under, look_set, once_set, count_set, apart_none, apart_here, holds_at, held_most, held_room, held_all, each_lawful, used_lawful, pass_set, look_at}

pub table_lawful : (rows : List Row) → lawful_table rows ≡ true → 1 ≤ length rows → length rows ≤ 1024 → Lawful (table_meaning rows)
table_lawful rows h least most =
    let p = and_parts (list_all tidy rows) (once (held_in rows)) h in
    record { least = least; most = most; room = held_most rows; apart = p.1; each = each_lawful rows p.0 }

module _ (rows : List Row) (lawful : lawful_table rows ≡ true) (i : ℕ) (within : i < length rows) where
  parts : (list_all tidy rows ≡ true) × (once (held_in rows) ≡ true)
  parts = and_parts (list_all tidy rows) (once (held_in rows)) lawful

  -- A table stays lawful where a tidy row takes the place of a vacant one or of one with its key.
  lawful_set : (key : SiteMonth) (new : Row) → tidy new ≡ true → Under key new → Apart key i rows → Under key (get_or rows i vacant) → lawful_table (set rows i new) ≡ true
  lawful_set key new neat under apart old =
      and_from (list_all tidy (set rows i new)) (once (held_in (set rows i new))) (pass_set tidy rows i new neat parts.0)
      (once_set key new under rows i within apart old parts.1)

  -- Keeping a record.
  module _ (new : Row) (fit : lawful_row new ≡ true) where
    in_use : used new.state ≡ true
    in_use = (and_parts (used new.state) (padded new && lawful_holding (holding new)) fit).0

    under_new : Under new.at new
    under_new = λ _. same_itself new.at

    own_new : own new ≡ Some (holding new)
    own_new = cond-true (used new.state) (Some (holding new)) None in_use

    one_new : one new ≡ 1
    one_new = cond-true (used new.state) 1 0 in_use

    neat : tidy new ≡ true
    neat = or_right (is_vacant new) (lawful_row new) fit

    each_of : Apart new.at i rows → Under new.at (get_or rows i vacant) → (at : SiteMonth) → look_up at (held_in (set rows i new)) ≡ cond (same at new.at) (Some (holding new)) (look_up at (held_in rows))
    each_of apart old at = look_set new.at new under_new rows i within apart old at ∙ ap (λ o. cond (same at new.at) o (look_up at (held_in rows))) own_new

    -- In its own row.
    module _ (has : keyed new.at (get_or rows i vacant) ≡ true) where
      old_here : Under new.at (get_or rows i vacant)
      old_here = λ _. (and_parts (used (get_or rows i vacant).state) (same new.at (get_or rows i vacant).at) has).1

      apart_here_new : Apart new.at i rows
      apart_here_new = apart_here new.at rows i within parts.1 has

      held_here : holds new.at (held_in rows) ≡ true
      held_here = holds_at new.at rows i within has

      one_old : one (get_or rows i vacant) ≡ 1
      one_old = cond-true (used (get_or rows i vacant).state) 1 0 (and_parts (used (get_or rows i vacant).state) (same new.at (get_or rows i vacant).at) has).0

      pub kept_again_lawful : lawful_table (set rows i new) ≡ true
      kept_again_lawful = lawful_set new.at new neat under_new apart_here_new old_here

      pub kept_again : Kept (table_meaning rows) (holding new) (table_meaning (set rows i new)) (Ok tt)
      kept_again =
          record {
            refused = rw held_here;
            capacity = length-set rows i new;
            each = each_of apart_here_new old_here;
            count = rw held_here (let n = count_set new rows i within in let a = one_new in let b = one_old in omega arith);
          }

    -- In a vacant row.
    module _ (free : used (get_or rows i vacant).state ≡ false) (none : holds new.at (held_in rows) ≡ false) where
      old_free : Under new.at (get_or rows i vacant)
      old_free = λ is. absurd (both_ways (used (get_or rows i vacant).state) free is)

      apart_free : Apart new.at i rows
      apart_free = apart_none new.at rows i none

      pub kept_new_lawful : lawful_table (set rows i new) ≡ true
      kept_new_lawful = lawful_set new.at new neat under_new apart_free old_free

      pub kept_new : Kept (table_meaning rows) (holding new) (table_meaning (set rows i new)) (Ok tt)
      kept_new =
          let room : leb (length rows) (length (held_in rows)) ≡ false = lt-leb (length rows) (length (held_in rows)) (held_room rows i within free) in
          let empty : one (get_or rows i vacant) ≡ 0 = cond-false (used (get_or rows i vacant).state) 1 0 free in
          record {
            refused = rw (none, room);
            capacity = length-set rows i new;
            each = each_of apart_free old_free;
            count = rw none (let n = count_set new rows i within in let a = one_new in omega arith);
          }

    -- In its own row or a vacant one.
    pub kept_in_lawful : (keyed new.at (get_or rows i vacant) ≡ true) ⊎ ((holds new.at (held_in rows) ≡ false) × (used (get_or rows i vacant).state ≡ false)) → lawful_table (set rows i new) ≡ true
    kept_in_lawful (inl has) = kept_again_lawful has
    kept_in_lawful (inr (none, free)) = kept_new_lawful free none

    pub kept_in : (keyed new.at (get_or rows i vacant) ≡ true) ⊎ ((holds new.at (held_in rows) ≡ false) × (used (get_or rows i vacant).state ≡ false)) → Kept (table_meaning rows) (holding new) (table_meaning (set rows i new)) (Ok tt)
    kept_in (inl has) = kept_again has
    kept_in (inr (none, free)) = kept_new free none

  -- Removing the record of a row.
  module _ (at : SiteMonth) (has : keyed at (get_or rows i vacant) ≡ true) where
    old_at : Under at (get_or rows i vacant)
    old_at = λ _. (and_parts (used (get_or rows i vacant).state) (same at (get_or rows i vacant).at) has).1

    under_vacant : Under at vacant
    under_vacant = λ is. absurd (both_ways false refl is)

    apart_at : Apart at i rows
    apart_at = apart_here at rows i within parts.1 has

    pub removed_lawful : lawful_table (set rows i vacant) ≡ true
    removed_lawful = lawful_set at vacant refl under_vacant apart_at old_at

    pub removed_row : Removed (table_meaning rows) at (table_meaning (set rows i vacant)) true
    removed_row =
        let one_old : one (get_or rows i vacant) ≡ 1 = cond-true (used (get_or rows i vacant).state) 1 0 (and_parts (used (get_or rows i vacant).state) (same at (get_or rows i vacant).at) has).0 in
        record {
          found = sym (holds_at at rows i within has);
          capacity = length-set rows i vacant;
          each = look_set at vacant under_vacant rows i within apart_at old_at;
          count = let n = count_set vacant rows i within in omega arith;
        }

-- A search finds what is held.
pub found_holds : (rows : List Row) (at : SiteMonth) (result : Option ℕ) → Found rows at result → is_some result ≡ holds at (held_in rows)
found_holds rows at None h = sym h
found_holds rows at (Some i) (within, has) = sym (holds_at at rows i within has)

-- The record at the row that has a key.
module _ (rows : List Row) (lawful : lawful_table rows ≡ true) (i : ℕ) (within : i < length rows) (at : SiteMonth) (has : keyed at (get_or rows i vacant) ≡ true) where
  pub read_lawful : lawful_row (get_or rows i vacant) ≡ true
  read_lawful =
      used_lawful (get_or rows i vacant) (AllPass-from_list_all tidy rows (and_parts (list_all tidy rows) (once (held_in rows)) lawful).0 i vacant within)
      (and_parts (used (get_or rows i vacant).state) (same at (get_or rows i vacant).at) has).0

  pub read_row : look_up at (held_in rows) ≡ Some (holding (get_or rows i vacant))
  read_row = look_at at rows i within (apart_here at rows i within (and_parts (list_all tidy rows) (once (held_in rows)) lawful).1 has) has

  pub read_found : true ≡ holds at (held_in rows)
  read_found = sym (holds_at at rows i within has)

-- There is no record to read.
pub read_not : (rows : List Row) (at : SiteMonth) → holds at (held_in rows) ≡ false → (place : Row) → record { found : false ≡ holds at (held_in rows); after : Copied (look_up at (held_in rows)) place place }
read_not rows at none place = record { found = sym none; after = rw (none_held (look_up at (held_in rows)) none) refl }

-- A record is refused: its site month is new, and no row is vacant.
pub kept_not : (rows : List Row) (new : Row) → holds new.at (held_in rows) ≡ false → list_all (λ row. used row.state) rows ≡ true → Kept (table_meaning rows) (holding new) (table_meaning rows) (Err StoreFull)
kept_not rows new none full =
    let all : leb (length rows) (length (held_in rows)) ≡ true = le-leb (length rows) (length (held_in rows)) (let n = held_all rows full in omega arith) in
    record { refused = rw (none, all); capacity = refl; each = λ at. refl; count = refl }

-- Nothing is held to remove.
pub removed_not : (rows : List Row) (at : SiteMonth) → holds at (held_in rows) ≡ false → Removed (table_meaning rows) at (table_meaning rows) false
removed_not rows at none = record { found = sym none; capacity = refl; each = λ other. sym (missing other); count = refl }
  where
    missing : (other : SiteMonth) → cond (same other at) None (look_up other (held_in rows)) ≡ look_up other (held_in rows)
    missing other =
        cond_both (same other at) None (look_up other (held_in rows)) (λ o. o ≡ look_up other (held_in rows))
        (λ is. sym (ap (λ k. look_up k (held_in rows)) (same_is other at is) ∙ none_held (look_up at (held_in rows)) none)) (λ _. refl)
