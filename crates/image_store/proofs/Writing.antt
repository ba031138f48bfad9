-- A slot of an image written over, as a change of a store.
use Rattle.std.proofs.Common.{◌≡◌, ℕ, ◌<◌, true, false, ◌⊎◌, List, length, get_or, set, replicate, Ok, sym, refl, ap, ◌∙◌, subst, arith}
use Rattle.reading.specs.declared.site_month.SiteMonth.{SiteMonth}
use Rattle.record.specs.Rows.{holding, keyed, lawful_row, vacant}
use Rattle.record.specs.States.{used}
use Rattle.record.specs.declared.row.Row.{Row}
use Rattle.slot.specs.Reading.{row_in, lawful_slot}
use Rattle.store.specs.Changes.{Kept, Removed}
use Rattle.store.specs.Meaning.{holds}
use Rattle.store.specs.Table.{held_in, lawful_table, table_meaning}
use Rattle.store.proofs.Stored.{kept_in, kept_in_lawful, removed_row, removed_lawful}
use Rattle.slots.specs.Cuts.{slot_count, table_of, lawful_image, put_slot}
use Rattle.slots.proofs.Cutting.{table_long, table_put}
use Rattle.slots.proofs.Imaged.{table_is_lawful, put_lawful}

module _ (bytes : List ℕ) (lawful : lawful_image bytes ≡ true) (i : ℕ) (within : i < slot_count bytes) where
  inside : i < length (table_of bytes)
  inside = let n = table_long bytes in omega arith

  -- The slot of a row.
  module _ (row : Row) (slot : List ℕ) (is : row_in slot ≡ row) (ok : lawful_slot slot ≡ true) (long : length slot ≡ 424) where
    written : table_of (put_slot i slot bytes) ≡ set (table_of bytes) i row
    written = table_put bytes i slot within long ∙ ap (set (table_of bytes) i) is

    stays : lawful_table (set (table_of bytes) i row) ≡ true → lawful_image (put_slot i slot bytes) ≡ true
    stays h = put_lawful bytes i slot lawful within ok long (ap (λ r. lawful_table (set (table_of bytes) i r)) is ∙ h)

    -- A record in its own slot or an empty one.
    module _ (fit : lawful_row row ≡ true) (room : (keyed row.at (get_or (table_of bytes) i vacant) ≡ true) ⊎ ((holds row.at (held_in (table_of bytes)) ≡ false) × (used (get_or (table_of bytes) i vacant).state ≡ false))) where
      pub kept_lawful : lawful_image (put_slot i slot bytes) ≡ true
      kept_lawful = stays (kept_in_lawful (table_of bytes) (table_is_lawful bytes lawful) i inside row fit room)

      pub kept : Kept (table_meaning (table_of bytes)) (holding row) (table_meaning (table_of (put_slot i slot bytes))) (Ok tt)
      kept =
          subst (λ rows. Kept (table_meaning (table_of bytes)) (holding row) (table_meaning rows) (Ok tt)) (sym written)
          (kept_in (table_of bytes) (table_is_lawful bytes lawful) i inside row fit room)

  -- A slot emptied.
  module _ (at : SiteMonth) (has : keyed at (get_or (table_of bytes) i vacant) ≡ true) where
    pub emptied_lawful : lawful_image (put_slot i (replicate 424 0) bytes) ≡ true
    emptied_lawful = stays vacant (replicate 424 0) refl refl refl (removed_lawful (table_of bytes) (table_is_lawful bytes lawful) i inside at has)

    pub emptied : Removed (table_meaning (table_of bytes)) at (table_meaning (table_of (put_slot i (replicate 424 0) bytes))) true
    emptied =
        subst (λ rows. Removed (table_meaning (table_of bytes)) at (table_meaning rows) true) (sym (written vacant (replicate 424 0) refl refl refl))
        (removed_row (table_of bytes) (table_is_lawful bytes lawful) i inside at has)
