-- Whether a slot is lawful, from what its parts are found to be.
use Rattle.std.proofs.Common.{◌≡◌, ℕ, ◌<◌, Bool, true, false, ◌&&◌, leb, List, length, get_or, sym, refl, ap, ◌∙◌}
use Rattle.std.specs.List.{list_all, AllByRecursion as All}
use Rattle.std.proofs.lemmas.Bool.{or_from, or_right, both_ways, eq-eqb, leb-true}
use Rattle.record.specs.Rows.{lawful_row, vacant, is_vacant, tidy}
use Rattle.slot.specs.Layout.{slot_bytes}
use Rattle.slot.specs.Reading.{row_in, lawful_slot}
use Rattle.slot.proofs.Rows.{slot_again}
use Rattle.slot.proofs.Zeros.{is_zero, vacant_is, vacant_zeros, vacant_back, zeros_vacant}

not_so : (t : Bool) → (t ≡ true → ⊥) → t ≡ false
not_so true h = absurd (h refl)
not_so false h = refl

module _ (slot : List ℕ) (long : length slot ≡ 424) where
  pub zeros_row : list_all is_zero slot ≡ true → vacant ≡ row_in slot
  zeros_row h = sym vacant_back ∙ ap row_in (sym (zeros_vacant slot long h))

  pub zeros_lawful : list_all is_zero slot ≡ true → true ≡ lawful_slot slot
  zeros_lawful h = ap lawful_slot (sym (zeros_vacant slot long h))

  module _ (low : leb (get_or slot 0 0) 2 ≡ true) where
    pub tidy_decides : tidy (row_in slot) ≡ lawful_slot slot
    tidy_decides =
        ap (λ t. t && tidy (row_in slot)) (sym low)
        ∙ ap (λ t. t && (leb (get_or slot 0 0) 2 && tidy (row_in slot))) (sym (eq-eqb (length slot) 424 long))

    pub row_lawful : lawful_row (row_in slot) ≡ true → true ≡ lawful_slot slot
    row_lawful h = sym (or_right (is_vacant (row_in slot)) (lawful_row (row_in slot)) h) ∙ tidy_decides

    -- A vacant row has no other slot than zeros.
    pub neither : All (λ b. b < 256) slot → list_all is_zero slot ≡ false → lawful_row (row_in slot) ≡ false → false ≡ lawful_slot slot
    neither fit some unlawful =
        let row = row_in slot in
        let zeros : is_vacant row ≡ true → list_all is_zero slot ≡ true = λ h. ap (list_all is_zero) (sym (slot_again slot long (leb-true (get_or slot 0 0) 2 low) fit) ∙ ap slot_bytes (vacant_is row h)) ∙ vacant_zeros in
        let occupied : is_vacant row ≡ false = not_so (is_vacant row) (λ h. both_ways (list_all is_zero slot) some (zeros h)) in
        sym (or_from (is_vacant row) (lawful_row row) occupied unlawful) ∙ tidy_decides
