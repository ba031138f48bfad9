-- The slots of an image, one by one, and with one written over.
use Rattle.std.proofs.Common.{◌≡◌, ℕ, zero, suc, ◌+◌, ◌-◌, ◌*◌, ◌/◌, ◌<◌, ◌≢◌, ◌⊎◌, List, [], ◌++◌, map, length, get_or, take, drop, set, sym, refl, ap, ◌∙◌, inl, inr, ⊎_elim, arith}
use Rattle.std.proofs.lemmas.List.{drop-drop, drop_at, take_at, take-append-drop, take-append-le, drop-append-le, get_or-map, get_or-set_same, get_or-set_other, length-map, length-set, length-append, length-take-le, length-drop, ext_get_or, map-set, append_assoc}
use Rattle.std.proofs.lemmas.Bool.{cases_order, cases_eq}
use Rattle.record.specs.Rows.{vacant}
use Rattle.slot.specs.Reading.{row_in}
use Rattle.slots.specs.Cuts.{slots, slot_count, slots_of, table_of, put_slot}

pub slots_long : (n : ℕ) (bytes : List ℕ) → length (slots n bytes) ≡ n
slots_long zero bytes = refl
slots_long (suc n) bytes = ap suc (slots_long n (drop 424 bytes))

-- One slot.
pub slot_is : (n : ℕ) (bytes : List ℕ) (i : ℕ) → i < n → get_or (slots n bytes) i [] ≡ take 424 (drop (424 * i) bytes)
slot_is zero bytes i h = absurd (omega arith)
slot_is (suc n) bytes zero h = refl
slot_is (suc n) bytes (suc i) h =
    let on : 424 + 424 * i ≡ 424 * suc i = omega arith in
    slot_is n (drop 424 bytes) i (omega arith) ∙ ap (take 424) (drop-drop (424 * i) 424 bytes ∙ ap (λ k. drop k bytes) on)

pub slot_long : (bytes : List ℕ) (i : ℕ) → i < slot_count bytes → length (take 424 (drop (424 * i) bytes)) ≡ 424
slot_long bytes i h = length-take-le 424 (drop (424 * i) bytes) (simp length-drop (omega arith))

pub table_long : (bytes : List ℕ) → length (table_of bytes) ≡ slot_count bytes
table_long bytes = length-map (slots_of bytes) row_in ∙ slots_long (slot_count bytes) bytes

-- One row of the table.
pub row_at : (bytes : List ℕ) (i : ℕ) → i < slot_count bytes → get_or (table_of bytes) i vacant ≡ row_in (get_or (slots_of bytes) i [])
row_at bytes i h = get_or-map row_in (slots_of bytes) i [] vacant (let n = slots_long (slot_count bytes) bytes in omega arith)

pub row_is : (bytes : List ℕ) (i : ℕ) → i < slot_count bytes → get_or (table_of bytes) i vacant ≡ row_in (take 424 (drop (424 * i) bytes))
row_is bytes i h = row_at bytes i h ∙ ap row_in (slot_is (slot_count bytes) bytes i h)

-- A slot written over.
module _ (bytes : List ℕ) (i : ℕ) (new : List ℕ) (h : i < slot_count bytes) (long : length new ≡ 424) where
  front_long : length (take (424 * i) bytes) ≡ 424 * i
  front_long = length-take-le (424 * i) bytes (omega arith)

  both_long : length (take (424 * i) bytes ++ new) ≡ 424 * i + 424
  both_long = length-append (take (424 * i) bytes) new ∙ (let f = front_long in omega arith)

  pub put_long : length (put_slot i new bytes) ≡ length bytes
  put_long =
      length-append (take (424 * i) bytes) (new ++ drop (424 * i + 424) bytes)
      ∙ (let f = front_long in let a = length-append new (drop (424 * i + 424) bytes) in let d = length-drop (424 * i + 424) bytes in omega arith)

  put_here : take 424 (drop (424 * i) (put_slot i new bytes)) ≡ new
  put_here =
      ap (take 424) (drop_at (take (424 * i) bytes) (new ++ drop (424 * i + 424) bytes) (424 * i) front_long)
      ∙ take_at new (drop (424 * i + 424) bytes) 424 long

  put_before : (j : ℕ) → j < i → take 424 (drop (424 * j) (put_slot i new bytes)) ≡ take 424 (drop (424 * j) bytes)
  put_before j l =
      let e : 424 * i - 424 * j ≡ length (drop (424 * j) (take (424 * i) bytes)) = sym (length-drop (424 * j) (take (424 * i) bytes) ∙ ap (λ n. n - 424 * j) front_long) in
      ap (take 424) (drop-append-le (424 * j) (take (424 * i) bytes) (new ++ drop (424 * i + 424) bytes) (let f = front_long in omega arith))
      ∙ take-append-le 424 (drop (424 * j) (take (424 * i) bytes)) (new ++ drop (424 * i + 424) bytes) (omega arith)
      ∙ sym (take-append-le 424 (drop (424 * j) (take (424 * i) bytes)) (drop (424 * i) bytes) (omega arith))
      ∙ ap (take 424) (sym (drop-append-le (424 * j) (take (424 * i) bytes) (drop (424 * i) bytes) (let f = front_long in omega arith)))
      ∙ ap (λ l. take 424 (drop (424 * j) l)) (take-append-drop (424 * i) bytes)

  put_after : (j : ℕ) → i < j → take 424 (drop (424 * j) (put_slot i new bytes)) ≡ take 424 (drop (424 * j) bytes)
  put_after j l =
      let on : 424 * i + 424 + (424 * j - (424 * i + 424)) ≡ 424 * j = omega arith in
      ap (λ l. take 424 (drop (424 * j) l)) (sym (append_assoc (take (424 * i) bytes) new (drop (424 * i + 424) bytes)))
      ∙ ap (λ k. take 424 (drop k ((take (424 * i) bytes ++ new) ++ drop (424 * i + 424) bytes))) (sym on)
      ∙ ap (take 424) (sym (drop-drop (424 * j - (424 * i + 424)) (424 * i + 424) ((take (424 * i) bytes ++ new) ++ drop (424 * i + 424) bytes)))
      ∙ ap (λ l. take 424 (drop (424 * j - (424 * i + 424)) l)) (drop_at (take (424 * i) bytes ++ new) (drop (424 * i + 424) bytes) (424 * i + 424) both_long)
      ∙ ap (take 424) (drop-drop (424 * j - (424 * i + 424)) (424 * i + 424) bytes)
      ∙ ap (λ k. take 424 (drop k bytes)) on

  put_other : (j : ℕ) → j ≢ i → take 424 (drop (424 * j) (put_slot i new bytes)) ≡ take 424 (drop (424 * j) bytes)
  put_other j ne = ⊎_elim (λ e. absurd (ne e)) (⊎_elim (put_before j) (put_after j)) (cases_order j i)

  pub slots_put : (n : ℕ) → i < n → slots n (put_slot i new bytes) ≡ set (slots n bytes) i new
  slots_put n l =
      ext_get_or [] (slots n (put_slot i new bytes)) (set (slots n bytes) i new)
      (slots_long n (put_slot i new bytes) ∙ sym (length-set (slots n bytes) i new ∙ slots_long n bytes))
      (λ j k. at j (let m = slots_long n (put_slot i new bytes) in omega arith) (cases_eq j i))
    where
      at : (j : ℕ) → j < n → (j ≡ i) ⊎ (j ≡ i → ⊥) → get_or (slots n (put_slot i new bytes)) j [] ≡ get_or (set (slots n bytes) i new) j []
      at j k (inl e) =
          slot_is n (put_slot i new bytes) j k
          ∙ ap (λ m. take 424 (drop (424 * m) (put_slot i new bytes))) e
          ∙ put_here
          ∙ sym (get_or-set_same (slots n bytes) i new [] (let m = slots_long n bytes in omega arith))
          ∙ ap (λ m. get_or (set (slots n bytes) i new) m []) (sym e)
      at j k (inr ne) =
          slot_is n (put_slot i new bytes) j k
          ∙ put_other j ne
          ∙ sym (slot_is n bytes j k)
          ∙ sym (get_or-set_other (slots n bytes) i j new [] ne)

  pub slots_of_put : slots_of (put_slot i new bytes) ≡ set (slots_of bytes) i new
  slots_of_put = ap (λ k. slots (k / 424) (put_slot i new bytes)) put_long ∙ slots_put (slot_count bytes) h

  pub table_put : table_of (put_slot i new bytes) ≡ set (table_of bytes) i (row_in new)
  table_put = ap (map row_in) slots_of_put ∙ map-set row_in (slots_of bytes) i new
