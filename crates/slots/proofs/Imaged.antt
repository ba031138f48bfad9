-- An image is a store.
use Rattle.std.proofs.Common.{◌≡◌, ℕ, ◌*◌, ◌/◌, ◌%◌, ◌<◌, ◌≤◌, true, ◌&&◌, eqb, leb, List, [], ◌∷◌, map, length, get_or, take, drop, set, sym, refl, ap, ◌∙◌, subst, arith}
use Rattle.std.specs.List.{list_all}
use Rattle.std.proofs.lemmas.Bool.{and_parts, and_from, leb-true, le-leb, eqb-true, eq-eqb}
use Rattle.std.proofs.lemmas.List.Sums.{AllPass-from_list_all}
use Rattle.record.specs.Rows.{tidy}
use Rattle.slot.specs.Reading.{row_in, lawful_slot}
use Rattle.store.specs.Meaning.{Lawful, once}
use Rattle.store.specs.Table.{held_in, lawful_table, table_meaning}
use Rattle.store.proofs.Stored.{table_lawful}
use Rattle.store.proofs.Tables.{pass_set}
use Rattle.slots.specs.Cuts.{slot_count, slots_of, table_of, lawful_image, put_slot}
use Rattle.slots.proofs.Cutting.{slots_long, slot_is, table_long, put_long, slots_of_put, table_put}

-- The rules of an image one by one.
pub record Rules (bytes : List ℕ) : Type 0 where
  pub whole : length bytes % 424 ≡ 0
  pub least : 1 ≤ slot_count bytes
  pub most : slot_count bytes ≤ 1024
  pub each : list_all lawful_slot (slots_of bytes) ≡ true
  pub apart : once (held_in (table_of bytes)) ≡ true

pub rules : (bytes : List ℕ) → lawful_image bytes ≡ true → Rules bytes
rules bytes h =
    let a = and_parts (eqb (length bytes % 424) 0) (leb 1 (slot_count bytes) && (leb (slot_count bytes) 1024 && (list_all lawful_slot (slots_of bytes) && once (held_in (table_of bytes))))) h in
    let b = and_parts (leb 1 (slot_count bytes)) (leb (slot_count bytes) 1024 && (list_all lawful_slot (slots_of bytes) && once (held_in (table_of bytes)))) a.1 in
    let c = and_parts (leb (slot_count bytes) 1024) (list_all lawful_slot (slots_of bytes) && once (held_in (table_of bytes))) b.1 in
    let d = and_parts (list_all lawful_slot (slots_of bytes)) (once (held_in (table_of bytes))) c.1 in
    record {
      whole = eqb-true (length bytes % 424) 0 a.0;
      least = leb-true 1 (slot_count bytes) b.0;
      most = leb-true (slot_count bytes) 1024 c.0;
      each = d.0;
      apart = d.1;
    }

pub rules_from : (bytes : List ℕ) → Rules bytes → lawful_image bytes ≡ true
rules_from bytes r =
    and_from (eqb (length bytes % 424) 0) (leb 1 (slot_count bytes) && (leb (slot_count bytes) 1024 && (list_all lawful_slot (slots_of bytes) && once (held_in (table_of bytes))))) (eq-eqb (length bytes % 424) 0 r.whole)
    (and_from (leb 1 (slot_count bytes)) (leb (slot_count bytes) 1024 && (list_all lawful_slot (slots_of bytes) && once (held_in (table_of bytes)))) (le-leb 1 (slot_count bytes) r.least)
    (and_from (leb (slot_count bytes) 1024) (list_all lawful_slot (slots_of bytes) && once (held_in (table_of bytes))) (le-leb (slot_count bytes) 1024 r.most)
    (and_from (list_all lawful_slot (slots_of bytes)) (once (held_in (table_of bytes))) r.each r.apart)))

-- The rows of lawful slots are tidy.
slot_tidy : (slot : List ℕ) → lawful_slot slot ≡ true → tidy (row_in slot) ≡ true
slot_tidy slot h =
    (and_parts (leb (get_or slot 0 0) 2) (tidy (row_in slot)) (and_parts (eqb (length slot) 424) (leb (get_or slot 0 0) 2 && tidy (row_in slot)) h).1).1

rows_tidy : (slots : List (List ℕ)) → list_all lawful_slot slots ≡ true → list_all tidy (map row_in slots) ≡ true
rows_tidy [] h = refl
rows_tidy (slot ∷ slots) h =
    let p = and_parts (lawful_slot slot) (list_all lawful_slot slots) h in
    and_from (tidy (row_in slot)) (list_all tidy (map row_in slots)) (slot_tidy slot p.0) (rows_tidy slots p.1)

pub table_is_lawful : (bytes : List ℕ) → lawful_image bytes ≡ true → lawful_table (table_of bytes) ≡ true
table_is_lawful bytes h =
    let r = rules bytes h in
    and_from (list_all tidy (table_of bytes)) (once (held_in (table_of bytes))) (rows_tidy (slots_of bytes) r.each) r.apart

pub image_lawful : (bytes : List ℕ) → lawful_image bytes ≡ true → Lawful (table_meaning (table_of bytes))
image_lawful bytes h =
    let r = rules bytes h in
    let n = table_long bytes in
    table_lawful (table_of bytes) (table_is_lawful bytes h) (let a = r.least in omega arith) (let b = r.most in omega arith)

-- Each slot of a lawful image is lawful.
pub slot_fit : (bytes : List ℕ) (i : ℕ) → lawful_image bytes ≡ true → i < slot_count bytes → lawful_slot (take 424 (drop (424 * i) bytes)) ≡ true
slot_fit bytes i h within =
    ap lawful_slot (sym (slot_is (slot_count bytes) bytes i within))
    ∙ AllPass-from_list_all lawful_slot (slots_of bytes) (rules bytes h).each i [] (let n = slots_long (slot_count bytes) bytes in omega arith)

-- An image stays lawful where a lawful slot is written and the table stays lawful.
pub put_lawful : (bytes : List ℕ) (i : ℕ) (new : List ℕ) → lawful_image bytes ≡ true → i < slot_count bytes → lawful_slot new ≡ true → length new ≡ 424 → lawful_table (set (table_of bytes) i (row_in new)) ≡ true → lawful_image (put_slot i new bytes) ≡ true
put_lawful bytes i new h within fit long table =
    let r = rules bytes h in
    let n = put_long bytes i new within long in
    let t = and_parts (list_all tidy (set (table_of bytes) i (row_in new))) (once (held_in (set (table_of bytes) i (row_in new)))) table in
    rules_from (put_slot i new bytes)
    (record {
      whole = ap (λ k. k % 424) n ∙ r.whole;
      least = subst (λ k. 1 ≤ k / 424) (sym n) r.least;
      most = subst (λ k. k / 424 ≤ 1024) (sym n) r.most;
      each = ap (list_all lawful_slot) (slots_of_put bytes i new within long) ∙ pass_set lawful_slot (slots_of bytes) i new fit r.each;
      apart = ap (λ rows. once (held_in rows)) (table_put bytes i new within long) ∙ t.1;
    })
