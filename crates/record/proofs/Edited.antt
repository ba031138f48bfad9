-- The row that each edit of a record leaves.
use Rattle.std.proofs.Common.{◌≡◌, ℕ, ◌+◌, ◌-◌, ◌<◌, true, List, [], ◌∷◌, ◌++◌, length, get_or, take, drop, set, sym, ap, ◌∙◌, arith}
use lib.Seq.{take-set-lt}
use Rattle.std.specs.List.{insert, remove, list_all}
use Rattle.std.proofs.lemmas.List.Edits.{length-remove}
use Rattle.std.proofs.lemmas.List.{length-set, length-take-le, length-drop, length-append, take-take, take_at, drop_at, drop_more, drop-set-lt, append_assoc}
use Rattle.std.proofs.lemmas.Bool.{and_parts}
use Rattle.reading.specs.declared.entry.Entry.{Entry}
use Rattle.record.specs.declared.row.Row.{Row}
use Rattle.record.specs.Edits.{added, replaced, taken_out}
use Rattle.record.specs.Holding.{lawful_reading}
use Rattle.record.specs.Meters.{blank, StandsAt, BelongsAt}
use Rattle.record.specs.Rows.{is_blank, lawful_row}
use Rattle.record.proofs.Editing.{pass_added, pass_replaced, pass_taken, rising_added, rising_replaced, rising_taken, length_added}
use Rattle.record.proofs.Laws.{laws, edited}
use Rattle.record.proofs.Placing.{stands_here, taken_here, replaced_here, added_here}

-- What stands at a place that the meter's reading does not stand at is another's.
other : (meter : ℕ) (es : List Entry) (k : ℕ) → BelongsAt meter es k → k < length es → (get_or es k blank).meter ≡ meter → ⊥
other meter es k at l e =
    let some = stands_here meter es k at.place l e in
    let z : ◌≡◌ {A = ℕ} 0 1 = let none = at.none in cc in
    omega arith

module _ (row : Row) (lawful : lawful_row row ≡ true) where
  -- The readings.
  abbrev es : List Entry
  es = take row.count row.entries

  es_long : length es ≡ row.count
  es_long = let l = laws row lawful in length-take-le row.count row.entries (omega arith)

  -- A reading added.
  module _ (e : Entry) (k : ℕ) (front : List Entry) (at : BelongsAt e.meter es k) (is : front ≡ insert (take (length (take (row.count + 1) row.entries) - 1) (take (row.count + 1) row.entries)) k e) (room : row.count ≡ 16 → ⊥) where
    abbrev after_with : List Entry
    after_with = front ++ drop (row.count + 1) row.entries

    few : row.count < 16
    few = let l = laws row lawful in omega arith

    pub with_is : front ≡ added e es
    with_is =
        let l = laws row lawful in
        let on : length (take (row.count + 1) row.entries) - 1 ≡ row.count = let n = length-take-le (row.count + 1) row.entries (let m = few in omega arith) in omega arith in
        is
        ∙ ap (λ m. insert (take m (take (row.count + 1) row.entries)) k e) on
        ∙ ap (λ l. insert l k e) (take-take row.count (row.count + 1) row.entries (omega arith))
        ∙ sym (added_here e es k at.place (other e.meter es k at))

    with_long : length front ≡ row.count + 1
    with_long = ap length with_is ∙ length_added e es ∙ ap (λ m. m + 1) es_long

    pub with_readings_are : take (row.count + 1) after_with ≡ added e es
    with_readings_are = take_at front (drop (row.count + 1) row.entries) (row.count + 1) with_long ∙ with_is

    pub with_lawful : lawful_reading e ≡ true → lawful_row (record { at = row.at; state = row.state; count = row.count + 1; entries = after_with }) ≡ true
    with_lawful each =
        let l = laws row lawful in
        let low = few in
        let long : length after_with ≡ 16 = length-append front (drop (row.count + 1) row.entries) ∙ (let f = with_long in let d = length-drop (row.count + 1) row.entries in omega arith) in
        let next = and_parts (is_blank (get_or row.entries row.count blank)) (list_all is_blank (drop (row.count + 1) row.entries)) (ap (list_all is_blank) (sym (drop_more row.entries row.count blank (omega arith))) ∙ l.unused) in
        edited row (row.count + 1) after_with (added e es) l (omega arith) (omega arith) long
        (ap (list_all is_blank) (drop_at front (drop (row.count + 1) row.entries) (row.count + 1) with_long) ∙ next.1)
        with_readings_are (pass_added lawful_reading e es each l.each) (rising_added e es at.none l.order)

  -- A reading in the place of its meter's.
  module _ (e : Entry) (k : ℕ) (at : StandsAt e.meter es k) where
    here : k < row.count
    here = let l = laws row lawful in let n = length-take-le row.count row.entries (omega arith) in let w = at.within in omega arith

    pub replacing_is : take row.count (set row.entries k e) ≡ replaced e es
    replacing_is =
        take-set-lt row.count row.entries k e here
        ∙ sym (replaced_here e es k at.place at.within at.own)

    pub replacing_lawful : lawful_reading e ≡ true → lawful_row (record { at = row.at; state = row.state; count = row.count; entries = set row.entries k e }) ≡ true
    replacing_lawful each =
        let l = laws row lawful in
        edited row row.count (set row.entries k e) (replaced e es) l l.least l.most (length-set row.entries k e ∙ l.long)
        (ap (list_all is_blank) (drop-set-lt row.count row.entries k e here) ∙ l.unused) replacing_is (pass_replaced lawful_reading e es each l.each) (rising_replaced e es l.order)

  -- A reading taken out.
  module _ (meter k : ℕ) (front : List Entry) (at : StandsAt meter es k) (is : front ≡ remove es k ++ blank ∷ []) where
    abbrev after_without : List Entry
    after_without = front ++ drop row.count row.entries

    after_is : after_without ≡ remove es k ++ blank ∷ drop row.count row.entries
    after_is = ap (λ l. l ++ drop row.count row.entries) is ∙ append_assoc (remove es k) (blank ∷ []) (drop row.count row.entries)

    kept_long : length (remove es k) ≡ row.count - 1
    kept_long = let w = at.within in let n = length-remove es k w in let m = es_long in omega arith

    pub without_is : take (row.count - 1) after_without ≡ taken_out meter es
    without_is =
        ap (take (row.count - 1)) after_is
        ∙ take_at (remove es k) (blank ∷ drop row.count row.entries) (row.count - 1) kept_long
        ∙ sym (taken_here meter es k at.place at.within at.own)

    pub without_lawful : (row.count ≡ 1 → ⊥) → lawful_row (record { at = row.at; state = row.state; count = row.count - 1; entries = after_without }) ≡ true
    without_lawful some =
        let l = laws row lawful in
        let long : length after_without ≡ 16 = ap length after_is ∙ length-append (remove es k) (blank ∷ drop row.count row.entries) ∙ (let f = kept_long in let d = length-drop row.count row.entries in omega arith) in
        edited row (row.count - 1) after_without (taken_out meter es) l (let least = l.least in omega arith) (let most = l.most in omega arith) long
        (ap (λ r. list_all is_blank (drop (row.count - 1) r)) after_is ∙ ap (list_all is_blank) (drop_at (remove es k) (blank ∷ drop row.count row.entries) (row.count - 1) kept_long) ∙ l.unused)
        without_is (pass_taken lawful_reading meter es l.each) (rising_taken meter es l.order)
