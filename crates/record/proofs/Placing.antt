-- What stands at a meter's place, and what an edit there leaves.
use Rattle.std.proofs.Common.{◌≡◌, ℕ, zero, suc, ◌<◌, ◌≤◌, true, false, eqb, List, [], ◌∷◌, length, get_or, set, Some, None, refl, ap, arith}
use Rattle.std.specs.List.{insert, remove, list_all}
use Rattle.std.proofs.lemmas.Bool.{and_parts, ltb-true, lt-ltb, le-ltb, eq-eqb, ne_eqb}
use Rattle.reading.specs.declared.entry.Entry.{Entry}
use Rattle.record.specs.Edits.{added, replaced, taken_out}
use Rattle.record.specs.Meters.{precedes, rising, standing, Place}
use Rattle.record.specs.Meters.{blank}

-- No reading of a meter stands among later ones.
pub none_later : (meter : ℕ) (e : Entry) (es : List Entry) → meter ≤ e.meter → list_all (precedes e) es ≡ true → standing meter es ≡ None
none_later meter e [] h k = refl
none_later meter e (f ∷ es) h k =
    let p = and_parts (precedes e f) (list_all (precedes e) es) k in
    let low = ltb-true e.meter f.meter p.0 in
    let other : eqb f.meter meter ≡ false = ne_eqb f.meter meter (omega arith) in
    rw other (none_later meter e es h p.1)

module _ (meter : ℕ) where
  -- The reading at the place is the meter's.
  pub stands_here : (es : List Entry) (k : ℕ) → Place meter es k → k < length es → (get_or es k blank).meter ≡ meter → standing meter es ≡ Some (get_or es k blank)
  stands_here [] k p h e = absurd (omega arith)
  stands_here (f ∷ es) zero p h e = rw (eq-eqb f.meter meter e)
  stands_here (f ∷ es) (suc k) (low, p) h e = rw (ne_eqb f.meter meter (omega arith)) (stands_here es k p (omega arith) e)

  -- It is another's, or there is none.
  pub stands_not : (es : List Entry) (k : ℕ) → rising es ≡ true → Place meter es k → (k < length es → (get_or es k blank).meter ≡ meter → ⊥) → standing meter es ≡ None
  stands_not [] k rise p h = refl
  stands_not (f ∷ es) zero rise p h =
      let other : f.meter ≡ meter → ⊥ = h (omega arith) in
      rw (ne_eqb f.meter meter other) (none_later meter f es p (and_parts (list_all (precedes f) es) (rising es) rise).0)
  stands_not (f ∷ es) (suc k) rise (low, p) h =
      rw (ne_eqb f.meter meter (omega arith)) (stands_not es k (and_parts (list_all (precedes f) es) (rising es) rise).1 p (λ l. h (omega arith)))

  -- Taking out the reading at the place.
  pub taken_here : (es : List Entry) (k : ℕ) → Place meter es k → k < length es → (get_or es k blank).meter ≡ meter → taken_out meter es ≡ remove es k
  taken_here [] k p h e = absurd (omega arith)
  taken_here (f ∷ es) zero p h e = rw (eq-eqb f.meter meter e)
  taken_here (f ∷ es) (suc k) (low, p) h e = rw (ne_eqb f.meter meter (omega arith)) (ap (λ l. f ∷ l) (taken_here es k p (omega arith) e))

module _ (e : Entry) where
  -- Putting a reading in the place of its meter's.
  pub replaced_here : (es : List Entry) (k : ℕ) → Place e.meter es k → k < length es → (get_or es k blank).meter ≡ e.meter → replaced e es ≡ set es k e
  replaced_here [] k p h is = absurd (omega arith)
  replaced_here (f ∷ es) zero p h is = rw (eq-eqb f.meter e.meter is)
  replaced_here (f ∷ es) (suc k) (low, p) h is = rw (ne_eqb f.meter e.meter (omega arith)) (ap (λ l. f ∷ l) (replaced_here es k p (omega arith) is))

  -- Putting it where it belongs.
  pub added_here : (es : List Entry) (k : ℕ) → Place e.meter es k → (k < length es → (get_or es k blank).meter ≡ e.meter → ⊥) → added e es ≡ insert es k e
  added_here [] zero p h = refl
  added_here [] (suc k) p h = absurd p
  added_here (f ∷ es) zero p h =
      let other : f.meter ≡ e.meter → ⊥ = h (omega arith) in
      rw (lt-ltb e.meter f.meter (omega arith))
  added_here (f ∷ es) (suc k) (low, p) h =
      rw (le-ltb e.meter f.meter (omega arith)) (ap (λ l. f ∷ l) (added_here es k p (λ l. h (omega arith))))
