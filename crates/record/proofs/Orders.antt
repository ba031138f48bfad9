-- Rising meters by neighbours.
use Rattle.std.proofs.Common.{◌≡◌, ℕ, zero, suc, ◌+◌, ◌<◌, Bool, true, false, ◌&&◌, List, [], ◌∷◌, length, get_or, sym, refl, ap, ◌∙◌, add-one, arith}
use Rattle.std.proofs.Math.Bool.{and-false}
use Rattle.std.specs.List.{list_all, AllAdjacentBelow, IsAllAdjacentAnswer}
use Rattle.std.proofs.lemmas.Bool.{and_parts, and_from, ltb-true, lt-ltb}
use Rattle.reading.specs.declared.entry.Entry.{Entry}
use Rattle.record.specs.Meters.{blank, precedes, rising}

-- What goes before an entry goes before all that it goes before.
pub all_after : (e f : Entry) (es : List Entry) → precedes e f ≡ true → list_all (precedes f) es ≡ true → list_all (precedes e) es ≡ true
all_after e f [] h k = refl
all_after e f (g ∷ es) h k =
    let p = and_parts (precedes f g) (list_all (precedes f) es) k in
    let a = ltb-true e.meter f.meter h in
    let b = ltb-true f.meter g.meter p.0 in
    and_from (precedes e g) (list_all (precedes e) es) (lt-ltb e.meter g.meter (omega arith)) (all_after e f es h p.1)

-- Each goes before the next.
rises : (es : List Entry) → AllAdjacentBelow (λ e f. true ≡ precedes e f) es (length es) → rising es ≡ true
rises [] h = refl
rises (e ∷ []) h = refl
rises (e ∷ f ∷ es) h =
    let low = sym (h 0 blank (omega arith)) in
    let up = rises (f ∷ es) (λ k d l. simp add-one (simp add-one at (h (suc k) d (omega arith)))) in
    and_from (list_all (precedes e) (f ∷ es)) (rising (f ∷ es))
    (and_from (precedes e f) (list_all (precedes e) es) low (all_after e f es low (and_parts (list_all (precedes f) es) (rising es) up).0)) up

-- One does not.
falls : (es : List Entry) (k : ℕ) → k + 1 < length es → false ≡ precedes (get_or es k blank) (get_or es (k + 1) blank) → rising es ≡ false
falls [] k l h = absurd (omega arith)
falls (e ∷ []) k l h = absurd (omega arith)
falls (e ∷ f ∷ es) zero l h = ap (λ t. (t && list_all (precedes e) es) && rising (f ∷ es)) (sym h)
falls (e ∷ f ∷ es) (suc k) l h = ap (λ t. list_all (precedes e) (f ∷ es) && t) (falls (f ∷ es) k (omega arith) (simp add-one (simp add-one at h))) ∙ and-false (list_all (precedes e) (f ∷ es))

pub rising_is : (es : List Entry) (r : Bool) → IsAllAdjacentAnswer (λ e f b. b ≡ precedes e f) es r → r ≡ rising es
rising_is es true h = sym (rises es h)
rising_is es false (k, l, h) = sym (falls es k l (h blank))
