-- What an edit of the readings keeps, and what stands by meter afterwards.
use Rattle.std.proofs.Common.{◌≡◌, ℕ, ◌+◌, Bool, true, false, cond, eqb, ltb, List, [], ◌∷◌, length, is_some, Some, None, Option, sym, refl, ap, ◌∙◌, ⊎_elim, arith}
use Rattle.std.specs.List.{list_all}
use Rattle.std.proofs.lemmas.Bool.{and_parts, and_from, ltb-false, lt-ltb, eqb-true, eqb-false, cases_Bool, cond-true, cond-false, cond_both}
use Rattle.reading.specs.declared.entry.Entry.{Entry}
use Rattle.record.specs.Edits.{added, replaced, taken_out, Puts, Takes}
use Rattle.record.specs.Meters.{of_meter, precedes, rising, standing, stands}
use Rattle.record.proofs.Orders.{all_after}
use Rattle.record.proofs.Placing.{none_later}

-- Whether a test holds of a reading and of all others.
module _ (p : Entry → Bool) where
  pub pass_added : (e : Entry) (es : List Entry) → p e ≡ true → list_all p es ≡ true → list_all p (added e es) ≡ true
  pass_added e [] h k = and_from (p e) true h refl
  pass_added e (f ∷ es) h k =
      let parts = and_parts (p f) (list_all p es) k in
      cond_both (precedes e f) (e ∷ f ∷ es) (f ∷ added e es) (λ l. list_all p l ≡ true)
      (λ _. and_from (p e) (list_all p (f ∷ es)) h k)
      (λ _. and_from (p f) (list_all p (added e es)) parts.0 (pass_added e es h parts.1))

  pub pass_replaced : (e : Entry) (es : List Entry) → p e ≡ true → list_all p es ≡ true → list_all p (replaced e es) ≡ true
  pass_replaced e [] h k = refl
  pass_replaced e (f ∷ es) h k =
      let parts = and_parts (p f) (list_all p es) k in
      cond_both (of_meter e.meter f) (e ∷ es) (f ∷ replaced e es) (λ l. list_all p l ≡ true)
      (λ _. and_from (p e) (list_all p es) h parts.1)
      (λ _. and_from (p f) (list_all p (replaced e es)) parts.0 (pass_replaced e es h parts.1))

  pub pass_taken : (meter : ℕ) (es : List Entry) → list_all p es ≡ true → list_all p (taken_out meter es) ≡ true
  pass_taken meter [] k = refl
  pass_taken meter (f ∷ es) k =
      let parts = and_parts (p f) (list_all p es) k in
      cond_both (of_meter meter f) es (f ∷ taken_out meter es) (λ l. list_all p l ≡ true)
      (λ _. parts.1)
      (λ _. and_from (p f) (list_all p (taken_out meter es)) parts.0 (pass_taken meter es parts.1))

-- A meter that does not stand differs from the first, and does not stand among the rest.
standing_rest : (meter : ℕ) (f : Entry) (es : List Entry) → standing meter (f ∷ es) ≡ None → (f.meter ≡ meter → ⊥) × (standing meter es ≡ None)
standing_rest meter f es none =
    ⊎_elim
    (λ is. absurd (let z : ◌≡◌ {A = ℕ} 0 1 = let some = sym none ∙ cond-true (of_meter meter f) (Some f) (standing meter es) is in cc in omega arith))
    (λ not. (eqb-false f.meter meter not, sym (cond-false (of_meter meter f) (Some f) (standing meter es) not) ∙ none))
    (cases_Bool (of_meter meter f))

-- Rising order is kept.
pub rising_added : (e : Entry) (es : List Entry) → standing e.meter es ≡ None → rising es ≡ true → rising (added e es) ≡ true
rising_added e [] none k = refl
rising_added e (f ∷ es) none k =
    let parts = and_parts (list_all (precedes f) es) (rising es) k in
    let rest = standing_rest e.meter f es none in
    cond_both (precedes e f) (e ∷ f ∷ es) (f ∷ added e es) (λ l. rising l ≡ true)
    (λ low. and_from (list_all (precedes e) (f ∷ es)) (rising (f ∷ es)) (and_from (precedes e f) (list_all (precedes e) es) low (all_after e f es low parts.0)) k)
    (λ high. and_from (list_all (precedes f) (added e es)) (rising (added e es))
    (pass_added (precedes f) e es (lt-ltb f.meter e.meter (let le = ltb-false e.meter f.meter high in let ne = rest.0 in omega arith)) parts.0)
    (rising_added e es rest.1 parts.1))

-- A reading of the same meter goes before the same ones.
alike : (e f : Entry) (es : List Entry) → e.meter ≡ f.meter → list_all (precedes f) es ≡ true → list_all (precedes e) es ≡ true
alike e f [] is h = refl
alike e f (g ∷ es) is h =
    let parts = and_parts (precedes f g) (list_all (precedes f) es) h in
    and_from (precedes e g) (list_all (precedes e) es) (ap (λ m. ltb m g.meter) is ∙ parts.0) (alike e f es is parts.1)

pub rising_replaced : (e : Entry) (es : List Entry) → rising es ≡ true → rising (replaced e es) ≡ true
rising_replaced e [] k = refl
rising_replaced e (f ∷ es) k =
    let parts = and_parts (list_all (precedes f) es) (rising es) k in
    cond_both (of_meter e.meter f) (e ∷ es) (f ∷ replaced e es) (λ l. rising l ≡ true)
    (λ is. and_from (list_all (precedes e) es) (rising es) (alike e f es (sym (eqb-true f.meter e.meter is)) parts.0) parts.1)
    (λ _. and_from (list_all (precedes f) (replaced e es)) (rising (replaced e es)) (still es parts.0) (rising_replaced e es parts.1))
  where
    still : (gs : List Entry) → list_all (precedes f) gs ≡ true → list_all (precedes f) (replaced e gs) ≡ true
    still [] h = refl
    still (g ∷ gs) h =
        let parts = and_parts (precedes f g) (list_all (precedes f) gs) h in
        cond_both (of_meter e.meter g) (e ∷ gs) (g ∷ replaced e gs) (λ l. list_all (precedes f) l ≡ true)
        (λ is. and_from (precedes f e) (list_all (precedes f) gs) (ap (ltb f.meter) (sym (eqb-true g.meter e.meter is)) ∙ parts.0) parts.1)
        (λ _. and_from (precedes f g) (list_all (precedes f) (replaced e gs)) parts.0 (still gs parts.1))

pub rising_taken : (meter : ℕ) (es : List Entry) → rising es ≡ true → rising (taken_out meter es) ≡ true
rising_taken meter [] k = refl
rising_taken meter (f ∷ es) k =
    let parts = and_parts (list_all (precedes f) es) (rising es) k in
    cond_both (of_meter meter f) es (f ∷ taken_out meter es) (λ l. rising l ≡ true)
    (λ _. parts.1)
    (λ _. and_from (list_all (precedes f) (taken_out meter es)) (rising (taken_out meter es)) (pass_taken (precedes f) meter es parts.0) (rising_taken meter es parts.1))

-- How many readings there are.
pub length_added : (e : Entry) (es : List Entry) → length (added e es) ≡ length es + 1
length_added e [] = refl
length_added e (f ∷ es) =
    cond_both (precedes e f) (e ∷ f ∷ es) (f ∷ added e es) (λ l. length l ≡ length (f ∷ es) + 1)
    (λ _. omega arith) (λ _. let more = length_added e es in omega arith)

pub length_replaced : (e : Entry) (es : List Entry) → length (replaced e es) ≡ length es
length_replaced e [] = refl
length_replaced e (f ∷ es) =
    cond_both (of_meter e.meter f) (e ∷ es) (f ∷ replaced e es) (λ l. length l ≡ length (f ∷ es))
    (λ _. refl) (λ _. let more = length_replaced e es in omega arith)

pub length_taken : (meter : ℕ) (es : List Entry) → stands meter es ≡ true → length (taken_out meter es) + 1 ≡ length es
length_taken meter [] h = absurd (let z : ◌≡◌ {A = ℕ} 0 1 = cc in omega arith)
length_taken meter (f ∷ es) h =
    cond_both (of_meter meter f) es (f ∷ taken_out meter es) (λ l. length l + 1 ≡ length (f ∷ es))
    (λ _. omega arith)
    (λ not. let more = length_taken meter es (ap is_some (sym (cond-false (of_meter meter f) (Some f) (standing meter es) not)) ∙ h) in omega arith)

-- What stands by meter.
differ : (m : ℕ) (e f : Entry) → of_meter m e ≡ true → of_meter m f ≡ true → e.meter ≡ f.meter
differ m e f h k = eqb-true e.meter m h ∙ sym (eqb-true f.meter m k)

-- Two choices of which at most one is made can be taken in either order.
pub swap : {A : Type 0} (s t : Bool) (x y z : A) → (s ≡ true → t ≡ true → ⊥) → cond s x (cond t y z) ≡ cond t y (cond s x z)
swap true true x y z h = absurd (h refl refl)
swap true false x y z h = refl
swap false true x y z h = refl
swap false false x y z h = refl

pub puts_added : (e : Entry) (es : List Entry) → standing e.meter es ≡ None → Puts e es (added e es)
puts_added e [] none m = refl
puts_added e (f ∷ es) none m =
    let rest = standing_rest e.meter f es none in
    cond_both (precedes e f) (e ∷ f ∷ es) (f ∷ added e es) (λ l. standing m l ≡ cond (of_meter m e) (Some e) (standing m (f ∷ es)))
    (λ _. refl)
    (λ _. ap (cond (of_meter m f) (Some f)) (puts_added e es rest.1 m)
    ∙ swap (of_meter m f) (of_meter m e) (Some f) (Some e) (standing m es) (λ a b. rest.0 (differ m f e a b)))

same_meter : (m : ℕ) (e f : Entry) (o : Option Entry) → f.meter ≡ e.meter → cond (of_meter m e) (Some e) o ≡ cond (of_meter m e) (Some e) (cond (of_meter m f) (Some f) o)
same_meter m e f o is =
    ⊎_elim
    (λ h. rw h)
    (λ h. let k : of_meter m f ≡ false = ap (λ n. eqb n m) is ∙ h in rw (h, k))
    (cases_Bool (of_meter m e))

pub puts_replaced : (e : Entry) (es : List Entry) → stands e.meter es ≡ true → Puts e es (replaced e es)
puts_replaced e [] h m = absurd (let z : ◌≡◌ {A = ℕ} 0 1 = cc in omega arith)
puts_replaced e (f ∷ es) h m =
    cond_both (of_meter e.meter f) (e ∷ es) (f ∷ replaced e es) (λ l. standing m l ≡ cond (of_meter m e) (Some e) (standing m (f ∷ es)))
    (λ is. same_meter m e f (standing m es) (eqb-true f.meter e.meter is))
    (λ not. ap (cond (of_meter m f) (Some f)) (puts_replaced e es (ap is_some (sym (cond-false (of_meter e.meter f) (Some f) (standing e.meter es) not)) ∙ h) m)
    ∙ swap (of_meter m f) (of_meter m e) (Some f) (Some e) (standing m es) (λ a b. eqb-false f.meter e.meter not (differ m f e a b)))

pub takes_taken : (gone : ℕ) (es : List Entry) → rising es ≡ true → Takes gone es (taken_out gone es)
takes_taken gone [] k m = cond_both (eqb gone m) None None (λ o. None ≡ o) (λ _. refl) (λ _. refl)
takes_taken gone (f ∷ es) k m =
    let parts = and_parts (list_all (precedes f) es) (rising es) k in
    cond_both (of_meter gone f) es (f ∷ taken_out gone es) (λ l. standing m l ≡ cond (eqb gone m) None (standing m (f ∷ es)))
    (λ is. here m (eqb-true f.meter gone is) parts.0)
    (λ not. ap (cond (of_meter m f) (Some f)) (takes_taken gone es parts.1 m)
    ∙ swap (of_meter m f) (eqb gone m) (Some f) None (standing m es) (λ a b. eqb-false f.meter gone not (eqb-true f.meter m a ∙ sym (eqb-true gone m b))))
  where
    here : (m : ℕ) → f.meter ≡ gone → list_all (precedes f) es ≡ true → standing m es ≡ cond (eqb gone m) None (standing m (f ∷ es))
    here m is later =
        ⊎_elim
        (λ h. let none = none_later m f es (let e = eqb-true gone m h in omega arith) later in rw (h, none))
        (λ h. let other : of_meter m f ≡ false = ap (λ n. eqb n m) is ∙ h in rw (h, other))
        (cases_Bool (eqb gone m))
