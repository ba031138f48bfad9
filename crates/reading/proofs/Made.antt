-- Arrays made by calls of a closure that each call leaves as it was.
use Rattle.std.proofs.Common.{◌≡◌, ℕ, zero, suc, ◌+◌, ◌<◌, List, map, length, get_or, sym, ap, ◌∙◌, subst, arith}
use Rattle.std.specs.Array.{IsFromFnResultFrom, IsFromFnResult, MapsFrom, IsMapOf}
use Rattle.std.specs.Fn.{Called}
use Rattle.std.specs.List.{range_with_len}
use Rattle.std.proofs.lemmas.List.{ext_get_or, length-map, get_or-map}
use Rattle.std.proofs.lemmas.List.FromFn.{fill_by_all}
use denote.Param.Members.{Mut}

module _ {F B : Type 0} {g : Mut F (ℕ × Unit {0}) B} {f : F} {ys : List B} {n : ℕ} (r : IsFromFnResult g f ys n) (made : ℕ → B) (h : (i : ℕ) (y : B) (f' : F) → i < n → Called g f (i, tt) y f' → (y ≡ made i) × (f' ≡ f)) where
  from_fn_at : (m i k j : ℕ) → k < m → i + m ≡ n → i + k ≡ j → IsFromFnResultFrom g f ys i m → get_or ys j (made 0) ≡ made j
  from_fn_at zero i k j below all is r = absurd (omega arith)
  from_fn_at (suc m) i zero j below all is (q, y, at, call, rest) =
      let here : j ≡ i = omega arith in
      rw here (at.1 (made 0) ∙ (h i y q (omega arith) call).0)
  from_fn_at (suc m) i (suc k) j below all is (q, y, at, call, rest) =
      from_fn_at m (i + 1) k j (omega arith) (omega arith) (omega arith) (subst (λ p. IsFromFnResultFrom g p ys (i + 1) m) (h i y q (omega arith) call).1 rest)

  -- The elements of `array::from_fn` are those of a function of the index.
  pub from_fn_same : ys ≡ map made (range_with_len 0 n)
  from_fn_same = fill_by_all made ys n (made 0) r.long (λ k below. from_fn_at n 0 k k below (omega arith) (omega arith) r.each)

module _ {F A B : Type 0} {g : Mut F (A × Unit {0}) B} {f : F} {xs : List A} {ys : List B} {n : ℕ} (r : IsMapOf g f xs ys n) (made : A → B) (h : (x : A) (y : B) (f' : F) → Called g f (x, tt) y f' → (y ≡ made x) × (f' ≡ f)) where
  map_at : (c : A) (d : B) (m i k j : ℕ) → k < m → i + k ≡ j → MapsFrom g f xs ys i m → get_or ys j d ≡ made (get_or xs j c)
  map_at c d zero i k j below at r = absurd (omega arith)
  map_at c d (suc m) i zero j below at (q, x, y, from, to, call, rest) =
      let here : j ≡ i = omega arith in
      rw here (to.1 d ∙ (h x y q call).0 ∙ ap made (sym (from.1 c)))
  map_at c d (suc m) i (suc k) j below at (q, x, y, from, to, call, rest) =
      map_at c d m (i + 1) k j (omega arith) (omega arith) (subst (λ p. MapsFrom g p xs ys (i + 1) m) (h x y q call).1 rest)

  -- Those of an array's `map` are a function of its own.
  pub map_same : A → length xs ≡ n → ys ≡ map made xs
  map_same c long =
      ext_get_or (made c) ys (map made xs) (r.long ∙ sym long ∙ sym (length-map xs made))
      (λ k below. let lt : k < length xs = omega (arith, long, r.long) in
      map_at c (made c) n 0 k k (omega (arith, long)) (omega arith) r.each ∙ sym (get_or-map made xs k c (made c) lt))
