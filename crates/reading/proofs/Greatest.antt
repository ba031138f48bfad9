-- The two greatest of a list, one demand more at its end, and what bounds a load size.
use Rattle.std.proofs.Common.{◌≡◌, ℕ, ◌+◌, ◌/◌, ◌<◌, ◌≤◌, min, max, eqb, List, [], ◌∷◌, ◌++◌, length, get_or, take, ap, ◌∙◌, arith}
use Rattle.std.specs.List.{AllByRecursion as All}
use Rattle.std.proofs.lemmas.List.{take_more}
use Rattle.std.proofs.lemmas.Bool.{cond_both}
use Rattle.reading.specs.Demand.{greatest, second_greatest, load_of}

pub greatest_push : (ds : List ℕ) (d : ℕ) → greatest (ds ++ d ∷ []) ≡ max (greatest ds) d
greatest_push [] d = omega arith
greatest_push (x ∷ xs) d = let more = greatest_push xs d in omega arith

spread : (x d g s : ℕ) → max (max s (min g d)) (min (max g d) x) ≡ max (max s (min g x)) (min (max x g) d)
spread x d g s = grind arith

pub second_push : (ds : List ℕ) (d : ℕ) → second_greatest (ds ++ d ∷ []) ≡ max (second_greatest ds) (min (greatest ds) d)
second_push [] d = omega arith
second_push (x ∷ xs) d = rw (greatest_push xs d, second_push xs d) (spread x d (greatest xs) (second_greatest xs))

-- One demand more of a list behind k.
pub greatest_more : (k : ℕ) (xs : List ℕ) (i : ℕ) → i < length xs → greatest (k ∷ take (i + 1) xs) ≡ max (greatest (k ∷ take i xs)) (get_or xs i 0)
greatest_more k xs i h = ap (λ ys. greatest (k ∷ ys)) (take_more xs i 0 h) ∙ greatest_push (k ∷ take i xs) (get_or xs i 0)

pub second_more : (k : ℕ) (xs : List ℕ) (i : ℕ) → i < length xs → second_greatest (k ∷ take (i + 1) xs) ≡ max (second_greatest (k ∷ take i xs)) (min (greatest (k ∷ take i xs)) (get_or xs i 0))
second_more k xs i h = ap (λ ys. second_greatest (k ∷ ys)) (take_more xs i 0 h) ∙ second_push (k ∷ take i xs) (get_or xs i 0)

pub second_least : (ds : List ℕ) → second_greatest ds ≤ greatest ds
second_least [] = omega arith
second_least (x ∷ xs) = let more = second_least xs in omega arith

pub greatest_bound : (m : ℕ) (ds : List ℕ) → All (λ d. d ≤ m) ds → greatest ds ≤ m
greatest_bound m [] h = omega arith
greatest_bound m (x ∷ xs) (h, hs) = let more = greatest_bound m xs hs in omega arith

-- A load size is no more than the greatest demand.
pub load_bound : (m : ℕ) (ds : List ℕ) → All (λ d. d ≤ m) ds → load_of ds ≤ m
load_bound m ds h =
    let top = greatest_bound m ds h in
    let next = second_least ds in
    cond_both (eqb (second_greatest ds) 0) (greatest ds) ((greatest ds + second_greatest ds) / 2) (λ x. x ≤ m)
    (λ e. omega arith) (λ e. omega arith)
