-- Lists of bytes, as a test and element by element.
use Rattle.std.proofs.Common.{◌≡◌, ℕ, ◌<◌, true, ltb, List, [], ◌∷◌, get_or, refl, w8, Fits}
use Rattle.std.specs.List.{AllByRecursion as All}
use Rattle.std.proofs.ByRecursion.{All-from_get_or}
use Rattle.std.proofs.lemmas.Bool.{and_parts, and_from, ltb-true, lt-ltb}
use Rattle.frame.specs.Seal.{all_bytes}

pub below_each : (bs : List ℕ) → all_bytes bs ≡ true → All (λ b. b < 256) bs
below_each [] h = tt
below_each (b ∷ bs) h = let p = and_parts (ltb b 256) (all_bytes bs) h in (ltb-true b 256 p.0, below_each bs p.1)

pub each_below : (bs : List ℕ) → All (λ b. b < 256) bs → all_bytes bs ≡ true
each_below [] h = refl
each_below (b ∷ bs) (h, hs) = and_from (ltb b 256) (all_bytes bs) (lt-ltb b 256 h) (each_below bs hs)

-- What a slice of bytes holds.
pub slice_below : (bs : List ℕ) → ((i : ℕ) → Fits w8 (get_or bs i 0)) → All (λ b. b < 256) bs
slice_below bs h = All-from_get_or (λ b. b < 256) bs 0 (λ i l. (h i).fits)
