-- What holds of each element of a list.
use Rattle.std.proofs.Common.{ℕ, zero, suc, List, [], ◌∷◌, get_or}
use Rattle.std.specs.List.{AllByRecursion}
pub use Rattle.reading.proofs.Each.{each_by_test}

-- It holds at any place, if it holds of what is read past the end.
pub each_at : {X : Type 0} (P : X → Type 0) (default : X) → P default → (xs : List X) (i : ℕ) → AllByRecursion P xs → P (get_or xs i default)
each_at P default past [] i h = past
each_at P default past (x ∷ xs) zero h = h.0
each_at P default past (x ∷ xs) (suc i) h = each_at P default past xs i h.1
