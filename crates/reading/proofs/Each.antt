-- What a test that decides it says of each element of a list.
use Rattle.std.proofs.Common.{◌≡◌, Bool, true, List, [], ◌∷◌}
use Rattle.std.proofs.lemmas.Bool.{and_parts}
use Rattle.std.specs.List.{AllByRecursion, list_all}

pub each_by_test : {X : Type 0} (P : X → Type 0) (test : X → Bool) → ((x : X) → test x ≡ true → P x) → (xs : List X) → list_all test xs ≡ true → AllByRecursion P xs
each_by_test P test says [] h = tt
each_by_test P test says (x ∷ xs) h = let p = and_parts (test x) (list_all test xs) h in (says x p.0, each_by_test P test says xs p.1)
