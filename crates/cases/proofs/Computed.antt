-- One test over all the cases, and what it says of each.
use Rattle.std.proofs.Common.{◌≡◌, ℕ, Bool, true, ℤ, refl}
use Rattle.std.proofs.lemmas.Bool.Decides.{Decides-int_eq}
use Rattle.std.specs.List.{AllByRecursion as All, list_all}
use Rattle.std.specs.Ordering.{int_eq}
use Rattle.book.proofs.Each.{each_by_test}
use Rattle.cases.specs.Change.{Change, answered, Right}
use Rattle.cases.specs.Worked.{worked}

fits : Change → ℕ × ℤ → Bool
fits c x = int_eq (answered c x.0) x.1

all_fit : Change → Bool
all_fit c = list_all (fits c) c.expected

-- The test.
passes : list_all all_fit worked ≡ true
unfolding fits all_fit
passes = refl

each_right : (c : Change) → all_fit c ≡ true → Right c
unfolding fits all_fit
each_right c h = each_by_test (λ x. answered c x.0 ≡ x.1) (fits c) (λ x. (Decides-int_eq (answered c x.0) x.1).0) c.expected h

pub right : All Right worked
right = each_by_test Right all_fit each_right worked passes
