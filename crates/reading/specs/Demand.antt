-- Demands in whole kW, and the load size.
use Rattle.std.specs.Prelude.{ℕ, ◌+◌, ◌*◌, ◌/◌, ◌%◌, ◌<◌, ◌≤◌, min, max, cond, List, [], ◌∷◌, ◌==◌, nat_le}

-- k is the kW nearest to a demand in tenths of a kW, a half going up: k lies at most half a kW above the demand,
-- and less than half a kW below it.
abbrev pub Nearest : ℕ → ℕ → Type 0
Nearest tenths k = (10 * k ≤ tenths + 5) × (tenths < 10 * k + 5)

-- That kW: the whole kW of the demand, and one more where half a kW or more is left over.
abbrev pub kw_nearest : ℕ → ℕ
kw_nearest tenths = cond (nat_le 5 (tenths % 10)) (tenths / 10 + 1) (tenths / 10)

-- The greatest of some demands, 0 of none.
abbrev pub greatest : List ℕ → ℕ
greatest [] = 0
greatest (d ∷ ds) = max d (greatest ds)

-- The second greatest, 0 of fewer than two. Two demands may be equal.
abbrev pub second_greatest : List ℕ → ℕ
second_greatest [] = 0
second_greatest (d ∷ ds) = max (second_greatest ds) (min (greatest ds) d)

-- The load size of some monthly demands in kW: the average of the two greatest that are not 0, a half being dropped.
-- One such month stands alone, and with none the load size is 0.
abbrev pub load_of : List ℕ → ℕ
load_of ds = cond (second_greatest ds == 0) (greatest ds) ((greatest ds + second_greatest ds) / 2)
