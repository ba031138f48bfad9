use Rattle.std.proofs.Common.{◌≡◌, ◌^◌, ◌<◌, ◌∷◌, take}
use Rattle.reading.specs.Demand.{greatest, second_greatest}
use Rattle.reading.proofs.demand.load_size.Given as goal

abbrev pub invariant-loop-kw : goal.invariant-loop-kw
invariant-loop-kw l =
    (l.first ≡ greatest (l.demand ∷ take l.kw-index l.earlier))
    × (l.second ≡ second_greatest (l.demand ∷ take l.kw-index l.earlier))
    × ((l.first < 2 ^ 16) × (l.second < 2 ^ 16))
