-- The rates of a card's prices, schedule by schedule.
use Rattle.std.specs.Prelude.{ℕ, ◌+◌, ◌*◌, List, map}
use Rattle.frame.specs.Seal.{field}
use Rattle.oregon_card.specs.declared.card.prices.Prices.{Prices}

abbrev pub supply_rates : List Prices → List ℕ
supply_rates prices = map (λ p. p.supply) prices

abbrev pub low_income_rates : List Prices → List ℕ
low_income_rates prices = map (λ p. p.low_income) prices

-- The prices of the schedule at a place.
abbrev pub prices_at : List ℕ → ℕ → Prices
prices_at frame place = record { supply = field frame (7 + 4 * place) 2; low_income = field frame (9 + 4 * place) 2 }
