-- The rates of Oregon's sheets. A table has a row for each schedule 4, 5, 23, 28, 29, 728 and 730, or for each band of
-- the load size, with the rate at secondary and the rate at primary delivery.
use Rattle.std.specs.Prelude.{ℕ, cond, List, [], ◌∷◌, nat_le}

abbrev pub both : ℕ → List ℕ
both rate = rate ∷ rate ∷ []

abbrev pub either : ℕ → ℕ → List ℕ
either secondary primary = secondary ∷ primary ∷ []

-- Energy, in thousandths of a cent per kWh. Schedule 29 has its own block.
abbrev pub energy_rates : List (List ℕ)
energy_rates = both 3523 ∷ both 3523 ∷ either 3182 3133 ∷ either 411 69 ∷ both 0 ∷ either 411 69 ∷ both 0 ∷ []

-- Transmission, in thousandths of a cent per kWh. Schedule 28 pays by the kW.
abbrev pub transmission_rates : List (List ℕ)
transmission_rates = both 818 ∷ both 818 ∷ either 723 712 ∷ both 0 ∷ both 736 ∷ both 0 ∷ both 0 ∷ []

-- Transmission, in cents per kW of billed demand.
abbrev pub transmission_kw_rates : List (List ℕ)
transmission_kw_rates = both 0 ∷ both 0 ∷ both 0 ∷ either 220 214 ∷ both 0 ∷ both 0 ∷ both 0 ∷ []

-- System usage, in thousandths of a cent per kWh.
abbrev pub usage_rates : List (List ℕ)
usage_rates = both 146 ∷ both 146 ∷ either 133 131 ∷ either 147 139 ∷ both 147 ∷ either 68 64 ∷ either 65 64 ∷ []

-- Demand, in cents per kW of billed demand. Schedules 4 and 5 have their own rule.
abbrev pub demand_rates : List (List ℕ)
demand_rates = both 0 ∷ both 0 ∷ either 464 458 ∷ either 403 490 ∷ both 0 ∷ either 403 490 ∷ both 417 ∷ []

-- Reactive power, in cents per kvar.
abbrev pub reactive_rates : List (List ℕ)
reactive_rates = both 0 ∷ both 0 ∷ either 65 60 ∷ either 65 60 ∷ both 0 ∷ either 65 60 ∷ either 65 60 ∷ []

-- Schedules 203, 204 and 207, in thousandths of a cent per kWh.
abbrev pub rates_203 : List (List ℕ)
rates_203 = both 5 ∷ both 5 ∷ both 5 ∷ both 5 ∷ both 5 ∷ both 5 ∷ both 5 ∷ []

abbrev pub rates_204 : List (List ℕ)
rates_204 = both 38 ∷ both 38 ∷ both 36 ∷ both 37 ∷ both 37 ∷ both 37 ∷ both 36 ∷ []

abbrev pub rates_207 : List (List ℕ)
rates_207 = both 4 ∷ both 4 ∷ both 3 ∷ both 3 ∷ both 3 ∷ both 3 ∷ both 3 ∷ []

-- The floor of the billed demand, in kW, by schedule.
abbrev pub floors : List ℕ
floors = 0 ∷ 0 ∷ 0 ∷ 15 ∷ 15 ∷ 15 ∷ 100 ∷ []

-- The bands of 28 and 728 by load size: to 50 kW, to 100, to 300, and above.
abbrev pub band_28 : ℕ → ℕ
band_28 load = cond (nat_le load 50) 0 (cond (nat_le load 100) 1 (cond (nat_le load 300) 2 3))

-- Their basic charge, in cents, and their load size charge, in cents per kW.
abbrev pub basic_28 : List (List ℕ)
basic_28 = either 1900 2500 ∷ either 3500 4300 ∷ either 8400 10000 ∷ either 11900 14300 ∷ []

abbrev pub load_28 : List (List ℕ)
load_28 = either 120 140 ∷ either 95 115 ∷ either 55 70 ∷ both 35 ∷ []

-- The bands of 730: to 200 kW, to 300, and above.
abbrev pub band_730 : ℕ → ℕ
band_730 load = cond (nat_le load 200) 0 (cond (nat_le load 300) 1 2)

abbrev pub basic_730 : List (List ℕ)
basic_730 = either 49400 48100 ∷ either 14400 15100 ∷ either 38000 39300 ∷ []

abbrev pub load_730 : List (List ℕ)
load_730 = both 0 ∷ either 175 165 ∷ either 85 80 ∷ []
