-- The bounds of the rate tables: one test that is computed over them all, and what it says of each rate.
use Rattle.std.specs.Prelude.{◌≡◌, ℕ, ◌≤◌, Bool, true, cond, ◌&&◌, List, [], ◌∷◌, nat_le, slice_index, refl}
use Rattle.std.proofs.Common.{arith}
use Rattle.std.specs.List.{AllByRecursion, list_all}
use Rattle.std.proofs.lemmas.Bool.{and_parts, leb-true}
use Rattle.reading.specs.Flags.{primary_delivery}
use Rattle.reading.specs.declared.entry.Entry.{Entry}
use Rattle.book.proofs.Each.{each_by_test, each_at}
use Rattle.oregon.specs.Rates.{energy_rates, transmission_rates, transmission_kw_rates, usage_rates, demand_rates, reactive_rates, rates_203, rates_204, rates_207, floors, basic_28, load_28, basic_730, load_730}
use Rattle.oregon.specs.Sheet.{rate}

row_fits : ℕ → List ℕ → Bool
row_fits most row = list_all (λ rate. nat_le rate most) row

table_fits : ℕ → List (List ℕ) → Bool
table_fits most table = list_all (row_fits most) table

all_fit : ℕ → List (List (List ℕ)) → Bool
all_fit most tables = list_all (table_fits most) tables

-- Rates per kW and per kvar, in cents.
kw_tables : List (List (List ℕ))
kw_tables = transmission_kw_rates ∷ demand_rates ∷ reactive_rates ∷ load_28 ∷ load_730 ∷ []

-- Rates per kWh, in thousandths of a cent, and basic charges, in cents.
kwh_tables : List (List (List ℕ))
kwh_tables = energy_rates ∷ transmission_rates ∷ usage_rates ∷ rates_203 ∷ rates_204 ∷ rates_207 ∷ basic_28 ∷ basic_730 ∷ []

-- The test.
sheet_fits : (all_fit 1000 kw_tables && all_fit 65535 kwh_tables) ≡ true
unfolding row_fits table_fits all_fit kw_tables kwh_tables
sheet_fits = refl

pub row_bounded : (most : ℕ) (row : List ℕ) (i : ℕ) → list_all (λ rate. nat_le rate most) row ≡ true → slice_index row i ≤ most
row_bounded most row i h =
    let P : ℕ → Type 0 = λ rate. rate ≤ most in
    each_at P 0 (omega arith) row i (each_by_test P (λ rate. nat_le rate most) (λ rate. leb-true rate most) row h)

rate_bounded : (most : ℕ) (table : List (List ℕ)) (row : ℕ) (e : Entry) → table_fits most table ≡ true → rate table row e ≤ most
unfolding row_fits table_fits
rate_bounded most table row e h =
    let P : List ℕ → Type 0 = λ r. slice_index r (cond (primary_delivery e) 1 0) ≤ most in
    each_at P [] (omega arith) table row (each_by_test P (row_fits most) (λ r. row_bounded most r _) table h)

-- Every rate of every table that passes.
each_bounded : (most : ℕ) (tables : List (List (List ℕ))) → all_fit most tables ≡ true → AllByRecursion (λ table. (row : ℕ) (e : Entry) → rate table row e ≤ most) tables
unfolding all_fit
each_bounded most tables h = each_by_test _ (table_fits most) (λ table p row e. rate_bounded most table row e p) tables h

pub kw_rates : AllByRecursion (λ table. (row : ℕ) (e : Entry) → rate table row e ≤ 1000) (transmission_kw_rates ∷ demand_rates ∷ reactive_rates ∷ load_28 ∷ load_730 ∷ [])
unfolding kw_tables
kw_rates = each_bounded 1000 kw_tables (and_parts (all_fit 1000 kw_tables) (all_fit 65535 kwh_tables) sheet_fits).0

pub kwh_rates : AllByRecursion (λ table. (row : ℕ) (e : Entry) → rate table row e ≤ 65535) (energy_rates ∷ transmission_rates ∷ usage_rates ∷ rates_203 ∷ rates_204 ∷ rates_207 ∷ basic_28 ∷ basic_730 ∷ [])
unfolding kwh_tables
kwh_rates = each_bounded 65535 kwh_tables (and_parts (all_fit 1000 kw_tables) (all_fit 65535 kwh_tables) sheet_fits).1

pub floors_bounded : (row : ℕ) → slice_index floors row ≤ 100
floors_bounded row = row_bounded 100 floors row refl
