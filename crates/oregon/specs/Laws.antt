-- Oregon's book keeps the laws of a book.
use Rattle.std.specs.Prelude.{◌≡◌, ℕ, ◌+◌, ◌-◌, ◌*◌, ◌^◌, ◌≤◌, min, max, Bool, true, false, cond, List, is_some, Some, None, Option, ◌==◌, nat_lt, slice_index}
use Rattle.std.proofs.Common.{sym, ap, ◌∙◌, arith}
use Rattle.std.proofs.lemmas.Nat.{mul-le}
use Rattle.std.proofs.lemmas.Bool.{cond_both}
use Rattle.std.proofs.lemmas.Bool.Decides.{nat_tests}
use Rattle.reading.specs.Flags.{three_phase}
use Rattle.reading.specs.Limits.{Limits}
use Rattle.reading.specs.Refusal.{layer_of}
use Rattle.reading.specs.declared.entry.Entry.{Entry}
use Rattle.reading.specs.declared.fault.Fault.{Fault}
use Rattle.reading.specs.declared.fault.Fault.TheVariants as fault
use Rattle.reading.specs.declared.fault.Layer.TheVariants.{Book}
use Rattle.reading.proofs.Within.{limits}
use Rattle.book.specs.Meaning.{Lawful}
use Rattle.book.specs.Money.{cent, half_up, rounded}
use Rattle.book.proofs.Cents.{half_up_nothing, half_up_rises, half_up_bounded, rounded_bounded}
use Rattle.book.proofs.Each.{each_at}
use Rattle.oregon_card.specs.Layout.{Values, rates_fit}
use Rattle.oregon.specs.Rates.{energy_rates, transmission_rates, transmission_kw_rates, usage_rates, demand_rates, reactive_rates, rates_203, rates_204, rates_207, band_28, load_28, band_730, load_730}
use Rattle.oregon_card.specs.Schedules.{schedule_of, place, unoffered, refusal, check}
use Rattle.oregon.specs.Sheet.{rate, factor, per_kwh, per_kw, kw, billed, basic, three_phase_demand, over_15, load_demand, has_block, block, energy, credit, reactive, transmission, floor, at_card, rider, lines, exact, metered, on_schedule, weight, oregon_sheet}
use Rattle.oregon_card.specs.declared.schedule.Schedule.{Schedule}
use Rattle.oregon_card.specs.declared.schedule.Schedule.TheVariants.{S4, S5, S23, S28, S29, S728, S730}
use Rattle.oregon.specs.Products.{three_bounded}
use Rattle.oregon.specs.Tables.{kw_rates, kwh_rates, row_bounded, floors_bounded}

-- A reading that the book serves weighs what its schedule says.
pub weight_served : (card : Values) (e entry : Entry) (line w : ℕ) (s : Schedule) → e ≡ entry → None ≡ check e → schedule_of e.schedule ≡ Some s → w ≡ metered card s e line → w ≡ weight card entry line
weight_served card e entry line w s same fine is h =
    h ∙ ap (λ o. on_schedule o (λ s. metered card s e line)) (sym is)
    ∙ ap (λ o. cond (is_some o) 0 (on_schedule (schedule_of e.schedule) (λ s. metered card s e line))) fine
    ∙ ap (λ x. weight card x line) same

factor_bounded : (e : Entry) → factor e ≤ 10157
factor_bounded e = grind (arith, nat_tests)

per_kwh_bounded : (r kwh : ℕ) (e : Entry) → r ≤ 65535 → kwh ≤ 999999 → per_kwh r kwh e ≤ 65535 * 999999 * 10157
per_kwh_bounded r kwh e p q = three_bounded r kwh (factor e) 65535 999999 10157 p q (factor_bounded e)

per_kw_bounded : (r n : ℕ) (e : Entry) → r ≤ 1000 → n ≤ 10000 → per_kw r n e ≤ 1000 * 10000 * 10157 * 1000
per_kw_bounded r n e p q = let h = three_bounded r n (factor e) 1000 10000 10157 p q (factor_bounded e) in omega arith

kw_bounded : (e : Entry) → Limits e → kw e ≤ 10000
kw_bounded e l = grind (arith, nat_tests)

billed_bounded : (s : Schedule) (e : Entry) → Limits e → billed s e ≤ 10000
billed_bounded s e l = omega (arith, kw_bounded e l, floors_bounded (place s))

basic_bounded : (s : Schedule) (e : Entry) → basic s e ≤ 65535
basic_bounded S4 e = grind (arith, nat_tests)
basic_bounded S5 e = grind (arith, nat_tests)
basic_bounded S23 e = grind (arith, nat_tests)
basic_bounded S28 e = kwh_rates.1.1.1.1.1.1.0 (band_28 e.load) e
basic_bounded S29 e = omega arith
basic_bounded S728 e = kwh_rates.1.1.1.1.1.1.0 (band_28 e.load) e
basic_bounded S730 e = kwh_rates.1.1.1.1.1.1.1.0 (band_730 e.load) e

three_phase_bounded : (s : Schedule) (e : Entry) → Limits e → three_phase_demand s e ≤ 10 ^ 15
three_phase_bounded s e l =
    let b = billed_bounded s e l in
    cond_both (three_phase e) (max 380 (220 * billed s e) * cent) 0 (λ x. x ≤ 10 ^ 15) (λ h. omega arith) (λ h. omega arith)

over_15_bounded : (n : ℕ) (e : Entry) → n ≤ 10000 → over_15 n e ≤ 10000 * 10157
over_15_bounded n e h = omega (arith, mul-le n (factor e) 10000 10157 h (factor_bounded e))

-- A band's load charge with the demand charge.
banded_bounded : (s : Schedule) (r : ℕ) (e : Entry) → Limits e → r ≤ 1000 → per_kw r e.load e + per_kw (rate demand_rates (place s) e) (billed s e) e ≤ 10 ^ 15
banded_bounded s r e l h =
    omega (arith, per_kw_bounded r e.load e h l.load, per_kw_bounded (rate demand_rates (place s) e) (billed s e) e (kw_rates.1.0 (place s) e) (billed_bounded s e l))

load_demand_bounded : (s : Schedule) (e : Entry) → Limits e → load_demand s e ≤ 10 ^ 15
load_demand_bounded S4 e l = three_phase_bounded S4 e l
load_demand_bounded S5 e l = three_phase_bounded S5 e l
load_demand_bounded S23 e l =
    let load = over_15_bounded e.load e l.load in
    let demand = mul-le (rate demand_rates 2 e) (over_15 (billed S23 e) e) 1000 (10000 * 10157) (kw_rates.1.0 2 e) (over_15_bounded (billed S23 e) e (billed_bounded S23 e l)) in
    omega arith
load_demand_bounded S28 e l = banded_bounded S28 (rate load_28 (band_28 e.load) e) e l (kw_rates.1.1.1.0 (band_28 e.load) e)
load_demand_bounded S29 e l = omega arith
load_demand_bounded S728 e l = banded_bounded S728 (rate load_28 (band_28 e.load) e) e l (kw_rates.1.1.1.0 (band_28 e.load) e)
load_demand_bounded S730 e l = banded_bounded S730 (rate load_730 (band_730 e.load) e) e l (kw_rates.1.1.1.1.0 (band_730 e.load) e)

energy_bounded : (s : Schedule) (e : Entry) → Limits e → energy s e ≤ 10 ^ 15
energy_bounded s e l =
    cond_both (has_block s) (per_kwh 18940 (block e) e) (per_kwh (rate energy_rates (place s) e) e.kwh e) (λ x. x ≤ 10 ^ 15)
    (λ _. omega (arith, per_kwh_bounded 18940 (block e) e (omega arith) (omega arith)))
    (λ _. omega (arith, per_kwh_bounded (rate energy_rates (place s) e) e.kwh e (kwh_rates.0 (place s) e) l.kwh))

credit_bounded : (s : Schedule) (e : Entry) → Limits e → credit s e ≤ 10 ^ 15
credit_bounded s e l =
    cond_both (has_block s) (per_kwh 1335 (e.kwh - block e) e) 0 (λ x. x ≤ 10 ^ 15)
    (λ _. omega (arith, per_kwh_bounded 1335 (e.kwh - block e) e (omega arith) (omega arith))) (λ _. omega arith)

reactive_bounded : (s : Schedule) (e : Entry) → Limits e → reactive s e ≤ 10 ^ 15
reactive_bounded s e l =
    let h = three_bounded (rate reactive_rates (place s) e) (10 * e.kvar - 4 * kw e) (factor e) 1000 99990 10157 (kw_rates.1.1.0 (place s) e) (omega arith) (factor_bounded e) in
    omega arith

transmission_bounded : (s : Schedule) (e : Entry) → Limits e → transmission s e ≤ 10 ^ 15
transmission_bounded s e l =
    omega (
      arith,
      per_kwh_bounded (rate transmission_rates (place s) e) e.kwh e (kwh_rates.1.0 (place s) e) l.kwh,
      per_kw_bounded (rate transmission_kw_rates (place s) e) (billed s e) e (kw_rates.0 (place s) e) (billed_bounded s e l),
    )

rider_bounded : (table : List (List ℕ)) (s : Schedule) (e : Entry) → Limits e → rate table (place s) e ≤ 65535 → rider table s e ≤ 10 ^ 15
rider_bounded table s e l h = omega (arith, per_kwh_bounded (rate table (place s) e) e.kwh e h l.kwh)

floor_bounded : (s : Schedule) (e : Entry) → Limits e → floor s e ≤ 10 ^ 15
floor_bounded s e l = omega (arith, rounded_bounded (credit s e) (credit_bounded s e l))

fit_at : (rates : List ℕ) (i : ℕ) → rates_fit rates ≡ true → slice_index rates i ≤ 65535
fit_at rates i h = row_bounded 65535 rates i h

at_card_bounded : (rates : List ℕ) (s : Schedule) (e : Entry) → Limits e → rates_fit rates ≡ true → at_card rates s e ≤ 10 ^ 15
at_card_bounded rates s e l h = omega (arith, per_kwh_bounded (slice_index rates (place s)) e.kwh e (fit_at rates (place s) h) l.kwh)

-- The lesser of a cap and what rises.
capped_rises : (b : Bool) (cap m n : ℕ) → m ≤ n → cond b (min cap m) m ≤ cond b (min cap n) n
capped_rises true cap m n h = omega arith
capped_rises false cap m n h = h

-- What the check refuses, it refuses as a book.
flag_only : (b : Bool) (f : Fault) → cond b (Some fault.Flag) None ≡ Some f → layer_of f ≡ Book
flag_only true f h = grind arith
flag_only false f h = grind arith

own_fault : (o : Option Schedule) (e : Entry) (f : Fault) → refusal o e ≡ Some f → layer_of f ≡ Book
own_fault None e f h = grind arith
own_fault (Some s) e f h = flag_only (unoffered s e) f h

module _ (card : Values) (supply : rates_fit card.supply ≡ true) (low : rates_fit card.low_income ≡ true) where
  exact_bounded : (s : Schedule) (e : Entry) → Limits e → (line : ℕ) → exact card s e line ≤ 10 ^ 15
  exact_bounded s e l line =
      each_at (λ units. units ≤ 10 ^ 15) 0 (omega arith) (lines card s e) line (
        omega (arith, basic_bounded s e),
        (
          load_demand_bounded s e l,
          (
            energy_bounded s e l,
            (
              credit_bounded s e l,
              (
                reactive_bounded s e l,
                (
                  transmission_bounded s e l,
                  (
                    rider_bounded usage_rates s e l (kwh_rates.1.1.0 (place s) e),
                    (
                      floor_bounded s e l,
                      (
                        at_card_bounded card.supply s e l supply,
                        (
                          rider_bounded rates_203 s e l (kwh_rates.1.1.1.0 (place s) e),
                          (
                            rider_bounded rates_204 s e l (kwh_rates.1.1.1.1.0 (place s) e),
                            (
                              rider_bounded rates_207 s e l (kwh_rates.1.1.1.1.1.0 (place s) e),
                              (at_card_bounded card.low_income s e l low, tt),
                            ),
                          ),
                        ),
                      ),
                    ),
                  ),
                ),
              ),
            ),
          ),
        ),
      )

  metered_bounded : (s : Schedule) (e : Entry) → Limits e → (line : ℕ) → metered card s e line ≤ 10 ^ 15
  metered_bounded s e l line =
      let h = exact_bounded s e l line in
      cond_both (nat_lt line 9) (rounded (exact card s e line)) (exact card s e line) (λ x. x ≤ 10 ^ 15) (λ _. rounded_bounded (exact card s e line) h) (λ _. h)

  on_bounded : (o : Option Schedule) (e : Entry) → Limits e → (line : ℕ) → on_schedule o (λ s. metered card s e line) ≤ 10 ^ 15
  on_bounded None e l line = omega arith
  on_bounded (Some s) e l line = metered_bounded s e l line

  pub keeps : Lawful (oregon_sheet card)
  keeps =
      record {
        nothing = λ line. cond_both (line == 12) (min card.cap (half_up 0)) (half_up 0) (λ x. x ≡ 0) (λ _. omega (arith, half_up_nothing)) (λ _. half_up_nothing);
        rises = λ line m n h. capped_rises (line == 12) card.cap (half_up m) (half_up n) (half_up_rises m n h);
        bounded = λ line n h. let u = half_up_bounded n h in cond_both (line == 12) (min card.cap (half_up n)) (half_up n) (λ x. x ≤ 2000000000) (λ _. omega arith) (λ _. u);
        light = λ e line h. cond_both (is_some (check e)) 0 (on_schedule (schedule_of e.schedule) (λ s. metered card s e line)) (λ x. x ≤ 10 ^ 15) (λ _. omega arith) (λ _. on_bounded (schedule_of e.schedule) e (limits e h) line);
        weightless = λ e line fault h. rw h;
        own = λ e fault h. own_fault (schedule_of e.schedule) e fault h;
      }
