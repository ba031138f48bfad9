-- Oregon's card as a frame: the cap, and for each schedule 4, 5, 23, 28, 29, 728 and 730 its supply rate and then its
-- low-income rate.
use Rattle.std.specs.Prelude.{ℕ, ◌+◌, ◌*◌, Bool, cond, List, [], ◌∷◌, map, Some, None, Option, ◌==◌, nat_le, nat_lt}
use Rattle.std.specs.List.{range_with_len, list_all}
use Rattle.reading.specs.declared.fault.Fault.{Fault}
use Rattle.reading.specs.declared.fault.Fault.TheVariants.{Limit}
use Rattle.frame.specs.Seal.{field}
use Rattle.reading.specs.First.{when}
use Rattle.frame.specs.Tests.{call_tests}

-- The call serves one kind, of 32 bytes of payload.
abbrev pub card_length : ℕ → Option ℕ
card_length byte = cond (byte == 0x10) (Some 32) None

-- What a card says: the cap in cents, and the rates in thousandths of a cent per kWh.
pub record Values : Type 0 where
  pub cap : ℕ
  pub supply : List ℕ
  pub low_income : List ℕ

abbrev pub values_in : List ℕ → Values
values_in frame =
    record {
      cap = field frame 3 4;
      supply = map (λ i. field frame (7 + 4 * i) 2) (range_with_len 0 7);
      low_income = map (λ i. field frame (9 + 4 * i) 2) (range_with_len 0 7);
    }

-- Rates of two bytes.
abbrev pub rates_fit : List ℕ → Bool
rates_fit rates = list_all (λ rate. nat_le rate 65535) rates

-- 7: the cap is above 99,999,999.
abbrev pub cap_test : List ℕ → Option Fault
cap_test frame = when (nat_lt 99999999 (field frame 3 4)) (Limit 3)

abbrev pub card_field_tests : List ℕ → List (Option Fault)
card_field_tests frame = cap_test frame ∷ []

-- 2 to 7.
abbrev pub card_tests : List ℕ → List (Option Fault)
card_tests line = call_tests card_length card_field_tests line
