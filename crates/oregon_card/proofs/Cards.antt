-- The tests of a card's frame.
use Rattle.std.proofs.Common.{◌≡◌, ℕ, ◌+◌, ◌*◌, ◌<◌, true, List, [], ◌∷◌, map, Some, sym, refl, ap, ◌∙◌, arith}
use Rattle.std.proofs.lemmas.Bool.{lt-ltb, le-leb, and_from}
use Rattle.std.specs.List.{AllByRecursion as All}
use Rattle.reading.specs.declared.fault.Fault.TheVariants.{Limit}
use Rattle.frame.specs.Seal.{kind_of, field}
use Rattle.reading.specs.First.{first}
use Rattle.frame.proofs.Numbers.{field_below}
use Rattle.oregon_card.specs.Layout.{Values, rates_fit, card_length, card_field_tests}

pub card_named : (byte : ℕ) (frame : List ℕ) → byte ≡ kind_of frame → byte ≡ 16 → card_length (kind_of frame) ≡ Some 32
card_named byte frame names is = ap card_length (sym names ∙ is)

pub cap_stops : (cap : ℕ) (frame : List ℕ) → cap ≡ field frame 3 4 → 99999999 < cap → Some (Limit 3) ≡ first (card_field_tests frame)
cap_stops cap frame is over = let more : 99999999 < field frame 3 4 = omega arith in rw (lt-ltb 99999999 (field frame 3 4) more)

-- What cards say is equal part by part.
pub same_values : (cap cap' : ℕ) (supply supply' low low' : List ℕ) → cap ≡ cap' → supply ≡ supply' → low ≡ low' → ◌≡◌ {A = Values} (record { cap = cap; supply = supply; low_income = low }) (record { cap = cap'; supply = supply'; low_income = low' })
same_values cap cap' supply supply' low low' caps supplies lows = cc

-- Fields of two bytes fit a rate.
pub fields_fit : (frame : List ℕ) (first : ℕ) (is : List ℕ) → All (λ b. b < 256) frame → rates_fit (map (λ i. field frame (first + 4 * i) 2) is) ≡ true
fields_fit frame first [] bytes = refl
fields_fit frame first (i ∷ is) bytes =
    let below = field_below frame (first + 4 * i) 2 bytes in
    and_from _ _ (le-leb (field frame (first + 4 * i) 2) 65535 (omega arith)) (fields_fit frame first is bytes)
