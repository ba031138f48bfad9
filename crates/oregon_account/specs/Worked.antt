-- A month worked by hand: a card, a post and a cancel of a meter that does not stand.
use Rattle.std.specs.Prelude.{◌≡◌, ℕ, List, [], ◌∷◌, Ok, codes}
use Rattle.frame.specs.Line.{bytes_of}
use Rattle.oregon_card.specs.Layout.{values_in}
use Rattle.oregon_card.specs.Reply.{card_line}
use Rattle.oregon.specs.Sheet.{oregon_sheet}
use Rattle.book.specs.Meaning as book
use Rattle.store.specs.Meaning as store
use Rattle.account.specs.Change.{after}
use Rattle.account.specs.Reply.{reply}
use Rattle.account.specs.Worked.{post_line, record_in}

-- A cap of 5,000 cents, and for each schedule 5.000 cents per kWh of supply and 0.020 of low-income charge.
abbrev pub worked_card : List ℕ
worked_card = codes "102000001388138800141388001413880014138800141388001413880014138800146C"

abbrev pub worked_book : book.Meaning
worked_book = oregon_sheet (values_in (bytes_of worked_card))

-- A new store of 64 rows.
abbrev pub new : store.Meaning
new = record { capacity = 64; held = [] }

-- The cancel names meter 2.
abbrev pub cancel_line : List ℕ
cancel_line = codes "02080000000700FC0002F1"

pub record MonthWorked : Type 0 where
  pub card : card_line worked_card ≡ codes "900070"
  pub posted : reply worked_book new 128 post_line ≡ Ok (codes "8134000003B60000000000000DC3000000000000000000000332000000920000000000001388000000050000002600000004000000141D")
  pub opened : after worked_book new 128 post_line ≡ record_in 252 ∷ []
  pub cancelled : reply worked_book (record { capacity = 64; held = record_in 252 ∷ [] }) 128 cancel_line ≡ Ok (codes "7F040D05000962")
