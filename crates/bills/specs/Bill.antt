-- What a reading costs by a book.
use Rattle.std.specs.Prelude.{◌≡◌, ℕ, ◌<◌, Bool, true, false, List, map, sum, slice_index, slice_index_or}
use Rattle.std.specs.List.{range_with_len}
use Rattle.reading.specs.Statement.{lines}
use Rattle.reading.specs.declared.entry.Entry.{Entry}
use Rattle.book.specs.Meaning.{Meaning}
use Rattle.book.specs.declared.sense.Sense.{Sense}
use Rattle.book.specs.declared.sense.Sense.TheVariants.{Charge, Credit}
use Rattle.bills.specs.declared.bill.Bill.{Bill}
use Rattle.bills.specs.declared.bill.Item.{Item}

-- The settlement of a reading alone on a statement line.
abbrev pub settled : Meaning → Entry → ℕ → ℕ
settled book entry line = book.settle line (book.weight entry line)

-- What an amount adds to the charges, and to the credits.
abbrev pub as_charge : Sense → ℕ → ℕ
as_charge Charge cents = cents
as_charge Credit cents = 0

abbrev pub as_credit : Sense → ℕ → ℕ
as_credit Charge cents = 0
as_credit Credit cents = cents

-- The charges, and the credits, on the statement lines below one.
abbrev pub charges_below : (ℕ → Sense) → List ℕ → ℕ → ℕ
charges_below sense amounts end = sum (map (λ line. as_charge (sense line) (slice_index amounts line)) (range_with_len 0 end))

abbrev pub credits_below : (ℕ → Sense) → List ℕ → ℕ → ℕ
credits_below sense amounts end = sum (map (λ line. as_credit (sense line) (slice_index amounts line)) (range_with_len 0 end))

-- A statement line of a reading alone.
abbrev pub item_of : Meaning → Entry → ℕ → Item
item_of book entry line = record { sense = book.sense line; amount = settled book entry line }

-- The amount, and the sense, of each statement line.
abbrev pub amounts_of : List Item → List ℕ
amounts_of items = map (λ item. item.amount) items

abbrev pub senses_of : List Item → List Sense
senses_of items = map (λ item. item.sense) items

-- Whether two senses are one, and whether a statement line has a sense.
abbrev pub is_sense : Sense → Sense → Bool
is_sense Charge Charge = true
is_sense Charge Credit = false
is_sense Credit Charge = false
is_sense Credit Credit = true

abbrev pub has_sense : Sense → Item → Bool
has_sense sense item = is_sense item.sense sense

-- The bill of a reading alone.
pub record Billed (book : Meaning) (entry : Entry) (bill : Bill) : Type 0 where
  pub amounts : (line : ℕ) → line < lines → slice_index (amounts_of bill.items) line ≡ settled book entry line
  pub senses : (line : ℕ) (d : Sense) → line < lines → slice_index_or (senses_of bill.items) line d ≡ book.sense line
  pub charges : bill.total.charges ≡ charges_below book.sense (amounts_of bill.items) lines
  pub credits : bill.total.credits ≡ credits_below book.sense (amounts_of bill.items) lines
