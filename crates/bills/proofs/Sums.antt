-- What the statement lines of a reading come to.
use Rattle.std.proofs.Common.{◌≡◌, ℕ, ◌+◌, ◌<◌, ◌≤◌, All, Bool, true, false, cond, List, [], ◌∷◌, map, filter, sum_by, get_or, refl, sym, ap, ◌∙◌, arith}
use Rattle.std.specs.List.{range_with_len}
use Rattle.std.proofs.lemmas.List.{get_or-map}
use Rattle.std.proofs.lemmas.List.FromFn.{get_or-map-range_with_len}
use Rattle.std.proofs.lemmas.List.Sums.{sum-map, sum_by-cons}
use Rattle.reading.specs.Statement.{lines}
use Rattle.reading.specs.declared.entry.Entry.{Entry}
use Rattle.reading.specs.Limits.{lawful}
use Rattle.book.specs.Meaning.{Meaning, Lawful}
use Rattle.book.specs.declared.sense.Sense.{Sense}
use Rattle.book.specs.declared.sense.Sense.TheVariants.{Charge, Credit}
use Rattle.bills.specs.declared.bill.Item.{Item}
use Rattle.bills.specs.Bill.{settled, as_charge, as_credit, charges_below, credits_below, item_of, amounts_of, senses_of, is_sense, has_sense}

one_more : (kept : Bool) (item : Item) (items : List Item) → sum_by (λ x. x.amount) (cond kept (item ∷ items) items) ≡ cond kept item.amount 0 + sum_by (λ x. x.amount) items
one_more true item items = sum_by-cons (λ x. x.amount) item items
one_more false item items = omega arith

module _ (book : Meaning) (entry : Entry) where
  abbrev sum_of : Sense → List Item → ℕ
  sum_of sense items = sum_by (λ item. item.amount) (filter (has_sense sense) items)

  module _ (sense : Sense) (adds : Sense → ℕ → ℕ) (same : (s : Sense) (cents : ℕ) → adds s cents ≡ cond (is_sense s sense) cents 0) where
    summed : (ns : List ℕ) → sum_of sense (map (item_of book entry) ns) ≡ sum_by (λ n. adds (book.sense n) (settled book entry n)) ns
    summed [] = refl
    summed (n ∷ ns) =
        let this = one_more (is_sense (book.sense n) sense) (item_of book entry n) (filter (has_sense sense) (map (item_of book entry) ns)) in
        let here = same (book.sense n) (settled book entry n) in
        let rest = summed ns in
        let all = sum_by-cons (λ k. adds (book.sense k) (settled book entry k)) n ns in
        omega arith

  charge_is : (s : Sense) (cents : ℕ) → as_charge s cents ≡ cond (is_sense s Charge) cents 0
  charge_is Charge cents = refl
  charge_is Credit cents = refl

  credit_is : (s : Sense) (cents : ℕ) → as_credit s cents ≡ cond (is_sense s Credit) cents 0
  credit_is Charge cents = refl
  credit_is Credit cents = refl

  module _ (items : List Item) (is : items ≡ map (item_of book entry) (range_with_len 0 lines)) where
    pub charges : sum_of Charge items ≡ charges_below book.sense (amounts_of items) lines
    charges = rw is (summed Charge as_charge charge_is (range_with_len 0 lines) ∙ sym (sum-map (λ n. as_charge (book.sense n) (settled book entry n)) (range_with_len 0 lines)))

    pub credits : sum_of Credit items ≡ credits_below book.sense (amounts_of items) lines
    credits = rw is (summed Credit as_credit credit_is (range_with_len 0 lines) ∙ sym (sum-map (λ n. as_credit (book.sense n) (settled book entry n)) (range_with_len 0 lines)))

    pub amount_at : (line : ℕ) → line < lines → get_or (amounts_of items) line 0 ≡ settled book entry line
    amount_at line below =
        let d = item_of book entry 0 in
        rw is (get_or-map (λ item. item.amount) (map (item_of book entry) (range_with_len 0 lines)) line d 0 below
        ∙ ap (λ item. item.amount) (get_or-map-range_with_len (item_of book entry) 0 lines line line d below (omega arith)))

    pub sense_at : (line : ℕ) (d : Sense) → line < lines → get_or (senses_of items) line d ≡ book.sense line
    sense_at line d below =
        let e = item_of book entry 0 in
        rw is (get_or-map (λ item. item.sense) (map (item_of book entry) (range_with_len 0 lines)) line e d below
        ∙ ap (λ item. item.sense) (get_or-map-range_with_len (item_of book entry) 0 lines line line e below (omega arith)))

    -- By the laws of a book.
    pub none_above : Lawful book → lawful entry ≡ true → All (λ item. item.amount ≤ 2000000000) items
    none_above laws within = rw is (λ line d below.
        let item = get_or-map-range_with_len (item_of book entry) 0 lines line line d below (omega arith) in
        let most = laws.bounded line (book.weight entry line) (omega (arith, laws.light entry line within)) in
        rw item most)
