-- Searches through the rows of an image, and what its flaws say of it.
use Rattle.std.proofs.Common.{◌≡◌, ℕ, ◌+◌, ◌%◌, ◌<◌, Bool, true, false, cond, not, ◌&&◌, eqb, ltb, leb, List, [], ◌∷◌, map, length, get_or, drop, is_some, is_ok, Some, None, Ok, Err, Option, Result, sym, refl, ap, ◌∙◌, arith}
use Rattle.std.specs.Option.{option_map}
use Rattle.std.specs.Result.{result_err}
use Rattle.std.specs.List.{list_all, position, position_from}
use Rattle.std.proofs.lemmas.Iterator.Adapters.{position_from-zero}
use Rattle.std.proofs.lemmas.List.{drop_more, drop-map}
use Rattle.std.proofs.lemmas.Bool.{not-true, not-false}
use Rattle.std.proofs.lemmas.Bool.Decides.{nat_tests}
use Rattle.reading.specs.declared.site_month.SiteMonth.{SiteMonth}
use Rattle.record.specs.Rows.{holding, keyed, vacant}
use Rattle.record.specs.States.{used}
use Rattle.record.specs.declared.row.Row.{Row}
use Rattle.slot.specs.Reading.{row_in, lawful_slot, head_in}
use Rattle.slot.proofs.Rows.{head_is}
use Rattle.store.specs.Meaning.{look_up, holds, once}
use Rattle.store.specs.Table.{held_in, Found, Free}
use Rattle.store.proofs.Searching.{is_free, found_position, free_position}
use Rattle.store.proofs.Tables.{look_first}
use Rattle.slots.specs.declared.flaw.Flaw.{Flaw}
use Rattle.slots.specs.declared.flaw.Flaw.TheVariants.{PartSlot, NoSlot, TooManySlots, Unlawful, Twice}
use Rattle.slots.specs.Cuts.{slot_count, slots_of, table_of, lawful_image}
use Rattle.slots.proofs.Cutting.{slot_is, slot_long, row_at}
use Rattle.slots.specs.Flaws.{otherwise, size_flaw, unlawful_from, place_from, again, twice_from, flaw_of}

-- A search by position, counted from n on, and one of what the elements are mapped to.
position_on : {X : Type 0} (p : X → Bool) (n i : ℕ) (xs : List X) → option_map (λ k. n + k) (position_from p i xs) ≡ position_from p (n + i) xs
position_on p n i [] = refl
position_on p n i (x ∷ xs) = by (p x) (position_on p n (i + 1) xs ∙ ap (λ m. position_from p m xs) (omega arith))
  where
    by : (t : Bool) → option_map (λ k. n + k) (position_from p (i + 1) xs) ≡ position_from p (n + i + 1) xs → option_map (λ k. n + k) (cond t (Some i) (position_from p (i + 1) xs)) ≡ cond t (Some (n + i)) (position_from p (n + i + 1) xs)
    by true rest = refl
    by false rest = rest

position_map : {X Y : Type 0} (p : Y → Bool) (f : X → Y) (i : ℕ) (xs : List X) → position_from (λ x. p (f x)) i xs ≡ position_from p i (map f xs)
position_map p f i [] = refl
position_map p f i (x ∷ xs) = ap (λ o. cond (p (f x)) (Some i) o) (position_map p f (i + 1) xs)

-- The first slot from number n on whose row passes a test.
pub first_from : (p : Row → Bool) (bytes : List ℕ) (n : ℕ) (later : List (List ℕ)) (found : Option ℕ) → later ≡ drop n (slots_of bytes) → found ≡ position (λ slot. p (row_in slot)) later → option_map (λ k. n + k) found ≡ position_from p n (drop n (table_of bytes))
first_from p bytes n later found rest is =
    let q = λ (slot : List ℕ). p (row_in slot) in
    let shift : n + 0 ≡ n = omega arith in
    ap (option_map (λ k. n + k)) (is ∙ position_from-zero q later) ∙ position_on q n 0 later ∙ ap (λ m. position_from q m later) shift ∙ position_map p row_in n later
    ∙ ap (position_from p n) (ap (map row_in) rest ∙ sym (drop-map row_in n (slots_of bytes)))

-- The first slot from number n on that has a site month.
pub placed : (at : SiteMonth) (bytes : List ℕ) (n : ℕ) (later : List (List ℕ)) (found : Option ℕ) → later ≡ drop n (slots_of bytes) → found ≡ position (λ slot. keyed at (row_in slot)) later → option_map (λ k. n + k) found ≡ place_from n at (drop n (table_of bytes))
placed at bytes n later found rest is = first_from (keyed at) bytes n later found rest is

-- A search from the first row on finds the row, or there is none.
pub found_from : (at : SiteMonth) (rows : List Row) (result : Option ℕ) → result ≡ place_from 0 at rows → Found rows at result
found_from at rows result is = found_position at rows result (is ∙ sym (position_from-zero (keyed at) rows))

-- A search from the first row on finds one that is not in use, or there is none.
pub first_vacant : (rows : List Row) (result : Option ℕ) → result ≡ position_from is_free 0 rows → Free rows result
first_vacant rows result is = free_position rows result (is ∙ sym (position_from-zero is_free rows))

-- Some row has the site month exactly where it is held.
place_holds : (i : ℕ) (at : SiteMonth) (rows : List Row) → is_some (place_from i at rows) ≡ holds at (held_in rows)
place_holds i at [] = refl
place_holds i at (row ∷ rows) = by (keyed at row) refl (place_holds (i + 1) at rows) ∙ ap is_some (sym (look_first at row rows))
  where
    by : (t : Bool) → keyed at row ≡ t → is_some (place_from (i + 1) at rows) ≡ holds at (held_in rows) → is_some (place_from i at (row ∷ rows)) ≡ is_some (cond (keyed at row) (Some (holding row)) (look_up at (held_in rows)))
    by true is rest = rw is
    by false is rest = rw is rest

either_some : (a b : Option Flaw) → is_some (otherwise a b) ≡ not (not (is_some a) && not (is_some b))
either_some None None = refl
either_some None (Some b) = refl
either_some (Some a) b = refl

mapped_some : (i : ℕ) (o : Option ℕ) → is_some (option_map (Twice i) o) ≡ is_some o
mapped_some i None = refl
mapped_some i (Some k) = refl

-- There is an unlawful slot exactly where not all are lawful.
pub unlawful_some : (i : ℕ) (slots : List (List ℕ)) → is_some (unlawful_from i slots) ≡ not (list_all lawful_slot slots)
unlawful_some i [] = refl
unlawful_some i (slot ∷ slots) = by (lawful_slot slot) refl (unlawful_some (i + 1) slots)
  where
    by : (t : Bool) → lawful_slot slot ≡ t → is_some (unlawful_from (i + 1) slots) ≡ not (list_all lawful_slot slots) → is_some (unlawful_from i (slot ∷ slots)) ≡ not (list_all lawful_slot (slot ∷ slots))
    by true is rest = rw is rest
    by false is rest = rw is

-- A site month stands twice exactly where not each stands once.
pub twice_some : (i : ℕ) (rows : List Row) → is_some (twice_from i rows) ≡ not (once (held_in rows))
twice_some i [] = refl
twice_some i (row ∷ rows) = either_some (option_map (Twice i) (again i row rows)) (twice_from (i + 1) rows) ∙ by (used row.state) refl (twice_some (i + 1) rows)
  where
    not_not : (b : Bool) → not (not b) ≡ b
    not_not true = refl
    not_not false = refl

    by : (t : Bool) → used row.state ≡ t → is_some (twice_from (i + 1) rows) ≡ not (once (held_in rows)) → not (not (is_some (option_map (Twice i) (again i row rows))) && not (is_some (twice_from (i + 1) rows))) ≡ not (once (held_in (row ∷ rows)))
    by true is rest =
        let a : is_some (option_map (Twice i) (place_from (i + 1) row.at rows)) ≡ holds row.at (held_in rows) = mapped_some i (place_from (i + 1) row.at rows) ∙ place_holds (i + 1) row.at rows in
        rw (is, a, rest, not_not (once (held_in rows)))
    by false is rest = rw (is, rest, not_not (once (held_in rows)))

-- The first slot that is not lawful.
unlawful_on : (i : ℕ) (slots : List (List ℕ)) → option_map Unlawful (position_from (λ slot. not (lawful_slot slot)) i slots) ≡ unlawful_from i slots
unlawful_on i [] = refl
unlawful_on i (slot ∷ slots) = by (lawful_slot slot) (unlawful_on (i + 1) slots)
  where
    by : (t : Bool) → option_map Unlawful (position_from (λ slot. not (lawful_slot slot)) (i + 1) slots) ≡ unlawful_from (i + 1) slots → option_map Unlawful (cond (not t) (Some i) (position_from (λ slot. not (lawful_slot slot)) (i + 1) slots)) ≡ cond t (unlawful_from (i + 1) slots) (Some (Unlawful i))
    by true rest = rest
    by false rest = refl

pub first_unlawful : (slots : List (List ℕ)) → option_map Unlawful (position (λ slot. not (lawful_slot slot)) slots) ≡ unlawful_from 0 slots
first_unlawful slots = ap (option_map Unlawful) (position_from-zero (λ slot. not (lawful_slot slot)) slots) ∙ unlawful_on 0 slots

-- A slot's site month, by its head, in the later ones.
module _ (bytes : List ℕ) (i : ℕ) (h : i < slot_count bytes) where
  head_at : head_in (get_or (slots_of bytes) i []) ≡ cond (used (get_or (table_of bytes) i vacant).state) (Some (get_or (table_of bytes) i vacant).at) None
  head_at =
      head_is (get_or (slots_of bytes) i []) (ap length (slot_is (slot_count bytes) bytes i h) ∙ slot_long bytes i h)
      ∙ ap (λ (row : Row). cond (used row.state) (Some row.at) None) (sym (row_at bytes i h))

  pub some_again : (at : SiteMonth) (rows : List Row) → Some at ≡ head_in (get_or (slots_of bytes) i []) → place_from (i + 1) at rows ≡ again i (get_or (table_of bytes) i vacant) rows
  some_again at rows is = by (get_or (table_of bytes) i vacant) (is ∙ head_at)
    where
      by : (row : Row) → Some at ≡ cond (used row.state) (Some row.at) None → place_from (i + 1) at rows ≡ again i row rows
      by row e = grind arith

  pub none_again : (rows : List Row) → None ≡ head_in (get_or (slots_of bytes) i []) → None ≡ again i (get_or (table_of bytes) i vacant) rows
  none_again rows is = by (get_or (table_of bytes) i vacant) (is ∙ head_at)
    where
      by : (row : Row) → None ≡ cond (used row.state) (Some row.at) None → None ≡ again i row rows
      by row e = grind arith

-- Site months asked one by one.
module _ (rows : List Row) (i : ℕ) (goal : Option Flaw) (so_far : twice_from i (drop i rows) ≡ goal) where
  row_next : i < length rows → otherwise (option_map (Twice i) (again i (get_or rows i vacant) (drop (i + 1) rows))) (twice_from (i + 1) (drop (i + 1) rows)) ≡ goal
  row_next h = ap (twice_from i) (sym (drop_more rows i vacant h)) ∙ so_far

  pub twice_here : (k : ℕ) → i < length rows → Some k ≡ again i (get_or rows i vacant) (drop (i + 1) rows) → Some (Twice i k) ≡ goal
  twice_here k h is = ap (λ o. otherwise (option_map (Twice i) o) (twice_from (i + 1) (drop (i + 1) rows))) is ∙ row_next h

  pub twice_on : i < length rows → None ≡ again i (get_or rows i vacant) (drop (i + 1) rows) → twice_from (i + 1) (drop (i + 1) rows) ≡ goal
  twice_on h is = ap (λ o. otherwise (option_map (Twice i) o) (twice_from (i + 1) (drop (i + 1) rows))) is ∙ row_next h

-- An image has a flaw exactly where it is not lawful.
size_some : (part : Bool) (n : ℕ) → is_some (cond (not part) (Some PartSlot) (cond (eqb n 0) (Some NoSlot) (cond (ltb 1024 n) (Some TooManySlots) None))) ≡ not (part && (leb 1 n && leb n 1024))
size_some false n = refl
size_some true n = grind (arith, nat_tests)

all_of : (a b c d e : Bool) → not (not (not (a && (b && c))) && not (not (not (not d) && not (not e)))) ≡ not (a && (b && (c && (d && e))))
all_of true true true true true = refl
all_of true true true true false = refl
all_of true true true false e = refl
all_of true true false d e = refl
all_of true false c d e = refl
all_of false b c d e = refl

pub flawed : (bytes : List ℕ) → is_some (flaw_of bytes) ≡ not (lawful_image bytes)
flawed bytes =
    let n = slot_count bytes in
    let size = size_some (eqb (length bytes % 424) 0) n in
    let slots = unlawful_some 0 (slots_of bytes) in
    let rows = twice_some 0 (table_of bytes) in
    either_some (size_flaw bytes) (otherwise (unlawful_from 0 (slots_of bytes)) (twice_from 0 (table_of bytes)))
    ∙ ap (λ t. not (not (is_some (size_flaw bytes)) && not t)) (either_some (unlawful_from 0 (slots_of bytes)) (twice_from 0 (table_of bytes)))
    ∙ rw (size, slots, rows) (all_of (eqb (length bytes % 424) 0) (leb 1 n) (leb n 1024) (list_all lawful_slot (slots_of bytes)) (once (held_in (table_of bytes))))

pub ok_lawful : (bytes : List ℕ) (r : Result Unit Flaw) → result_err r ≡ flaw_of bytes → is_ok r ≡ lawful_image bytes
ok_lawful bytes (Ok x) h = sym (not-false (lawful_image bytes) (sym (flawed bytes) ∙ ap is_some (sym h)))
ok_lawful bytes (Err flaw) h = sym (not-true (lawful_image bytes) (sym (flawed bytes) ∙ ap is_some (sym h)))
