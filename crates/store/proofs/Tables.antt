-- A row of a table written over: what is held by key afterwards, how many are, and that the table stays lawful.
use Rattle.std.proofs.Common.{◌≡◌, ℕ, zero, suc, ◌+◌, ◌<◌, ◌≤◌, Bool, true, false, cond, not, ◌&&◌, eqb, List, [], ◌∷◌, length, get_or, set, replicate, is_some, Some, None, Option, sym, refl, ap, ◌∙◌, ⊎_elim, arith}
use Rattle.std.specs.List.{list_all}
use Rattle.std.proofs.lemmas.Bool.{and_parts, and_from, both_ways, cond-true, cond-false, cond_both, not_from_false, not-true, or_cases}
use Rattle.std.proofs.lemmas.List.Elements.{All-set}
use Rattle.std.proofs.lemmas.List.Sums.{AllPass-from_list_all, list_all-from_AllPass}
use Rattle.reading.specs.declared.site_month.SiteMonth.{SiteMonth}
use Rattle.record.proofs.Editing.{swap}
use Rattle.record.specs.Holding.{Holding, same, lawful_holding}
use Rattle.record.specs.Rows.{holding, padded, lawful_row, is_vacant, tidy, vacant, keyed}
use Rattle.record.specs.States.{used}
use Rattle.record.specs.declared.row.Row.{Row}
use Rattle.store.specs.Meaning.{look_up, holds, once}
use Rattle.store.specs.Table.{held_in, lawful_table}
use Rattle.store.proofs.Keys.{same_both, same_is, same_turned, none_held}

-- The record of a row, if it is in use.
abbrev pub own : Row → Option Holding
own row = cond (used row.state) (Some (holding row)) None

-- How many records a row has.
abbrev pub one : Row → ℕ
one row = cond (used row.state) 1 0

-- No row but the one at i has the key.
abbrev pub Apart : SiteMonth → ℕ → List Row → Type 0
Apart key i [] = Unit {0}
Apart key zero (row ∷ rows) = holds key (held_in rows) ≡ false
Apart key (suc i) (row ∷ rows) = (keyed key row ≡ false) × Apart key i rows

-- What is held under a key, from the first row and the rest.
pub look_first : (at : SiteMonth) (row : Row) (rows : List Row) → look_up at (held_in (row ∷ rows)) ≡ cond (keyed at row) (Some (holding row)) (look_up at (held_in rows))
look_first at row rows = by (used row.state) refl
  where
    by : (t : Bool) → used row.state ≡ t → look_up at (held_in (row ∷ rows)) ≡ cond (keyed at row) (Some (holding row)) (look_up at (held_in rows))
    by true is = rw is
    by false is = rw is

-- The first row has not the key, nor have the others.
pub holds_first : (at : SiteMonth) (row : Row) (rows : List Row) → holds at (held_in (row ∷ rows)) ≡ false → (keyed at row ≡ false) × (holds at (held_in rows) ≡ false)
holds_first at row rows e = by (keyed at row) refl
  where
    so : (t : Bool) → keyed at row ≡ t → is_some (cond t (Some (holding row)) (look_up at (held_in rows))) ≡ false
    so t is = ap (λ x. is_some (cond x (Some (holding row)) (look_up at (held_in rows)))) (sym is) ∙ ap is_some (sym (look_first at row rows)) ∙ e

    by : (t : Bool) → keyed at row ≡ t → (keyed at row ≡ false) × (holds at (held_in rows) ≡ false)
    by true is = absurd (both_ways true (so true is) refl)
    by false is = (is, so false is)

pub holds_from : (at : SiteMonth) (row : Row) (rows : List Row) → keyed at row ≡ false → holds at (held_in rows) ≡ false → holds at (held_in (row ∷ rows)) ≡ false
holds_from at row rows a b = ap is_some (look_first at row rows) ∙ ap (λ t. is_some (cond t (Some (holding row)) (look_up at (held_in rows)))) a ∙ b

-- A row has the key, so it is held.
pub holds_at : (at : SiteMonth) (rows : List Row) (i : ℕ) → i < length rows → keyed at (get_or rows i vacant) ≡ true → holds at (held_in rows) ≡ true
holds_at at [] i h k = absurd (omega arith)
holds_at at (row ∷ rows) zero h k = ap is_some (look_first at row rows) ∙ ap (λ t. is_some (cond t (Some (holding row)) (look_up at (held_in rows)))) k
holds_at at (row ∷ rows) (suc i) h k =
    ap is_some (look_first at row rows)
    ∙ cond_both (keyed at row) (Some (holding row)) (look_up at (held_in rows)) (λ o. is_some o ≡ true) (λ _. refl) (λ _. holds_at at rows i (omega arith) k)

-- No site month stands twice among the rest, nor the first row's.
pub once_rest : (row : Row) (rows : List Row) → once (held_in (row ∷ rows)) ≡ true → (once (held_in rows) ≡ true) × (used row.state ≡ true → holds row.at (held_in rows) ≡ false)
once_rest row rows all = by (used row.state) refl
  where
    by : (t : Bool) → used row.state ≡ t → (once (held_in rows) ≡ true) × (used row.state ≡ true → holds row.at (held_in rows) ≡ false)
    by true is =
        let p = and_parts (not (holds row.at (held_in rows))) (once (held_in rows)) (ap (λ t. once (cond t (holding row ∷ held_in rows) (held_in rows))) (sym is) ∙ all) in
        (p.1, λ _. not-true (holds row.at (held_in rows)) p.0)
    by false is = (ap (λ t. once (cond t (holding row ∷ held_in rows) (held_in rows))) (sym is) ∙ all, λ k. absurd (both_ways (used row.state) is k))

other_turned : (x y : SiteMonth) → same y x ≡ false → same x y ≡ false
other_turned x y h = by (same x y) refl
  where
    by : (t : Bool) → same x y ≡ t → same x y ≡ false
    by true is = absurd (both_ways (same y x) h (same_turned x y is))
    by false is = is

-- A row that is vacant or has the key.
abbrev pub Under : SiteMonth → Row → Type 0
Under key row = used row.state ≡ true → same key row.at ≡ true

under_other : (at key : SiteMonth) (row : Row) → Under key row → same at key ≡ false → keyed at row ≡ false
under_other at key row under h = by (keyed at row) refl
  where
    by : (t : Bool) → keyed at row ≡ t → keyed at row ≡ false
    by false is = is
    by true is =
        let p = and_parts (used row.state) (same at row.at) is in
        let k = same_turned key row.at (under p.0) in
        absurd (both_ways (same at key) h (same_both row.at at key (same_turned at row.at p.1) k))

under_own : (at key : SiteMonth) (row : Row) → Under key row → same at key ≡ true → keyed at row ≡ used row.state
under_own at key row under h = by (used row.state) refl
  where
    by : (t : Bool) → used row.state ≡ t → keyed at row ≡ used row.state
    by true is = let s : same at row.at ≡ true = same_both key at row.at (same_turned at key h) (under is) in rw (is, s)
    by false is = rw is

held_alike : (at key : SiteMonth) (hs : List Holding) → same at key ≡ true → holds key hs ≡ false → look_up at hs ≡ None
held_alike at key hs h none = ap (λ k. look_up k hs) (same_is at key h) ∙ none_held (look_up key hs) none

module _ (key : SiteMonth) (new : Row) (under : Under key new) where
  -- What is held under each key, once a row is written over.
  pub look_set : (rows : List Row) (i : ℕ) → i < length rows → Apart key i rows → Under key (get_or rows i vacant) → (at : SiteMonth) → look_up at (held_in (set rows i new)) ≡ cond (same at key) (own new) (look_up at (held_in rows))
  look_set [] i h apart old at = absurd (omega arith)
  look_set (row ∷ rows) zero h apart old at = look_first at new rows ∙ by (same at key) refl ∙ ap (cond (same at key) (own new)) (sym (look_first at row rows))
    where
      by : (t : Bool) → same at key ≡ t → cond (keyed at new) (Some (holding new)) (look_up at (held_in rows)) ≡ cond (same at key) (own new) (cond (keyed at row) (Some (holding row)) (look_up at (held_in rows)))
      by true is = let none = held_alike at key (held_in rows) is apart in let u = under_own at key new under is in rw (is, none, u)
      by false is = let a = under_other at key new under is in let b = under_other at key row old is in rw (is, a, b)
  look_set (row ∷ rows) (suc i) h (apart, rest) old at =
      look_first at row (set rows i new)
      ∙ ap (cond (keyed at row) (Some (holding row))) (look_set rows i (omega arith) rest old at)
      ∙ swap (keyed at row) (same at key) (Some (holding row)) (own new) (look_up at (held_in rows)) (λ a b. both_ways (keyed key row) apart (ap (λ k. keyed k row) (sym (same_is at key b)) ∙ a))
      ∙ ap (cond (same at key) (own new)) (sym (look_first at row rows))

  -- No site month stands twice.
  pub once_set : (rows : List Row) (i : ℕ) → i < length rows → Apart key i rows → Under key (get_or rows i vacant) → once (held_in rows) ≡ true → once (held_in (set rows i new)) ≡ true
  once_set [] i h apart old all = absurd (omega arith)
  once_set (row ∷ rows) zero h apart old all = by (used new.state) refl
    where
      by : (t : Bool) → used new.state ≡ t → once (held_in (new ∷ rows)) ≡ true
      by true is =
          let none : holds new.at (held_in rows) ≡ false = ap (λ k. holds k (held_in rows)) (sym (same_is key new.at (under is))) ∙ apart in
          rw is (and_from (not (holds new.at (held_in rows))) (once (held_in rows)) (not_from_false (holds new.at (held_in rows)) none) (once_rest row rows all).0)
      by false is = rw is (once_rest row rows all).0
  once_set (row ∷ rows) (suc i) h (apart, rest) old all = by (used row.state) refl (once_set rows i (omega arith) rest old (once_rest row rows all).0)
    where
      by : (t : Bool) → used row.state ≡ t → once (held_in (set rows i new)) ≡ true → once (held_in (row ∷ set rows i new)) ≡ true
      by true is tail =
          let other : same key row.at ≡ false = ap (λ t. t && same key row.at) (sym is) ∙ apart in
          let turned : same row.at key ≡ false = other_turned row.at key other in
          let none : holds row.at (held_in (set rows i new)) ≡ false = ap is_some (look_set rows i (omega arith) rest old row.at) ∙ ap (λ t. is_some (cond t (own new) (look_up row.at (held_in rows)))) turned ∙ (once_rest row rows all).1 is in
          rw is (and_from (not (holds row.at (held_in (set rows i new)))) (once (held_in (set rows i new))) (not_from_false (holds row.at (held_in (set rows i new))) none) tail)
      by false is tail = rw is tail

count_first : (row : Row) (rows : List Row) → length (held_in (row ∷ rows)) ≡ length (held_in rows) + one row
count_first row rows = by (used row.state) refl
  where
    by : (t : Bool) → used row.state ≡ t → length (held_in (row ∷ rows)) ≡ length (held_in rows) + one row
    by true is = rw is (omega arith)
    by false is = rw is (omega arith)

one_most : (row : Row) → one row ≤ 1
one_most row = cond_both (used row.state) 1 0 (λ n. n ≤ 1) (λ _. omega arith) (λ _. omega arith)

vacant_not : (row : Row) → used row.state ≡ true → is_vacant row ≡ false
vacant_not row is = rw is (both_false (eqb row.at.site 0) (eqb row.at.month 0))
  where
    both_false : (a b : Bool) → a && (b && false) ≡ false
    both_false true true = refl
    both_false true false = refl
    both_false false b = refl

-- How many are held, once a row is written over.
pub count_set : (new : Row) (rows : List Row) (i : ℕ) → i < length rows → length (held_in (set rows i new)) + one (get_or rows i vacant) ≡ length (held_in rows) + one new
count_set new [] i h = absurd (omega arith)
count_set new (row ∷ rows) zero h =
    let a = count_first new rows in
    let b = count_first row rows in
    omega arith
count_set new (row ∷ rows) (suc i) h =
    let a = count_first row (set rows i new) in
    let b = count_first row rows in
    let more = count_set new rows i (omega arith) in
    omega arith

-- A key that is not held is apart from every row.
pub apart_none : (key : SiteMonth) (rows : List Row) (i : ℕ) → holds key (held_in rows) ≡ false → Apart key i rows
apart_none key [] i h = tt
apart_none key (row ∷ rows) zero h = (holds_first key row rows h).1
apart_none key (row ∷ rows) (suc i) h = let p = holds_first key row rows h in (p.0, apart_none key rows i p.1)

-- A key that a row has is apart from the others.
pub apart_here : (key : SiteMonth) (rows : List Row) (i : ℕ) → i < length rows → once (held_in rows) ≡ true → keyed key (get_or rows i vacant) ≡ true → Apart key i rows
apart_here key [] i h all has = absurd (omega arith)
apart_here key (row ∷ rows) zero h all has =
    let p = and_parts (used row.state) (same key row.at) has in
    ap (λ k. holds k (held_in rows)) (same_is key row.at p.1) ∙ (once_rest row rows all).1 p.0
apart_here key (row ∷ rows) (suc i) h all has = (by (keyed key row) refl, apart_here key rows i (omega arith) (once_rest row rows all).0 has)
  where
    by : (t : Bool) → keyed key row ≡ t → keyed key row ≡ false
    by false is = is
    by true is =
        let p = and_parts (used row.state) (same key row.at) is in
        let none : holds key (held_in rows) ≡ false = ap (λ k. holds k (held_in rows)) (same_is key row.at p.1) ∙ (once_rest row rows all).1 p.0 in
        absurd (both_ways (holds key (held_in rows)) none (holds_at key rows i (omega arith) has))

-- There is room in a table with a vacant row, and none in one without.
pub held_most : (rows : List Row) → length (held_in rows) ≤ length rows
held_most [] = omega arith
held_most (row ∷ rows) = let a = count_first row rows in let b = one_most row in let more = held_most rows in omega arith

pub held_room : (rows : List Row) (i : ℕ) → i < length rows → used (get_or rows i vacant).state ≡ false → length (held_in rows) < length rows
held_room [] i h free = absurd (omega arith)
held_room (row ∷ rows) zero h free =
    let a = count_first row rows in
    let b : one row ≡ 0 = cond-false (used row.state) 1 0 free in
    let more = held_most rows in
    omega arith
held_room (row ∷ rows) (suc i) h free = let a = count_first row rows in let b = one_most row in let more = held_room rows i (omega arith) free in omega arith

pub held_all : (rows : List Row) → list_all (λ row. used row.state) rows ≡ true → length (held_in rows) ≡ length rows
held_all [] h = refl
held_all (row ∷ rows) h =
    let p = and_parts (used row.state) (list_all (λ r. used r.state) rows) h in
    let a = count_first row rows in
    let b : one row ≡ 1 = cond-true (used row.state) 1 0 p.0 in
    let more = held_all rows p.1 in
    omega arith

-- Each record of a lawful table is lawful.
pub used_lawful : (row : Row) → tidy row ≡ true → used row.state ≡ true → lawful_row row ≡ true
used_lawful row h is = by (lawful_row row) refl
  where
    by : (t : Bool) → lawful_row row ≡ t → lawful_row row ≡ true
    by true so = so
    by false so = absurd (both_ways (is_vacant row) (vacant_not row is) (⊎_elim (λ v. v) (λ l. absurd (both_ways (lawful_row row) so l)) (or_cases (is_vacant row) (lawful_row row) h)))

row_holding : (row : Row) → lawful_row row ≡ true → lawful_holding (holding row) ≡ true
row_holding row h = (and_parts (padded row) (lawful_holding (holding row)) (and_parts (used row.state) (padded row && lawful_holding (holding row)) h).1).1

pub each_lawful : (rows : List Row) → list_all tidy rows ≡ true → list_all lawful_holding (held_in rows) ≡ true
each_lawful [] h = refl
each_lawful (row ∷ rows) h =
    let p = and_parts (tidy row) (list_all tidy rows) h in
    cond_both (used row.state) (holding row ∷ held_in rows) (held_in rows) (λ hs. list_all lawful_holding hs ≡ true)
    (λ is. and_from (lawful_holding (holding row)) (list_all lawful_holding (held_in rows)) (row_holding row (used_lawful row p.0 is)) (each_lawful rows p.1))
    (λ _. each_lawful rows p.1)

pub pass_set : {X : Type 0} (p : X → Bool) (xs : List X) (i : ℕ) (new : X) → p new ≡ true → list_all p xs ≡ true → list_all p (set xs i new) ≡ true
pass_set p xs i new h k = list_all-from_AllPass p (set xs i new) (All-set (λ x. p x ≡ true) xs i new h (AllPass-from_list_all p xs k))

-- A table of vacant rows is lawful and holds nothing.
pub vacant_lawful : (n : ℕ) → lawful_table (replicate n vacant) ≡ true
vacant_lawful zero = refl
vacant_lawful (suc n) = vacant_lawful n

pub vacant_held : (n : ℕ) → held_in (replicate n vacant) ≡ []
vacant_held zero = refl
vacant_held (suc n) = vacant_held n

-- The record that is held under the key of a row is that row's.
pub look_at : (at : SiteMonth) (rows : List Row) (i : ℕ) → i < length rows → Apart at i rows → keyed at (get_or rows i vacant) ≡ true → look_up at (held_in rows) ≡ Some (holding (get_or rows i vacant))
look_at at [] i h apart has = absurd (omega arith)
look_at at (row ∷ rows) zero h apart has = look_first at row rows ∙ cond-true (keyed at row) (Some (holding row)) (look_up at (held_in rows)) has
look_at at (row ∷ rows) (suc i) h (other, apart) has =
    look_first at row rows ∙ cond-false (keyed at row) (Some (holding row)) (look_up at (held_in rows)) other ∙ look_at at rows i (omega arith) apart has
