-- Where a search for a meter ends.
use Rattle.std.proofs.Common.{◌≡◌, ℕ, zero, suc, ◌<◌, ◌≤◌, true, List, [], ◌∷◌, length, get_or, is_ok, is_some, Result, Ok, Err, MatchResult, sym, ap, arith}
use Rattle.std.specs.List.{list_all}
use Rattle.std.specs.List.Sorted.{IsSearchInRange, IsBinarySearchResult, IsNonDecreasingBy}
use Rattle.std.specs.Ordering.{nat_cmp, ordering_index}
use Rattle.std.proofs.lemmas.Bool.{and_parts, ltb-true}
use Rattle.std.proofs.lemmas.Bool.Decides.{nat_tests}
use Rattle.std.proofs.lemmas.Cmp.{ranked}
use Rattle.std.proofs.lemmas.List.Sorted.{IsNonDecreasingBy-from_default}
use Rattle.std.proofs.lemmas.List.Sums.{AllPass-from_list_all}
use Rattle.reading.specs.declared.entry.Entry.{Entry}
use Rattle.record.specs.Meters.{blank, precedes, rising, stands, Place, StandsAt, BelongsAt}
use Rattle.record.proofs.Placing.{stands_here, stands_not}

-- The meter at an index.
abbrev meter_at : List Entry → ℕ → ℕ
meter_at es i = (get_or es i blank).meter

-- Rising meters by index.
rise : (es : List Entry) → rising es ≡ true → (i j : ℕ) → i < j → j < length es → meter_at es i < meter_at es j
rise [] h i j l m = absurd (omega arith)
rise (e ∷ es) h i zero l m = absurd (omega arith)
rise (e ∷ es) h zero (suc j) l m = ltb-true e.meter (meter_at es j) (AllPass-from_list_all (precedes e) es (and_parts (list_all (precedes e) es) (rising es) h).0 j blank (omega arith))
rise (e ∷ es) h (suc i) (suc j) l m = rise es (and_parts (list_all (precedes e) es) (rising es) h).1 i j (omega arith) (omega arith)

-- A place lies between the lower meters and the others.
place_between : (meter : ℕ) (es : List Entry) (k : ℕ) → k ≤ length es → ((i : ℕ) → i < k → meter_at es i < meter) → (k < length es → meter ≤ meter_at es k) → Place meter es k
place_between meter [] zero within low high = tt
place_between meter [] (suc k) within low high = absurd (omega arith)
place_between meter (e ∷ es) zero within low high = high (omega arith)
place_between meter (e ∷ es) (suc k) within low high = (low 0 (omega arith), place_between meter es k (omega arith) (λ i l. low (suc i) (omega arith)) (λ l. high (omega arith)))

module _ (es : List Entry) (order : rising es ≡ true) (meter : ℕ) where
  -- Comparisons with the meter rise too, as a binary search asks.
  comparisons_rise : IsNonDecreasingBy (λ (e : Entry). ordering_index (nat_cmp e.meter meter)) es
  comparisons_rise = IsNonDecreasingBy-from_default (λ (e : Entry). ordering_index (nat_cmp e.meter meter)) es blank (λ i j le within.
      let up : meter_at es i ≤ meter_at es j = grind (arith, rise es order i j, λ (same : i ≡ j). ap (meter_at es) same) in
      grind (arith, nat_tests))

  pub searched : (r : Result ℕ ℕ) → IsSearchInRange r (length es) → IsBinarySearchResult (λ (e : Entry). nat_cmp e.meter meter) es r → record { found : is_ok r ≡ stands meter es; place : MatchResult r (StandsAt meter es) (BelongsAt meter es) }
  searched (Ok k) within equal =
      let own : meter_at es k ≡ meter = ranked (meter_at es k) meter _ (sym (equal blank)) in
      let place = place_between meter es k (omega arith) (λ i l. let up = rise es order i k l within in omega arith) (λ _. omega arith) in
      record { found = sym (ap is_some (stands_here meter es k place within own)); place = record { within = within; place = place; own = own } }
  searched (Err k) within parted =
      let parts = parted comparisons_rise in
      let above : k < length es → meter < meter_at es k = λ l. ranked (meter_at es k) meter _ (sym (parts.1 k blank (omega arith) l)) in
      let place = place_between meter es k within (λ i l. ranked (meter_at es i) meter _ (sym (parts.0 i blank (omega arith) l))) (λ l. let up = above l in omega arith) in
      let none = stands_not meter es k order place (λ l e. let up = above l in omega arith) in
      record { found = sym (ap is_some none); place = record { within = within; place = place; none = none } }
