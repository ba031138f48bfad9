-- Weights of readings: their sums, what they settle to, and what an edit makes of them.
use Rattle.std.proofs.Common.{◌≡◌, ℕ, ◌+◌, ◌^◌, ◌<◌, ◌≤◌, true, leb, List, [], ◌∷◌, map, length, get_or, ℤ, pos, ◌-ℤ◌, Some, sum_by, sym, refl, ap, ◌∙◌, subst, ap₂, arith, lit≤, w32, SFits, to_z, of_z}
use Rattle.std.specs.List.{range_with_len, list_all, AllByRecursion as All}
use Rattle.std.proofs.lemmas.Nat.{mul-le}
use Rattle.std.proofs.ByRecursion.{All-map, All-from_get_or, sum_by_le}
use Rattle.std.proofs.lemmas.Int.{ints, to_z-of_z}
use Rattle.std.proofs.lemmas.List.FromFn.{get_or-map-range_with_len}
use Rattle.std.proofs.lemmas.List.Sums.{sum_by-cons}
use Rattle.std.proofs.lemmas.Bool.{and_parts, cond_both, leb-true}
use Rattle.std.proofs.lemmas.Bool.Decides.{nat_tests}
use Rattle.reading.proofs.Each.{each_by_test}
use Rattle.reading.specs.Limits.{lawful}
use Rattle.reading.specs.Statement.{lines}
use Rattle.reading.specs.declared.entry.Entry.{Entry}
use Rattle.reading.specs.declared.site_month.SiteMonth.{SiteMonth}
use Rattle.book.specs.Meaning as book
use Rattle.book.specs.Settled.{settled}
use Rattle.record.specs.Edits.{added, taken_out}
use Rattle.record.specs.Holding.{Holding, same, lawful_site_month, lawful_holding, lawful_reading}
use Rattle.store.specs.Meaning.{look_up}
use Rattle.account.specs.Readings.{Few, readings_of, readings_at}
use Rattle.account.specs.Reply.{difference, differences, settlements}

-- What an edit makes of a sum over the readings.
module _ (f : Entry → ℕ) where
  added_sum : (e : Entry) (es : List Entry) → sum_by f (added e es) ≡ f e + sum_by f es
  added_sum e [] = sum_by-cons f e []
  added_sum e (g ∷ es) =
      let more = added_sum e es in
      let a = sum_by-cons f e (g ∷ es) in
      let c = sum_by-cons f g (added e es) in
      let d = sum_by-cons f g es in
      grind (arith, nat_tests)

  taken_out_sum : (meter : ℕ) (es : List Entry) → sum_by f (taken_out meter es) ≤ sum_by f es
  taken_out_sum meter [] = lit≤ tt
  taken_out_sum meter (g ∷ es) =
      let more = taken_out_sum meter es in
      let c = sum_by-cons f g (taken_out meter es) in
      let d = sum_by-cons f g es in
      grind (arith, nat_tests)

few_in : (h : Holding) → lawful_holding h ≡ true → Few h.readings
few_in h is =
    let p = (and_parts (lawful_site_month h.at) _ is).1 in
    let q = (and_parts (leb 1 (length h.readings)) _ p).1 in
    let r = and_parts (leb (length h.readings) 16) _ q in
    record { most = leb-true (length h.readings) 16 r.0; each = (and_parts (list_all lawful_reading h.readings) _ r.1).0 }

-- So many stand in each site month of lawful records.
pub few_at : (at : SiteMonth) (held : List Holding) → list_all lawful_holding held ≡ true → Few (readings_at at held)
few_at at [] is = record { most = lit≤ tt; each = refl }
few_at at (h ∷ held) is =
    let p = and_parts (lawful_holding h) (list_all lawful_holding held) is in
    cond_both (same at h.at) (Some h) (look_up at held) (λ l. Few (readings_of l)) (λ _. few_in h p.0) (λ _. few_at at held p.1)

-- What holds on each statement line holds of a list with an amount for each.
pub each_line : (P : ℤ → Type 0) (f : ℕ → ℤ) → ((line : ℕ) → P (f line)) → All P (map f (range_with_len 0 lines))
each_line P f each = All-map P f (range_with_len 0 lines) (All-from_get_or (λ line. P (f line)) (range_with_len 0 lines) 0 (λ i _. each (get_or (range_with_len 0 lines) i 0)))

pub fit_settlement : (n : ℕ) → n ≤ 2000000000 → SFits w32 (pos n)
fit_settlement n a = omega (arith, ints)

fit_difference : (m n : ℕ) → m ≤ 2000000000 → n ≤ 2000000000 → SFits w32 (pos m -ℤ pos n)
fit_difference m n a c = omega (arith, ints)

-- An amount by its bits.
by_bits : (n : ℕ) (x : ℤ) → n ≤ 2000000000 → x ≡ pos n → to_z w32 (of_z w32 x) ≡ pos n
by_bits n x most is = ap (λ z. to_z w32 (of_z w32 z)) is ∙ to_z-of_z w32 (pos n) (fit_settlement n most)

module _ (b : book.Meaning) (laws : book.Lawful b) where
  each_light : (line : ℕ) (es : List Entry) → list_all lawful_reading es ≡ true → All (λ e. b.weight e line ≤ 10 ^ 15) es
  each_light line es is = each_by_test (λ e. b.weight e line ≤ 10 ^ 15) lawful_reading (λ e h. laws.light e line (and_parts (lawful e) _ h).0) es is

  settled_bound : (es : List Entry) → Few es → (line : ℕ) → settled b es line ≤ 2000000000
  settled_bound es few line =
      let total = sum_by_le (λ e. b.weight e line) (10 ^ 15) es (each_light line es few.each) in
      let most = mul-le (length es) (10 ^ 15) 16 (10 ^ 15) few.most (omega arith) in
      laws.bounded line (sum_by (λ e. b.weight e line) es) (omega arith)

  -- The settlements of a record, and the differences between two, are of 32 bits.
  pub settlements_fit : (es : List Entry) → Few es → All (SFits w32) (settlements b es)
  settlements_fit es few = each_line (SFits w32) (λ line. pos (settled b es line)) (λ line. fit_settlement (settled b es line) (settled_bound es few line))

  pub difference_fits : (es fs : List Entry) → Few es → Few fs → (line : ℕ) → SFits w32 (difference b es fs line)
  difference_fits es fs few more line = fit_difference (settled b fs line) (settled b es line) (settled_bound fs more line) (settled_bound es few line)

  pub differences_fit : (es fs : List Entry) → Few es → Few fs → All (SFits w32) (differences b es fs)
  differences_fit es fs few more = each_line (SFits w32) (difference b es fs) (difference_fits es fs few more)

  -- The amount that is read on a line of the settlements.
  settlement_read : (es : List Entry) → Few es → (amounts : List ℤ) → amounts ≡ settlements b es → (line : ℕ) → line < lines → to_z w32 (of_z w32 (get_or amounts line (pos 0))) ≡ pos (settled b es line)
  settlement_read es few amounts is line below =
      by_bits (settled b es line) (get_or amounts line (pos 0)) (settled_bound es few line)
      (ap (λ xs. get_or xs line (pos 0)) is ∙ get_or-map-range_with_len (λ n. pos (settled b es n)) 0 lines line line (pos 0) below (omega arith))

  -- One such less another fits, and is read as the difference.
  pub subtracted : (es fs : List Entry) → Few es → Few fs → (before after : List ℤ) → before ≡ settlements b es → after ≡ settlements b fs → (line : ℕ) → line < lines → let less = to_z w32 (of_z w32 (get_or after line (pos 0))) -ℤ to_z w32 (of_z w32 (get_or before line (pos 0))) in SFits w32 less × (to_z w32 (of_z w32 less) ≡ difference b es fs line)
  subtracted es fs few more before after is are line below =
      let read = ap₂ (λ x y. x -ℤ y) (settlement_read fs more after are line below) (settlement_read es few before is line below) in
      let fits = subst (SFits w32) (sym read) (difference_fits es fs few more line) in
      (fits, to_z-of_z w32 _ fits ∙ read)

  -- A reading more settles to no less, and one fewer to no more.
  pub added_settles : (e : Entry) (es : List Entry) (line : ℕ) → settled b es line ≤ settled b (added e es) line
  added_settles e es line =
      laws.rises line (sum_by (λ x. b.weight x line) es) (sum_by (λ x. b.weight x line) (added e es)) (omega (arith, added_sum (λ x. b.weight x line) e es))

  pub taken_out_settles : (meter : ℕ) (es : List Entry) (line : ℕ) → settled b (taken_out meter es) line ≤ settled b es line
  taken_out_settles meter es line =
      laws.rises line (sum_by (λ x. b.weight x line) (taken_out meter es)) (sum_by (λ x. b.weight x line) es) (taken_out_sum (λ x. b.weight x line) meter es)
