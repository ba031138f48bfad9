-- Entries as bytes, back and forth.
use Rattle.std.proofs.Common.{◌≡◌, ℕ, zero, suc, ◌*◌, ◌<◌, true, List, [], ◌∷◌, ◌++◌, map, length, get_or, take, drop, sym, refl, ap, ◌∙◌, ap₂, arith, rules}
use Rattle.std.specs.List.{flat_map, range_with_len, AllByRecursion as All}
use Rattle.std.proofs.ByRecursion.{All-take, All-drop}
use Rattle.std.proofs.lemmas.List.{nil_from_length, length-take-le, length-drop, length-map, get_or-map, take_all, take-append-drop}
use Rattle.std.proofs.lemmas.List.FromFn.{fill_by_all}
use Rattle.reading.specs.declared.entry.Entry.{Entry}
use Rattle.record.specs.Holding.{lawful_reading}
use Rattle.record.specs.Meters.{blank}
use Rattle.record.specs.Rows.{is_blank}
use Rattle.slot.specs.Layout.{entry_bytes}
use Rattle.slot.specs.Reading.{entry_in, entries_in}
use Rattle.slot.proofs.Fields.{two_back, four_back, two_again, four_again, bytes_from, bytes_from_is}

-- An entry whose fields of two and of four bytes fit them.
pub record Narrow (e : Entry) : Type 0 where
  pub meter : e.meter < 65536
  pub schedule : e.schedule < 65536
  pub kwh : e.kwh < 4294967296
  pub off_hours : e.off_hours < 4294967296
  pub demand : e.demand < 4294967296
  pub peak_demand : e.peak_demand < 4294967296
  pub kvar : e.kvar < 65536
  pub load : e.load < 65536

pub narrow_lawful : (e : Entry) → lawful_reading e ≡ true → Narrow e
narrow_lawful e h = search rules

pub narrow_blank : (e : Entry) → is_blank e ≡ true → Narrow e
narrow_blank e h = search rules

-- What is written reads back.
pub entry_back : (e : Entry) → Narrow e → entry_in (entry_bytes e) ≡ e
entry_back e fits =
    rw (two_back e.meter fits.meter, two_back e.schedule fits.schedule, four_back e.kwh fits.kwh, four_back e.off_hours fits.off_hours, four_back e.demand fits.demand, four_back e.peak_demand fits.peak_demand, two_back e.kvar fits.kvar, two_back e.load fits.load)

pub entries_back : (es : List Entry) → All Narrow es → entries_in (length es) (flat_map entry_bytes es) ≡ es
entries_back [] fits = refl
entries_back (e ∷ es) (fits, rest) = ap₂ (λ f fs. f ∷ fs) (entry_back e fits) (entries_back es rest)

pub both : {a b c d : List ℕ} → a ≡ c → b ≡ d → a ++ b ≡ c ++ d
both p q = ap₂ (λ x y. x ++ y) p q

-- What is read was written so.
pub entry_again : (bs : List ℕ) → length bs ≡ 26 → All (λ b. b < 256) bs → entry_bytes (entry_in bs) ≡ bs
entry_again bs long fit =
    let two = two_again bs fit in
    let four = four_again bs fit in
    let flags = λ (rest : List ℕ). get_or bs 4 0 ∷ get_or bs 5 0 ∷ rest in
    let all : entry_bytes (entry_in bs) ≡ bytes_from 0 26 bs =
    both (two 0 (omega arith))
    (both (two 2 (omega arith))
    (ap flags
    (both (four 6 (omega arith))
    (both (four 10 (omega arith))
    (both (four 14 (omega arith))
    (both (four 18 (omega arith))
    (both (two 22 (omega arith)) (two 24 (omega arith))))))))) in
    all ∙ bytes_from_is 0 26 bs (omega arith) ∙ take_all 26 bs (omega arith)

pub entries_again : (n : ℕ) (bs : List ℕ) → length bs ≡ 26 * n → All (λ b. b < 256) bs → flat_map entry_bytes (entries_in n bs) ≡ bs
entries_again zero bs long fit = sym (nil_from_length bs (omega arith))
entries_again (suc n) bs long fit =
    let here = entry_again (take 26 bs) (length-take-le 26 bs (omega arith)) (All-take (λ b. b < 256) 26 bs fit) in
    let rest = entries_again n (drop 26 bs) (simp length-drop (omega arith)) (All-drop (λ b. b < 256) 26 bs fit) in
    both here rest ∙ take-append-drop 26 bs

-- The entries by their places are the entries.
pub entries_listed : (entries : List Entry) → length entries ≡ 16 → map (λ i. entry_bytes (get_or entries i blank)) (range_with_len 0 16) ≡ map entry_bytes entries
entries_listed entries long =
    let made : ℕ → List ℕ = λ i. entry_bytes (get_or entries i blank) in
    sym (fill_by_all made (map entry_bytes entries) 16 (made 0) (length-map entries entry_bytes ∙ long) (λ k below. get_or-map entry_bytes entries k blank (made 0) (omega (arith, long))))
