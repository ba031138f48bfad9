-- Rows as slots, back and forth.
use Rattle.std.proofs.Common.{◌≡◌, ℕ, ◌*◌, ◌<◌, ◌≤◌, true, cond, eqb, leb, List, [], ◌∷◌, ◌++◌, length, get_or, take, drop, Some, None, sym, refl, ap, ◌∙◌, subst, ap₂, inl, inr, arith, lit<, rules}
use borrow.Rule.Slice.PartMut.{put_mid}
use Rattle.std.specs.List.{flat_map, list_all, AllByRecursion as All}
use Rattle.std.proofs.ByRecursion.{All-append, All-drop}
use Rattle.std.proofs.lemmas.List.{append-nil, length-drop, take_at, drop_at, drop_all, take-append-drop}
use Rattle.std.proofs.lemmas.Bool.{and_from, or_cases, eq-eqb}
use Rattle.std.proofs.lemmas.Bool.Decides.{nat_tests}
use Rattle.reading.proofs.Each.{each_by_test}
use Rattle.reading.specs.declared.entry.Entry.{Entry}
use Rattle.record.specs.Holding.{lawful_reading}
use Rattle.record.specs.Rows.{is_blank, lawful_row, vacant, is_vacant, tidy}
use Rattle.record.specs.States.{used}
use Rattle.record.specs.declared.row.Row.{Row}
use Rattle.record.specs.declared.row.State.{State}
use Rattle.record.specs.declared.row.State.TheVariants.{Empty, Open, Closed}
use Rattle.slot.specs.Layout.{state_byte, header_bytes, entry_bytes, slot_bytes}
use Rattle.slot.specs.Reading.{state_in, entries_in, row_in, lawful_slot, head_in}
use Rattle.slot.proofs.Fields.{two_back, four_back, two_again, four_again, bytes_from, bytes_from_is}
use Rattle.slot.proofs.Zeros.{vacant_is}
use Rattle.slot.proofs.Entries.{Narrow, narrow_lawful, narrow_blank, both, entries_back, entries_again}

-- A row whose parts fit their bytes.
record Fitting (row : Row) : Type 0 where
  site : row.at.site < 4294967296
  month : row.at.month < 65536
  sixteen : length row.entries ≡ 16
  narrow : All Narrow row.entries

fitting_lawful : (row : Row) → lawful_row row ≡ true → Fitting row
fitting_lawful row h =
    let readings : list_all lawful_reading (take row.count row.entries) ≡ true = search rules in
    let blanks : list_all is_blank (drop row.count row.entries) ≡ true = search rules in
    let each = All-append Narrow (take row.count row.entries) (drop row.count row.entries) (each_by_test Narrow lawful_reading narrow_lawful _ readings) (each_by_test Narrow is_blank narrow_blank _ blanks) in
    record {
      site = search rules;
      month = search rules;
      sixteen = search rules;
      narrow = subst (All Narrow) (take-append-drop row.count row.entries) each;
    }

fitting : (row : Row) → tidy row ≡ true → Fitting row
fitting row h =
    let none = each_by_test Narrow is_blank narrow_blank vacant.entries refl in
    let empty : Fitting vacant = record { site = lit< tt; month = lit< tt; sixteen = refl; narrow = none } in
    elim (or_cases (is_vacant row) (lawful_row row) h) [ inl v ↦ subst Fitting (sym (vacant_is row v)) empty | inr l ↦ fitting_lawful row l ]

state_back : (state : State) → state_in (state_byte state) ≡ state
state_back Empty = refl
state_back Open = refl
state_back Closed = refl

state_low : (state : State) → leb (state_byte state) 2 ≡ true
state_low Empty = refl
state_low Open = refl
state_low Closed = refl

-- What is written reads back.
pub row_back : (row : Row) → tidy row ≡ true → row_in (slot_bytes row) ≡ row
row_back row h =
    let fits = fitting row h in
    let entries : entries_in 16 (flat_map entry_bytes row.entries) ≡ row.entries = ap (λ n. entries_in n (flat_map entry_bytes row.entries)) (sym fits.sixteen) ∙ entries_back row.entries fits.narrow in
    rw (state_back row.state, four_back row.at.site fits.site, two_back row.at.month fits.month, entries)

length_entries : (es : List Entry) → length (flat_map entry_bytes es) ≡ 26 * length es
length_entries [] = refl
length_entries (e ∷ es) = let more = length_entries es in omega arith

-- The entries put behind the header.
pub both_put : (header entries rest : List ℕ) → length header ≡ 8 → length rest ≡ 416 → put_mid 8 416 (header ++ rest) entries ≡ header ++ entries
both_put header entries rest eight room =
    let none = ap (drop 416) (drop_at header rest 8 eight) ∙ drop_all 416 rest (omega arith) in
    both (take_at header rest 8 eight) (ap (λ end. entries ++ end) none ∙ append-nil entries)

-- What is written is lawful.
pub slot_lawful : (row : Row) → tidy row ≡ true → lawful_slot (slot_bytes row) ≡ true
slot_lawful row h =
    let len = length_entries row.entries in
    let sixteen = (fitting row h).sixteen in
    let long : length (slot_bytes row) ≡ 424 = omega arith in
    and_from (eqb (length (slot_bytes row)) 424) _ (eq-eqb (length (slot_bytes row)) 424 long)
    (and_from (leb (state_byte row.state) 2) _ (state_low row.state) (ap tidy (row_back row h) ∙ h))

state_again : (byte : ℕ) → byte ≤ 2 → state_byte (state_in byte) ≡ byte
state_again byte h = grind (arith, nat_tests)

-- What is read was written so.
pub slot_again : (slot : List ℕ) → length slot ≡ 424 → get_or slot 0 0 ≤ 2 → All (λ b. b < 256) slot → slot_bytes (row_in slot) ≡ slot
slot_again slot long low fit =
    let header : header_bytes (row_in slot) ≡ bytes_from 0 8 slot =
    ap₂ (λ (s : ℕ) (rest : List ℕ). s ∷ get_or slot 1 0 ∷ rest) (state_again (get_or slot 0 0) low)
    (both (four_again slot fit 2 (omega arith)) (two_again slot fit 6 (omega arith))) in
    let entries = entries_again 16 (drop 8 slot) (simp length-drop (omega arith)) (All-drop (λ b. b < 256) 8 slot fit) in
    both (header ∙ bytes_from_is 0 8 slot (omega arith)) entries ∙ take-append-drop 8 slot

-- The site month that a slot is found under is its row's.
pub head_is : (slot : List ℕ) → length slot ≡ 424 → head_in slot ≡ cond (used (row_in slot).state) (Some (row_in slot).at) None
head_is slot h = grind (arith, nat_tests)
