-- The vacant row, and slots of zeros.
use Rattle.std.proofs.Common.{◌≡◌, ℕ, Bool, true, false, not, eqb, leb, List, [], ◌∷◌, length, drop, replicate, sym, refl, ap, ◌∙◌, ap₂, arith}
use Rattle.std.specs.List.{list_all}
use Rattle.std.proofs.lemmas.Bool.{and_parts, not-true, eqb-true}
use Rattle.reading.specs.declared.entry.Entry.{Entry}
use Rattle.record.proofs.Pinned.{blanks_alike}
use Rattle.record.specs.Meters.{blank}
use Rattle.record.specs.Rows.{is_blank, vacant, is_vacant}
use Rattle.record.specs.States.{used}
use Rattle.record.specs.declared.row.Row.{Row}
use Rattle.record.specs.declared.row.State.{State}
use Rattle.record.specs.declared.row.State.TheVariants.{Empty}
use Rattle.slot.specs.Layout.{slot_bytes}
use Rattle.slot.specs.Reading.{row_in}

unused : (state : State) → used state ≡ false → state ≡ Empty
unused state h = grind arith

vacant_made : (site month count : ℕ) (state : State) (entries : List Entry) → site ≡ 0 → month ≡ 0 → state ≡ Empty → count ≡ 0 → entries ≡ replicate 16 blank → ◌≡◌ {A = Row} (record { at = record { site = site; month = month }; state = state; count = count; entries = entries }) vacant
vacant_made site month count state entries a b c d e = rw (a, b, c, d, e)

-- There is one vacant row.
pub vacant_is : (row : Row) → is_vacant row ≡ true → row ≡ vacant
vacant_is row h =
    let a = and_parts (eqb row.at.site 0) _ h in
    let b = and_parts (eqb row.at.month 0) _ a.1 in
    let c = and_parts (not (used row.state)) _ b.1 in
    let d = and_parts (eqb row.count 0) _ c.1 in
    let e = and_parts (leb row.count 16) _ d.1 in
    let f = and_parts (eqb (length row.entries) 16) _ e.1 in
    let site = eqb-true row.at.site 0 a.0 in
    let month = eqb-true row.at.month 0 b.0 in
    let state = unused row.state (not-true (used row.state) c.0) in
    let none = eqb-true row.count 0 d.0 in
    let blanks = ap (λ n. list_all is_blank (drop n row.entries)) (sym none) ∙ f.1 in
    let entries = blanks_alike row.entries (replicate 16 blank) (eqb-true (length row.entries) 16 f.0) blanks refl in
    vacant_made row.at.site row.at.month row.count row.state row.entries site month state none entries

abbrev pub is_zero : ℕ → Bool
is_zero b = eqb b 0

zeros : (bs : List ℕ) → list_all is_zero bs ≡ true → bs ≡ replicate (length bs) 0
zeros [] h = refl
zeros (b ∷ bs) h =
    let parts = and_parts (eqb b 0) (list_all is_zero bs) h in
    ap₂ (λ c cs. c ∷ cs) (eqb-true b 0 parts.0) (zeros bs parts.1)

-- Its slot is all zero, and the only one that is.
pub zeros_vacant : (slot : List ℕ) → length slot ≡ 424 → list_all is_zero slot ≡ true → slot ≡ slot_bytes vacant
zeros_vacant slot long h = zeros slot h ∙ ap (λ n. replicate n 0) long

pub vacant_zeros : list_all is_zero (slot_bytes vacant) ≡ true
vacant_zeros = refl

pub vacant_back : row_in (slot_bytes vacant) ≡ vacant
vacant_back = refl
