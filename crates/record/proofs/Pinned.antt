-- A record's values pin its row.
use Rattle.std.proofs.Common.{◌≡◌, ℕ, true, List, [], ◌∷◌, ◌++◌, length, take, drop, sym, refl, ap, ◌∙◌, ap₂, arith, rules}
use Rattle.std.specs.List.{list_all}
use Rattle.std.proofs.lemmas.List.{length-take-le, length-drop, take-append-drop}
use Rattle.std.proofs.lemmas.Bool.{and_parts}
use Rattle.reading.specs.declared.entry.Entry.{Entry}
use Rattle.reading.specs.declared.site_month.SiteMonth.{SiteMonth}
use Rattle.record.specs.declared.row.Row.{Row}
use Rattle.record.specs.declared.row.State.{State}
use Rattle.record.specs.declared.row.State.TheVariants.{Empty, Open, Closed}
use Rattle.record.specs.Holding.{Holding}
use Rattle.record.specs.Meters.{blank}
use Rattle.record.specs.Rows.{holding, is_blank, lawful_row}
use Rattle.record.specs.States.{used, is_closed}
use Rattle.record.proofs.Laws.{laws}

pub blank_is : (e : Entry) → is_blank e ≡ true → e ≡ blank
blank_is e h = search rules

pub blanks_alike : (xs ys : List Entry) → length xs ≡ length ys → list_all is_blank xs ≡ true → list_all is_blank ys ≡ true → xs ≡ ys
blanks_alike [] [] n h k = refl
blanks_alike [] (y ∷ ys) n h k = absurd (omega arith)
blanks_alike (x ∷ xs) [] n h k = absurd (omega arith)
blanks_alike (x ∷ xs) (y ∷ ys) n h k =
    let p = and_parts (is_blank x) (list_all is_blank xs) h in
    let q = and_parts (is_blank y) (list_all is_blank ys) k in
    ap₂ (λ e es. e ∷ es) (blank_is x p.0 ∙ sym (blank_is y q.0)) (blanks_alike xs ys (omega arith) p.1 q.1)

state_alike : (s t : State) → used s ≡ true → used t ≡ true → is_closed s ≡ is_closed t → s ≡ t
state_alike Empty t h k e = absurd (let z : ◌≡◌ {A = ℕ} 0 1 = cc in omega arith)
state_alike Open Empty h k e = absurd (let z : ◌≡◌ {A = ℕ} 0 1 = cc in omega arith)
state_alike Open Open h k e = refl
state_alike Open Closed h k e = absurd (let z : ◌≡◌ {A = ℕ} 0 1 = cc in omega arith)
state_alike Closed Empty h k e = absurd (let z : ◌≡◌ {A = ℕ} 0 1 = cc in omega arith)
state_alike Closed Open h k e = absurd (let z : ◌≡◌ {A = ℕ} 0 1 = cc in omega arith)
state_alike Closed Closed h k e = refl

row_alike : (r s : Row) → r.at ≡ s.at → r.state ≡ s.state → r.count ≡ s.count → r.entries ≡ s.entries → r ≡ s
row_alike r s at state count entries =
    let made : SiteMonth → State → ℕ → List Entry → Row = λ a t n es. record { at = a; state = t; count = n; entries = es } in
    ap (λ a. made a r.state r.count r.entries) at
    ∙ ap (λ t. made s.at t r.count r.entries) state
    ∙ ap (λ n. made s.at s.state n r.entries) count
    ∙ ap (made s.at s.state s.count) entries

-- Two lawful rows with the same record are the same.
pub one_row : (r s : Row) → lawful_row r ≡ true → lawful_row s ≡ true → holding r ≡ holding s → r ≡ s
one_row r s h k e =
    let l = laws r h in
    let m = laws s k in
    let at : r.at ≡ s.at = ap (λ (x : Holding). x.at) e in
    let state : r.state ≡ s.state = state_alike r.state s.state l.in_use m.in_use (ap (λ (x : Holding). x.closed) e) in
    let readings : take r.count r.entries ≡ take s.count s.entries = ap (λ (x : Holding). x.readings) e in
    let a = length-take-le r.count r.entries (omega arith) in
    let b = length-take-le s.count s.entries (omega arith) in
    let count : r.count ≡ s.count = sym a ∙ ap length readings ∙ b in
    let c = length-drop r.count r.entries in
    let d = length-drop s.count s.entries in
    let unused = blanks_alike (drop r.count r.entries) (drop s.count s.entries) (omega arith) l.unused m.unused in
    let entries : r.entries ≡ s.entries = sym (take-append-drop r.count r.entries) ∙ ap₂ (λ x y. x ++ y) readings unused ∙ take-append-drop s.count s.entries in
    row_alike r s at state count entries
