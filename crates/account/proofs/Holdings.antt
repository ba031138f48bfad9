-- Records put and taken out: look-up, count, and that no site month stands twice.
use Rattle.std.proofs.Common.{◌≡◌, ◌+◌, ◌≤◌, true, false, cond, not, List, [], ◌∷◌, length, Some, None, refl, ap, arith}
use Rattle.std.proofs.lemmas.Bool.{and_parts}
use Rattle.std.proofs.lemmas.Bool.Decides.{nat_tests}
use Rattle.reading.specs.declared.entry.Entry.{Entry}
use Rattle.reading.specs.declared.site_month.SiteMonth.{SiteMonth}
use Rattle.record.specs.Holding.{Holding, same}
use Rattle.store.specs.Meaning.{look_up, holds, once}
use Rattle.store.proofs.Keys.{same_is, same_itself}
use Rattle.account.specs.Change.{put, without, left_with}
use Rattle.account.specs.Readings.{readings_at, closed_at}

pub look_up_same : (a b : SiteMonth) (held : List Holding) → same a b ≡ true → look_up a held ≡ look_up b held
look_up_same a b held s = ap (λ at. look_up at held) (same_is a b s)

pub look_up_put : (h : Holding) (held : List Holding) (at : SiteMonth) → look_up at (put h held) ≡ cond (same at h.at) (Some h) (look_up at held)
look_up_put h [] at = refl
look_up_put h (g ∷ held) at = let more = look_up_put h held at in grind (arith, nat_tests)

pub length_put : (h : Holding) (held : List Holding) → length (put h held) ≡ cond (holds h.at held) (length held) (length held + 1)
length_put h [] = refl
length_put h (g ∷ held) = let more = length_put h held in grind (arith, nat_tests)

pub once_put : (h : Holding) (held : List Holding) → once held ≡ true → once (put h held) ≡ true
once_put h [] o = refl
once_put h (g ∷ held) o =
    let p = and_parts (not (holds g.at held)) (once held) o in
    let more = once_put h held p.1 in
    let found = look_up_put h held g.at in
    let alike = look_up_same h.at g.at held in
    grind (arith, nat_tests)

pub look_up_without : (at : SiteMonth) (held : List Holding) → once held ≡ true → (other : SiteMonth) → look_up other (without at held) ≡ cond (same other at) None (look_up other held)
look_up_without at [] o other = grind (arith, nat_tests)
look_up_without at (g ∷ held) o other =
    let p = and_parts (not (holds g.at held)) (once held) o in
    let more = look_up_without at held p.1 other in
    let alike = look_up_same other g.at held in
    grind (arith, nat_tests)

pub length_without : (at : SiteMonth) (held : List Holding) → length held ≡ cond (holds at held) (length (without at held) + 1) (length (without at held))
length_without at [] = refl
length_without at (g ∷ held) = let more = length_without at held in grind (arith, nat_tests)

pub once_without : (at : SiteMonth) (held : List Holding) → once held ≡ true → once (without at held) ≡ true
once_without at [] o = refl
once_without at (g ∷ held) o =
    let p = and_parts (not (holds g.at held)) (once held) o in
    let more = once_without at held p.1 in
    let found = look_up_without at held p.1 g.at in
    grind (arith, nat_tests)

-- Between a site month's readings and what is held.
module _ (at : SiteMonth) (held : List Holding) (o : once held ≡ true) where
  pub readings_with : (es : List Entry) → readings_at at (left_with at es held) ≡ es
  readings_with [] = rw (look_up_without at held o at, same_itself at)
  readings_with (e ∷ es) = rw (look_up_put (record { at = at; closed = closed_at at held; readings = e ∷ es }) held at, same_itself at)

  pub others_with : (other : SiteMonth) → same other at ≡ false → (es : List Entry) → look_up other (left_with at es held) ≡ look_up other held
  others_with other differs [] = rw (look_up_without at held o other, differs)
  others_with other differs (e ∷ es) = rw (look_up_put (record { at = at; closed = closed_at at held; readings = e ∷ es }) held other, differs)

  pub once_with : (es : List Entry) → once (left_with at es held) ≡ true
  once_with [] = once_without at held o
  once_with (e ∷ es) = once_put (record { at = at; closed = closed_at at held; readings = e ∷ es }) held o

-- A site month with some readings has a record with them.
pub with_some : (at : SiteMonth) (held : List Holding) (es : List Entry) → 1 ≤ length es → left_with at es held ≡ put (record { at = at; closed = closed_at at held; readings = es }) held
with_some at held [] some = absurd (omega arith)
with_some at held (e ∷ es) some = refl
