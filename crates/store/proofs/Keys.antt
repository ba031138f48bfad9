-- Site months as keys, and what is held under them.
use Rattle.std.proofs.Common.{◌≡◌, ℕ, Bool, true, false, eqb, List, ◌∷◌, is_some, Some, None, Option, sym, refl, ap, ◌∙◌, ap₂}
use Rattle.std.proofs.lemmas.Bool.{and_parts, and_from, eqb-true, eq-eqb, both_ways, cond-true, cond-false}
use Rattle.reading.specs.declared.site_month.SiteMonth.{SiteMonth}
use Rattle.record.specs.Holding.{Holding, same}
use Rattle.store.specs.Meaning.{look_up, holds}

pub same_itself : (at : SiteMonth) → same at at ≡ true
same_itself at = and_from (eqb at.site at.site) (eqb at.month at.month) (eq-eqb at.site at.site refl) (eq-eqb at.month at.month refl)

alike : (at other : SiteMonth) → at.site ≡ other.site → at.month ≡ other.month → at ≡ other
alike at other site month =
    let made : ℕ → ℕ → SiteMonth = λ s m. record { site = s; month = m } in
    ap (λ s. made s at.month) site ∙ ap (made other.site) month

pub same_is : (at other : SiteMonth) → same at other ≡ true → at ≡ other
same_is at other h =
    let p = and_parts (eqb at.site other.site) (eqb at.month other.month) h in
    alike at other (eqb-true at.site other.site p.0) (eqb-true at.month other.month p.1)

-- Two keys that a third is the same as are the same.
pub same_both : (at x y : SiteMonth) → same at x ≡ true → same at y ≡ true → same x y ≡ true
same_both at x y h k =
    let p = same_is at x h in
    let q = same_is at y k in
    ap₂ same (sym p) (sym q) ∙ same_itself at

pub same_turned : (x y : SiteMonth) → same x y ≡ true → same y x ≡ true
same_turned x y h = ap₂ same (sym (same_is x y h)) (same_is x y h) ∙ h

pub none_held : (o : Option Holding) → is_some o ≡ false → o ≡ None
none_held None h = refl
none_held (Some x) h = absurd (both_ways true h refl)

-- A key that is not held differs from the first, and is not held among the rest.
pub holds_rest : (at : SiteMonth) (h : Holding) (hs : List Holding) → holds at (h ∷ hs) ≡ false → (same at h.at ≡ false) × (holds at hs ≡ false)
holds_rest at h hs e = by (same at h.at) refl
  where
    by : (t : Bool) → same at h.at ≡ t → (same at h.at ≡ false) × (holds at hs ≡ false)
    by true is = absurd (both_ways true (sym (ap is_some (cond-true (same at h.at) (Some h) (look_up at hs) is)) ∙ e) refl)
    by false is = (is, sym (ap is_some (cond-false (same at h.at) (Some h) (look_up at hs) is)) ∙ e)
