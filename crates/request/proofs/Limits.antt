-- A table of limits: where its fields lie, and what is known of a frame that passes it.
use Rattle.std.proofs.Common.{◌≡◌, ℕ, zero, suc, ◌+◌, ◌<◌, ◌≤◌, true, ◌&&◌, leb, List, [], ◌∷◌, ◌++◌, length, get_or, Some, None, sym, refl, ⊎_elim, le_of_suc-le-suc, not-suc-le-zero, arith}
use Rattle.std.specs.List.{AllByRecursion as All}
use Rattle.std.proofs.lemmas.Bool.{and_parts, leb-true, lt-ltb, le-ltb, cases_lt}
use Rattle.reading.specs.declared.fault.Fault.TheVariants as fault
use Rattle.frame.specs.Seal.{field}
use Rattle.request.specs.declared.limit.Limit.{Limit}
use Rattle.request.specs.Fields.{limit}
use Rattle.request.specs.Tests.{limit_test, inside}

-- The entry at a place of a table, which has this past its end.
abbrev pub at : List Limit → ℕ → Limit
at ls i = get_or ls i (limit 0 0 0)

-- A field within a frame of n bytes.
pub record InFrame (n : ℕ) (l : Limit) : Type 0 where
  pub first : 1 ≤ l.field.byte
  pub early : l.field.byte ≤ 64
  pub ends : l.field.byte + l.field.width ≤ n + 1
  pub narrow : l.field.width ≤ 4

in_frame : (n : ℕ) (l : Limit) → (leb 1 l.field.byte && (leb l.field.byte 64 && (leb (l.field.byte + l.field.width) (n + 1) && leb l.field.width 4))) ≡ true → InFrame n l
in_frame n l h =
    let a = and_parts (leb 1 l.field.byte) _ h in
    let b = and_parts (leb l.field.byte 64) _ a.1 in
    let c = and_parts (leb (l.field.byte + l.field.width) (n + 1)) _ b.1 in
    record { first = leb-true _ _ a.0; early = leb-true _ _ b.0; ends = leb-true _ _ c.0; narrow = leb-true _ _ c.1 }

pub inside_at : (n : ℕ) (ls : List Limit) (i : ℕ) → inside n ls ≡ true → i < length ls → InFrame n (at ls i)
inside_at n [] i h below = absurd (not-suc-le-zero below)
inside_at n (l ∷ ls) zero h below = in_frame n l (and_parts _ (inside n ls) h).0
inside_at n (l ∷ ls) (suc i) h below = inside_at n ls i (and_parts _ (inside n ls) h).1 (le_of_suc-le-suc below)

-- A frame that passes a table is within its first limit, and passes the rest.
first_within : (l : Limit) (ls : List Limit) (frame : List ℕ) → limit_test (l ∷ ls) frame ≡ None → (field frame l.field.byte l.field.width ≤ l.most) × (limit_test ls frame ≡ None)
first_within l ls frame h =
    let v = field frame l.field.byte l.field.width in
    ⊎_elim
    (λ above. let e : Some (fault.Limit l.field.byte) ≡ None = rw (lt-ltb l.most v above) at h in let z : ◌≡◌ {A = ℕ} 0 1 = cc in absurd (omega arith))
    (λ within. (within, rw (le-ltb l.most v within) at h))
    (cases_lt l.most v)

-- A frame that passes a table is tested by what follows it.
pub limits_pass : (ls ms : List Limit) (frame : List ℕ) → None ≡ limit_test ls frame → limit_test (ls ++ ms) frame ≡ limit_test ms frame
limits_pass [] ms frame h = refl
limits_pass (l ∷ ls) ms frame h = let p = first_within l ls frame (sym h) in rw (le-ltb _ _ p.0) (limits_pass ls ms frame (sym p.1))

-- Each field of a frame that passes is within its limit.
pub all_within : (ls : List Limit) (frame : List ℕ) → limit_test ls frame ≡ None → All (λ l. field frame l.field.byte l.field.width ≤ l.most) ls
all_within [] frame h = tt
all_within (l ∷ ls) frame h = let p = first_within l ls frame h in (p.0, all_within ls frame p.1)
