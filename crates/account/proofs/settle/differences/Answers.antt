use Rattle.std.proofs.Common.{◌≡◌, ℕ, ◌<◌, rules, sym, refl, ap₂, ◌∙◌, subst, arith}
use Rattle.std.specs.Array.{index_steps}
use Rattle.std.specs.Iterator.{CallableAtEachTurn}
use Rattle.std.proofs.lemmas.Fn.{serves_by}
use Rattle.reading.proofs.Made.{from_fn_same}
use Rattle.account.specs.Reply.{difference, differences}
use Rattle.account.proofs.Weights.{subtracted}
use Rattle.account.proofs.settle.differences.Goals as goal

-- A closure that calls leave as it was may be called at each index, if it may now.
serves_each : {P : Type 0} (R : P → ℕ → P → Type 0) (Q : P → ℕ → Type 0) (n : ℕ) (p : P) → ((x : ℕ) (q : P) → R p x q → q ≡ p) → ((x : ℕ) → x < n → Q p x) → CallableAtEachTurn (index_steps n) R Q 0 p
serves_each R Q n p same takes =
    serves_by R (λ xs q. q ≡ p) (λ xs q x v is gave. same x v (subst (λ s. R s x v) is gave)) (index_steps n) Q 0 p refl
    (λ xs t q x u yields step is. subst (λ s. Q s x) (sym is) (takes x (omega (arith, step.0, step.1))))

pub from_fn-requires : goal.from_fn-requires
from_fn-requires g c =
    let less = subtracted (g.B.Book.meaning c.args.book.now) (g.met.B.Book.lawful c.args.book.now) _ _ c.readings.result.few c.readings-2.result.few _ _ c.settlements-settled_before.ensures c.settlements-settled_after.ensures in
    (search rules, serves_each _ _ 13 _ (λ x q gave. search rules) (λ line below. (search rules, search rules, search rules, search rules, λ _ _ _ _ _ _ _. (less line below).0)))

pub returns : goal.returns
returns g c =
    let b = g.B.Book.meaning c.args.book.now in
    let before = c.readings.result in
    let after = c.readings-2.result in
    let less = subtracted b (g.met.B.Book.lawful c.args.book.now) before.entries.now after.entries.now before.few after.few _ _ c.settlements-settled_before.ensures c.settlements-settled_after.ensures in
    from_fn_same c.from_fn.ensures.items (difference b before.entries.now after.entries.now) (λ line y f' below call. let is = (less line below).1 in search (rules, is))
    ∙ ap₂ (differences b) c.readings.ensures c.readings-2.ensures
