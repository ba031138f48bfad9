-- A store that a run leads to holds what the tally says.
use Rattle.std.proofs.Common.{◌≡◌, ℕ, true, List, [], ◌∷◌, length, sym, refl, ap, ◌∙◌, subst}
use Rattle.std.proofs.lemmas.List.{nil_from_length}
use Rattle.book.specs.Meaning as book
use Rattle.store.specs.Meaning as store
use Rattle.store.specs.Meaning.{look_up, once}
use Rattle.account.specs.Change.{changed}
use Rattle.account.specs.Exchange.{Exchange}
use Rattle.account.specs.Runs.{Ran, tally}
use Rattle.account.specs.Tests.{verdict}
use Rattle.account.proofs.Agree.{Agree, once_changed, agree_changed, same_verdict}

module _ (b : book.Meaning) (n : ℕ) where
  -- The tally holds at most one record for each site month.
  pub tally_once : (h : List Exchange) → once (tally b n h) ≡ true
  tally_once [] = refl
  tally_once (e ∷ h) = once_changed (verdict b (record { capacity = n; held = tally b n h }) e.size e.line) (tally b n h) (tally_once h)

  pub tallied : (h : List Exchange) (s : store.Meaning) → s.capacity ≡ n → Ran b h s → Agree s.held (tally b n h)
  tallied [] s is none = subst (λ held. Agree held []) (sym (nil_from_length s.held none)) (record { each = λ at. refl; count = refl })
  tallied (e ∷ h) t is (s, lawful, ran, served) =
      let kept : s.capacity ≡ n = sym served.changes.capacity ∙ is in
      let before = tallied h s kept ran in
      let paper : store.Meaning = record { capacity = n; held = tally b n h } in
      let same = same_verdict b s paper kept before e.size e.line in
      let after = agree_changed s.held (tally b n h) before lawful.apart (tally_once h) (verdict b s e.size e.line) in
      record {
        each = λ at. served.changes.each at ∙ after.each at ∙ ap (λ v. look_up at (changed v (tally b n h))) same;
        count = served.changes.count ∙ after.count ∙ ap (λ v. length (changed v (tally b n h))) same;
      }
