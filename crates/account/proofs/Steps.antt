-- One exchange: the amount that it answers in a site month is what it adds to the settlement there.
use Rattle.std.proofs.Common.{◌≡◌, ℕ, ◌<◌, Bool, true, false, cond, List, ℤ, pos, ◌+ℤ◌, ◌-ℤ◌, Some, None, Ok, Err, Option, Result, sym, refl, ap, ◌∙◌, subst, arith}
use Rattle.std.specs.Option.{option_map}
use Rattle.std.proofs.lemmas.Int.{ints}
use Rattle.std.proofs.lemmas.List.FromFn.{get_or-map-range_with_len}
use Rattle.reading.specs.First.{or_else}
use Rattle.reading.specs.Statement.{lines}
use Rattle.reading.specs.declared.fault.Fault.{Fault}
use Rattle.reading.specs.declared.fault.Fault.TheVariants.{Kind}
use Rattle.reading.specs.declared.site_month.SiteMonth.{SiteMonth}
use Rattle.frame.specs.Seal.{kind_of}
use Rattle.answer.specs.Answers.{answer_line}
use Rattle.answer.specs.declared.answer.Answer.TheVariants as answer
use Rattle.answer.specs.declared.kind.AmountsKind.{AmountsKind}
use Rattle.answer.specs.declared.kind.AmountsKind.TheVariants.{Post, Cancel, Correct, Account}
use Rattle.request.specs.Asked.{Asked, post, correct, cancel, close, account, asked_in, requested}
use Rattle.request.specs.Fields.{site_month_in}
use Rattle.request.specs.Kinds.{request_kind}
use Rattle.request.specs.declared.kind.RequestKind.{RequestKind}
use Rattle.request.specs.declared.kind.RequestKind.TheVariants as kind
use Rattle.book.specs.Meaning as book
use Rattle.book.specs.Settled.{settled}
use Rattle.record.specs.Edits.{added, replaced, taken_out}
use Rattle.record.specs.Holding.{Holding, same}
use Rattle.store.specs.Meaning.{look_up, once}
use Rattle.store.proofs.Keys.{same_is, same_itself}
use Rattle.account.specs.Change.{change, changed}
use Rattle.account.specs.Exchange.{Said, said}
use Rattle.account.specs.Readings.{Few, readings_of, readings_at}
use Rattle.account.specs.Reply.{difference, altered, settlements, answer_to, answer_of, written}
use Rattle.account.specs.Runs.{states_change, amount_said}
use Rattle.account.specs.Tests.{ruled}
use Rattle.account.proofs.Holdings.{look_up_put, others_with}
use Rattle.account.proofs.Said.{unwritten_says, refused_says, closed_says, amounts_say}
use Rattle.account.proofs.Weights.{settlements_fit, differences_fit}

-- The site month of a request, which its frame names.
abbrev pub site_of : Asked → SiteMonth
site_of (post at e) = at
site_of (correct at e) = at
site_of (cancel at meter) = at
site_of (close at) = at
site_of (account at) = at

site_in : (k : RequestKind) (frame : List ℕ) → site_of (asked_in k frame) ≡ site_month_in frame
site_in kind.Post frame = refl
site_in kind.Correct frame = refl
site_in kind.Cancel frame = refl
site_in kind.Close frame = refl
site_in kind.Account frame = refl

pub site_named : (k : Option RequestKind) (frame : List ℕ) (a : Asked) → option_map (λ k. asked_in k frame) k ≡ Some a → site_of a ≡ site_month_in frame
site_named None frame a is = grind arith
site_named (Some k) frame a is = let named : asked_in k frame ≡ a = grind arith in ap site_of (sym named) ∙ site_in k frame

-- What becomes of a line and what is said in reply, case by case.
pub by_verdict : (b : book.Meaning) (held : List Holding) (P : Result Asked Fault → Option Said → Type 0) → ((fault : Fault) → P (Err fault) None) → (buffer rest : Option Fault) (q : Option Asked) → ((a : Asked) → q ≡ Some a → P (Ok a) (said (Ok (answer_line (answer_to b held a))))) → P (ruled (or_else buffer rest) q) (said (written buffer (answer_of b held (ruled (or_else buffer rest) q))))
by_verdict b held P refused (Some fault) rest q served = subst (P (Err fault)) (sym (unwritten_says fault)) (refused fault)
by_verdict b held P refused None (Some fault) q served = subst (P (Err fault)) (sym (refused_says fault)) (refused fault)
by_verdict b held P refused None None None served = subst (P (Err Kind)) (sym (refused_says Kind)) (refused Kind)
by_verdict b held P refused None None (Some a) served = served a refl

nothing_added : (n : ℕ) → pos 0 +ℤ pos n ≡ pos n
nothing_added n = omega (arith, ints)

here_or_not : (t : Bool) (amount : ℤ) {m n : ℕ} → (t ≡ true → amount +ℤ pos m ≡ pos n) → (t ≡ false → n ≡ m) → cond t amount (pos 0) +ℤ pos m ≡ pos n
here_or_not true amount {m} {n} hit miss = hit refl
here_or_not false amount {m} {n} hit miss = nothing_added m ∙ ap pos (sym (miss refl))

difference_added : (m n : ℕ) → (pos m -ℤ pos n) +ℤ pos n ≡ pos m
difference_added m n = omega (arith, ints)

module _ (b : book.Meaning) (laws : book.Lawful b) (held : List Holding) (o : once held ≡ true) where
  -- A request touches no other site month.
  elsewhere : (a : Asked) (at : SiteMonth) → same at (site_of a) ≡ false → look_up at (change a held) ≡ look_up at held
  elsewhere (post at e) other differs = others_with at held o other differs (added e (readings_at at held))
  elsewhere (correct at e) other differs = others_with at held o other differs (replaced e (readings_at at held))
  elsewhere (cancel at meter) other differs = others_with at held o other differs (taken_out meter (readings_at at held))
  elsewhere (close at) other differs = rw (look_up_put (record { at = at; closed = true; readings = readings_at at held }) held other, differs)
  elsewhere (account at) other differs = refl

  -- In its own: an amount that states a change.
  altered_here : (kind : AmountsKind) → states_change kind ≡ true → (at : SiteMonth) (a : Asked) (line : ℕ) → line < lines → Few (readings_at at held) → Few (readings_at at (change a held)) → amount_said (said (Ok (answer_line (answer.Amounts kind (altered b held at a))))) line +ℤ pos (settled b (readings_at at held) line) ≡ pos (settled b (readings_at at (change a held)) line)
  altered_here kind states at a line below few more =
      let amounts = altered b held at a in
      let is = amounts_say kind amounts refl (differences_fit b laws (readings_at at held) (readings_at at (change a held)) few more) in
      let on = get_or-map-range_with_len (difference b (readings_at at held) (readings_at at (change a held))) 0 lines line line (pos 0) below (omega arith) in
      rw (is, states, on, difference_added (settled b (readings_at at (change a held)) line) (settled b (readings_at at held) line))

  here : (a : Asked) (line : ℕ) → line < lines → Few (readings_at (site_of a) held) → Few (readings_at (site_of a) (change a held)) → amount_said (said (Ok (answer_line (answer_to b held a)))) line +ℤ pos (settled b (readings_at (site_of a) held) line) ≡ pos (settled b (readings_at (site_of a) (change a held)) line)
  here (post at e) line below few more = altered_here Post refl at (post at e) line below few more
  here (correct at e) line below few more = altered_here Correct refl at (correct at e) line below few more
  here (cancel at meter) line below few more = altered_here Cancel refl at (cancel at meter) line below few more
  here (close at) line below few more =
      let h : Holding = record { at = at; closed = true; readings = readings_at at held } in
      rw (closed_says, look_up_put h held at, same_itself at) (nothing_added (settled b (readings_at at held) line))
  here (account at) line below few more =
      rw (amounts_say Account (settlements b (readings_at at held)) refl (settlements_fit b laws (readings_at at held) few)) (nothing_added (settled b (readings_at at held) line))

  -- What is said of a line that names a site month, and what becomes of the line: the amount in a site month, on a
  -- statement line, is what the change adds there.
  abbrev pub Step : SiteMonth → SiteMonth → ℕ → Result Asked Fault → Option Said → Type 0
  Step named at line v x =
      Few (readings_at at (changed v held)) → cond (same at named) (amount_said x line) (pos 0) +ℤ pos (settled b (readings_at at held) line) ≡ pos (settled b (readings_at at (changed v held)) line)

  served_step : (a : Asked) (at : SiteMonth) (line : ℕ) → line < lines → Few (readings_at at held) → Step (site_of a) at line (Ok a) (said (Ok (answer_line (answer_to b held a))))
  served_step a at line below few more =
      here_or_not (same at (site_of a)) (amount_said (said (Ok (answer_line (answer_to b held a)))) line)
      (λ yes. let is = same_is at (site_of a) yes in rw is (here a line below (rw is at few) (rw is at more)))
      (λ no. ap (λ l. settled b (readings_of l) line) (elsewhere a at no))

  pub step : (line : ℕ) (frame : List ℕ) (buffer rest : Option Fault) (at : SiteMonth) → line < lines → Few (readings_at at held) → Step (site_month_in frame) at line (ruled (or_else buffer rest) (requested frame)) (said (written buffer (answer_of b held (ruled (or_else buffer rest) (requested frame)))))
  step line frame buffer rest at below few =
      by_verdict b held (Step (site_month_in frame) at line) (λ fault _. here_or_not (same at (site_month_in frame)) (pos 0) (λ _. nothing_added (settled b (readings_at at held) line)) (λ _. refl)) buffer rest (requested frame)
      (λ a is. subst (λ named. Step named at line (Ok a) (said (Ok (answer_line (answer_to b held a))))) (site_named (request_kind (kind_of frame)) frame a is) (served_step a at line below few))
