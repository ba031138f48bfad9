-- What a request comes to, from what its call finds and leaves.
use Rattle.std.proofs.Common.{◌≡◌, ℕ, ◌≤◌, Bool, true, false, not, leb, List, [], ◌∷◌, length, is_some, IfOk as made, Some, None, Ok, Err, Option, Result, sym, refl, ap, ◌∙◌, subst, ap₂, arith, MatchOption}
use Rattle.std.specs.Option.{option_map}
use Rattle.std.specs.Result.{result_err}
use Rattle.std.proofs.lemmas.Bool.{and_parts, leb-true, cond_both}
use Rattle.reading.specs.First.{when, or_else, first}
use Rattle.reading.specs.declared.entry.Entry.{Entry}
use Rattle.reading.specs.declared.fault.Fault.{Fault}
use Rattle.reading.specs.declared.fault.Fault.TheVariants.{Closed, NotHeld}
use Rattle.reading.specs.declared.site_month.SiteMonth.{SiteMonth}
use Rattle.answer.specs.declared.answer.Answer.{Answer}
use Rattle.answer.specs.declared.answer.Answer.TheVariants as answer
use Rattle.answer.specs.declared.answer.Answer.TheVariants.{Amounts}
use Rattle.answer.specs.declared.kind.AmountsKind.{AmountsKind}
use Rattle.answer.specs.declared.kind.AmountsKind.TheVariants.{Post, Cancel, Correct}
use Rattle.book.specs.Meaning as book
use Rattle.request.specs.Asked.{Asked, post, correct, cancel, close, account}
use Rattle.record.specs.Edits.{added, replaced, taken_out, add_tests, meter_test}
use Rattle.record.specs.Holding.{Holding, same, lawful_site_month}
use Rattle.record.specs.Rows.{holding, padded, lawful_row}
use Rattle.record.specs.States.{used}
use Rattle.record.specs.declared.record.Record.{Record}
use Rattle.record.specs.declared.row.Row.{Row}
use Rattle.store.specs.Changes.{full_test, Kept}
use Rattle.store.specs.Meaning as store
use Rattle.store.specs.Meaning.{look_up, once}
use Rattle.store.proofs.Keys.{same_is}
use Rattle.account.specs.Change.{put, left_with, change, Left, Leaves}
use Rattle.account.specs.Edits.{Edited, Comes, Edits}
use Rattle.account.specs.Readings.{Of, found, readings_of, closed_of, readings_at, closed_at}
use Rattle.account.specs.Reply.{differences, altered, answer_to, taken, Responds}
use Rattle.account.specs.declared.held.Held.{Held}
use Rattle.account.specs.Tests.{closed_test, standing_test, missing_test, record_full_test, ruled, decided}
use Rattle.account.proofs.Holdings.{with_some}
use Rattle.account.proofs.Served.{kept_put, kept_refused, removed_without, altered_to}

-- The record that is looked up is the site month's.
pub own : (at : SiteMonth) (held : List Holding) → Of at (look_up at held)
own at [] = tt
own at (h ∷ held) = cond_both (same at h.at) (Some h) (look_up at held) (Of at) (λ yes. sym (same_is at h.at yes)) (λ _. own at held)

pub unchanged : (s : store.Meaning) → Leaves s s.held s
unchanged s = record { capacity = refl; each = λ at. refl; count = refl }

-- A record has a reading.
some_reading : (row : Row) → lawful_row row ≡ true → 1 ≤ length (holding row).readings
some_reading row lawful =
    let p = (and_parts (used row.state) _ lawful).1 in
    let q = (and_parts (padded row) _ p).1 in
    let r = (and_parts (lawful_site_month row.at) _ q).1 in
    leb-true 1 (length (holding row).readings) (and_parts (leb 1 (length (holding row).readings)) _ r).0

-- Where two tests pass, the second does.
pub later_passes : (x y : Option Fault) → None ≡ or_else x y → None ≡ y
later_passes x y none = grind arith

-- The tests of a post in order, where the first passes.
post_order : (x y z u v : Option Fault) → None ≡ x → or_else x (or_else y (or_else z (or_else None (or_else u (or_else v None))))) ≡ or_else y (or_else (or_else z (or_else u None)) v)
post_order x y z u v none = grind arith

-- Those of a correct and of a cancel, which no full store refuses.
meter_order : (x y z v : Option Fault) → None ≡ x → (None ≡ z → v ≡ None) → or_else x (or_else y (or_else None (or_else z (or_else None (or_else None None))))) ≡ or_else y (or_else z v)
meter_order x y z v none room = grind arith

-- A meter that stands is in a record.
in_record : (meter : ℕ) (l : Option Holding) → None ≡ meter_test meter (readings_of l) → is_some l ≡ true
in_record meter None none = grind arith
in_record meter (Some h) none = refl

added_some : (e : Entry) (es : List Entry) → added e es ≡ [] → ⊥
added_some e [] none = cc
added_some e (f ∷ es) none = grind arith

-- What an edit gives: it is refused by these tests, or leaves the readings edited.
abbrev pub GivesEdit : (Held → Result Held Fault → Type 0) → (Option Holding → Option Fault) → (List Entry → List Entry) → Type 0
GivesEdit Gives tests edit = (before : Held) (x : Result Held Fault) → Gives before x → (result_err x ≡ tests (found before.kept)) × made x (Edited before edit)

module _ (b : book.Meaning) (s t : store.Meaning) where
  -- A request that is served.
  pub served : (q : Asked) (a : Answer) → decided b s q ≡ Ok q → a ≡ answer_to b s.held q → Leaves s (change q s.held) t → Responds b s (decided b s q) (Ok a) t
  served q a is says leaves = subst (λ v. Responds b s v (Ok a) t) (sym is) (record { answers = ap Ok says; changes = leaves })

  -- One that is refused.
  refused : (q : Asked) (fault : Fault) → decided b s q ≡ Err fault → Leaves s s.held t → Responds b s (decided b s q) (Err fault) t
  refused q fault is leaves = subst (λ v. Responds b s v (Err fault) t) (sym is) (record { answers = refl; changes = leaves })

  -- There is always room for a record that is held.
  pub not_full : (at : SiteMonth) → is_some (look_up at s.held) ≡ true → full_test at s ≡ None
  not_full at here = rw here

  -- A meter that stands in the site month has its room.
  meter_room : (at : SiteMonth) (meter : ℕ) → None ≡ meter_test meter (readings_at at s.held) → full_test at s ≡ None
  meter_room at meter none = not_full at (in_record meter (look_up at s.held) none)

  -- What decides of a request that edits: that the site month is closed, the edit, and that the store is full.
  abbrev Decides : Asked → SiteMonth → (Option Holding → Option Fault) → Type 0
  Decides q at tests = decided b s q ≡ ruled (or_else (when (closed_at at s.held) Closed) (or_else (tests (look_up at s.held)) (full_test at s))) (Some q)

  post_decides : (at : SiteMonth) (e : Entry) → None ≡ b.check e → Decides (post at e) at (λ l. first (add_tests e (readings_of l)))
  post_decides at e offered =
      ap (λ test. ruled test (Some (post at e)))
      (post_order (b.check e) (closed_test s.held (post at e)) (standing_test s.held (post at e)) (record_full_test s.held (post at e)) (full_test at s) offered)

  correct_decides : (at : SiteMonth) (e : Entry) → None ≡ b.check e → Decides (correct at e) at (λ l. meter_test e.meter (readings_of l))
  correct_decides at e offered =
      ap (λ test. ruled test (Some (correct at e)))
      (meter_order (b.check e) (closed_test s.held (correct at e)) (missing_test s.held (correct at e)) (full_test at s) offered (meter_room at e.meter))

  cancel_decides : (at : SiteMonth) (meter : ℕ) → Decides (cancel at meter) at (λ l. meter_test meter (readings_of l))
  cancel_decides at meter =
      ap (λ test. ruled test (Some (cancel at meter)))
      (meter_order None (closed_test s.held (cancel at meter)) (missing_test s.held (cancel at meter)) (full_test at s) refl (meter_room at meter))

  -- A request that edits the readings of its site month, and states what that comes to.
  module _ (at : SiteMonth) (apart : once s.held ≡ true) (q : Asked) (kind : AmountsKind) (edit : List Entry → List Entry) (changes : change q s.held ≡ left_with at (edit (readings_at at s.held)) s.held) (states : answer_to b s.held q ≡ Amounts kind (altered b s.held at q)) where
    module _ (l : Option Holding) (is : l ≡ look_up at s.held) where
      edited : (after : List Entry) (a : Answer) → after ≡ edit (readings_of l) → decided b s q ≡ Ok q → a ≡ Amounts kind (differences b (readings_of l) after) → Leaves s (left_with at after s.held) t → Responds b s (decided b s q) (Ok a) t
      edited after a stands decides says left =
          let leaves : change q s.held ≡ left_with at after s.held = changes ∙ ap (λ es. left_with at es s.held) (sym (stands ∙ ap (λ x. edit (readings_of x)) is)) in
          let amounts = ap (λ es. differences b es after) (ap readings_of is) ∙ sym (altered_to b s.held apart at q after leaves) in
          served q a decides (says ∙ ap (Amounts kind) amounts ∙ sym states) (subst (λ held. Leaves s held t) (sym leaves) left)

      -- The record that is left was kept, or the site month's was taken out.
      kept_or_not : (k : Option Record) (r : Result Answer Fault) → MatchOption k (edit (readings_of l) ≡ []) (λ x. holding x.row ≡ record { at = at; closed = closed_of l; readings = edit (readings_of l) }) → Left s at (found k) t (taken r) → made r (λ a. a ≡ Amounts kind (differences b (readings_of l) (readings_of (found k)))) → (edit (readings_of l) ≡ [] → full_test at s ≡ None) → decided b s q ≡ ruled (full_test at s) (Some q) → Responds b s (decided b s q) r t
      kept_or_not None (Ok a) none (removed, done) says room decides = edited [] a (sym none) (decides ∙ ap (λ test. ruled test (Some q)) (room none)) says (removed_without s at t apart removed)
      kept_or_not None (Err fault) none (removed, done) says room decides = cc
      kept_or_not (Some x) r rest kept says room decides =
          let h = holding x.row in
          let stands = ap (λ (y : Holding). y.readings) rest in
          let h_is : h ≡ record { at = at; closed = closed_at at s.held; readings = h.readings } = rest ∙ ap₂ (λ m es. record { at = at; closed = closed_of m; readings = es }) is (sym stands) in
          let is_put : put h s.held ≡ left_with at h.readings s.held = ap (λ y. put y s.held) h_is ∙ sym (with_some at s.held h.readings (some_reading x.row x.lawful)) in
          let full = kept.refused ∙ ap (λ (y : Holding). full_test y.at s) rest in
          by_answer r h stands is_put kept says (decides ∙ ap (λ test. ruled test (Some q)) (sym full))
        where
          by_answer : (r : Result Answer Fault) (h : Holding) → h.readings ≡ edit (readings_of l) → put h s.held ≡ left_with at h.readings s.held → Kept s h t (taken r) → made r (λ a. a ≡ Amounts kind (differences b (readings_of l) h.readings)) → decided b s q ≡ ruled (result_err (taken r)) (Some q) → Responds b s (decided b s q) r t
          by_answer (Ok a) h stands is_put kept says decides = edited h.readings a stands decides says (subst (λ held. Leaves s held t) is_put (kept_put s h t kept))
          by_answer (Err fault) h stands is_put kept says decides = refused q fault decides (kept_refused s h t fault kept)

    module _ (tests : Option Holding → Option Fault) (decides : Decides q at tests) (room : None ≡ tests (look_up at s.held) → edit (readings_at at s.held) ≡ [] → full_test at s ≡ None) where
      stopped : (fault : Fault) (r : Result Answer Fault) → or_else (when (closed_at at s.held) Closed) (or_else (tests (look_up at s.held)) (full_test at s)) ≡ Some fault → r ≡ Err fault → t ≡ s → Responds b s (decided b s q) r t
      stopped fault r fits is stays =
          subst (λ x. Responds b s (decided b s q) x t) (sym is)
          (refused q fault (decides ∙ ap (λ test. ruled test (Some q)) fits) (subst (λ x. Leaves s s.held x) (sym stays) (unchanged s)))

      came : (before : Held) → before.at ≡ at → found before.kept ≡ look_up at s.held → closed_of (found before.kept) ≡ false → (x : Result Held Fault) (r : Result Answer Fault) → result_err x ≡ tests (found before.kept) → made x (Edited before edit) → Comes b s kind before x r t → Responds b s (decided b s q) r t
      came before is_at is opened (Err fault) r refused value (answers, stays) =
          stopped fault r (rw (← is, opened, ← refused)) answers stays
      came before is_at is opened (Ok after) r refused value (left, says) =
          let l = found before.kept in
          let passes : None ≡ tests (look_up at s.held) = refused ∙ ap tests is in
          let lets : ruled (or_else (when (closed_at at s.held) Closed) (or_else (tests (look_up at s.held)) (full_test at s))) (Some q) ≡ ruled (full_test at s) (Some q) = rw (← passes, ← is, opened) in
          kept_or_not l is after.kept r
          (subst (λ m. MatchOption after.kept (edit (readings_of l) ≡ []) (λ x. holding x.row ≡ record { at = m; closed = closed_of l; readings = edit (readings_of l) })) is_at value.1)
          (subst (λ m. Left s m (found after.kept) t (taken r)) (value.0 ∙ is_at) left)
          says
          (λ none. room passes (ap (λ x. edit (readings_of x)) (sym is) ∙ none))
          (decides ∙ lets)

      responds : {Gives : Held → Result Held Fault → Type 0} (r : Result Answer Fault) → Edits Gives b s kind at r t → GivesEdit Gives tests edit → Responds b s (decided b s q) r t
      responds r edits gives = by_closed (closed_of (found edits.before.kept)) refl
        where
          by_closed : (c : Bool) → closed_of (found edits.before.kept) ≡ c → Responds b s (decided b s q) r t
          by_closed true is =
              let came_to = subst (λ x. Comes b s kind edits.before x r t) (edits.closed is) edits.comes in
              stopped Closed r (rw (← edits.is_held, is)) came_to.0 came_to.1
          by_closed false is =
              let gave = gives edits.before edits.edited (edits.opened is) in
              came edits.before edits.is_at edits.is_held is edits.edited r gave.0 gave.1 edits.comes

  -- The three such requests.
  pub post_responds : (at : SiteMonth) (e : Entry) → once s.held ≡ true → None ≡ b.check e → {Gives : Held → Result Held Fault → Type 0} (r : Result Answer Fault) → Edits Gives b s Post at r t → GivesEdit Gives (λ l. first (add_tests e (readings_of l))) (added e) → Responds b s (decided b s (post at e)) r t
  post_responds at e apart offered r edits gives =
      responds at apart (post at e) Post (added e) refl refl (λ l. first (add_tests e (readings_of l))) (post_decides at e offered) (λ _ none. absurd (added_some e (readings_at at s.held) none)) r edits gives

  pub correct_responds : (at : SiteMonth) (e : Entry) → once s.held ≡ true → None ≡ b.check e → {Gives : Held → Result Held Fault → Type 0} (r : Result Answer Fault) → Edits Gives b s Correct at r t → GivesEdit Gives (λ l. meter_test e.meter (readings_of l)) (replaced e) → Responds b s (decided b s (correct at e)) r t
  correct_responds at e apart offered r edits gives =
      responds at apart (correct at e) Correct (replaced e) refl refl (λ l. meter_test e.meter (readings_of l)) (correct_decides at e offered) (λ stands _. meter_room at e.meter stands) r edits gives

  pub cancel_responds : (at : SiteMonth) (meter : ℕ) → once s.held ≡ true → {Gives : Held → Result Held Fault → Type 0} (r : Result Answer Fault) → Edits Gives b s Cancel at r t → GivesEdit Gives (λ l. meter_test meter (readings_of l)) (taken_out meter) → Responds b s (decided b s (cancel at meter)) r t
  cancel_responds at meter apart r edits gives =
      responds at apart (cancel at meter) Cancel (taken_out meter) refl refl (λ l. meter_test meter (readings_of l)) (cancel_decides at meter) (λ stands _. meter_room at meter stands) r edits gives

  -- An account of a record that is held.
  pub account_served : (at : SiteMonth) → is_some (look_up at s.held) ≡ true → decided b s (account at) ≡ Ok (account at)
  account_served at here = rw here

  -- A close that was kept, of a record that was held and open.
  pub close_responds : (at : SiteMonth) (l : Option Holding) → l ≡ look_up at s.held → None ≡ first (when (closed_of l) Closed ∷ when (not (is_some l)) NotHeld ∷ []) → (x : Holding) → Some x ≡ option_map (λ (h : Holding). record { at = h.at; closed = true; readings = h.readings }) l → Kept s x t (Ok tt) → Responds b s (decided b s (close at)) (Ok answer.Closed) t
  close_responds at l is none x x_is kept =
      let tests = subst (λ m. None ≡ first (when (closed_of m) Closed ∷ when (not (is_some m)) NotHeld ∷ [])) is none in
      let x_put = closed_as l (subst (Of at) (sym is) (own at s.held)) x_is ∙ ap (λ m. record { at = at; closed = true; readings = readings_of m }) is in
      served (close at) answer.Closed (ap (λ test. ruled test (Some (close at))) (sym tests)) refl
      (subst (λ (y : Holding). Leaves s (put y s.held) t) x_put (kept_put s x t kept))
    where
      closed_as : (m : Option Holding) → Of at m → Some x ≡ option_map (λ (h : Holding). record { at = h.at; closed = true; readings = h.readings }) m → x ≡ record { at = at; closed = true; readings = readings_of m }
      closed_as None here x_is = cc
      closed_as (Some h) here x_is =
          let made : x ≡ record { at = h.at; closed = true; readings = h.readings } = cc in
          made ∙ ap (λ a. record { at = a; closed = true; readings = h.readings }) here
