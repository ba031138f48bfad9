-- Records that agree by look-up and by count: each test finds the same of both, and each change leaves them agreeing.
use Rattle.std.proofs.Common.{◌≡◌, ℕ, ◌+◌, Bool, true, cond, List, [], ◌∷◌, ◌++◌, length, is_some, Some, None, Ok, Err, Option, Result, sym, refl, ap, ◌∙◌, subst, ap₂, arith}
use Rattle.std.proofs.lemmas.Bool.Decides.{nat_tests}
use Rattle.reading.specs.First.{first}
use Rattle.reading.specs.declared.entry.Entry.{Entry}
use Rattle.reading.specs.declared.fault.Fault.{Fault}
use Rattle.reading.specs.declared.site_month.SiteMonth.{SiteMonth}
use Rattle.frame.specs.Line.{bytes_of}
use Rattle.frame.specs.Tests.{buffer_test}
use Rattle.request.specs.Asked.{Asked, post, correct, cancel, close, account, requested}
use Rattle.request.specs.Tests.{request_tests}
use Rattle.book.specs.Meaning as book
use Rattle.record.specs.Edits.{added, replaced, taken_out}
use Rattle.record.specs.Holding.{Holding, same}
use Rattle.store.specs.Meaning as store
use Rattle.store.specs.Meaning.{look_up, once}
use Rattle.account.specs.Change.{put, without, left_with, changed}
use Rattle.account.specs.Readings.{readings_of, closed_of, readings_at, closed_at}
use Rattle.account.specs.Tests.{tests_of, ruled, verdict}
use Rattle.account.proofs.Holdings.{look_up_put, length_put, once_put, look_up_without, length_without, once_with}

pub record Agree (held other : List Holding) : Type 0 where
  pub each : (at : SiteMonth) → look_up at held ≡ look_up at other
  pub count : length held ≡ length other

-- A request's change leaves no site month twice.
pub once_changed : (v : Result Asked Fault) (held : List Holding) → once held ≡ true → once (changed v held) ≡ true
once_changed (Ok (post at e)) held o = once_with at held o (added e (readings_at at held))
once_changed (Ok (correct at e)) held o = once_with at held o (replaced e (readings_at at held))
once_changed (Ok (cancel at meter)) held o = once_with at held o (taken_out meter (readings_at at held))
once_changed (Ok (close at)) held o = once_put (record { at = at; closed = true; readings = readings_at at held }) held o
once_changed (Ok (account at)) held o = o
once_changed (Err fault) held o = o

module _ (held other : List Holding) (agree : Agree held other) where
  same_readings : (at : SiteMonth) → readings_at at held ≡ readings_at at other
  same_readings at = ap readings_of (agree.each at)

  agree_put : (h g : Holding) → h ≡ g → Agree (put h held) (put g other)
  agree_put h g is =
      record {
        each = λ at. look_up_put h held at ∙ ap₂ (λ x l. cond (same at x.at) (Some x) l) is (agree.each at) ∙ sym (look_up_put g other at);
        count =
            length_put h held
            ∙ ap₂ (λ l n. cond (is_some l) n (n + 1)) (agree.each h.at ∙ ap (λ x. look_up x.at other) is) agree.count
            ∙ sym (length_put g other);
      }

  module _ (o : once held ≡ true) (p : once other ≡ true) where
    agree_without : (at : SiteMonth) → Agree (without at held) (without at other)
    agree_without at =
        record {
          each = λ x. look_up_without at held o x ∙ ap (λ l. cond (same x at) None l) (agree.each x) ∙ sym (look_up_without at other p x);
          count =
              let a = length_without at held in
              let b = length_without at other in
              let found = agree.each at in
              let n = agree.count in
              grind (arith, nat_tests);
        }

    agree_on : (at : SiteMonth) (es : List Entry) → Agree (left_with at es held) (left_with at es other)
    agree_on at [] = agree_without at
    agree_on at (e ∷ es) =
        let record_of : Bool → Holding = λ closed. record { at = at; closed = closed; readings = e ∷ es } in
        agree_put (record_of (closed_at at held)) (record_of (closed_at at other)) (ap (λ l. record_of (closed_of l)) (agree.each at))

    -- Here of readings that are the same by look-up.
    agree_with : (at : SiteMonth) (edit : List Entry → List Entry) → Agree (left_with at (edit (readings_at at held)) held) (left_with at (edit (readings_at at other)) other)
    agree_with at edit =
        subst (λ es. Agree (left_with at (edit (readings_at at held)) held) (left_with at (edit es) other)) (same_readings at)
        (agree_on at (edit (readings_at at held)))

    pub agree_changed : (v : Result Asked Fault) → Agree (changed v held) (changed v other)
    agree_changed (Ok (post at e)) = agree_with at (added e)
    agree_changed (Ok (correct at e)) = agree_with at (replaced e)
    agree_changed (Ok (cancel at meter)) = agree_with at (taken_out meter)
    agree_changed (Ok (close at)) = agree_put (record { at = at; closed = true; readings = readings_at at held }) (record { at = at; closed = true; readings = readings_at at other }) (ap (λ es. record { at = at; closed = true; readings = es }) (same_readings at))
    agree_changed (Ok (account at)) = agree
    agree_changed (Err fault) = agree

-- Stores of one capacity whose records agree refuse the same lines alike.
module _ (b : book.Meaning) (s t : store.Meaning) (capacity : s.capacity ≡ t.capacity) (agree : Agree s.held t.held) where
  same_tests : (q : Option Asked) → tests_of b s q ≡ tests_of b t q
  same_tests None = refl
  same_tests (Some (post at e)) = rw (agree.each at, agree.count, capacity)
  same_tests (Some (correct at e)) = rw (agree.each at)
  same_tests (Some (cancel at meter)) = rw (agree.each at)
  same_tests (Some (close at)) = rw (agree.each at)
  same_tests (Some (account at)) = rw (agree.each at)

  pub same_verdict : (size : ℕ) (line : List ℕ) → verdict b s size line ≡ verdict b t size line
  same_verdict size line =
      ap (λ tests. ruled (first (buffer_test size ∷ (request_tests line ++ tests))) (requested (bytes_of line))) (same_tests (requested (bytes_of line)))
