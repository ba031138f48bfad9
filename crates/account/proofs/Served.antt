-- An exchange as a call makes it: from what the store's calls leave, and from the line that is written.
use Rattle.std.proofs.Common.{◌≡◌, ℕ, Bool, true, List, length, take, drop, Ok, Err, Result, MatchResult, sym, ap, ◌∙◌, arith}
use Rattle.std.proofs.lemmas.List.{take_at}
use Rattle.std.proofs.lemmas.Bool.Decides.{nat_tests}
use Rattle.reading.specs.declared.entry.Entry.{Entry}
use Rattle.reading.specs.declared.fault.Fault.{Fault}
use Rattle.reading.specs.declared.site_month.SiteMonth.{SiteMonth}
use Rattle.frame.specs.Tests.{buffer_test}
use Rattle.frame.specs.Written.{Written}
use Rattle.answer.specs.Answers.{answer_line}
use Rattle.answer.specs.declared.answer.Answer.{Answer}
use Rattle.answer.specs.declared.answer.Answer.TheVariants.{Refused}
use Rattle.book.specs.Meaning as book
use Rattle.request.specs.Asked.{Asked}
use Rattle.record.specs.Holding.{Holding}
use Rattle.store.specs.Changes.{Kept, Removed}
use Rattle.store.specs.Meaning as store
use Rattle.store.specs.Meaning.{once}
use Rattle.account.specs.Change.{put, without, left_with, change, Leaves, after}
use Rattle.account.specs.Readings.{readings_at}
use Rattle.account.specs.Reply.{differences, altered, answer_of, responded, written, heard, Replies}
use Rattle.account.specs.Runs.{exchanged, Served}
use Rattle.account.specs.Tests.{verdict}
use Rattle.account.proofs.Holdings.{look_up_put, length_put, look_up_without, length_without, readings_with}

-- A record that is kept is put.
pub kept_put : (s : store.Meaning) (h : Holding) (t : store.Meaning) → Kept s h t (Ok tt) → Leaves s (put h s.held) t
kept_put s h t kept =
    record {
      capacity = kept.capacity;
      each = λ at. kept.each at ∙ sym (look_up_put h s.held at);
      count = let n = kept.count in let m = length_put h s.held in grind (arith, nat_tests);
    }

-- One that is refused leaves the store as it was.
pub kept_refused : (s : store.Meaning) (h : Holding) (t : store.Meaning) (fault : Fault) → Kept s h t (Err fault) → Leaves s s.held t
kept_refused s h t fault kept = record { capacity = kept.capacity; each = kept.each; count = kept.count }

-- One that is removed is taken out.
pub removed_without : (s : store.Meaning) (at : SiteMonth) (t : store.Meaning) {answer : Bool} → once s.held ≡ true → Removed s at t answer → Leaves s (without at s.held) t
removed_without s at t o removed =
    record {
      capacity = removed.capacity;
      each = λ other. removed.each other ∙ sym (look_up_without at s.held o other);
      count = let found = removed.found in let n = removed.count in let m = length_without at s.held in grind (arith, nat_tests);
    }

-- The amounts of a request whose site month has these readings afterwards.
pub altered_to : (b : book.Meaning) (held : List Holding) → once held ≡ true → (at : SiteMonth) (q : Asked) (es : List Entry) → change q held ≡ left_with at es held → altered b held at q ≡ differences b (readings_at at held) es
altered_to b held o at q es is = ap (λ fs. differences b (readings_at at held) fs) (ap (readings_at at) is ∙ readings_with at held o es)

-- What is answered where a call has an outcome, a refusal where it has none.
pub answer_made : (b : book.Meaning) (held : List Holding) (v : Result Asked Fault) (r : Result Answer Fault) (a : Answer) → MatchResult r (λ x. a ≡ x) (λ fault. a ≡ Refused fault) → r ≡ responded b held v → a ≡ answer_of b held v
answer_made b held (Ok q) (Ok x) a made is = cc
answer_made b held (Ok q) (Err fault) a made is = cc
answer_made b held (Err fault) (Ok x) a made is = cc
answer_made b held (Err fault) (Err other) a made is = cc

-- What is heard of an answer that was written.
pub heard_written : (a : Answer) (before now : List ℕ) (r : Result ℕ Fault) → Written (answer_line a) before now r → heard r now ≡ written (buffer_test (length before)) a
heard_written a before now (Ok count) is =
    let line = answer_line a in
    let bytes : take count now ≡ line = ap (take count) is.kept ∙ take_at line (drop (length line) before) count (sym is.count) in
    ap Ok bytes ∙ ap (λ test. written test a) is.refused
heard_written a before now (Err fault) is = ap (λ test. written test a) is.refused

-- The exchange of a call.
pub served_by : (b : book.Meaning) (s t : store.Meaning) (line before now : List ℕ) (r : Result ℕ Fault) → Replies b s line before now r → Leaves s (after b s (length before) line) t → Served b s (exchanged line before now r) t
served_by b s t line before now r is changes =
    record { replies = heard_written (answer_of b s.held (verdict b s (length before) line)) before now r is; changes = changes }
