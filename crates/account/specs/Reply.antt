-- What is replied to a line.
use Rattle.std.specs.Prelude.{◌≡◌, ℕ, List, map, length, take, ℤ, pos, ◌-ℤ◌, Some, None, Ok, Err, Option, Result}
use Rattle.std.specs.List.{range_with_len}
use Rattle.reading.specs.Statement.{lines}
use Rattle.reading.specs.declared.entry.Entry.{Entry}
use Rattle.reading.specs.declared.fault.Fault.{Fault}
use Rattle.reading.specs.declared.site_month.SiteMonth.{SiteMonth}
use Rattle.frame.specs.Tests.{buffer_test}
use Rattle.frame.specs.Written.{Written}
use Rattle.answer.specs.Answers.{answer_line}
use Rattle.answer.specs.declared.answer.Answer.{Answer}
use Rattle.answer.specs.declared.answer.Answer.TheVariants as answer
use Rattle.answer.specs.declared.kind.AmountsKind.TheVariants as kind
use Rattle.request.specs.Asked.{Asked, post, correct, cancel, close, account}
use Rattle.book.specs.Meaning as book
use Rattle.book.specs.Settled.{settled}
use Rattle.record.specs.Holding.{Holding}
use Rattle.store.specs.Meaning as store
use Rattle.account.specs.Change.{change, changed, Leaves}
use Rattle.account.specs.Readings.{readings_at}
use Rattle.account.specs.Tests.{verdict}

-- Settlement after less settlement before, of some readings on a statement line.
abbrev pub difference : book.Meaning → List Entry → List Entry → ℕ → ℤ
difference b before after line = pos (settled b after line) -ℤ pos (settled b before line)

-- One for each statement line.
abbrev pub differences : book.Meaning → List Entry → List Entry → List ℤ
differences b before after = map (difference b before after) (range_with_len 0 lines)

-- Those that a request makes in a site month.
abbrev pub altered : book.Meaning → List Holding → SiteMonth → Asked → List ℤ
altered b held at q = differences b (readings_at at held) (readings_at at (change q held))

-- The settlements of some readings, one for each statement line.
abbrev pub settlements : book.Meaning → List Entry → List ℤ
settlements b readings = map (λ line. pos (settled b readings line)) (range_with_len 0 lines)

-- The answer to a request that is served: the difference that a post, a correct or a cancel makes, and the settlements for
-- an account.
abbrev pub answer_to : book.Meaning → List Holding → Asked → Answer
answer_to b held (post at e) = answer.Amounts kind.Post (altered b held at (post at e))
answer_to b held (correct at e) = answer.Amounts kind.Correct (altered b held at (correct at e))
answer_to b held (cancel at meter) = answer.Amounts kind.Cancel (altered b held at (cancel at meter))
answer_to b held (close at) = answer.Closed
answer_to b held (account at) = answer.Amounts kind.Account (settlements b (readings_at at held))

-- The answer to a line.
abbrev pub answer_of : book.Meaning → List Holding → Result Asked Fault → Answer
answer_of b held (Ok q) = answer_to b held q
answer_of b held (Err fault) = answer.Refused fault

-- The answer to a request that is served, or the fault that stops it.
abbrev pub responded : book.Meaning → List Holding → Result Asked Fault → Result Answer Fault
responded b held (Ok q) = Ok (answer_to b held q)
responded b held (Err fault) = Err fault

-- Whether a call was refused, and by what.
abbrev pub taken : Result Answer Fault → Result Unit Fault
taken (Ok a) = Ok tt
taken (Err fault) = Err fault

-- A call leads from one store to another with this outcome: its answer and its change are the ones named.
pub record Responds (b : book.Meaning) (s : store.Meaning) (v : Result Asked Fault) (outcome : Result Answer Fault) (t : store.Meaning) : Type 0 where
  pub answers : outcome ≡ responded b s.held v
  pub changes : Leaves s (changed v s.held) t

-- An answer's line is written where the buffer has room. Else the refusal comes back unwritten.
abbrev pub written : Option Fault → Answer → Result (List ℕ) Fault
written None a = Ok (answer_line a)
written (Some fault) a = Err fault

-- What is replied: the bytes of the answer's line, also of a refusal's, or the fault that comes back unwritten.
abbrev pub reply : book.Meaning → store.Meaning → ℕ → List ℕ → Result (List ℕ) Fault
reply b s size line = written (buffer_test size) (answer_of b s.held (verdict b s size line))

-- What the caller hears: so many bytes at the front of the buffer as the call answered, or the fault.
abbrev pub heard : Result ℕ Fault → List ℕ → Result (List ℕ) Fault
heard (Ok count) buffer = Ok (take count buffer)
heard (Err fault) buffer = Err fault

-- The line that the rules name is in the buffer and its length answered, or the fault came back and the buffer stayed.
abbrev pub Replies : book.Meaning → store.Meaning → List ℕ → List ℕ → List ℕ → Result ℕ Fault → Type 0
Replies b s line before now outcome = Written (answer_line (answer_of b s.held (verdict b s (length before) line))) before now outcome
