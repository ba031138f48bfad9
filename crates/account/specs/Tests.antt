-- The refusals of a line, in the order of their numbers, 1 to 15.
use Rattle.std.specs.Prelude.{ℕ, not, List, [], ◌∷◌, ◌++◌, Some, None, Ok, Err, Option, Result}
use Rattle.reading.specs.First.{when, first}
use Rattle.reading.specs.declared.fault.Fault.{Fault}
use Rattle.reading.specs.declared.fault.Fault.TheVariants.{Kind, Closed, NotHeld}
use Rattle.frame.specs.Line.{bytes_of}
use Rattle.frame.specs.Tests.{buffer_test}
use Rattle.request.specs.Asked.{Asked, post, correct, cancel, close, account, requested}
use Rattle.request.specs.Tests.{request_tests}
use Rattle.book.specs.Meaning as book
use Rattle.record.specs.Holding.{Holding}
use Rattle.record.specs.Edits.{stands_test, meter_test, room_test}
use Rattle.store.specs.Meaning as store
use Rattle.store.specs.Meaning.{holds}
use Rattle.store.specs.Changes.{full_test}
use Rattle.account.specs.Readings.{readings_at, closed_at}

-- 9 and 10: the book refuses the reading.
abbrev pub book_test : book.Meaning → Asked → Option Fault
book_test b (post at e) = b.check e
book_test b (correct at e) = b.check e
book_test b (cancel at meter) = None
book_test b (close at) = None
book_test b (account at) = None

-- 11: the site month is closed. An account may be asked of a closed one.
abbrev pub closed_test : List Holding → Asked → Option Fault
closed_test held (post at e) = when (closed_at at held) Closed
closed_test held (correct at e) = when (closed_at at held) Closed
closed_test held (cancel at meter) = when (closed_at at held) Closed
closed_test held (close at) = when (closed_at at held) Closed
closed_test held (account at) = None

-- 12: a post names a meter that stands.
abbrev pub standing_test : List Holding → Asked → Option Fault
standing_test held (post at e) = stands_test e.meter (readings_at at held)
standing_test held (correct at e) = None
standing_test held (cancel at meter) = None
standing_test held (close at) = None
standing_test held (account at) = None

-- 13: a correct or a cancel names a meter that does not stand, a close or an account a site month that is not held.
abbrev pub missing_test : List Holding → Asked → Option Fault
missing_test held (post at e) = None
missing_test held (correct at e) = meter_test e.meter (readings_at at held)
missing_test held (cancel at meter) = meter_test meter (readings_at at held)
missing_test held (close at) = when (not (holds at held)) NotHeld
missing_test held (account at) = when (not (holds at held)) NotHeld

-- 14: a post finds sixteen readings.
abbrev pub record_full_test : List Holding → Asked → Option Fault
record_full_test held (post at e) = room_test (readings_at at held)
record_full_test held (correct at e) = None
record_full_test held (cancel at meter) = None
record_full_test held (close at) = None
record_full_test held (account at) = None

-- 15: a post needs a new record, and the store holds its capacity.
abbrev pub store_full_test : store.Meaning → Asked → Option Fault
store_full_test s (post at e) = full_test at s
store_full_test s (correct at e) = None
store_full_test s (cancel at meter) = None
store_full_test s (close at) = None
store_full_test s (account at) = None

-- 9 to 15, of a request.
abbrev pub asked_tests : book.Meaning → store.Meaning → Asked → List (Option Fault)
asked_tests b s q =
    book_test b q
    ∷ closed_test s.held q
    ∷ standing_test s.held q
    ∷ missing_test s.held q
    ∷ record_full_test s.held q
    ∷ store_full_test s q
    ∷ []

-- Those of the request that a line has, if it has one.
abbrev pub tests_of : book.Meaning → store.Meaning → Option Asked → List (Option Fault)
tests_of b s None = []
tests_of b s (Some q) = asked_tests b s q

-- 2 to 15, of a line.
abbrev pub line_stops : book.Meaning → store.Meaning → List ℕ → List (Option Fault)
line_stops b s line = request_tests line ++ tests_of b s (requested (bytes_of line))

-- 1 to 15, of a line and the length of its answer buffer.
abbrev pub serve_tests : book.Meaning → store.Meaning → ℕ → List ℕ → List (Option Fault)
serve_tests b s size line = buffer_test size ∷ line_stops b s line

-- The refusal of a line: the first that fits.
abbrev pub refusal : book.Meaning → store.Meaning → ℕ → List ℕ → Option Fault
refusal b s size line = first (serve_tests b s size line)

-- The request that is served where no test fits, else the refusal. A line without a request has been refused by its kind.
abbrev pub ruled : Option Fault → Option Asked → Result Asked Fault
ruled (Some fault) q = Err fault
ruled None (Some q) = Ok q
ruled None None = Err Kind

-- What becomes of a request.
abbrev pub decided : book.Meaning → store.Meaning → Asked → Result Asked Fault
decided b s q = ruled (first (asked_tests b s q)) (Some q)

-- What becomes of a line: the request that is served, or the refusal.
abbrev pub verdict : book.Meaning → store.Meaning → ℕ → List ℕ → Result Asked Fault
verdict b s size line = ruled (refusal b s size line) (requested (bytes_of line))
