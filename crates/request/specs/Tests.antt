-- The tests of a request line, 2 to 8, in the order of their numbers.
use Rattle.std.specs.Prelude.{ℕ, ◌+◌, Bool, true, ◌&&◌, List, [], ◌∷◌, Some, None, Option, nat_le, nat_lt}
use Rattle.reading.specs.declared.fault.Fault.{Fault}
use Rattle.reading.specs.declared.fault.Fault.TheVariants as fault
use Rattle.frame.specs.Seal.{field, kind_of}
use Rattle.reading.specs.First.{when, or_else}
use Rattle.frame.specs.Tests.{call_tests}
use Rattle.request.specs.declared.limit.Limit.{Limit}
use Rattle.request.specs.declared.kind.RequestKind.{RequestKind}
use Rattle.request.specs.declared.kind.RequestKind.TheVariants.{Post, Cancel, Correct, Close, Account}
use Rattle.request.specs.Kinds.{request_kind, request_length}
use Rattle.request.specs.Fields.{limits}

-- 7: the first field above its limit.
abbrev pub limit_test : List Limit → List ℕ → Option Fault
limit_test [] frame = None
limit_test (l ∷ ls) frame =
    or_else (when (nat_lt l.most (field frame l.field.byte l.field.width)) (fault.Limit l.field.byte))
    (limit_test ls frame)

-- 8: the off-hours kWh exceed the kWh, or else the peak-hours demand the demand.
abbrev pub excess_test : List ℕ → Option Fault
excess_test frame =
    or_else (when (nat_lt (field frame 14 4) (field frame 18 4)) fault.OffHours)
    (when (nat_lt (field frame 22 4) (field frame 26 4)) fault.PeakDemand)

-- 8 asks for a reading.
abbrev pub order_test : RequestKind → List ℕ → Option Fault
order_test Post frame = excess_test frame
order_test Cancel frame = None
order_test Correct frame = excess_test frame
order_test Close frame = None
order_test Account frame = None

-- 7 and 8, of a frame of a kind that is served.
abbrev pub field_tests : Option RequestKind → List ℕ → List (Option Fault)
field_tests None frame = []
field_tests (Some kind) frame = limit_test (limits kind) frame ∷ order_test kind frame ∷ []

abbrev pub request_field_tests : List ℕ → List (Option Fault)
request_field_tests frame = field_tests (request_kind (kind_of frame)) frame

-- 2 to 8.
abbrev pub request_tests : List ℕ → List (Option Fault)
request_tests line = call_tests request_length request_field_tests line

-- Each field lies in a frame of so many bytes, and is at most four bytes wide.
abbrev pub inside : ℕ → List Limit → Bool
inside count [] = true
inside count (l ∷ ls) =
    (nat_le 1 l.field.byte
    && (nat_le l.field.byte 64 && (nat_le (l.field.byte + l.field.width) (count + 1) && nat_le l.field.width 4)))
    && inside count ls
