-- The tests of a request by its kind.
use Rattle.std.proofs.Common.{◌≡◌, ℕ, List, [], ◌∷◌, Some, Option, sym, ap, ◌∙◌}
use Rattle.std.specs.Option.{option_map}
use Rattle.reading.specs.declared.fault.Fault.{Fault}
use Rattle.frame.specs.Seal.{kind_of}
use Rattle.reading.specs.First.{or_else, first}
use Rattle.frame.proofs.Firsts.{first_two}
use Rattle.request.specs.declared.kind.RequestKind.{RequestKind}
use Rattle.request.specs.Kinds.{request_kind, request_length, payload_length}
use Rattle.request.specs.Asked.{Asked, asked_in, requested}
use Rattle.request.specs.Fields.{reading_limits}
use Rattle.request.specs.Tests.{limit_test, excess_test, field_tests}

pub length_of : (byte : ℕ) (kind : RequestKind) (frame : List ℕ) → byte ≡ kind_of frame → request_kind byte ≡ Some kind → request_length (kind_of frame) ≡ Some (payload_length kind)
length_of byte kind frame names is = ap request_length (sym names) ∙ ap (option_map payload_length) is

-- The tests of the fields, for a kind that is known.
pub fields_of : (byte : ℕ) (kind : RequestKind) (frame : List ℕ) (outcome : Option Fault) → byte ≡ kind_of frame → request_kind byte ≡ Some kind → outcome ≡ first (field_tests (Some kind) frame) → outcome ≡ first (field_tests (request_kind (kind_of frame)) frame)
fields_of byte kind frame outcome names is h =
    h ∙ ap (λ k. first (field_tests k frame)) (sym is) ∙ ap (λ b. first (field_tests (request_kind b) frame)) names

-- Those of a kind that asks for a reading.
pub reading_tested : (kind given : RequestKind) (frame : List ℕ) (outcome : Option Fault) → kind ≡ given → first (limit_test reading_limits frame ∷ excess_test frame ∷ []) ≡ first (field_tests (Some given) frame) → outcome ≡ or_else (limit_test reading_limits frame) (excess_test frame) → outcome ≡ first (field_tests (Some kind) frame)
reading_tested kind given frame outcome is same h = h ∙ first_two (limit_test reading_limits frame) (excess_test frame) ∙ same ∙ ap (λ k. first (field_tests (Some k) frame)) (sym is)

-- The request of a kind that is known.
pub requested_as : (byte : ℕ) (kind : RequestKind) (frame : List ℕ) (asked : Asked) → byte ≡ kind_of frame → request_kind byte ≡ Some kind → asked ≡ asked_in kind frame → requested frame ≡ Some asked
requested_as byte kind frame asked names is h =
    ap (λ b. option_map (λ k. asked_in k frame) (request_kind b)) (sym names) ∙ ap (option_map (λ k. asked_in k frame)) is ∙ ap Some (sym h)
