-- The first test that fits, from what is known of the tests one by one.
use Rattle.std.proofs.Common.{◌≡◌, ℕ, not, List, [], ◌∷◌, ◌++◌, Some, None, Option, sym, refl, ap, ◌∙◌}
use Rattle.reading.specs.declared.fault.Fault.{Fault}
use Rattle.reading.specs.declared.fault.Fault.TheVariants.{PayloadLength}
use Rattle.frame.specs.Line.{bytes_of}
use Rattle.frame.specs.Seal.{kind_of, carries}
use Rattle.reading.specs.First.{when, or_else, first}
use Rattle.frame.specs.Tests.{kind_test, payload_test, line_tests, call_tests}

-- A test that fits hides the later ones.
pub stops : (test later : Option Fault) (fault : Fault) → Some fault ≡ test → Some fault ≡ or_else test later
stops test later fault fits = ap (λ t. or_else t later) fits

-- One that does not leaves the word to them.
pub passes : (test later outcome : Option Fault) → None ≡ test → outcome ≡ later → outcome ≡ or_else test later
passes test later outcome none is = is ∙ ap (λ t. or_else t later) none

-- One list of tests after another.
pub first_append : (tests later : List (Option Fault)) → first (tests ++ later) ≡ or_else (first tests) (first later)
first_append [] later = refl
first_append (None ∷ tests) later = first_append tests later
first_append (Some fault ∷ tests) later = refl

-- Two tests.
pub first_two : (test later : Option Fault) → or_else test later ≡ first (test ∷ later ∷ [])
first_two test None = refl
first_two test (Some fault) = refl

append_stops : (tests later : List (Option Fault)) (fault : Fault) → Some fault ≡ first tests → Some fault ≡ first (tests ++ later)
append_stops tests later fault fits = stops (first tests) (first later) fault fits ∙ sym (first_append tests later)

append_passes : (tests later : List (Option Fault)) (outcome : Option Fault) → None ≡ first tests → outcome ≡ first later → outcome ≡ first (tests ++ later)
append_passes tests later outcome none is = passes (first tests) (first later) outcome none is ∙ sym (first_append tests later)

-- What a call comes to, step by step. Its frame is the line's.
module _ (served : ℕ → Option ℕ) (fields : List ℕ → List (Option Fault)) (line : List ℕ) where
  -- The line fails as a line.
  pub line_stops : (fault : Fault) → Some fault ≡ first (line_tests line) → Some fault ≡ first (call_tests served fields line)
  line_stops fault fits =
      append_stops (line_tests line) (kind_test served (bytes_of line) ∷ payload_test served (bytes_of line) ∷ fields (bytes_of line)) fault fits

  module _ (frame : List ℕ) (is : frame ≡ bytes_of line) (fine : None ≡ first (line_tests line)) where
    frame_tested : (outcome : Option Fault) → outcome ≡ first (kind_test served frame ∷ payload_test served frame ∷ fields frame) → outcome ≡ first (call_tests served fields line)
    frame_tested outcome h =
        append_passes (line_tests line) (kind_test served (bytes_of line) ∷ payload_test served (bytes_of line) ∷ fields (bytes_of line)) outcome fine
        (h ∙ ap (λ f. first (kind_test served f ∷ payload_test served f ∷ fields f)) is)

    module _ (n : ℕ) (length : served (kind_of frame) ≡ Some n) where
      kind_fine : None ≡ kind_test served frame
      kind_fine = rw length

      payload_is : when (not (carries n frame)) PayloadLength ≡ payload_test served frame
      payload_is = rw length

      -- The kind is served, and carries another payload.
      pub payload_stops : (fault : Fault) → Some fault ≡ when (not (carries n frame)) PayloadLength → Some fault ≡ first (call_tests served fields line)
      payload_stops fault fits =
          frame_tested (Some fault)
          (passes (kind_test served frame) (first (payload_test served frame ∷ fields frame)) (Some fault) kind_fine
          (stops (payload_test served frame) (first (fields frame)) fault (fits ∙ payload_is)))

      -- The fields decide.
      pub fields_decide : (outcome : Option Fault) → None ≡ when (not (carries n frame)) PayloadLength → outcome ≡ first (fields frame) → outcome ≡ first (call_tests served fields line)
      fields_decide outcome none h =
          frame_tested outcome
          (passes (kind_test served frame) (first (payload_test served frame ∷ fields frame)) outcome kind_fine
          (passes (payload_test served frame) (first (fields frame)) outcome (none ∙ payload_is) h))
