-- A line of amounts: its tests, its one spelling, and that what is written reads back.
use Rattle.std.proofs.Common.{◌≡◌, ℕ, ◌-◌, ◌%◌, ◌<◌, List, [], ◌∷◌, length, drop, ℤ, Some, None, sym, refl, ap, ◌∙◌, ap₂, arith}
use Rattle.std.specs.List.{AllByRecursion as All}
use Rattle.std.proofs.ByRecursion.{All-take, All-drop}
use Rattle.std.proofs.lemmas.List.{take_at, length-append}
use Rattle.std.proofs.lemmas.Bool.Decides.{nat_tests}
use Rattle.frame.specs.Line.{spelled, bytes_of}
use Rattle.frame.specs.Seal.{framed, kind_of, payload_of, check_byte}
use Rattle.frame.proofs.Assembly.{sealed_framed, framed_below}
use Rattle.frame.proofs.Bytes.{each_below}
use Rattle.frame.proofs.Firsts.{fields_decide}
use Rattle.frame.proofs.Spelling.{bytes_below}
use Rattle.frame.proofs.Tests.{reads_back, carried}
use Rattle.answer.specs.declared.kind.AmountsKind.{AmountsKind}
use Rattle.answer.specs.declared.answer.Answer.TheVariants.{Amounts}
use Rattle.answer.specs.Amounts.{amounts_payload, amounts_of}
use Rattle.answer.specs.Answers.{answer_line, AmountsReadBack}
use Rattle.answer.specs.Kinds.{kind_byte, amounts_kind, amounts_length}
use Rattle.answer.proofs.Payload.{length_payload, payload_below, amounts_back, payload_back, length_payload_of}

pub length_of : (byte : ℕ) (kind : AmountsKind) (frame : List ℕ) → byte ≡ kind_of frame → amounts_kind byte ≡ Some kind → amounts_length (kind_of frame) ≡ Some 52
length_of byte kind frame names is = grind (arith, nat_tests)

kind_named : (kind : AmountsKind) (byte : ℕ) → amounts_kind byte ≡ Some kind → byte ≡ kind_byte kind
kind_named kind byte is = grind (arith, nat_tests)

named_kind : (kind : AmountsKind) → amounts_kind (kind_byte kind) ≡ Some kind
named_kind kind = grind (arith, nat_tests)

kind_below : (kind : AmountsKind) → kind_byte kind < 256
kind_below kind = grind arith

-- A line that is accepted is the one line of its kind and amounts.
pub one_line : (line : List ℕ) {frame : List ℕ} {byte : ℕ} (kind : AmountsKind) (amounts : List ℤ) → frame ≡ bytes_of line → line ≡ spelled frame → length frame ≡ 55 → frame ≡ framed (kind_of frame) (payload_of frame) → byte ≡ kind_of frame → amounts_kind byte ≡ Some kind → amounts ≡ amounts_of (payload_of frame) → line ≡ answer_line (Amounts kind amounts)
one_line line {frame} {byte} kind amounts is spelling long whole byte-is served amounts-are =
    let payload = payload_of frame in
    let below : All (λ b. b < 256) frame = rw is (bytes_below line) in
    let parts = All-take (λ b. b < 256) (length frame - 3) (drop 2 frame) (All-drop (λ b. b < 256) 2 frame below) in
    let fours : length payload % 4 ≡ 0 = omega (arith, length_payload_of frame (omega arith)) in
    let written = ap amounts_payload amounts-are ∙ payload_back payload fours parts in
    spelling ∙ ap spelled (whole ∙ ap₂ framed (sym byte-is ∙ kind_named kind byte served) (sym written))

payload_framed : (kind : ℕ) (payload : List ℕ) → payload_of (framed kind payload) ≡ payload
payload_framed kind payload =
    let check = check_byte (kind ∷ length payload ∷ payload) ∷ [] in
    let len : length payload ≡ length (framed kind payload) - 3 = omega (arith, length-append payload check) in
    take_at payload check (length (framed kind payload) - 3) len

-- What is written reads back.
pub read_back : AmountsReadBack
read_back kind amounts thirteen fit =
    let payload = amounts_payload amounts in
    let frame = framed (kind_byte kind) payload in
    let len : length payload ≡ 52 = omega (arith, length_payload amounts) in
    let long : length frame ≡ 55 = omega (arith, length-append payload (check_byte (kind_byte kind ∷ length payload ∷ payload) ∷ [])) in
    let below = framed_below (kind_byte kind) payload (kind_below kind) (omega arith) (payload_below amounts) in
    let back = reads_back frame (omega arith) (omega arith) (each_below frame below) (sealed_framed (kind_byte kind) payload) in
    let served = length_of (kind_byte kind) kind frame refl (named_kind kind) in
    record {
      accepted = sym (fields_decide amounts_length (λ _. []) (spelled frame) frame (sym back.same) (sym back.accepted) 52 served None (carried frame 52 len long) refl);
      same_kind = ap (λ f. amounts_kind (kind_of f)) back.same ∙ named_kind kind;
      same = ap (λ f. amounts_of (payload_of f)) back.same ∙ ap amounts_of (payload_framed (kind_byte kind) payload) ∙ amounts_back amounts fit;
    }
