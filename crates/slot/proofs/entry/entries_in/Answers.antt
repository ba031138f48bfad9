use Rattle.std.proofs.Common.{◌≡◌, ℕ, ◌/◌, List, [], length, get_or, take, drop, ap, ◌∙◌, arith, rules}
use Rattle.std.specs.Simd.{first_chunks}
use Rattle.std.proofs.lemmas.List.{length-drop, take_all}
use Rattle.slot.specs.Reading.{entry_in}
use Rattle.reading.proofs.Made.{from_fn_same}
use Rattle.slot.proofs.entry.entries_in.Goals as goal

pub returns : goal.returns
returns c =
    let bytes = drop 8 c.args.slot.now in
    let long : length bytes ≡ 416 = simp length-drop (omega arith) in
    let rest : take 416 bytes ≡ bytes = take_all 416 bytes (omega arith) in
    let chunks = λ (bs : List ℕ). first_chunks 26 (length bs / 26) bs in
    let entries : c.as_chunks.result.0.now ≡ first_chunks 26 16 bytes = c.as_chunks.ensures.front ∙ ap chunks rest ∙ ap (λ n. first_chunks 26 (n / 26) bytes) long in
    from_fn_same c.from_fn.ensures.items (λ i. entry_in (get_or (first_chunks 26 16 bytes) i [])) (λ i y f' below call. (call.met.1 ∙ ap (λ es. entry_in (get_or es i [])) entries, search rules))
