use Rattle.std.proofs.Common.{[], length, get_or, sym, ap, ◌∙◌}
use Rattle.slot.specs.Reading.{row_in}
use Rattle.slots.specs.Cuts.{slot_count}
use Rattle.slots.proofs.Cutting.{slot_is, slot_long, row_is}
use Rattle.slots.proofs.cut.slot_at.Goals as goal

pub returns : goal.returns
returns c =
    let bytes = c.args.bytes.now in
    let i = c.args.i in
    let is = ap (λ slots. get_or slots i []) c.slots_of.ensures.value ∙ slot_is (slot_count bytes) bytes i c.requires in
    record { value = is; len = ap length is ∙ slot_long bytes i c.requires; row = ap row_in is ∙ sym (row_is bytes i c.requires) }
