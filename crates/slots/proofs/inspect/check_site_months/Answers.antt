use Rattle.std.proofs.Common.{◌+◌, ◌<◌, [], get_or, drop, ap, ◌∙◌, arith}
use Rattle.slot.specs.Reading.{head_in}
use Rattle.slots.specs.Cuts.{slot_count, table_of}
use Rattle.slots.proofs.Cutting.{table_long}
use Rattle.slots.proofs.Places.{some_again, none_again, twice_here, twice_on}
use Rattle.slots.proofs.inspect.check_site_months.Goals as goal

pub loop-slot-preserved-in_default : goal.loop-slot-preserved-in_default
loop-slot-preserved-in_default c =
    let bytes = c.args.bytes.now in
    let i = c.loop-slot.slot in
    let n = c.slots_of-this-items.ensures.len in
    let within : i < slot_count bytes = omega arith in
    let head = c.in_default.ensures.value ∙ ap (λ slots. head_in (get_or slots i [])) c.slots_of-this-items.ensures.value in
    twice_on (table_of bytes) i _ c.loop-slot.invariant (let m = table_long bytes in omega arith) (none_again bytes i within (drop (i + 1) (table_of bytes)) head)

pub returns-in-Some-place : goal.returns-in-Some-place
returns-in-Some-place c =
    let bytes = c.args.bytes.now in
    let i = c.loop-slot.slot in
    let n = c.slots_of-this-items.ensures.len in
    let within : i < slot_count bytes = omega arith in
    let head = c.in-Some.ensures.value ∙ ap (λ slots. head_in (get_or slots i [])) c.slots_of-this-items.ensures.value in
    twice_here (table_of bytes) i _ c.loop-slot.invariant c.in-Some-place.again (let m = table_long bytes in omega arith)
    (c.in-Some-place.ensures ∙ some_again bytes i within c.in-Some.at (drop (i + 1) (table_of bytes)) head)

pub loop-slot-preserved : goal.loop-slot-preserved
loop-slot-preserved c =
    let bytes = c.args.bytes.now in
    let i = c.loop-slot.slot in
    let n = c.slots_of-this-items.ensures.len in
    let within : i < slot_count bytes = omega arith in
    let head = c.in-Some.ensures.value ∙ ap (λ slots. head_in (get_or slots i [])) c.slots_of-this-items.ensures.value in
    twice_on (table_of bytes) i _ c.loop-slot.invariant (let m = table_long bytes in omega arith)
    (c.in_default-place.ensures ∙ some_again bytes i within c.in-Some.at (drop (i + 1) (table_of bytes)) head)
