use Rattle.std.proofs.Common.{◌+◌, ◌*◌, ◌∙◌, w32, to_z, rules}
use Rattle.frame.specs.Held.{held}
use Rattle.frame.specs.Seal.{field}
use Rattle.reading.proofs.Made.{from_fn_same}
use Rattle.answer.proofs.Payload.{amounts_in}
use Rattle.answer.proofs.amounts.take_amounts.Goals as goal

pub returns : goal.returns
returns c =
    let frame = held c.args.frame.now in
    from_fn_same c.from_fn.ensures.items (λ k. to_z w32 (field frame (3 + 4 * k) 4)) (λ k y f' below call. search rules) ∙ amounts_in frame c.requires
