use Rattle.std.proofs.Common.{◌∙◌, get_or, arith, rules}
use Rattle.record.specs.Meters.{blank}
use Rattle.slot.specs.Layout.{entry_bytes}
use Rattle.reading.proofs.Made.{from_fn_same}
use Rattle.slot.proofs.Entries.{entries_listed}
use Rattle.slot.proofs.entry.entries_bytes.Goals as goal

pub returns : goal.returns
returns c =
    let entries = c.args.entries.now in
    from_fn_same c.from_fn.ensures.items (λ i. entry_bytes (get_or entries i blank)) (λ i y f' below call. (call.met.1, search rules))
    ∙ entries_listed entries (omega arith)
