use Rattle.std.proofs.Common.{[], ◌∷◌, drop, take, sym, ap, ◌∙◌}
use Rattle.frame.specs.Held.{held}
use Rattle.request.specs.Fields.{month_limit, earlier_limits, reading_limits}
use Rattle.request.specs.Tests.{limit_test}
use Rattle.request.proofs.Limits.{limits_pass}
use Rattle.request.proofs.fields.ReadingFrame.check_limits.Goals as goal

pub returns : goal.returns
returns c =
    let frame = held c.args.self.now.frame.now in
    c.check_limits-2.ensures
    ∙ ap (λ limits. limit_test limits frame) c.earlier_limits.ensures
    ∙ sym (limits_pass (take 6 (drop 1 reading_limits)) earlier_limits frame c.in_ok-check_limits.ensures)
    ∙ sym (limits_pass (month_limit ∷ []) (drop 1 reading_limits) frame (sym c.args.self.now.month))
