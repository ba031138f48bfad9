use Rattle.std.proofs.Common.{rules}
use Rattle.std.proofs.lemmas.List.Sorted.{answers_always}
use Rattle.record.specs.Meters.{precedes}
use Rattle.record.proofs.Orders.{rising_is}
use Rattle.record.proofs.entries.climbing.Goals as goal

pub returns : goal.returns
returns c = rising_is c.args.entries.now c.is_sorted_by.result (c.is_sorted_by.ensures.cases precedes (answers_always _ _ _ (λ f a r g called. search rules)))
