use Rattle.std.proofs.Common.{rules}
use Rattle.std.proofs.lemmas.List.Sorted.{answers_always}
use Rattle.reading.specs.declared.entry.Entry.{Entry}
use Rattle.record.proofs.Searching.{searched}
use Rattle.record.proofs.entries.search.Goals as goal

pub returns : goal.returns
returns c =
    let facts = c.binary_search_by_key.ensures in
    let by_meter = facts.position (λ (e : Entry). e.meter) (answers_always _ _ _ (λ f a r g called. search rules)) in
    searched c.args.entries.now c.requires c.args.meter c.binary_search_by_key.result facts.bound by_meter
