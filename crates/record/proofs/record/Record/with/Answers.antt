use Rattle.std.proofs.Common.{◌≡◌, true, ◌+◌, ◌-◌, List, length, take, sym, ap, ◌∙◌, subst, rules}
use Rattle.std.specs.List.{insert}
use Rattle.reading.specs.declared.entry.Entry.{Entry}
use Rattle.record.specs.Edits.{Puts}
use Rattle.record.specs.Holding.{lawful_reading}
use Rattle.record.specs.Meters.{BelongsAt}
use Rattle.record.specs.States.{is_closed}
use Rattle.record.proofs.Editing.{puts_added}
use Rattle.record.proofs.Edited.{with_readings_are, with_lawful}
use Rattle.record.proofs.record.Record.with.Goals as goal

pub invariant_of-result : goal.invariant_of-result
invariant_of-result c =
    let row = c.args.self.now.row in
    let each : lawful_reading c.entry-entry.result ≡ true = search rules in
    let at : BelongsAt c.entry-entry.result.meter (take row.count row.entries) c.in-Err.place = rw (← c.readings.ensures.value) c.in-Err.ensures.place in
    record { lawful = with_lawful row c.args.self.now.lawful c.entry-entry.result c.in-Err.place c.insert.new.entries at c.insert.ensures c.if-self-eq-READINGS.false each }

pub returns : goal.returns
returns c =
    let row = c.args.self.now.row in
    let es = take row.count row.entries in
    let e = c.args.reading.now.entry in
    let v = c.entry-entry.ensures.value in
    let readings = c.readings.ensures.value in
    let at : BelongsAt e.meter es c.in-Err.place = subst (λ (x : Entry). BelongsAt x.meter es c.in-Err.place) v (rw (← readings) c.in-Err.ensures.place) in
    let is = with_readings_are row c.args.self.now.lawful e c.in-Err.place c.insert.new.entries at (c.insert.ensures ∙ ap (insert (take (length (take (row.count + 1) row.entries) - 1) (take (row.count + 1) row.entries)) c.in-Err.place) v) c.if-self-eq-READINGS.false in
    record {
      refused = search rules;
      value = ap (λ (rs : List Entry). record { at = row.at; closed = is_closed row.state; readings = rs }) is;
      meters = subst (Puts e es) (sym is) (puts_added e es at.none);
    }
