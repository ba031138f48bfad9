use Rattle.std.proofs.Common.{◌≡◌, true, List, take, set, is_some, sym, ap, ◌∙◌, subst, rules}
use Rattle.reading.specs.declared.entry.Entry.{Entry}
use Rattle.record.specs.Edits.{Puts}
use Rattle.record.specs.Holding.{lawful_reading}
use Rattle.record.specs.Meters.{stands, StandsAt}
use Rattle.record.specs.States.{is_closed}
use Rattle.record.proofs.Editing.{puts_replaced}
use Rattle.record.proofs.Edited.{replacing_is, replacing_lawful}
use Rattle.record.proofs.Placing.{stands_here}
use Rattle.record.proofs.record.Record.replacing.Goals as goal

pub invariant_of-result : goal.invariant_of-result
invariant_of-result c =
    let row = c.args.self.now.row in
    let each : lawful_reading c.entry-entry.result ≡ true = search rules in
    let at : StandsAt c.entry-entry.result.meter (take row.count row.entries) c.in_ok-place.place = c.in_ok-place.ensures.value in
    record { lawful = replacing_lawful row c.args.self.now.lawful c.entry-entry.result c.in_ok-place.place at each }

pub returns : goal.returns
returns c =
    let row = c.args.self.now.row in
    let es = take row.count row.entries in
    let e = c.args.reading.now.entry in
    let v = c.entry-entry.ensures.value in
    let at : StandsAt e.meter es c.in_ok-place.place = subst (λ (x : Entry). StandsAt x.meter es c.in_ok-place.place) v c.in_ok-place.ensures.value in
    let is = ap (λ x. take row.count (set row.entries c.in_ok-place.place x)) v ∙ replacing_is row c.args.self.now.lawful e c.in_ok-place.place at in
    let stood : stands e.meter es ≡ true = ap is_some (stands_here e.meter es c.in_ok-place.place at.place at.within at.own) in
    record {
      refused = search rules;
      value = ap (λ (rs : List Entry). record { at = row.at; closed = is_closed row.state; readings = rs }) is;
      meters = subst (Puts e es) (sym is) (puts_replaced e es stood);
    }
