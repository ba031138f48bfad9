use Rattle.std.proofs.Common.{◌∷◌, ap, ◌∙◌, ap₂}
use Rattle.reading.specs.Demand.{kw_nearest, load_of}
use Rattle.request.proofs.Readings.{same_entry}
use Rattle.request.proofs.fields.ReadingFrame.entry.Goals as goal

pub returns : goal.returns
returns c =
    same_entry _ _ _ _ _ _ _ _ _ _ _ _ _ _ _ _ _ _ _ _ c.meter.ensures c.number.ensures.value c.number-2.ensures.value
    c.number-3.ensures.value c.number-4.ensures.value c.number-5.ensures.value c.number-demand.ensures.value
    c.number-6.ensures.value c.number-7.ensures.value
    (c.load_size-load.ensures ∙ ap₂ (λ kw earlier. load_of (kw ∷ earlier)) (c.nearest_kw.ensures.value ∙ ap kw_nearest c.number-demand.ensures.value) c.earlier.ensures)
