use Rattle.std.proofs.Common.{rules, ap, ◌∙◌}
use Rattle.std.specs.List.{range_with_len}
use Rattle.reading.proofs.Made.{from_fn_same}
use Rattle.frame.specs.Held.{held}
use Rattle.frame.proofs.Bytes.{below_each}
use Rattle.oregon_card.specs.Layout.{rates_fit}
use Rattle.oregon_card.specs.Rates.{prices_at, supply_rates, low_income_rates}
use Rattle.oregon_card.proofs.Cards.{fields_fit}
use Rattle.oregon_card.proofs.card.read.prices.Goals as goal

pub returns : goal.returns
returns c =
    let frame = held c.args.frame.now in
    let bytes = below_each frame c.args.frame.now.fit in
    let all = from_fn_same c.from_fn.ensures.items (prices_at frame) (λ place prices closure below call. (search rules, ap (λ b. record { 0 = b }) call.met.1)) in
    record {
      value = all;
      supply_fits = ap (λ prices. rates_fit (supply_rates prices)) all ∙ fields_fit frame 7 (range_with_len 0 7) bytes;
      low_income_fits = ap (λ prices. rates_fit (low_income_rates prices)) all ∙ fields_fit frame 9 (range_with_len 0 7) bytes;
    }
