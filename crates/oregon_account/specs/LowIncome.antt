-- The low-income line of a site month.
use Rattle.std.specs.Prelude.{◌≡◌, ℕ, min, List, ◌∷◌, pos, sum_by}
use Rattle.reading.specs.declared.entry.Entry.{Entry}
use Rattle.reading.specs.declared.site_month.SiteMonth.{SiteMonth}
use Rattle.oregon_card.specs.Layout.{Values}
use Rattle.oregon.specs.Sheet.{weight, uncapped, oregon_sheet}
use Rattle.store.specs.Meaning as store
use Rattle.account.specs.Exchange.{Exchange}
use Rattle.account.specs.Readings.{readings_at}
use Rattle.account.specs.Runs.{Ran, tally, answered}

-- What some readings settle to on line 12 without the cap: the sum of their weights, rounded half up to a cent.
abbrev pub uncapped_settlement : Values → List Entry → ℕ
uncapped_settlement card es = uncapped (sum_by (λ e. weight card e 12) es)

-- The amounts answered on line 12 in each site month add up to the lesser of the card's cap and the uncapped settlement of
-- the readings that stand in the tally.
abbrev pub LowIncome : Values → ℕ → List Exchange → Type 0
LowIncome card n h = (at : SiteMonth) → answered h at 12 ≡ pos (min card.cap (uncapped_settlement card (readings_at at (tally (oregon_sheet card) n h))))

-- So it is after every run that leads to s and then, by this exchange, to t.
abbrev pub LowIncomeOnRuns : Values → store.Meaning → Exchange → store.Meaning → Type 0
LowIncomeOnRuns card s e t = (h : List Exchange) → Ran (oregon_sheet card) h s → LowIncome card t.capacity (e ∷ h)
