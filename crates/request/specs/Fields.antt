-- The fields of a request's frame, by first byte and width, and their limits.
use Rattle.std.specs.Prelude.{ℕ, ◌+◌, ◌*◌, List, [], ◌∷◌, map}
use Rattle.std.specs.List.{range_with_len}
use Rattle.reading.specs.Demand.{kw_nearest, load_of}
use Rattle.reading.specs.declared.entry.Entry.{Entry}
use Rattle.reading.specs.declared.site_month.SiteMonth.{SiteMonth}
use Rattle.frame.specs.Seal.{field}
use Rattle.request.specs.declared.limit.Limit.{Limit}
use Rattle.request.specs.declared.kind.RequestKind.{RequestKind}
use Rattle.request.specs.declared.kind.RequestKind.TheVariants.{Post, Cancel, Correct, Close, Account}

-- Site and month, of every request.
abbrev pub site_month_in : List ℕ → SiteMonth
site_month_in frame = record { site = field frame 3 4; month = field frame 7 2 }

-- The meter, of post, correct and cancel.
abbrev pub meter_in : List ℕ → ℕ
meter_in frame = field frame 9 2

-- Demands in kW of the eleven earlier months.
abbrev pub earlier_in : List ℕ → List ℕ
earlier_in frame = map (λ i. field frame (33 + 2 * i) 2) (range_with_len 0 11)

-- The reading of post and correct.
abbrev pub entry_in : List ℕ → Entry
entry_in frame =
    record {
      meter = meter_in frame;
      schedule = field frame 11 2;
      flags = field frame 13 1;
      power_factor = field frame 32 1;
      kwh = field frame 14 4;
      off_hours = field frame 18 4;
      demand = field frame 22 4;
      peak_demand = field frame 26 4;
      kvar = field frame 30 2;
      load = load_of (kw_nearest (field frame 22 4) ∷ earlier_in frame);
    }

-- A field of the given first byte and width, with the most that it may hold.
abbrev pub limit : ℕ → ℕ → ℕ → Limit
limit byte width most = record { field = record { byte = byte; width = width }; most = most }

-- Every request: the month.
abbrev pub month_limit : Limit
month_limit = limit 7 2 2399

-- The eleven earlier demands.
abbrev pub earlier_limits : List Limit
earlier_limits = map (λ i. limit (33 + 2 * i) 2 9999) (range_with_len 0 11)

-- Post and correct, in the order of their bytes: month, flags, kWh, demand, peak-hours demand, kvar, power factor and
-- the earlier demands. The off-hours kWh have no limit of their own.
abbrev pub reading_limits : List Limit
reading_limits =
    month_limit
    ∷ limit 13 1 15
    ∷ limit 14 4 999999
    ∷ limit 22 4 99999
    ∷ limit 26 4 99999
    ∷ limit 30 2 9999
    ∷ limit 32 1 100
    ∷ earlier_limits

abbrev pub limits : RequestKind → List Limit
limits Post = reading_limits
limits Cancel = month_limit ∷ []
limits Correct = reading_limits
limits Close = month_limit ∷ []
limits Account = month_limit ∷ []
