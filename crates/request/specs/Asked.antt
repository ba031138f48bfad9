-- What a request asks, as plain values.
use Rattle.std.specs.Prelude.{ℕ, List, Option}
use Rattle.std.specs.Option.{option_map}
use Rattle.frame.specs.Seal.{kind_of}
use Rattle.reading.specs.declared.entry.Entry.{Entry}
use Rattle.reading.specs.declared.site_month.SiteMonth.{SiteMonth}
use Rattle.request.specs.declared.kind.RequestKind.{RequestKind}
use Rattle.request.specs.declared.kind.RequestKind.TheVariants as kind
use Rattle.request.specs.declared.request.Request.{Request}
use Rattle.request.specs.declared.request.Request.TheVariants.{Post, Correct, Cancel, Close, Account}
use Rattle.request.specs.Kinds.{request_kind}
use Rattle.request.specs.Fields.{site_month_in, meter_in, entry_in}

pub data Asked : Type 0 where
  post : SiteMonth → Entry → Asked
  correct : SiteMonth → Entry → Asked
  cancel : SiteMonth → ℕ → Asked
  close : SiteMonth → Asked
  account : SiteMonth → Asked

-- A request in memory.
abbrev pub asked : Request → Asked
asked (Post at reading) = post at reading.entry
asked (Correct at reading) = correct at reading.entry
asked (Cancel at meter) = cancel at meter
asked (Close at) = close at
asked (Account at) = account at

-- A request as a frame of its kind has it.
abbrev pub asked_in : RequestKind → List ℕ → Asked
asked_in kind.Post frame = post (site_month_in frame) (entry_in frame)
asked_in kind.Correct frame = correct (site_month_in frame) (entry_in frame)
asked_in kind.Cancel frame = cancel (site_month_in frame) (meter_in frame)
asked_in kind.Close frame = close (site_month_in frame)
asked_in kind.Account frame = account (site_month_in frame)

-- The request of a frame, if the kind is one.
abbrev pub requested : List ℕ → Option Asked
requested frame = option_map (λ kind. asked_in kind frame) (request_kind (kind_of frame))
