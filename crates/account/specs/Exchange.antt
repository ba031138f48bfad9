-- One line and its reply, and what the reply says in amounts.
use Rattle.std.specs.Prelude.{ℕ, List, ℤ, Some, None, Ok, Err, Option, Result}
use Rattle.std.specs.Option.{option_map}
use Rattle.reading.specs.First.{first}
use Rattle.reading.specs.declared.fault.Fault.{Fault}
use Rattle.reading.specs.declared.site_month.SiteMonth.{SiteMonth}
use Rattle.frame.specs.Line.{bytes_of}
use Rattle.frame.specs.Seal.{kind_of}
use Rattle.answer.specs.Amounts.{amounts_on, amounts_tests}
use Rattle.answer.specs.Kinds.{amounts_kind}
use Rattle.answer.specs.declared.kind.AmountsKind.{AmountsKind}
use Rattle.request.specs.Fields.{site_month_in}

-- A line, the length of its answer buffer and what was replied: the bytes of a line, or a fault that came back unwritten.
pub record Exchange : Type 0 where
  pub line : List ℕ
  pub size : ℕ
  pub reply : Result (List ℕ) Fault

-- The site month that the line names.
abbrev pub names : Exchange → SiteMonth
names e = site_month_in (bytes_of e.line)

-- A kind of answer with its amounts.
pub record Said : Type 0 where
  pub kind : AmountsKind
  pub amounts : List ℤ

abbrev pub said_if : Option Fault → Option AmountsKind → List ℤ → Option Said
said_if None kind amounts = option_map (λ k. record { kind = k; amounts = amounts }) kind
said_if (Some fault) kind amounts = None

-- What a reply says in amounts, read back from its bytes: nothing unless it passes the tests of a line of amounts.
unfoldable pub said : Result (List ℕ) Fault → Option Said
said (Ok line) = said_if (first (amounts_tests line)) (amounts_kind (kind_of (bytes_of line))) (amounts_on line)
said (Err fault) = None
