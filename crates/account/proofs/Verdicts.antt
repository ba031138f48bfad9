-- What becomes of a line, from what is known of its tests one by one.
use Rattle.std.proofs.Common.{◌≡◌, ℕ, ◌≤◌, ltb, List, [], ◌∷◌, Some, None, Err, Option, Result, sym, refl, ap, ◌∙◌, subst, arith}
use Rattle.std.specs.Option.{option_map}
use Rattle.std.proofs.lemmas.Bool.Decides.{nat_tests}
use Rattle.reading.specs.First.{first, or_else, when}
use Rattle.reading.specs.declared.fault.Fault.{Fault}
use Rattle.reading.specs.declared.fault.Fault.TheVariants.{Limit}
use Rattle.reading.specs.declared.site_month.SiteMonth.{SiteMonth}
use Rattle.frame.proofs.Firsts.{first_append}
use Rattle.frame.specs.Line.{bytes_of}
use Rattle.frame.specs.Seal.{field, kind_of}
use Rattle.frame.specs.Tests.{line_tests, kind_test, payload_test}
use Rattle.answer.specs.declared.answer.Answer.{Answer}
use Rattle.request.specs.Asked.{Asked, asked_in, requested}
use Rattle.request.specs.Kinds.{request_kind, request_length}
use Rattle.request.specs.Tests.{order_test, field_tests, request_field_tests, request_tests}
use Rattle.request.specs.declared.kind.RequestKind.{RequestKind}
use Rattle.request.specs.declared.kind.RequestKind.TheVariants as kind
use Rattle.book.specs.Meaning as book
use Rattle.store.specs.Meaning as store
use Rattle.account.specs.Reply.{Responds}
use Rattle.account.specs.Tests.{tests_of, ruled, decided, verdict}
use Rattle.account.proofs.Requests.{unchanged, later_passes}
use Rattle.account.proofs.Steps.{site_of, site_named}

module _ (b : book.Meaning) (s : store.Meaning) (line : List ℕ) where
  in_order : verdict b s 128 line ≡ ruled (or_else (first (request_tests line)) (first (tests_of b s (requested (bytes_of line))))) (requested (bytes_of line))
  in_order = ap (λ test. ruled test (requested (bytes_of line))) (first_append (request_tests line) (tests_of b s (requested (bytes_of line))))

  -- The line has no request that can be read.
  pub unread : (fault : Fault) → Some fault ≡ first (request_tests line) → verdict b s 128 line ≡ Err fault
  unread fault fits = in_order ∙ ap (λ test. ruled (or_else test (first (tests_of b s (requested (bytes_of line))))) (requested (bytes_of line))) (sym fits)

  -- It has one, whose tests decide.
  pub tests_decide : (q : Asked) → None ≡ first (request_tests line) → requested (bytes_of line) ≡ Some q → verdict b s 128 line ≡ decided b s q
  tests_decide q none is =
      in_order
      ∙ ap (λ test. ruled (or_else test (first (tests_of b s (requested (bytes_of line))))) (requested (bytes_of line))) (sym none)
      ∙ ap (λ o. ruled (first (tests_of b s o)) o) is

-- The month of a request is within its limit.
month_fits : (month : ℕ) (fault : Fault) (limits order : Option Fault) → None ≡ first (or_else (when (ltb 2399 month) fault) limits ∷ order ∷ []) → month ≤ 2399
month_fits month fault limits order none = grind (arith, nat_tests)

month_tested : (kind : RequestKind) (frame : List ℕ) → None ≡ first (field_tests (Some kind) frame) → field frame 7 2 ≤ 2399
month_tested kind.Post frame none = month_fits (field frame 7 2) (Limit 7) _ (order_test kind.Post frame) none
month_tested kind.Correct frame none = month_fits (field frame 7 2) (Limit 7) _ (order_test kind.Correct frame) none
month_tested kind.Cancel frame none = month_fits (field frame 7 2) (Limit 7) _ (order_test kind.Cancel frame) none
month_tested kind.Close frame none = month_fits (field frame 7 2) (Limit 7) _ (order_test kind.Close frame) none
month_tested kind.Account frame none = month_fits (field frame 7 2) (Limit 7) _ (order_test kind.Account frame) none

month_of : (k : Option RequestKind) (frame : List ℕ) (q : Asked) → None ≡ first (field_tests k frame) → option_map (λ kind. asked_in kind frame) k ≡ Some q → (site_of q).month ≤ 2399
month_of None frame q none is = cc
month_of (Some kind) frame q none is = let at = site_named (Some kind) frame q is in subst (λ (x : SiteMonth). x.month ≤ 2399) (sym at) (month_tested kind frame none)

pub month_within : (line : List ℕ) (q : Asked) → None ≡ first (request_tests line) → requested (bytes_of line) ≡ Some q → (site_of q).month ≤ 2399
month_within line q none is =
    let frame = bytes_of line in
    let rest = kind_test request_length frame ∷ payload_test request_length frame ∷ request_field_tests frame in
    let framed = later_passes (first (line_tests line)) (first rest) (none ∙ first_append (line_tests line) rest) in
    let carried = later_passes (kind_test request_length frame) (first (payload_test request_length frame ∷ request_field_tests frame)) framed in
    month_of (request_kind (kind_of frame)) frame q (later_passes (payload_test request_length frame) (first (request_field_tests frame)) carried) is

-- A line that cannot be read is refused, and the store stays.
pub line_refused : (b : book.Meaning) (s : store.Meaning) (line : List ℕ) (fault : Fault) → Some fault ≡ first (request_tests line) → Responds b s (verdict b s 128 line) (Err fault) s
line_refused b s line fault fits =
    subst (λ v. Responds b s v (Err fault) s) (sym (unread b s line fault fits)) (record { answers = refl; changes = unchanged s })

-- The request on a line decides.
pub line_decides : (b : book.Meaning) (s t : store.Meaning) (line : List ℕ) (q : Asked) (r : Result Answer Fault) → None ≡ first (request_tests line) → requested (bytes_of line) ≡ Some q → Responds b s (decided b s q) r t → Responds b s (verdict b s 128 line) r t
line_decides b s t line q r none is = subst (λ v. Responds b s v r t) (sym (tests_decide b s line q none is))
