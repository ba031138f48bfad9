-- Runs of a store, and the law that each keeps.
use Rattle.std.specs.Prelude.{◌≡◌, ℕ, ◌<◌, Bool, true, false, cond, List, [], ◌∷◌, length, ℤ, pos, ◌+ℤ◌, ◌≤ℤ◌, Some, None, Option, Result, slice_index_or}
use Rattle.std.specs.List.{AllByRecursion}
use Rattle.reading.specs.Statement.{lines}
use Rattle.reading.specs.declared.fault.Fault.{Fault}
use Rattle.reading.specs.declared.site_month.SiteMonth.{SiteMonth}
use Rattle.answer.specs.declared.kind.AmountsKind.{AmountsKind}
use Rattle.answer.specs.declared.kind.AmountsKind.TheVariants.{Post, Cancel, Correct, Account}
use Rattle.book.specs.Meaning as book
use Rattle.book.specs.Settled.{settled}
use Rattle.record.specs.Holding.{Holding, same}
use Rattle.store.specs.Meaning as store
use Rattle.account.specs.Change.{Leaves, after}
use Rattle.account.specs.Exchange.{Exchange, Said, names, said}
use Rattle.account.specs.Readings.{readings_at}
use Rattle.account.specs.Reply.{reply, heard}

-- An exchange as a caller sees it: the line, the answer buffer before and after, and what the call answered.
abbrev pub exchanged : List ℕ → List ℕ → List ℕ → Result ℕ Fault → Exchange
exchanged line before now outcome = record { line = line; size = length before; reply = heard outcome now }

-- An exchange leads from one store to another: the reply is the one named, and so is the change.
pub record Served (b : book.Meaning) (s : store.Meaning) (e : Exchange) (t : store.Meaning) : Type 0 where
  pub replies : e.reply ≡ reply b s e.size e.line
  pub changes : Leaves s (after b s e.size e.line) t

-- These exchanges, the newest first, lead from a new store, of any capacity, to this one. A new store holds no record, and
-- every store on the way keeps the laws of a store.
abbrev pub Ran : book.Meaning → List Exchange → store.Meaning → Type 0
Ran b [] s = length s.held ≡ 0
Ran b (e ∷ h) t = (s : store.Meaning) × store.Lawful s × Ran b h s × Served b s e t

-- The tally on paper: what lines and buffer lengths alone make of a new store of capacity n, whatever was replied.
abbrev pub tally : book.Meaning → ℕ → List Exchange → List Holding
tally b n [] = []
tally b n (e ∷ h) = after b (record { capacity = n; held = tally b n h }) e.size e.line

-- Answers to post, correct and cancel lines state a change; those to account lines do not.
abbrev pub states_change : AmountsKind → Bool
states_change Post = true
states_change Cancel = true
states_change Correct = true
states_change Account = false

-- The amount of a change on a statement line.
abbrev pub amount_said : Option Said → ℕ → ℤ
amount_said None line = pos 0
amount_said (Some x) line = cond (states_change x.kind) (slice_index_or x.amounts line (pos 0)) (pos 0)

-- The amounts answered to post, correct and cancel lines of a site month, read back from the replies, added up on a
-- statement line.
abbrev pub answered : List Exchange → SiteMonth → ℕ → ℤ
answered [] at line = pos 0
answered (e ∷ h) at line = cond (same at (names e)) (amount_said (said e.reply) line) (pos 0) +ℤ answered h at line

-- They add up to the settlement of the readings that stand in the tally.
abbrev pub Sums : book.Meaning → ℕ → List Exchange → Type 0
Sums b n h = (at : SiteMonth) (line : ℕ) → line < lines → answered h at line ≡ pos (settled b (readings_at at (tally b n h)) line)

-- Any other run, of any new store, that leaves the same readings in a site month has the same sums there.
abbrev pub Same : book.Meaning → ℕ → List Exchange → Type 0
Same b n h = (other : List Exchange) (s : store.Meaning) → store.Lawful s → Ran b other s → (at : SiteMonth) → readings_at at (tally b n h) ≡ readings_at at (tally b s.capacity other) → (line : ℕ) → line < lines → answered h at line ≡ answered other at line

-- No amount answered to a post is negative, none answered to a cancel is positive.
abbrev pub Sign : AmountsKind → ℤ → Type 0
Sign Post amount = pos 0 ≤ℤ amount
Sign Cancel amount = amount ≤ℤ pos 0
Sign Correct amount = Unit {0}
Sign Account amount = Unit {0}

abbrev pub Signed : Option Said → Type 0
Signed None = Unit {0}
Signed (Some x) = AllByRecursion (Sign x.kind) x.amounts

abbrev pub Signs : List Exchange → Type 0
Signs h = AllByRecursion (λ e. Signed (said e.reply)) h

-- The law on runs, of exchanges with a store of capacity n.
pub record Law (b : book.Meaning) (n : ℕ) (h : List Exchange) : Type 0 where
  pub sums : Sums b n h
  pub same : Same b n h
  pub signs : Signs h

-- Every run that leads to s goes on to t by this exchange, and then keeps the law.
abbrev pub LawOnRuns : book.Meaning → store.Meaning → Exchange → store.Meaning → Type 0
LawOnRuns b s e t = (h : List Exchange) → Ran b h s → Ran b (e ∷ h) t × Law b t.capacity (e ∷ h)
