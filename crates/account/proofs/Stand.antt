-- The law on runs.
use Rattle.std.proofs.Common.{◌∷◌}
use Rattle.book.specs.Meaning as book
use Rattle.store.specs.Meaning as store
use Rattle.account.specs.Exchange.{Exchange}
use Rattle.account.specs.Runs.{Ran, Served, LawOnRuns}
use Rattle.account.proofs.Signs.{signs}
use Rattle.account.proofs.Telescope.{sums, same_sums}

-- Every exchange keeps it, under every book.
pub runs_stand : (b : book.Meaning) → book.Lawful b → (s t : store.Meaning) → store.Lawful s → store.Lawful t → (e : Exchange) → Served b s e t → LawOnRuns b s e t
runs_stand b laws s t before lawful e served h ran =
    let led : Ran b (e ∷ h) t = (s, before, ran, served) in
    (led, record { sums = sums b laws (e ∷ h) t lawful led; same = same_sums b laws (e ∷ h) t lawful led; signs = signs b laws (e ∷ h) t lawful led })
