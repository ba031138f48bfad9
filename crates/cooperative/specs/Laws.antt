-- The cooperative's book keeps the laws of a book.
use Rattle.std.specs.Prelude.{◌≡◌, ℕ, ◌-◌, ◌*◌, ◌^◌, ◌≤◌, Bool, cond, [], ◌∷◌, is_some, Some, Option}
use Rattle.std.proofs.Common.{arith}
use Rattle.std.proofs.lemmas.Nat.{mul-le}
use Rattle.std.proofs.lemmas.Bool.{cond_both}
use Rattle.std.proofs.lemmas.Bool.Decides.{nat_tests}
use Rattle.reading.specs.Limits.{Limits}
use Rattle.reading.specs.declared.entry.Entry.{Entry}
use Rattle.reading.specs.declared.fault.Fault.{Fault}
use Rattle.reading.proofs.Within.{limits}
use Rattle.book.specs.Meaning.{Lawful}
use Rattle.book.specs.Money.{rounded}
use Rattle.book.proofs.Cents.{half_up_nothing, half_up_rises, half_up_bounded, rounded_bounded}
use Rattle.book.proofs.Each.{each_at}
use Rattle.cooperative.specs.Schedule.{check, basic, demand, energy, credit, power_factor, exact, cooperative}

-- The dearest power factor.
pub power_factor_bounded : (e : Entry) → Limits e → power_factor e ≤ 10 ^ 15
power_factor_bounded e l =
    let p = mul-le (97 - e.power_factor) (625 * e.demand) 97 (625 * 99999) (omega arith) (omega arith) in
    omega arith

exact_bounded : (e : Entry) → Limits e → (line : ℕ) → exact e line ≤ 10 ^ 15
exact_bounded e l line =
    each_at (λ units. units ≤ 10 ^ 15) 0 (omega arith) (basic ∷ demand e ∷ energy e ∷ credit e ∷ power_factor e ∷ []) line
    (omega arith, (omega arith, (omega arith, (omega arith, (power_factor_bounded e l, tt)))))

unless : (b : Bool) (n : ℕ) → n ≤ 10 ^ 15 → cond b 0 n ≤ 10 ^ 15
unless b n h = cond_both b 0 n (λ units. units ≤ 10 ^ 15) (λ _. omega arith) (λ _. h)

refused : (o : Option Fault) (fault : Fault) (n : ℕ) → o ≡ Some fault → cond (is_some o) 0 n ≡ 0
refused o fault n h = rw h

pub keeps : Lawful cooperative
keeps =
    record {
      nothing = λ line. half_up_nothing;
      rises = λ line m n h. half_up_rises m n h;
      bounded = λ line n h. half_up_bounded n h;
      light = λ e line h. unless (is_some (check e)) (rounded (exact e line)) (rounded_bounded (exact e line) (exact_bounded e (limits e h) line));
      weightless = λ e line fault h. refused (check e) fault (rounded (exact e line)) h;
      own = λ e fault h. grind (arith, nat_tests);
    }
