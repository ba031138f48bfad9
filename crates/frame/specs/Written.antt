-- What a call that writes a line into a lent buffer answers and leaves.
use Rattle.std.specs.Prelude.{◌≡◌, ℕ, ◌≤◌, cond, List, ◌++◌, length, drop, is_ok, IfOk, Result}
use Rattle.std.specs.Result.{result_err}
use Rattle.reading.specs.declared.fault.Fault.{Fault}
use Rattle.frame.specs.Tests.{buffer_test}

-- A buffer with a line at its front: the bytes past the line keep their values.
abbrev pub fronted : List ℕ → List ℕ → List ℕ
fronted line buffer = line ++ drop (length line) buffer

-- The line is written and its length answered; or the buffer is too short, and stays as it was.
pub record Written (line before after : List ℕ) (answer : Result ℕ Fault) : Type 0 where
  pub refused : result_err answer ≡ buffer_test (length before)
  pub count : IfOk answer (λ n. n ≡ length line)
  pub bound : IfOk answer (λ n. n ≤ 128)
  pub kept : after ≡ cond (is_ok answer) (fronted line before) before
