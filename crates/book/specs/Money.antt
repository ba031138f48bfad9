-- Units and whole cents.
use Rattle.std.specs.Prelude.{ℕ, ◌+◌, ◌*◌, ◌/◌}

-- A cent in units.
abbrev pub cent : ℕ
cent = 10000000

-- Units to whole cents, a half going up.
abbrev pub half_up : ℕ → ℕ
half_up units = (units + 5000000) / cent

-- Units rounded to whole cents, in units again.
abbrev pub rounded : ℕ → ℕ
rounded units = cent * half_up units
