-- What a frame in memory holds.
use Rattle.std.specs.Prelude.{ℕ, List, take}
use Rattle.frame.specs.declared.frame.Frame.{Frame}

-- The bytes of a frame.
abbrev pub held : Frame → List ℕ
held f = take f.len f.bytes
