-- What a draw of a generator gives.
use Rattle.std.specs.Prelude.{◌≡◌, ℕ, List}
use Rattle.rand_core.specs.Stream.{Stream, fill_bytes}

-- the 16 bytes are the next bytes of the generator, which goes on after them
abbrev pub FillsBytes : {G : Type 0} → (G → Stream) → G → List ℕ → G → Type 0
FillsBytes stream old bytes new = (bytes, stream new) ≡ fill_bytes 16 (stream old)
