-- Segments: logs that were given out one after the other.
use Rattle.std.specs.Prelude.{◌≡◌, ◌≢◌, ◌⊎◌, ℕ, ◌+◌, List, [], ◌∷◌, ◌++◌, flat_map, length}
use Rattle.ns_types.specs.State.Names.{Name}
use Rattle.ns_json.specs.Logs.{segment_text}
use Rattle.ns_json.specs.Replies.{Entry}

-- a segment: how many entries come before it, and its own entries
pub record Given : Type 0 where
  pub start : ℕ
  pub log : List Entry

-- the entries of all segments, and then those of the log that was not given out
abbrev pub joined : List Given → List Entry → List Entry
joined segments log = flat_map (λ s. s.log) segments ++ log

-- the text of a segment, given the bootstrap secret
abbrev pub text_of : Name → Given → Name
text_of secret s = segment_text secret s.start s.log

-- the texts of all segments, one behind the other
abbrev pub texts_of : Name → List Given → Name
texts_of secret segments = flat_map (text_of secret) segments

-- the texts of all segments, and behind them that of the log that was not given out, before which come `given` entries
abbrev pub whole_text : Name → List Given → ℕ → List Entry → Name
whole_text secret segments given log = texts_of secret segments ++ segment_text secret given log

-- the segments follow each other from the one place to the other
abbrev pub Follows : ℕ → List Given → ℕ → Type 0
Follows from [] to = from ≡ to
Follows from (s ∷ segments) to = (s.start ≡ from) × Follows (from + length s.log) segments to

-- the first place where the next segment, or the log behind the last one, should start and does not
abbrev pub IsGap : ℕ → List Given → ℕ → ℕ → Type 0
IsGap from [] to place = (from ≢ to) × (place ≡ from)
IsGap from (s ∷ segments) to place =
    ((s.start ≢ from) × (place ≡ from)) ⊎ ((s.start ≡ from) × IsGap (from + length s.log) segments to place)
