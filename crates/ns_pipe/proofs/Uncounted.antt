-- What begins with nothing counted.
use Rattle.std.proofs.Common.{◌≡◌}
use Rattle.ns_http.specs.Counts.{no_counts}
use Rattle.ns_http.specs.declared.counting.Counted.{Counted}
use Rattle.ns_pipe.specs.Ending.{uncounted}

pub uncounted_by : {T : Type 0} (counted : Counted T) (inner : T) → counted.inner ≡ inner → counted.counts ≡ no_counts → counted ≡ uncounted inner
uncounted_by counted inner same none = λ i. record { inner = same i; counts = none i }
