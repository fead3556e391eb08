use Rattle.std.proofs.Common.{◌≡◌, vec_len}
use Rattle.ns_entropy.proofs.seeded.generators.Given as goal

abbrev pub invariant-loop-made : goal.invariant-loop-made
invariant-loop-made g l = vec_len l.all ≡ l.made
