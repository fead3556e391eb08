use Rattle.std.proofs.Common.{refl}
use Rattle.ns_log_reader.specs.Reading.{reported_in}
use Rattle.ns_log_reader.proofs.nodes.reported.Goals as goal

pub returns-clause-value : goal.returns-clause-value
unfolding reported_in
returns-clause-value c =
    rw (c.in_ok-word.ensures, c.in_ok-client.ensures, c.in_ok-name.ensures, c.in_ok-namespace.ensures, c.in_ok-number.ensures.value) refl
