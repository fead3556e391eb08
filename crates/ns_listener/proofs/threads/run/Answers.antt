use Rattle.std.proofs.Common.{rules}
use Rattle.ns_listener.proofs.threads.run.Goals as goal

pub scoped-requires : goal.scoped-requires
scoped-requires g c = record {
  at = λ _. (
    (search rules, search rules, search rules),
    (search rules, search rules, search rules, search rules, search rules),
  );
}
