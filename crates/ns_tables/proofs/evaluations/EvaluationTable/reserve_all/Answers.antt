use Rattle.std.proofs.Common.{refl}
use Rattle.ns_tables.proofs.Filed.{still_filed}
use Rattle.ns_tables.proofs.evaluations.EvaluationTable.reserve_all.Goals as goal

pub invariant_of-self : goal.invariant_of-self
invariant_of-self c = still_filed c.self.inside.jobs c.self.inside.jobs c.self.inside.pending c.self.inside.pending c.self.inside.blocked
    c.self.inside.blocked _ _
    (λ key. refl) (λ key. refl) (λ key. refl) c.reserve_all.ensures.rows c.self.invariant
