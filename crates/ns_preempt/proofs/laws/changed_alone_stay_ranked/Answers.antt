use Rattle.ns_preempt.proofs.Ranks.{changed_alone_stay_ranked}
use Rattle.ns_preempt.proofs.laws.changed_alone_stay_ranked.Goals as goal

pub returns : goal.returns
returns c = changed_alone_stay_ranked
