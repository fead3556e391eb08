-- crates/ns_queues/proofs/laws/administration_keeps_work/Answers.antt
use Rattle.ns_queues.proofs.Administered.{administration_keeps_work}
use Rattle.ns_queues.proofs.laws.administration_keeps_work.Goals as goal

pub returns : goal.returns
returns c = administration_keeps_work
