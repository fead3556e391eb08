use Rattle.ns_plan.proofs.Looks.{sound_is_counted}
use Rattle.ns_plan.proofs.laws.sound_is_counted.Goals as goal

pub returns : goal.returns
returns c = sound_is_counted
