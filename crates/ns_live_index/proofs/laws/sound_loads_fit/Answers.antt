use Rattle.ns_live_index.proofs.Administered.{loads_fit}
use Rattle.ns_live_index.proofs.laws.sound_loads_fit.Goals as goal

pub returns : goal.returns
returns c = loads_fit
