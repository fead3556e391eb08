use Rattle.std.proofs.Common.{◌∙◌, ap}
use Rattle.std.specs.Map.{keys_of}
use Rattle.keyed.proofs.Known.{keys_of-remove}
use Rattle.keyed.proofs.index.remove_at.Goals as goal

pub returns : goal.returns
returns g c = ap keys_of c.shift_remove_index.ensures.entries ∙ keys_of-remove c.args.keys.now.entries c.args.place
