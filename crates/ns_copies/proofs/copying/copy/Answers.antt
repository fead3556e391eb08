use Rattle.std.proofs.Common.{◌≡◌, subst}
use Rattle.std.specs.Prelude.{IfOk}
use Rattle.ns_tables.specs.World.{world_of}
use Rattle.ns_copies.proofs.Parted.{all_is_whole}
use Rattle.ns_copies.proofs.copying.copy.Goals as goal

pub returns : goal.returns
returns c = subst (λ w. IfOk c.copied.result (λ copy. world_of copy ≡ w)) (all_is_whole (world_of c.args.tables.now)) c.copied.ensures
