use Rattle.std.proofs.Common.{false}
use Rattle.std.proofs.lemmas.List.{get_or-replicate}
use Rattle.ns_place.proofs.marking.flags.Flags.new.Goals as goal

pub returns : goal.returns
returns c = λ k below. get_or-replicate 1000 k false false below
