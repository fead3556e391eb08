use Rattle.std.proofs.Common.{take}
use Rattle.std.specs.List.{flat_map}
use Rattle.ns_json.specs.Part.{Follows, tokens_of}
use Rattle.ns_replies.proofs.shown.write_each.Given as goal

abbrev pub invariant-loop-item : goal.invariant-loop-item
invariant-loop-item g l = Follows l.initial.out l.out (flat_map (λ x. tokens_of (g.T.Shown.json x)) (take l.item-index l.items))
