use Rattle.std.proofs.Common.{take, ◌∷◌, []}
use Rattle.std.specs.List.{flat_map}
use Rattle.json.specs.Token.{key, string}
use Rattle.ns_json.specs.Part.{Follows}
use Rattle.ns_replies.proofs.node.write_each.Given as goal

abbrev pub invariant-loop-attribute : goal.invariant-loop-attribute
invariant-loop-attribute l = Follows l.initial.out l.out (flat_map (λ a. key a.key ∷ string a.value ∷ []) (take l.attribute-index l.attributes))
