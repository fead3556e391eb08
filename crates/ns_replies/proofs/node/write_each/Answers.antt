use Rattle.std.proofs.Common.{◌∷◌, []}
use Rattle.json.specs.Token.{key, string}
use Rattle.ns_json.proofs.Parts.{follows_item}
use Rattle.ns_types.specs.declared.node.Attribute.{Attribute}
use Rattle.ns_replies.proofs.node.write_each.Goals as goal

pub loop-attribute-preserved : goal.loop-attribute-preserved
loop-attribute-preserved c = follows_item (λ (a : Attribute). key a.key ∷ string a.value ∷ [])
    _ _ _ c.args.attributes.now c.loop-attribute.attribute-index c.attribute-item.result c.loop-attribute-test.true c.attribute-item.is
    c.loop-attribute.invariant c.in_ok-write_attribute.ensures
