use Rattle.ns_json.specs.Part.{tokens_of}
use Rattle.ns_json.proofs.Parts.{follows_item}
use Rattle.ns_replies.proofs.shown.write_each.Goals as goal

pub loop-item-preserved : goal.loop-item-preserved
loop-item-preserved g c = follows_item (λ x. tokens_of (g.T.Shown.json x))
    _ _ _ c.args.items.now c.loop-item.item-index c.item-item.result c.loop-item-test.true c.item-item.is c.loop-item.invariant c.in_ok-write_json.ensures
