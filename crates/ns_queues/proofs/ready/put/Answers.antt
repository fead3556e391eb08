use Rattle.std.proofs.Common.{Some, ap, ◌∙◌}
use Rattle.std.specs.FinMap.{insert}
use Rattle.std.specs.Prelude.{unwrap_or}
use Rattle.keyed.proofs.Tables.{slot_made}
use Rattle.ns_types.proofs.Named.{numbers}
use Rattle.ns_queues.proofs.Taken.{one_put}
use Rattle.ns_queues.proofs.ready.put.Goals as goal

pub set-requires : goal.set-requires
set-requires c = slot_made numbers _ _ _ c.in_ok-reserve.ensures.ok

pub returns : goal.returns
returns c = one_put c.args.groups.now c.take.new.self c.reserve.new.self c.set.new.self c.args.priority c.unwrap_or-keys.result c.args.key c.take.ensures.slots
    c.in_ok-reserve.ensures.ok (c.set.ensures ∙ ap (λ keys. insert c.reserve.new.self c.args.priority (Some keys)) c.in_ok-push.ensures.ok)
    (c.unwrap_or-keys.ensures ∙ (λ i. unwrap_or (c.take.ensures.row i) (c.new.ensures i)))
