use Rattle.std.proofs.Common.{sym, ap, ◌∙◌}
use Rattle.std.specs.Prelude.{◌&&◌}
use Rattle.ns_types.specs.State.Names.{same_key, same_name, same_number}
use Rattle.ns_change.proofs.Any.{any_here, any_later, any_none}
use Rattle.ns_change.proofs.queueing.has_number.Goals as goal
use Rattle.ns_change.proofs.queueing.has_number.Goals.{else-same_text-via-then-same_text+else-same_number, else-same_text-via-else-same_text}

pub returns-then-same_number : goal.returns-then-same_number
returns-then-same_number c =
    let named = ap (same_name c.args.namespace.now) (sym c.namespace.ensures) ∙ sym c.same_text.ensures ∙ c.if-same_text.true in
    let numbered = ap (same_number c.args.number) (sym c.number.ensures) ∙ sym c.same_number.ensures ∙ c.if-same_number.true in
    any_here (same_key (c.args.namespace.now, c.args.number)) c.args.keys.now c.loop-key.key-index c.key-item.result c.loop-key-test.true c.key-item.is
    (λ i. named i && numbered i)

pub loop-key-preserved : goal.loop-key-preserved
loop-key-preserved c =
    let same = ap (same_name c.args.namespace.now) (sym c.namespace.ensures) ∙ sym c.same_text.ensures in
    any_later (same_key (c.args.namespace.now, c.args.number)) c.args.keys.now c.loop-key.key-index c.key-item.result c.loop-key-test.true c.key-item.is
    (elim c.else-same_text.branch [
      | else-same_text-via-then-same_text+else-same_number w ↦ (λ i. (same ∙ w.if-same_text.true) i &&
          (ap (same_number c.args.number) (sym w.number.ensures) ∙ sym w.same_number.ensures ∙ w.if-same_number.false) i)
      | else-same_text-via-else-same_text w ↦ ap (λ b. b && same_number c.args.number c.key-item.result.1) (same ∙ w.if-same_text.false)
    ]) c.loop-key.invariant

pub returns : goal.returns
returns c = any_none (same_key (c.args.namespace.now, c.args.number)) c.args.keys.now c.loop-key.key-index c.loop-key-test.false c.loop-key.invariant
