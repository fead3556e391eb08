use Rattle.std.proofs.Common.{ap, ◌∙◌, arith}
use Rattle.ns_types.specs.Placing.Placement.{best_fit}
use Rattle.ns_place.specs.Order.{Walk}
use Rattle.ns_place.proofs.Walk.{found, ended}
use Rattle.ns_place.proofs.order.Order.next.Goals as goal
use Rattle.ns_place.proofs.order.Order.next.Goals.{then-self-len, else-self-len}

pub returns-clause-best : goal.returns-clause-best
returns-clause-best c =
    let cs = c.args.candidates.now in
    let ms = c.deref.result.now in
    let ns = c.self.inside.nodes.items in
    let at = c.skip-self-inside in
    let size_is = ap (λ (w : Walk). best_fit w.size cs) c.self.view_is in
    elim c.if-self-len.branch [
      | then-self-len w ↦
          (found c.self.inside.size cs ms ns c.deref.ensures.value at.result at.ensures.order at.ensures.room c.if-self-len.result
          w.index.result.now (omega arith) w.index.ensures w.result-is).0
      | else-self-len w ↦
          (ended c.self.inside.size cs ms ns c.deref.ensures.value at.result at.ensures.order at.ensures.room c.if-self-len.result
          (omega arith) w.result-is).0
    ] ∙ size_is

pub returns-clause-first : goal.returns-clause-first
returns-clause-first c =
    let cs = c.args.candidates.now in
    let ms = c.deref.result.now in
    let ns = c.self.inside.nodes.items in
    let at = c.skip-self-inside in
    elim c.if-self-len.branch [
      | then-self-len w ↦
          (found c.self.inside.size cs ms ns c.deref.ensures.value at.result at.ensures.order at.ensures.room c.if-self-len.result
          w.index.result.now (omega arith) w.index.ensures w.result-is).1
      | else-self-len w ↦
          (ended c.self.inside.size cs ms ns c.deref.ensures.value at.result at.ensures.order at.ensures.room c.if-self-len.result
          (omega arith) w.result-is).1
    ]
