use Rattle.std.proofs.Common.{◌≡◌, ◌-◌, get_or, sym, ap, ◌∙◌, arith, drop, true, subst}
use Rattle.std.proofs.Math.Seq.{drop-length}
use Rattle.std.specs.BTreeSet.{insert_key}
use Rattle.ns_types.specs.declared.snapshot.PoolNode.{PoolNode}
use Rattle.ns_types.specs.State.Names.{class_cmp}
use Rattle.ns_types.specs.State.Rows.{class_of}
use Rattle.ns_types.specs.Placing.Constraint.{is_class_infeasible}
use Rattle.ns_followers.specs.Remembered.{infeasible_among}
use Rattle.ns_followers.proofs.Remembers.{nothing, takes_at}
use Rattle.ns_followers.proofs.shortage.classes.infeasible_among.Goals as goal

pub loop-i-init : goal.loop-i-init
loop-i-init c = c.new-classes.ensures.items ∙ sym (nothing c.args.constraints.now)
    ∙ sym (ap (infeasible_among c.args.constraints.now) (drop-length c.args.nodes.now))

pub loop-i-preserved-in_ok-add : goal.loop-i-preserved-in_ok-add
loop-i-preserved-in_ok-add c =
    let cs = c.args.constraints.now in
    let nodes = c.args.nodes.now in
    let i = c.loop-i.i in
    let node = c.index-nodes-i.result in
    let here : c.get-node.result.now ≡ get_or nodes (i - 1) node = cc in
    let fails : is_class_infeasible cs (get_or nodes (i - 1) node).name (get_or nodes (i - 1) node).row ≡ true =
    subst (λ (p : PoolNode). is_class_infeasible cs p.name p.row ≡ true) here (sym c.is_class_infeasible.ensures ∙ c.if-is_class_infeasible.true) in
    c.in_ok-add.ensures.ok
    ∙ ap (λ ks. insert_key class_cmp ks c.in_ok-class_of.field-0) c.loop-i.invariant
    ∙ ap (insert_key class_cmp (infeasible_among cs (drop i nodes))) (c.in_ok-class_of.ensures ∙ ap (λ (p : PoolNode). class_of p.row) here)
    ∙ sym (takes_at cs nodes i node (omega arith) (omega arith) fails)
