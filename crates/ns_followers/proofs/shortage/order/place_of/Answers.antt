use Rattle.std.proofs.Common.{◌≡◌, get_or, arith, Less, Equal}
use Rattle.ns_types.specs.State.Names.{class_cmp}
use Rattle.ns_followers.proofs.Placed.{stands_before, stands_there, stands_last}
use Rattle.ns_followers.proofs.shortage.order.place_of.Goals as goal

pub returns-in-Less : goal.returns-in-Less
returns-in-Less c =
    let at : class_cmp c.args.class.now (get_or c.args.classes.now c.loop-i.i c.index-classes-i.result) ≡ Less = cc in
    (omega arith, stands_before class_cmp c.args.class.now c.args.classes.now c.loop-i.i c.index-classes-i.result c.loop-i.invariant c.loop-i-test.true at)

pub returns-in-Equal : goal.returns-in-Equal
returns-in-Equal c =
    let at : class_cmp c.args.class.now (get_or c.args.classes.now c.loop-i.i c.index-classes-i.result) ≡ Equal = cc in
    stands_there class_cmp c.args.class.now c.args.classes.now c.loop-i.i c.index-classes-i.result c.loop-i.invariant c.loop-i-test.true at

pub returns : goal.returns
returns c = (omega arith, stands_last class_cmp c.args.class.now c.args.classes.now (λ j d l m. c.loop-i.invariant j d (omega arith) m))
