use Rattle.std.proofs.Common.{◌≡◌, ◌≤◌, ◌<◌, get_or, sym, arith, Less, Equal, Greater}
use Rattle.keyed.proofs.Places.{stands, belongs, ahead_of, passed_by}
use Rattle.keyed.proofs.slots.place_in.Goals as goal

pub loop-low-preserved-in-Less : goal.loop-low-preserved-in-Less
loop-low-preserved-in-Less g c =
    let middle = c.between-middle.result in
    let from : c.loop-low.low ≤ middle = c.between-middle.ensures.least in
    let to : middle < c.loop-low.high = c.between-middle.ensures.most in
    let at : g.K.Ord.cmp c.args.key.now (get_or c.args.slots.now middle c.index-slots-middle.result).0 ≡ Less = sym c.in-Less.ensures in
    record {
      in_order = omega arith;
      in_slots = omega arith;
      passed = c.loop-low.invariant.passed;
      ahead = ahead_of g.K.Ord.cmp g.met.K.Ord.total c.args.key.now c.args.slots.now middle c.index-slots-middle.result c.requires (omega arith) at;
    }

pub returns-in-Equal : goal.returns-in-Equal
returns-in-Equal g c =
    let middle = c.between-middle.result in
    let from : c.loop-low.low ≤ middle = c.between-middle.ensures.least in
    let to : middle < c.loop-low.high = c.between-middle.ensures.most in
    let at : g.K.Ord.cmp c.args.key.now (get_or c.args.slots.now middle c.index-slots-middle.result).0 ≡ Equal = sym c.in-Equal.ensures in
    stands g.K.Ord.cmp g.met.K.Ord.total c.args.key.now c.args.slots.now middle c.index-slots-middle.result c.requires (omega arith) at

pub loop-low-preserved : goal.loop-low-preserved
loop-low-preserved g c =
    let middle = c.between-middle.result in
    let from : c.loop-low.low ≤ middle = c.between-middle.ensures.least in
    let to : middle < c.loop-low.high = c.between-middle.ensures.most in
    let at : g.K.Ord.cmp c.args.key.now (get_or c.args.slots.now middle c.index-slots-middle.result).0 ≡ Greater = sym c.in-Greater.ensures in
    record {
      in_order = omega arith;
      in_slots = omega arith;
      passed = passed_by g.K.Ord.cmp g.met.K.Ord.total c.args.key.now c.args.slots.now middle c.index-slots-middle.result c.requires (omega arith) at;
      ahead = c.loop-low.invariant.ahead;
    }

pub returns : goal.returns
returns g c =
    let at : c.loop-low.low ≡ c.loop-low.high = omega arith in
    belongs g.K.Ord.cmp g.met.K.Ord.total c.args.key.now c.args.slots.now c.loop-low.low c.requires (omega arith) c.loop-low.invariant.passed
    (λ j d le lt. c.loop-low.invariant.ahead j d (omega arith) lt)
