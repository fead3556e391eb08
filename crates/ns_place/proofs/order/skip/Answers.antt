use Rattle.std.proofs.Common.{◌≡◌, ◌<◌, length, get_or, true, false, sym, ◌∙◌, rules}
use Rattle.std.proofs.lemmas.List.Elements.{at_read}
use Rattle.ns_types.specs.Placing.Placement.{fits}
use Rattle.ns_place.proofs.Walk.{here_inside, here_skipped}
use Rattle.ns_place.proofs.order.skip.Goals as goal

pub bounds-candidates-nodes : goal.bounds-candidates-nodes
bounds-candidates-nodes c = here_inside c.args.size c.args.candidates.now c.args.nodes.now c.loop-i.i c.loop-i-test.true c.loop-i.invariant

pub offset_bounds-candidates-nodes : goal.offset_bounds-candidates-nodes
offset_bounds-candidates-nodes c =
    let lt : get_or c.args.nodes.now c.loop-i.i 0 < length c.args.candidates.now =
    here_inside c.args.size c.args.candidates.now c.args.nodes.now c.loop-i.i c.loop-i-test.true c.loop-i.invariant in
    search rules

pub returns-then-fits-clause-room : goal.returns-then-fits-clause-room
returns-then-fits-clause-room c =
    let k = get_or c.args.nodes.now c.loop-i.i 0 in
    let lt = here_inside c.args.size c.args.candidates.now c.args.nodes.now c.loop-i.i c.loop-i-test.true c.loop-i.invariant in
    λ _. at_read c.args.candidates.now (λ x. fits c.args.size x ≡ true) k c.index-candidates-nodes.result lt c.index-candidates-nodes.is
    (sym c.fits.ensures ∙ c.if-fits.true)

pub loop-i-preserved : goal.loop-i-preserved
loop-i-preserved c =
    let k = get_or c.args.nodes.now c.loop-i.i 0 in
    let lt = here_inside c.args.size c.args.candidates.now c.args.nodes.now c.loop-i.i c.loop-i-test.true c.loop-i.invariant in
    here_skipped c.args.size c.args.candidates.now c.args.nodes.now c.loop-i.i c.loop-i-test.true c.loop-i.invariant
    (at_read c.args.candidates.now (λ x. fits c.args.size x ≡ false) k c.index-candidates-nodes.result lt c.index-candidates-nodes.is
    (sym c.fits.ensures ∙ c.if-fits.false))
