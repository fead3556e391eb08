use Rattle.std.proofs.Common.{rules, tests, eqb}
use Rattle.std.proofs.lemmas.Iterator.Splits.{YieldsList-from_slice_split}
use Rattle.std.proofs.lemmas.Iterator.Consumers.{nth_from_yields_List}
use Rattle.ns_request.proofs.Parts.{segment_some, segment_none}
use Rattle.ns_request.proofs.target.segment.Goals as goal

pub returns-in-Some : goal.returns-in-Some
returns-in-Some c =
    let found = nth_from_yields_List c.nth.result c.nth.new.self c.args.place c.nth.ensures.ran
    (YieldsList-from_slice_split _ (λ b. eqb b 47) c.as_bytes.result.now c.split.ensures.rest c.split.ensures.done c.split.ensures.closure
    (λ x b q k. search (rules, tests))) in
    segment_some c.as_bytes.result.now c.args.path.now c.args.place c.nth.result c.in-Some.segment c.as_bytes.ensures.value found c.in-Some.is

pub returns-in-None : goal.returns-in-None
returns-in-None c =
    let found = nth_from_yields_List c.nth.result c.nth.new.self c.args.place c.nth.ensures.ran
    (YieldsList-from_slice_split _ (λ b. eqb b 47) c.as_bytes.result.now c.split.ensures.rest c.split.ensures.done c.split.ensures.closure
    (λ x b q k. search (rules, tests))) in
    segment_none c.as_bytes.result.now c.args.path.now c.args.place c.nth.result c.as_bytes.ensures.value found c.in-None.is
