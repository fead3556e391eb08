use Rattle.std.proofs.Common.{◌≡◌, rules}
use Rattle.std.specs.Cow.{cow_str_bytes}
use Rattle.form_urlencoded.specs.Form.{raw_pairs}
use Rattle.form_urlencoded.specs.Parse.{pairs_left}
use Rattle.ns_request.specs.Values.{values_of}
use Rattle.ns_request.proofs.FirstValues.{joined-none, joined-first}
use Rattle.ns_request.proofs.parameters.QueryValues.keep_all.Goals as goal

pub loop-pair-init : goal.loop-pair-init
loop-pair-init c =
    let left : pairs_left c.into_iter-pair-iterator.result ≡ raw_pairs c.args.text.now = search rules in
    (tt, tt, rw c.requires (joined-none c.args.text.now (pairs_left c.into_iter-pair-iterator.result) left))

pub loop-pair-preserved-in_ok-keep : goal.loop-pair-preserved-in_ok-keep
loop-pair-preserved-in_ok-keep c =
    let pair = c.in-Some.ensures.steps.0 in
    let decodes = rw c.in_ok-name.was at pair.3 in
    let kept = rw (c.as_str.ensures.value, c.as_str-in-loop-pair.ensures.value) at c.in_ok-keep.ensures in
    let left = pairs_left c.loop-pair.pair-iterator in (
      tt,
      tt,
      joined-first pair.0 pair.1 (cow_str_bytes c.in_ok-name.name) (cow_str_bytes c.in_ok-name.value) c.loop-pair.self c.keep.new.self
          (values_of c.args.text.now) left (pairs_left c.next.new.self) pair.2 decodes.0 decodes.1 kept c.loop-pair.invariant.2,
    )

pub loop-pair-preserved : goal.loop-pair-preserved
loop-pair-preserved c =
    let pair = c.in-Some.ensures.steps.0 in
    let decodes = rw c.in_ok-name.was at pair.3 in
    let kept = rw (c.as_str.ensures.value, c.as_str-in-loop-pair.ensures.value) at c.in_ok-keep.ensures in
    let left = pairs_left c.loop-pair.pair-iterator in (
      tt,
      tt,
      joined-first pair.0 pair.1 (cow_str_bytes c.in_ok-name.name) (cow_str_bytes c.in_ok-name.value) c.loop-pair.self c.keep.new.self
          (values_of c.args.text.now) left (pairs_left c.next.new.self) pair.2 decodes.0 decodes.1 kept c.loop-pair.invariant.2,
    )
