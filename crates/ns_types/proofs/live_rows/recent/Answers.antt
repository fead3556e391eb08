use Rattle.std.proofs.Common.{◌∙◌, ◌-◌, arith, get_or, length, refl, sym, ap}
use Rattle.std.proofs.lemmas.Option.{slice_get_read}
use Rattle.ns_types.proofs.Named.{same_name_is}
use Rattle.ns_types.proofs.live_rows.recent.Goals as goal

pub returns-then-same_text : goal.returns-then-same_text
returns-then-same_text c =
    let held = c.loop-place.invariant in
    let there = c.loop-place-test.true in
    let is = sym (same_name_is _ _ (sym c.if-same_text.ensures)) ∙ c.get.ensures in
    slice_get_read c.args.names.now (length c.args.names.now) _ c.args.name.now refl (omega arith)
    (is ∙ c.index-names-place.is ∙ ap (λ d. get_or c.args.names.now (c.loop-place.place - 1) d) (sym is))
