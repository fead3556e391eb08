use Rattle.std.proofs.Common.{◌≡◌, ◌<◌, ◌∙◌, length, sym, subst}
use Rattle.ns_types.proofs.Named.{same_name_is}
use Rattle.ns_types.proofs.Owners.{next_same}
use Rattle.ns_types.proofs.live_rows.same_names.Goals as goal

pub loop-i-preserved : goal.loop-i-preserved
loop-i-preserved c =
    let same : c.index-a-i.result ≡ c.index-b-i.result =
    sym c.get.ensures ∙ same_name_is _ _ (sym c.if-not-same_text.ensures) ∙ c.get-in-loop-i.ensures in
    let in_b : c.loop-i.i < length c.args.b.now = subst (λ n. c.loop-i.i < n) c.loop-i.invariant.1 c.loop-i-test.true in (
      next_same c.args.a.now c.args.b.now c.loop-i.i c.index-a-i.result c.index-b-i.result c.loop-i-test.true in_b c.index-a-i.is c.index-b-i.is same
          c.loop-i.invariant.0,
      c.loop-i.invariant.1,
    )
