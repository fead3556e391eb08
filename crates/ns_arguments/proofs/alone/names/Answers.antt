use Rattle.std.proofs.Common.{◌∙◌, ◌++◌, ◌∷◌, [], ap₂, sym}
use Rattle.ns_arguments.proofs.Naming.{no_name, one_more}
use Rattle.ns_arguments.proofs.alone.names.Goals as goal

pub returns-in_default : goal.returns-in_default
returns-in_default c =
    no_name c.args.kind c.args.given.now c.loop-text.text-index _ c.loop-text-test.true (sym c.in_default.is ∙ c.read.ensures)

pub loop-text-preserved : goal.loop-text-preserved
loop-text-preserved c =
    let more = one_more c.args.kind c.args.given.now c.loop-text.text-index _ c.in-Some.name c.loop-text-test.true
    (sym c.in-Some.is ∙ c.read.ensures) c.loop-text.invariant.0 in
    let same = c.in_ok-from_str.ensures ∙ c.as_str.ensures in
    let copied = ap₂ (λ a b. a ++ b ∷ []) c.loop-text.invariant.1 same in
    (more.0, c.in_ok-push.ensures.ok ∙ (copied ∙ sym more.1))
