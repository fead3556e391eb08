use Rattle.std.proofs.Common.{ap, sym, ◌∙◌, Some}
use Rattle.std.specs.Option.{option_copied}
use Rattle.ns_types.specs.Working.Looks.{RefusesPlan}
use Rattle.ns_types.proofs.Lists.{not_both}
use Rattle.ns_broker.proofs.submitting.admitted.Goals as goal

pub returns-in_default : goal.returns-in_default
returns-in_default c = RefusesPlan.idle (sym c.worker_at.ensures ∙ ap option_copied c.in_default.is)

pub returns-then-not-is_snapped : goal.returns-then-not-is_snapped
returns-then-not-is_snapped c = RefusesPlan.out_of_turn c.in-Some.worker.now (sym c.worker_at.ensures ∙ ap option_copied c.in-Some.is)
    (sym c.is_snapped.ensures ∙ c.if-not-is_snapped.true)

pub returns-then-not-keeps : goal.returns-then-not-keeps
returns-then-not-keeps c = RefusesPlan.foreign c.in-Some.worker.now
    (sym c.worker_at.ensures ∙ ap option_copied c.in-Some.is, sym c.is_snapped.ensures ∙ c.if-not-is_snapped.false)
    (λ kept. not_both (c.keeps.ensures.1 (kept ∙ ap Some (sym (c.get.ensures ∙ c.snapshot.ensures)))) c.if-not-keeps.true)

pub returns-then-does_nothing : goal.returns-then-does_nothing
returns-then-does_nothing c = RefusesPlan.empty c.in-Some.worker.now
    (sym c.worker_at.ensures ∙ ap option_copied c.in-Some.is, sym c.is_snapped.ensures ∙ c.if-not-is_snapped.false)
    (c.keeps.ensures.0 c.if-not-keeps.false ∙ ap Some (c.get.ensures ∙ c.snapshot.ensures))
    (sym c.does_nothing.ensures ∙ c.if-does_nothing.true)

pub returns : goal.returns
returns c = record {
  in_turn = (sym c.worker_at.ensures ∙ ap option_copied c.in-Some.is, sym c.is_snapped.ensures ∙ c.if-not-is_snapped.false);
  kept = c.keeps.ensures.0 c.if-not-keeps.false ∙ ap Some (c.get.ensures ∙ c.snapshot.ensures);
  does = sym c.does_nothing.ensures ∙ c.if-does_nothing.false;
}
