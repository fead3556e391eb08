use Rattle.std.proofs.Common.{ap, sym, ◌∙◌, Some}
use Rattle.std.specs.Option.{option_copied}
use Rattle.ns_types.specs.Working.Looks.{RefusesFinish}
use Rattle.ns_types.proofs.Lists.{not_both}
use Rattle.ns_followers.proofs.finishing.admitted.Goals as goal

pub returns-in_default : goal.returns-in_default
returns-in_default c = RefusesFinish.idle (sym c.worker_at.ensures ∙ ap option_copied c.in_default.is)

pub returns-then-not-is_ending : goal.returns-then-not-is_ending
returns-then-not-is_ending c = RefusesFinish.out_of_turn c.in-Some.worker.now (sym c.worker_at.ensures ∙ ap option_copied c.in-Some.is)
    (sym c.is_ending.ensures ∙ c.if-not-is_ending.true)

pub returns-then-not-keeps : goal.returns-then-not-keeps
returns-then-not-keeps c = RefusesFinish.foreign c.in-Some.worker.now
    (sym c.worker_at.ensures ∙ ap option_copied c.in-Some.is, sym c.is_ending.ensures ∙ c.if-not-is_ending.false)
    (λ kept. not_both (c.keeps.ensures.1 (kept ∙ ap Some (sym (c.get.ensures ∙ c.snapshot.ensures)))) c.if-not-keeps.true)

pub returns-then-not-may_finish : goal.returns-then-not-may_finish
returns-then-not-may_finish c = RefusesFinish.unplaced c.in-Some.worker.now
    (sym c.worker_at.ensures ∙ ap option_copied c.in-Some.is, sym c.is_ending.ensures ∙ c.if-not-is_ending.false)
    (c.keeps.ensures.0 c.if-not-keeps.false ∙ ap Some (c.get.ensures ∙ c.snapshot.ensures))
    (sym c.may_finish.ensures ∙ c.if-not-may_finish.true)

pub returns : goal.returns
returns c = record {
  at_end = (sym c.worker_at.ensures ∙ ap option_copied c.in-Some.is, sym c.is_ending.ensures ∙ c.if-not-is_ending.false);
  kept = c.keeps.ensures.0 c.if-not-keeps.false ∙ ap Some (c.get.ensures ∙ c.snapshot.ensures);
  may = sym c.may_finish.ensures ∙ c.if-not-may_finish.false;
}
