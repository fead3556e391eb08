-- What a call that makes any step says of it, as bytes.
use Rattle.std.specs.Prelude.{◌≡◌, false, None, Some, Ok, Err, IfErr, IfOk, Option, Result}
use Rattle.std.proofs.Common.{refl, sym, ap, subst, ◌∙◌}
use Rattle.ns_types.specs.declared.refusal.Refusal.{Refusal}
use Rattle.ns_types.specs.declared.reply.Rendered.{Rendered}
use Rattle.ns_types.specs.declared.step.Step.{Step}
use Rattle.ns_types.specs.State.Rows.{State}
use Rattle.ns_types.specs.Steps.{Answer, after, said}
use Rattle.ns_types.proofs.Lists.{not_both}
use Rattle.ns_replay.specs.Making.{MakesAny}
use Rattle.ns_replay.specs.Running.{is_no_step}
use Rattle.ns_replay.specs.Replying.{Replies, Shows}

module _ (step : Step) (s s' : State) where
  pub made_so : (answer : Answer) → IfErr answer (λ refusal. is_no_step refusal ≡ false) → MakesAny step s answer s' → after step s ≡ said answer s'
  made_so (Ok reply) goes m = m
  made_so (Err Refusal.Memory) goes m = not_both refl goes
  made_so (Err Refusal.NotEnabled) goes m = not_both refl goes
  made_so (Err refusal) goes m = m.0 ∙ ap (said (Err refusal)) (sym m.1)

  tells : (answer : Answer) → MakesAny step s answer s' → (told : Option Rendered) → Shows answer told → Replies step s told s'
  tells answer m None shows = subst (λ a. MakesAny step s a s') shows m
  tells answer m (Some reply) shows = record { answer = answer; made = made_so answer shows.0 m; logged = shows.1 }

  pub replies_if : {E : Type 0} (answer : Answer) → MakesAny step s answer s' → (r : Result (Option Rendered) E) → IfOk r (Shows answer) →
      IfOk r (λ told. Replies step s told s')
  replies_if answer m (Ok told) shows = tells answer m told shows
  replies_if answer m (Err error) shows = tt
