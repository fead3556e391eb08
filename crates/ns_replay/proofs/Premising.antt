-- What a step does to the premises.
use Rattle.std.specs.Prelude.{◌≡◌, ◌⊎◌, Bool, true, false, not, ◌&&◌, List, Option, Some, None, Ok, Err, IsTrue, ◌↔◌}
use Rattle.std.proofs.Common.{refl, sym, ap, subst, ◌∙◌, inl, inr}
use Rattle.std.proofs.Math.Bool.{and-false}
use Rattle.ns_types.specs.declared.refusal.Refusal.{Refusal}
use Rattle.ns_types.specs.declared.reply.Rendered.{Rendered}
use Rattle.ns_types.specs.declared.step.Step.{Step}
use Rattle.ns_types.specs.Access.Sharing.{is_apart}
use Rattle.ns_types.specs.Isolation.{Part, is_crowded_out, is_own, lacks_room, part_of}
use Rattle.ns_types.specs.State.Names.{Name}
use Rattle.ns_types.specs.State.Rows.{State}
use Rattle.ns_types.specs.Steps.{Answer, after, said}
use Rattle.ns_types.proofs.Lists.{not_both}
use Rattle.ns_types.proofs.Named.{second_of_both}
use Rattle.ns_types.proofs.Tests.{is_no, is_yes, not_Some}
use Rattle.ns_audit.specs.Orderly.{IsSteady}
use Rattle.ns_audit.specs.Staying.{puts_namespace}
use Rattle.ns_audit.proofs.Apartness.{apart_step}
use Rattle.ns_json.specs.Replies.{Entry, rendered}
use Rattle.ns_audit.proofs.StepLemmas.{one_outcome, refusal_leaves_all}
use Rattle.ns_replay.specs.Replying.{Fits, FitsIn, Replies, Shows}
use Rattle.ns_replay.proofs.Replied.{made_so}
use Rattle.ns_replay.specs.Making.{MakesAny}
use Rattle.ns_replay.specs.Abreast.{KeepsPremises, breaks_premise}
use Rattle.ns_replay.specs.Replay.{Breaks}

-- ---- a step that was made

module _ (ns : Name) (pools quotas : List Name) (s s' : State) (step : Step) where
  abbrev pub part : Part
  part = part_of ns pools quotas

  -- its own put of a new name, whose table has no room
  abbrev pub crowded : Bool
  crowded = is_own part step && lacks_room step s.world

  abbrev pub apart_then : Bool
  apart_then = is_apart s'.world ns pools quotas

  pub breach : (answer : Answer) → MakesAny step s answer s' → breaks_premise apart_then crowded step answer ≡ true → Breaks ns pools quotas step s
  breach (Ok reply) m e = record { answer = Ok reply; state = s'; made = m; broken = inl (is_no apart_then (second_of_both (puts_namespace step) _ e)) }
  breach (Err Refusal.Full) m e = record { answer = Err Refusal.Full; state = s; made = m.0; broken = inr e }
  breach (Err refusal) m e = not_both (second_of_both crowded _ e) refl

  module _ (steady : IsSteady s) (apart : is_apart s.world ns pools quotas ≡ true) where
    still_apart : (answer : Answer) → after step s ≡ said answer s' → breaks_premise apart_then crowded step answer ≡ false → apart_then ≡ true
    still_apart (Ok reply) made e = by (puts_namespace step) refl e
      where
        by : (b : Bool) → puts_namespace step ≡ b → (b && not apart_then) ≡ false → apart_then ≡ true
        by true put kept = is_yes apart_then kept
        by false other _ = apart_step ns pools quotas s s' step (Ok reply) steady apart other made
    still_apart (Err refusal) made e =
        ap (λ (x : State). is_apart x.world ns pools quotas) (refusal_leaves_all step s s' refusal made) ∙ apart

    not_crowded : (answer : Answer) → breaks_premise apart_then crowded step answer ≡ false → is_crowded_out part step s answer ≡ false
    not_crowded (Ok reply) e = and-false crowded
    not_crowded (Err refusal) e = e

    kept : (answer : Answer) → after step s ≡ said answer s' → breaks_premise apart_then crowded step answer ≡ false → (told : Option Rendered) →
        KeepsPremises ns pools quotas step s told s'
    kept answer made e None = tt
    kept answer made e (Some reply) = (
      still_apart answer made e,
      λ other alike. ap (is_crowded_out part step s) (sym (one_outcome step s s' s' answer other made alike).0) ∙ not_crowded answer e,
    )

    pub keeping : (answer : Answer) → MakesAny step s answer s' → breaks_premise apart_then crowded step answer ≡ false → (told : Option Rendered) →
        Shows answer told → KeepsPremises ns pools quotas step s told s'
    keeping answer m e None shows = tt
    keeping answer m e (Some reply) shows = kept answer (made_so step s s' answer shows.0 m) e (Some reply)

-- ---- what a step was answered

-- it breaks no premise
pub unbroken : (ns : Name) (pools quotas : List Name) (s s' : State) (step : Step) (told : Option Rendered) → Replies step s told s' →
    KeepsPremises ns pools quotas step s told s' → Breaks ns pools quotas step s → ⊥
unbroken ns pools quotas s s' step None told keeps b = not_Some _ (sym told.0 ∙ b.made)
unbroken ns pools quotas s s' step (Some reply) told keeps b = by b.broken
  where
    one : (told.answer ≡ b.answer) × (s' ≡ b.state)
    one = one_outcome step s s' b.state told.answer b.answer told.made b.made

    by : (is_apart b.state.world ns pools quotas ≡ false) ⊎ (is_crowded_out (part_of ns pools quotas) step s b.answer ≡ true) → ⊥
    by (inl shares) = not_both (ap (λ (x : State). is_apart x.world ns pools quotas) (sym one.1) ∙ keeps.0) shares
    by (inr crowded) = not_both crowded (ap (is_crowded_out (part_of ns pools quotas) step s) (sym one.0) ∙ keeps.1 told.answer told.made)

-- it is what is logged
pub fitting : (entry : Entry) (s s' : State) (step : Step) (logged : Rendered) (told : Option Rendered) → step ≡ entry.0 → logged ≡ entry.1 →
    Replies step s told s' → told ≡ Some logged → Fits entry s s'
fitting entry s s' step logged told same_step same tells is =
    subst (λ x. Fits (x, entry.1) s s') same_step (subst (λ r. Fits (step, r) s s') same (subst (λ o. Replies step s o s') is tells))

-- it is not
pub unfitting : (entry : Entry) (s s' : State) (step : Step) (logged : Rendered) (told : Option Rendered) → step ≡ entry.0 → logged ≡ entry.1 →
    Replies step s told s' → (told ≡ Some logged → ⊥) → FitsIn entry s → ⊥
unfitting entry s s' step logged told same_step same tells not_so f = by told tells not_so
  where
    made : after step s ≡ said f.1.answer f.0
    made = subst (λ x. after x s ≡ said f.1.answer f.0) (sym same_step) f.1.made

    by : (told : Option Rendered) → Replies step s told s' → (told ≡ Some logged → ⊥) → ⊥
    by None tells not_so = not_Some _ (sym tells.0 ∙ made)
    by (Some reply) tells not_so = not_so (ap Some (sym tells.logged ∙
        ap rendered (one_outcome step s s' f.0 tells.answer f.1.answer tells.made made).0 ∙ f.1.logged ∙ sym same))

-- a test that says no
pub logged_not : {P : Type 0} {b : Bool} → IsTrue b ↔ P → b ≡ false → P → ⊥
logged_not iff untrue p = not_both (iff.1 p) untrue
