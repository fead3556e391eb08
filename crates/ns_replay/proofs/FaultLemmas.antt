-- At most one fault is the first, and none where a log replays.
use Rattle.std.specs.Prelude.{◌≡◌, ◌≢◌, ℕ, ◌<◌, ◌⊎◌, Bool, true, false, List, [], ◌∷◌, Some, map, slice_get, take}
use Rattle.std.proofs.Common.{zero, suc, refl, sym, ap, subst, ◌∙◌, inl, inr, arith}
use Rattle.std.proofs.lemmas.Bool.{cases_eq, cases_lt}
use Rattle.std.proofs.lemmas.List.{take-take}
use Rattle.ns_types.specs.State.Names.{Name}
use Rattle.ns_types.specs.State.Rows.{State}
use Rattle.ns_types.specs.Steps.{Answer, Run}
use Rattle.ns_types.specs.Validity.{IsValid}
use Rattle.ns_types.proofs.Lists.{not_both}
use Rattle.ns_types.proofs.Tests.{not_Some, same_Some}
use Rattle.ns_audit.proofs.StepLemmas.{one_outcome}
use Rattle.ns_json.specs.Replies.{Entry, IsKept, rendered}
use Rattle.ns_replay.specs.declared.fault.ReplayFault.{ReplayFault}
use Rattle.ns_replay.specs.declared.fault.ReplayFault.TheVariants.{Premise, Differs, NotARun, Memory}
use Rattle.ns_types.specs.Access.Sharing.{is_apart}
use Rattle.ns_types.specs.Isolation.{IsIsolated, alone, is_crowded_out, is_own, part_of, struck, struck_answers}
use Rattle.ns_replay.specs.Abreast.{IsFaultAt}
use Rattle.ns_replay.specs.Laws.{DiffersFromBoth, KeptNeverDiffers, OneFault, OneReplay, ReplayedHasNoFault}
use Rattle.ns_replay.specs.Replying.{Fits, FitsIn}
use Rattle.ns_replay.specs.Replay.{Breaks, IsFault, IsReached, IsReplayed, replies_of, steps_of}
use Rattle.ns_replay.proofs.Determined.{fits_at, run_once}
use Rattle.ns_replay.proofs.Abreast.{first_apart, own_alike}
use Rattle.ns_replay.proofs.Replayed.{beside, run_of}

-- ---- what is replayed is determined

module _ (ns : Name) (pools quotas : List Name) (base : State) (log : List Entry) where
  same_states : (s t x y : State) → IsReplayed ns pools quotas base log s t → IsReplayed ns pools quotas base log x y → (s ≡ x) × (t ≡ y)
  same_states s t x y r q = (
    (run_once base s x (steps_of log) r.answers q.answers (run_of ns pools quotas base s (steps_of log) r.answers r.isolated)
        (run_of ns pools quotas base x (steps_of log) q.answers q.isolated)).1,
    (run_once (alone (part_of ns pools quotas) base) t y (struck (part_of ns pools quotas) (steps_of log))
        (struck_answers (part_of ns pools quotas) (steps_of log) r.answers)
        (struck_answers (part_of ns pools quotas) (steps_of log) q.answers) r.run q.run).1,
  )

pub one_replay : OneReplay
one_replay ns pools quotas base log replies other r q =
    let same = run_once base r.state q.state (steps_of log) r.is_replayed.answers q.is_replayed.answers
    (run_of ns pools quotas base r.state (steps_of log) r.is_replayed.answers r.is_replayed.isolated)
    (run_of ns pools quotas base q.state (steps_of log) q.is_replayed.answers q.is_replayed.isolated) in
    r.replied ∙ ap (λ (answers : List Answer). map rendered (struck_answers (part_of ns pools quotas) (steps_of log) answers)) same.0 ∙ sym q.replied

-- ---- at a place of a log

-- an entry fits, and the premises hold after it
record GoesOn (ns : Name) (pools quotas : List Name) (entry : Entry) (s : State) : Type 0 where
  next : State
  fits : Fits entry s next
  uncrowded : is_crowded_out (part_of ns pools quotas) entry.0 s fits.answer ≡ false
  apart : is_apart next.world ns pools quotas ≡ true

goes_on_at : (ns : Name) (pools quotas : List Name) (log : List Entry) (place : ℕ) (entry : Entry) (s s1 : State)
    (answers : List Answer) → IsIsolated ns pools quotas s (steps_of log) answers s1 →
    map rendered answers ≡ replies_of log → slice_get log place ≡ Some entry →
    (mid : State) × (before : List Answer) × Run s (steps_of (take place log)) before mid × GoesOn ns pools quotas entry mid
goes_on_at ns pools quotas [] place entry s s1 answers i logged at = absurd (not_Some entry at)
goes_on_at ns pools quotas (e ∷ log) place entry s s1 [] i logged at = absurd i
goes_on_at ns pools quotas (e ∷ log) zero entry s s1 (answer ∷ answers) i logged at =
    let here : rendered answer ≡ e.1 = cc in (
      s,
      [],
      refl,
      subst (λ e. GoesOn ns pools quotas e s) (same_Some e entry at) (record {
        next = i.0;
        fits = record { answer = answer; made = i.2; logged = here };
        uncrowded = i.3;
        apart = first_apart ns pools quotas i.0 s1 (steps_of log) answers i.4;
      }),
    )
goes_on_at ns pools quotas (e ∷ log) (suc place) entry s s1 (answer ∷ answers) i logged at =
    let rest : map rendered answers ≡ replies_of log = cc in
    let later = goes_on_at ns pools quotas log place entry i.0 s1 answers i.4 rest at in
    (later.0, answer ∷ later.1, (i.0, i.2, later.2), later.3)

unbroken : (ns : Name) (pools quotas : List Name) (entry : Entry) (s : State) → GoesOn ns pools quotas entry s → Breaks ns pools quotas entry.0 s → ⊥
unbroken ns pools quotas entry s g b = by b.broken
  where
    one : (g.fits.answer ≡ b.answer) × (g.next ≡ b.state)
    one = one_outcome entry.0 s g.next b.state g.fits.answer b.answer g.fits.made b.made

    by : (is_apart b.state.world ns pools quotas ≡ false) ⊎ (is_crowded_out (part_of ns pools quotas) entry.0 s b.answer ≡ true) → ⊥
    by (inl shares) = not_both (ap (λ (x : State). is_apart x.world ns pools quotas) (sym one.1) ∙ g.apart) shares
    by (inr crowded) = not_both crowded (ap (is_crowded_out (part_of ns pools quotas) entry.0 s) (sym one.0) ∙ g.uncrowded)

-- ---- the server that holds the namespace alone

-- a step that breaks no premise is not crowded out
uncrowded_of : (ns : Name) (pools quotas : List Name) (entry : Entry) (s s' : State) → (Breaks ns pools quotas entry.0 s → ⊥) → (f : Fits entry s s') →
    is_crowded_out (part_of ns pools quotas) entry.0 s f.answer ≡ false
uncrowded_of ns pools quotas entry s s' premises f = by (is_crowded_out (part_of ns pools quotas) entry.0 s f.answer) refl
  where
    by : (b : Bool) → is_crowded_out (part_of ns pools quotas) entry.0 s f.answer ≡ b → b ≡ false
    by true is = absurd (premises (record { answer = f.answer; state = s'; made = f.made; broken = inr is }))
    by false is = refl

own_fits : (ns : Name) (pools quotas : List Name) (base s t : State) (log : List Entry) (entry : Entry) → IsValid base →
    IsReplayed ns pools quotas base log s t → (Breaks ns pools quotas entry.0 s → ⊥) → is_own (part_of ns pools quotas) entry.0 ≡ true → FitsIn entry s →
    FitsIn entry t
own_fits ns pools quotas base s t log entry valid r premises own f =
    let next = own_alike ns pools quotas s t (beside ns pools quotas base log s t valid r) entry.0 f.1.answer f.0 f.1.made
    (uncrowded_of ns pools quotas entry s f.0 premises f.1) own in
    (next.0, record { answer = f.1.answer; made = next.1; logged = f.1.logged })

pub differs_from_both : DiffersFromBoth
differs_from_both ns pools quotas base s t log place entry valid reached premises own unlike f =
    unlike (own_fits ns pools quotas base s t (take place log) entry valid reached.before premises own f)

-- ---- faults

module _ (ns : Name) (pools quotas : List Name) (base : State) (valid : IsValid base) where
  -- no entry of a log that replays is at fault
  none_within : (log : List Entry) (s1 t1 : State) → IsReplayed ns pools quotas base log s1 t1 → (place : ℕ) (entry : Entry) (s t : State) →
      IsReached ns pools quotas base log place entry s t → (fault : ReplayFault) → IsFaultAt ns pools quotas entry s t place fault → fault ≢ Memory → ⊥
  none_within log s1 t1 all place entry s t reached fault at known = by fault at known
    where
      there : (mid : State) × (before : List Answer) × Run base (steps_of (take place log)) before mid × GoesOn ns pools quotas entry mid
      there = goes_on_at ns pools quotas log place entry base s1 all.answers all.isolated all.logged reached.is_entry

      goes : GoesOn ns pools quotas entry s
      goes = subst (λ x. GoesOn ns pools quotas entry x) (run_once base there.0 s (steps_of (take place log)) there.1 reached.before.answers there.2
          (run_of ns pools quotas base s (steps_of (take place log)) reached.before.answers reached.before.isolated)).1 there.3

      by : (fault : ReplayFault) → IsFaultAt ns pools quotas entry s t place fault → fault ≢ Memory → ⊥
      by (Premise i) at known = unbroken ns pools quotas entry s goes at.1
      by (Differs i) at known = at.1.unlike (own_fits ns pools quotas base s t (take place log) entry valid reached.before at.1.premises
          at.1.own (goes.next, goes.fits))
      by (NotARun i) at known = at.1.unfit (goes.next, goes.fits)
      by Memory at known = known refl

  -- a fault at an entry
  record Stops (log : List Entry) (fault : ReplayFault) : Type 0 where
    place : ℕ
    entry : Entry
    s : State
    t : State
    reached : IsReached ns pools quotas base log place entry s t
    at : IsFaultAt ns pools quotas entry s t place fault

  data Kinds (log : List Entry) (fault : ReplayFault) : Type 0 where
    at_base : is_apart base.world ns pools quotas ≡ false → fault ≡ Premise 0 → Kinds log fault
    at_entry : Stops log fault → Kinds log fault
    unknown : fault ≡ Memory → Kinds log fault

  kinds : (log : List Entry) (fault : ReplayFault) → IsFault ns pools quotas base log fault → Kinds log fault
  kinds log _ (IsFault.base_shares some shares) = Kinds.at_base shares refl
  kinds log _ (IsFault.breaks place entry s t reached breaks) =
      Kinds.at_entry (record { place = place; entry = entry; s = s; t = t; reached = reached; at = (refl, breaks) })
  kinds log _ (IsFault.differs place entry s t reached differs) =
      Kinds.at_entry (record { place = place; entry = entry; s = s; t = t; reached = reached; at = (refl, differs) })
  kinds log _ (IsFault.no_step place entry s t reached none) =
      Kinds.at_entry (record { place = place; entry = entry; s = s; t = t; reached = reached; at = (refl, none) })
  kinds log _ IsFault.no_memory = Kinds.unknown refl

  apart_at : (log : List Entry) (s t : State) → IsReplayed ns pools quotas base log s t → is_apart base.world ns pools quotas ≡ true
  apart_at log s t r = first_apart ns pools quotas base s (steps_of log) r.answers r.isolated

  taken_at : (log : List Entry) (p q : ℕ) (entry : Entry) → p < q → slice_get log p ≡ Some entry → slice_get (take q log) p ≡ Some entry
  taken_at [] p q entry less at = absurd (not_Some entry at)
  taken_at (e ∷ log) p zero entry less at = absurd (omega arith)
  taken_at (e ∷ log) zero (suc q) entry less at = at
  taken_at (e ∷ log) (suc p) (suc q) entry less at = taken_at log p q entry (omega arith) at

  module _ (log : List Entry) (fault other : ReplayFault) (known : fault ≢ Memory) (also : other ≢ Memory) where
    not_before : (f : Stops log fault) (g : Stops log other) → f.place < g.place → ⊥
    not_before f g less =
        let first = take g.place log in
        let same : take f.place first ≡ take f.place log = take-take f.place g.place log (omega arith) in
        none_within first g.s g.t g.reached.before f.place f.entry f.s f.t
        (record {
          is_entry = taken_at log f.place g.place f.entry less f.reached.is_entry;
          before = subst (λ xs. IsReplayed ns pools quotas base xs f.s f.t) (sym same) f.reached.before;
        }) fault f.at known

  same_fault : (entry : Entry) (s t : State) (place : ℕ) (fault other : ReplayFault) → IsFaultAt ns pools quotas entry s t place fault →
      IsFaultAt ns pools quotas entry s t place other → fault ≢ Memory → other ≢ Memory → fault ≡ other
  same_fault entry s t place (Premise i) (Premise j) f g known also = ap Premise (f.0 ∙ sym g.0)
  same_fault entry s t place (Premise i) (Differs j) f g known also = absurd (g.1.premises f.1)
  same_fault entry s t place (Premise i) (NotARun j) f g known also = absurd (g.1.premises f.1)
  same_fault entry s t place (Differs i) (Premise j) f g known also = absurd (f.1.premises g.1)
  same_fault entry s t place (Differs i) (Differs j) f g known also = ap Differs (f.0 ∙ sym g.0)
  same_fault entry s t place (Differs i) (NotARun j) f g known also = absurd (f.1.unlike (g.1.alike f.1.own))
  same_fault entry s t place (NotARun i) (Premise j) f g known also = absurd (f.1.premises g.1)
  same_fault entry s t place (NotARun i) (Differs j) f g known also = absurd (g.1.unlike (f.1.alike g.1.own))
  same_fault entry s t place (NotARun i) (NotARun j) f g known also = ap NotARun (f.0 ∙ sym g.0)
  same_fault entry s t place Memory other f g known also = absurd (known refl)
  same_fault entry s t place fault Memory f g known also = absurd (also refl)

  same_stop : (log : List Entry) (fault other : ReplayFault) (f : Stops log fault) (g : Stops log other) → f.place ≡ g.place → fault ≢ Memory →
      other ≢ Memory → fault ≡ other
  same_stop log fault other f g same known also =
      let r = subst (λ p. IsReached ns pools quotas base log p f.entry f.s f.t) same f.reached in
      let entry : f.entry ≡ g.entry = same_Some f.entry g.entry (sym r.is_entry ∙ g.reached.is_entry) in
      let states = same_states ns pools quotas base (take g.place log) f.s f.t g.s g.t r.before g.reached.before in
      same_fault g.entry g.s g.t g.place fault other
      (subst (λ p. IsFaultAt ns pools quotas g.entry g.s g.t p fault) same
      (subst (λ e. IsFaultAt ns pools quotas e g.s g.t f.place fault) entry
      (subst (λ x. IsFaultAt ns pools quotas f.entry x g.t f.place fault) states.0
      (subst (λ y. IsFaultAt ns pools quotas f.entry f.s y f.place fault) states.1 f.at)))) g.at known also

  one_of : (log : List Entry) (fault other : ReplayFault) → fault ≢ Memory → other ≢ Memory → Kinds log fault → Kinds log other → fault ≡ other
  one_of log fault other known also (Kinds.unknown e) g = absurd (known e)
  one_of log fault other known also f (Kinds.unknown e) = absurd (also e)
  one_of log fault other known also (Kinds.at_base shares e) (Kinds.at_base _ d) = e ∙ sym d
  one_of log fault other known also (Kinds.at_base shares e) (Kinds.at_entry g) = not_both (apart_at _ _ _ g.reached.before) shares
  one_of log fault other known also (Kinds.at_entry f) (Kinds.at_base shares d) = not_both (apart_at _ _ _ f.reached.before) shares
  one_of log fault other known also (Kinds.at_entry f) (Kinds.at_entry g) = elim (cases_eq f.place g.place) [
    | inl same ↦ same_stop log fault other f g same known also
    | inr differs ↦ elim (cases_lt f.place g.place) [
      | inl less ↦ absurd (not_before log fault other known also f g less)
      | inr more ↦ absurd (not_before log other fault also known g f (omega arith))
    ]
  ]

  none_of : (log : List Entry) (s t : State) (fault : ReplayFault) → IsReplayed ns pools quotas base log s t → fault ≢ Memory → Kinds log fault → ⊥
  none_of log s t fault r known (Kinds.unknown e) = known e
  none_of log s t fault r known (Kinds.at_base shares e) = not_both (apart_at log s t r) shares
  none_of log s t fault r known (Kinds.at_entry f) = none_within log s t r f.place f.entry f.s f.t f.reached fault f.at known

pub one_fault : OneFault
one_fault ns pools quotas base log fault other valid f g known also =
    one_of ns pools quotas base valid log fault other known also (kinds ns pools quotas base valid log fault f) (kinds ns pools quotas base valid log other g)

pub replayed_has_no_fault : ReplayedHasNoFault
replayed_has_no_fault ns pools quotas base log replies fault valid r f known =
    none_of ns pools quotas base valid log r.state r.state_alone fault r.is_replayed known (kinds ns pools quotas base valid log fault f)

-- ---- a log of the server itself

fits_before : (ns : Name) (pools quotas : List Name) (base s : State) (log : List Entry) → IsKept base log s → (place : ℕ) (entry : Entry) (x t : State) →
    IsReached ns pools quotas base log place entry x t → FitsIn entry x
fits_before ns pools quotas base s log kept place entry x t reached =
    let there = fits_at log place entry base s kept.answers kept.run kept.rendering reached.is_entry in
    subst (FitsIn entry) (run_once base there.0 x (steps_of (take place log)) there.1 reached.before.answers there.2
    (run_of ns pools quotas base x (steps_of (take place log)) reached.before.answers reached.before.isolated)).1 there.3

pub kept_never_differs : KeptNeverDiffers
kept_never_differs ns pools quotas base s log place valid kept f = by (kinds ns pools quotas base valid log (Differs place) f)
  where
    not_premise : Differs place ≡ Premise 0 → ⊥
    not_premise e = cc

    by : Kinds ns pools quotas base valid log (Differs place) → ⊥
    by (Kinds.unknown e) = cc
    by (Kinds.at_base shares e) = not_premise e
    by (Kinds.at_entry g) =
        g.at.1.unlike (own_fits ns pools quotas base g.s g.t (take g.place log) g.entry valid g.reached.before g.at.1.premises g.at.1.own
        (fits_before ns pools quotas base s log kept g.place g.entry g.s g.t g.reached))
