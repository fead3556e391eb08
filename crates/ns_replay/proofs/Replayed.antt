-- A log that is replayed, by one entry more.
use Rattle.std.specs.Prelude.{◌≡◌, ℕ, true, false, cond, List, [], ◌∷◌, ◌++◌, map}
use Rattle.std.specs.Prelude.{Option, Ok, Err, IfErr, IsErrAnd, Result}
use Rattle.std.proofs.Common.{refl, sym, ap, subst, ◌∙◌}
use Rattle.std.proofs.lemmas.List.{append-nil, map_push, map-append}
use Rattle.ns_types.specs.declared.reply.Rendered.{Rendered}
use Rattle.ns_types.specs.declared.step.Step.{Step}
use Rattle.ns_types.specs.State.Names.{Name}
use Rattle.ns_types.specs.State.Rows.{State}
use Rattle.ns_types.specs.Steps.{Answer, Run, after, said}
use Rattle.ns_types.specs.Validity.{IsValid}
use Rattle.ns_types.proofs.Lists.{filter-append}
use Rattle.ns_audit.proofs.StepLemmas.{one_outcome, runs_join}
use Rattle.ns_audit.proofs.Alone.Running.{valid_is_steady}
use Rattle.ns_json.specs.Replies.{Entry, rendered}
use Rattle.ns_replay.specs.declared.fault.ReplayFault.{ReplayFault}
use Rattle.ns_replay.specs.declared.fault.ReplayFault.TheVariants.{Premise, Differs, NotARun, Memory}
use Rattle.ns_types.specs.Access.Sharing.{is_apart}
use Rattle.ns_types.specs.Isolation.{IsIsolated, alone, is_crowded_out, is_own, part_of, struck, struck_answers}
use Rattle.ns_replay.specs.Abreast.{Advances, IsFaultAt, StandsBeside, Strikes, with_reply}
use Rattle.ns_replay.specs.Replying.{Fits}
use Rattle.ns_replay.specs.Replay.{IsFault, IsReached, IsReplayed, RepliesAlone, own_entries, replies_of, steps_of}
use Rattle.ns_replay.proofs.Abreast.{beside_first, beside_run, first_apart, own_alike}

-- ---- isolated runs

module _ (ns : Name) (pools quotas : List Name) where
  pub run_of : (s s1 : State) (steps : List Step) (answers : List Answer) → IsIsolated ns pools quotas s steps answers s1 → Run s steps answers s1
  run_of s s1 [] [] i = i.1
  run_of s s1 (step ∷ steps) (answer ∷ answers) i = (i.0, i.2, run_of i.0 s1 steps answers i.4)
  run_of s s1 [] (answer ∷ answers) i = absurd i
  run_of s s1 (step ∷ steps) [] i = absurd i

  isolated_then : (s mid s' : State) (steps : List Step) (answers : List Answer) (step : Step) (answer : Answer) →
      IsIsolated ns pools quotas s steps answers mid → after step mid ≡ said answer s' → is_crowded_out (part_of ns pools quotas) step mid answer ≡ false →
      is_apart s'.world ns pools quotas ≡ true → IsIsolated ns pools quotas s (steps ++ step ∷ []) (answers ++ answer ∷ []) s'
  isolated_then s mid s' [] [] step answer i made uncrowded apart = (
    s',
    i.0,
    subst (λ x. after step x ≡ said answer s') i.1 made,
    subst (λ x. is_crowded_out (part_of ns pools quotas) step x answer ≡ false) i.1 uncrowded,
    (apart, refl),
  )
  isolated_then s mid s' (first ∷ steps) (told ∷ answers) step answer i made uncrowded apart =
      (i.0, i.1, i.2, i.3, isolated_then i.0 mid s' steps answers step answer i.4 made uncrowded apart)
  isolated_then s mid s' [] (told ∷ answers) step answer i made uncrowded apart = absurd i
  isolated_then s mid s' (first ∷ steps) [] step answer i made uncrowded apart = absurd i

  module _ (base : State) where
    -- one answer more
    struck_then : (s s1 : State) (steps : List Step) (answers : List Answer) (step : Step) (answer : Answer) → IsIsolated ns pools quotas s steps answers s1 →
        struck_answers (part_of ns pools quotas) (steps ++ step ∷ []) (answers ++ answer ∷ []) ≡
        struck_answers (part_of ns pools quotas) steps answers ++ cond (is_own (part_of ns pools quotas) step) (answer ∷ []) []
    struck_then s s1 [] [] step answer i = refl
    struck_then s s1 (first ∷ steps) (told ∷ answers) step answer i =
        let rest = struck_then i.0 s1 steps answers step answer i.4 in
        elim (is_own (part_of ns pools quotas) first) as (λ b. cond b (told ∷
        struck_answers (part_of ns pools quotas) (steps ++ step ∷ []) (answers ++ answer ∷ []))
        (struck_answers (part_of ns pools quotas) (steps ++ step ∷ []) (answers ++ answer ∷ [])) ≡
        cond b (told ∷ struck_answers (part_of ns pools quotas) steps answers) (struck_answers (part_of ns pools quotas) steps answers) ++
        cond (is_own (part_of ns pools quotas) step) (answer ∷ []) []) [
          | true ↦ ap (λ r. told ∷ r) rest
          | false ↦ rest
        ]
    struck_then s s1 [] (told ∷ answers) step answer i = absurd i
    struck_then s s1 (first ∷ steps) [] step answer i = absurd i

    -- the struck run is answered as its entries are logged
    pub struck_logged : (log : List Entry) (answers : List Answer) → map rendered answers ≡ replies_of log →
        map rendered (struck_answers (part_of ns pools quotas) (steps_of log) answers) ≡ replies_of (own_entries (part_of ns pools quotas) log)
    struck_logged [] answers e = refl
    struck_logged (entry ∷ log) [] e = cc
    struck_logged (entry ∷ log) (answer ∷ answers) e =
        let here : rendered answer ≡ entry.1 = cc in
        let later : map rendered answers ≡ replies_of log = cc in
        let rest = struck_logged log answers later in
        elim (is_own (part_of ns pools quotas) entry.0) as (λ b. map rendered (cond b (answer ∷ struck_answers (part_of ns pools quotas) (steps_of log) answers)
        (struck_answers (part_of ns pools quotas) (steps_of log) answers)) ≡
        replies_of (cond b (entry ∷ own_entries (part_of ns pools quotas) log) (own_entries (part_of ns pools quotas) log))) [
          | true ↦ λ i. here i ∷ rest i
          | false ↦ rest
        ]

-- ---- a log that is replayed

module _ (ns : Name) (pools quotas : List Name) (base : State) where
  pub replayed_none : is_apart base.world ns pools quotas ≡ true → IsReplayed ns pools quotas base [] base (alone (part_of ns pools quotas) base)
  replayed_none apart = record { answers = []; isolated = (apart, refl); logged = refl; run = refl }

  pub beside : (log : List Entry) (s t : State) → IsValid base → IsReplayed ns pools quotas base log s t → StandsBeside ns pools quotas s t
  beside log s t valid r = beside_run ns pools quotas base (alone (part_of ns pools quotas) base) s t (steps_of log) r.answers
      (beside_first ns pools quotas base (valid_is_steady base valid) (first_apart ns pools quotas base s (steps_of log) r.answers r.isolated)) r.isolated r.run

  -- what the struck run does beside an entry that fits
  strikes_run : (entry : Entry) (s t s' t' : State) (reply : Option Rendered) (f : Fits entry s s') →
      is_crowded_out (part_of ns pools quotas) entry.0 s f.answer ≡ false →
      StandsBeside ns pools quotas s t →
      Strikes (is_own (part_of ns pools quotas) entry.0) entry t t' reply →
      Run t (cond (is_own (part_of ns pools quotas) entry.0) (entry.0 ∷ []) []) (cond (is_own (part_of ns pools quotas) entry.0) (f.answer ∷ []) []) t'
  strikes_run entry s t s' t' reply f uncrowded a strikes = elim (is_own (part_of ns pools quotas) entry.0) as
      (λ b. is_own (part_of ns pools quotas) entry.0 ≡ b → Strikes b entry t t' reply →
      Run t (cond b (entry.0 ∷ []) []) (cond b (f.answer ∷ []) []) t') [
        | true ↦ λ own strikes.
            let next = own_alike ns pools quotas s t a entry.0 f.answer s' f.made uncrowded own in
            let same = one_outcome entry.0 t next.0 t' f.answer strikes.0.answer next.1 strikes.0.made in
            (t', subst (λ x. after entry.0 t ≡ said f.answer x) same.1 next.1, refl)
        | false ↦ λ other strikes. strikes.0
      ] refl strikes

  module _ (log : List Entry) (entry : Entry) where
    steps_then : steps_of (log ++ entry ∷ []) ≡ steps_of log ++ entry.0 ∷ []
    steps_then = map_push (λ (e : Entry). e.0) log entry

    replies_then : replies_of (log ++ entry ∷ []) ≡ replies_of log ++ entry.1 ∷ []
    replies_then = map_push (λ (e : Entry). e.1) log entry

    pub replayed_then : (s t s' t' : State) (reply : Option Rendered) → IsValid base → IsReplayed ns pools quotas base log s t →
        Advances ns pools quotas entry s t s' t' reply → IsReplayed ns pools quotas base (log ++ entry ∷ []) s' t'
    replayed_then s t s' t' reply valid r a =
        let steps = steps_of log in
        let answers = r.answers ++ a.fits.answer ∷ [] in
        let joined = runs_join (alone (part_of ns pools quotas) base) t t' (struck (part_of ns pools quotas) steps)
        (cond (is_own (part_of ns pools quotas) entry.0) (entry.0 ∷ []) [])
        (struck_answers (part_of ns pools quotas) steps r.answers) (cond (is_own (part_of ns pools quotas) entry.0) (a.fits.answer ∷ []) []) r.run
        (strikes_run entry s t s' t' reply a.fits a.uncrowded (beside log s t valid r) a.strikes) in
        record {
          answers = answers;
          isolated = subst (λ xs. IsIsolated ns pools quotas base xs answers s') (sym steps_then)
              (isolated_then ns pools quotas base s s' steps r.answers entry.0 a.fits.answer r.isolated a.fits.made a.uncrowded a.apart);
          logged = map_push rendered r.answers a.fits.answer ∙ (λ i. r.logged i ++ a.fits.logged i ∷ []) ∙ sym replies_then;
          run = subst (λ xs. Run (alone (part_of ns pools quotas) base) (struck (part_of ns pools quotas) xs)
              (struck_answers (part_of ns pools quotas) xs answers) t') (sym steps_then)
              (subst (λ xs. Run (alone (part_of ns pools quotas) base) xs (struck_answers (part_of ns pools quotas) (steps ++ entry.0 ∷ []) answers) t')
              (sym (filter-append (is_own (part_of ns pools quotas)) steps (entry.0 ∷ [])))
              (subst (λ xs. Run (alone (part_of ns pools quotas) base) (struck (part_of ns pools quotas) steps ++
              cond (is_own (part_of ns pools quotas) entry.0) (entry.0 ∷ []) []) xs t')
              (sym (struck_then ns pools quotas base base s steps r.answers entry.0 a.fits.answer r.isolated)) joined));
        }

-- ---- replies

module _ (ns : Name) (pools quotas : List Name) (base : State) (log : List Entry) where
  pub reply_then : (entry : Entry) (t t' : State) (reply : Option Rendered) (replies : List Rendered) →
      replies ≡ replies_of (own_entries (part_of ns pools quotas) log) →
      Strikes (is_own (part_of ns pools quotas) entry.0) entry t t' reply → with_reply replies reply ≡
      replies_of (own_entries (part_of ns pools quotas) (log ++ entry ∷ []))
  reply_then entry t t' reply replies told strikes =
      elim (is_own (part_of ns pools quotas) entry.0) as (λ b. Strikes b entry t t' reply →
      with_reply replies reply ≡ replies_of (own_entries (part_of ns pools quotas) log) ++ replies_of (cond b (entry ∷ []) [])) [
        | true ↦ λ strikes. ap (with_reply replies) strikes.1 ∙ ap (λ xs. xs ++ entry.1 ∷ []) told
        | false ↦ λ strikes. ap (with_reply replies) strikes.1 ∙ told ∙ sym (append-nil (replies_of (own_entries (part_of ns pools quotas) log)))
      ] strikes
      ∙ sym (map-append (λ (e : Entry). e.1) (own_entries (part_of ns pools quotas) log) (cond (is_own (part_of ns pools quotas) entry.0) (entry ∷ []) []))
      ∙ ap replies_of (sym (filter-append (λ (e : Entry). is_own (part_of ns pools quotas) e.0) log (entry ∷ [])))

  -- all of the log was replayed
  pub replies_alone : (s t : State) (replies : List Rendered) → IsReplayed ns pools quotas base log s t →
      replies ≡ replies_of (own_entries (part_of ns pools quotas) log) →
      RepliesAlone ns pools quotas base log replies
  replies_alone s t replies r told = by log r told
    where
      by : (log : List Entry) → IsReplayed ns pools quotas base log s t →
          replies ≡ replies_of (own_entries (part_of ns pools quotas) log) →
          RepliesAlone ns pools quotas base log replies
      by [] r told = told
      by (entry ∷ log) r told = record {
        state = s;
        state_alone = t;
        is_replayed = r;
        replied = told ∙ sym (struck_logged ns pools quotas base (entry ∷ log) r.answers r.logged);
      }

  -- the fault of an entry is one of the log
  pub fault_at : (place at : ℕ) (entry : Entry) (s t : State) (fault : ReplayFault) → IsReached ns pools quotas base log place entry s t →
      IsFaultAt ns pools quotas entry s t at fault → at ≡ place → IsFault ns pools quotas base log fault
  fault_at place at entry s t (Premise i) reached f same =
      subst (λ p. IsFault ns pools quotas base log (Premise p)) (sym (f.0 ∙ same)) (IsFault.breaks place entry s t reached f.1)
  fault_at place at entry s t (Differs i) reached f same =
      subst (λ p. IsFault ns pools quotas base log (Differs p)) (sym (f.0 ∙ same)) (IsFault.differs place entry s t reached f.1)
  fault_at place at entry s t (NotARun i) reached f same =
      subst (λ p. IsFault ns pools quotas base log (NotARun p)) (sym (f.0 ∙ same)) (IsFault.no_step place entry s t reached f.1)
  fault_at place at entry s t Memory reached f same = IsFault.no_memory

pub no_memory : {A : Type 0} (ns : Name) (pools quotas : List Name) (base : State) (log : List Entry)
    (r : Result A ReplayFault) → IsErrAnd r (λ fault. fault ≡ Memory) →
    IfErr r (IsFault ns pools quotas base log)
no_memory ns pools quotas base log (Ok x) is = tt
no_memory ns pools quotas base log (Err fault) is = subst (IsFault ns pools quotas base log) (sym is) IsFault.no_memory
