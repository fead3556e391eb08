use Rattle.std.proofs.Common.{◌≡◌, ◌∙◌, ◌⊎◌, ◌≤◌, ◌<◌, ℕ, List, Option, ap, refl, subst, sym, inl, inr, arith, string_bytes}
use Rattle.ns_api.specs.declared.following.Driven.{Driven}
use Rattle.ns_http.specs.declared.counting.Counted.{Counted}
use Rattle.ns_pipe.specs.Asking.{IsHelp, IsMistake, IsNoConnection, IsNoReplay}
use Rattle.ns_pipe.specs.Printing.{EndsPrinted}
use Rattle.ns_pipe.specs.ReplayPrinting.{EndsAlone}
use Rattle.ns_pipe.specs.declared.replay.replay.Replay.{Replay}
use Rattle.ns_pipe.specs.declared.asked.WordsRead.{WordsRead}
use Rattle.ns_pipe.specs.declared.nowhere.Nowhere.{Nowhere}
use Rattle.ns_pipe.specs.declared.printed.Printed.{Printed}
use Rattle.ns_listener.specs.declared.service.Service.{Service}
use Rattle.ns_command_line.specs.declared.outcome.RunEnd.{RunEnd}
use Rattle.ns_command_line.specs.declared.wanted.Invocation.{Invocation}
use Rattle.ns_command_line.proofs.run.run_words.Goals as goal

-- what the words come to: a connection, a replay, or help, a mistake or no memory
cases : (asked : WordsRead) →
    ((secret : List ℕ) × (driven : Driven) × (printed : Printed) × (asked ≡ WordsRead.Pipe secret driven printed)) ⊎
    ((replay : Replay) × (asked ≡ WordsRead.Alone replay)) ⊎
    (IsNoConnection asked × IsNoReplay asked ×
    (((text : List ℕ) × IsHelp asked text) ⊎ ((text : List ℕ) × IsMistake asked text) ⊎ (asked ≡ WordsRead.NoMemory)))
cases (WordsRead.Pipe secret driven printed) = inl (secret, driven, printed, refl)
cases (WordsRead.Alone replay) = inr (inl (replay, refl))
cases (WordsRead.Help text) = inr (inr ((λ secret driven printed e. cc), (λ replay e. cc), inl (string_bytes text, refl)))
cases (WordsRead.Mistake text) = inr (inr ((λ secret driven printed e. cc), (λ replay e. cc), inr (inl (string_bytes text, refl))))
cases WordsRead.NoMemory = inr (inr ((λ secret driven printed e. cc), (λ replay e. cc), inr (inr refl)))

no_connection : (asked : WordsRead) → asked ≡ WordsRead.NoMemory → IsNoConnection asked
no_connection asked none secret driven printed e = cc

no_replay : (asked : WordsRead) → asked ≡ WordsRead.NoMemory → IsNoReplay asked
no_replay asked none replay e = cc

mistaken : (asked : WordsRead) (text : List ℕ) → IsMistake asked text → IsNoConnection asked × IsNoReplay asked
mistaken (WordsRead.Pipe secret driven printed) text is = absurd is
mistaken (WordsRead.Alone replay) text is = absurd is
mistaken (WordsRead.Help help) text is = absurd is
mistaken (WordsRead.Mistake reason) text is = ((λ secret driven printed e. cc), (λ replay e. cc))
mistaken WordsRead.NoMemory text is = absurd is

helped : (asked : WordsRead) (text : List ℕ) → IsHelp asked text → IsNoConnection asked × IsNoReplay asked
helped (WordsRead.Pipe secret driven printed) text is = absurd is
helped (WordsRead.Alone replay) text is = absurd is
helped (WordsRead.Help help) text is = ((λ secret driven printed e. cc), (λ replay e. cc))
helped (WordsRead.Mistake reason) text is = absurd is
helped WordsRead.NoMemory text is = absurd is

-- a status of no memory is no other
not_zero : (status : ℕ) → status ≡ 5 → status ≡ 0 → ⊥
not_zero status is zero = omega (arith, is, zero)

not_three : (status : ℕ) → status ≡ 5 → status ≡ 3 → ⊥
not_three status is three = omega (arith, is, three)

not_four : (status : ℕ) → status ≡ 5 → status ≡ 4 → ⊥
not_four status is four = omega (arith, is, four)

module _ {D R W : Type 0} (draws : D → List ℕ → D → Type 0) (remaining : R → Option (List ℕ))
    (contents : W → Option (List ℕ)) where
  -- nothing was read or written, for want of memory
  unserved : (printed : Printed) (secret : List ℕ) (drawer : D) (driven : Driven) (status : ℕ) (reader reader' : Counted R)
      (unprinted : Counted Nowhere) (writer writer' : Counted W) → status ≡ 5 → reader' ≡ reader → writer' ≡ writer →
      EndsPrinted draws remaining contents printed secret drawer driven status reader reader' unprinted writer writer'
  unserved Printed.Replies secret drawer driven status reader reader' unprinted writer writer' is r w = record {
    is_end = inr (inr (inr is));
    served = λ e. absurd (not_zero status is e);
    read_fault = λ e. absurd (not_three status is e);
    write_fault = λ e. absurd (not_four status is e);
    out_of_memory = λ _. (r, w);
  }
  unserved Printed.Log secret drawer driven status reader reader' unprinted writer writer' is r w = record {
    is_end = inr (inr (inr is));
    served = λ e. absurd (not_zero status is e);
    read_fault = λ e. absurd (not_three status is e);
    write_fault = λ e. absurd (not_four status is e);
    out_of_memory = λ _. w;
  }

-- a status of no memory is the greatest
is_greatest : (status : ℕ) → status ≡ 5 → status ≤ 5
is_greatest status is = omega (arith, is)

not_below : (status : ℕ) → status ≡ 5 → status < 3 → ⊥
not_below status is below = omega (arith, is, below)

-- nothing was read or written, for want of memory
unreplayed : {R W : Type 0} (remaining : R → Option (List ℕ)) (contents : W → Option (List ℕ)) (replay : Replay) (status : ℕ)
    (reader reader' : Counted R) (writer writer' : Counted W) → status ≡ 5 → writer' ≡ writer →
    EndsAlone remaining contents replay status reader reader' writer writer'
unreplayed remaining contents replay status reader reader' writer writer' is w = record {
  is_end = is_greatest status is;
  printed = λ e. absurd (not_below status is e);
  read_fault = λ e. absurd (not_three status is e);
  unread = λ e. absurd (not_three status is e);
  write_fault = λ e. absurd (not_four status is e);
  out_of_memory = λ _. w;
}

-- the words ask for one thing
same_run : (a b : WordsRead) → Invocation.Run a ≡ Invocation.Run b → a ≡ b
same_run a b e = cc

same_server : (s t : Service) → Invocation.Serve s ≡ Invocation.Serve t → s ≡ t
same_server s t e = cc

not_run : (service : Service) (asked : WordsRead) → Invocation.Serve service ≡ Invocation.Run asked → ⊥
not_run service asked e = cc

pub returns-in-Run-clause-ended_or_served : goal.returns-in-Run-clause-ended_or_served
returns-in-Run-clause-ended_or_served g c =
    let ran = c.run.ensures in
    elim (cases c.in-Run.asked) [
      | inl pipe ↦ inl (
        pipe.0,
        pipe.1,
        pipe.2,
        c.in-Run.ensures.gives pipe.0 pipe.1 pipe.2 (ap Invocation.Run pipe.3),
        ran.pipe pipe.0 pipe.1 pipe.2 pipe.3,
      )
      | inr other ↦ inr (elim other [
        | inl alone ↦ inl (
          alone.0,
          c.in-Run.ensures.gives_alone alone.0 (ap Invocation.Run alone.1),
          ran.alone alone.0 alone.1,
        )
        | inr answered ↦ let unread = ran.unread answered.0 answered.1 in inr (elim answered.2 [
          | inl help ↦ inl record {
            help = help.0;
            unread = unread;
            written = elim (ran.help help.0 help.1) [
              | inl served ↦ inl (served, ran.shown help.0 help.1 served)
              | inr failed ↦ inr (failed, ran.not_shown help.0 help.1 failed)
            ];
          }
          | inr rest ↦ elim rest [
            | inl mistake ↦ let said = ran.mistake mistake.0 mistake.1 in
                inr (inl record { text = mistake.0; status = said.0; unread = unread; unwritten = said.1; line = said.2 })
            | inr none ↦ let said = ran.no_memory none in
                inr (inr record { status = said.0; unread = unread; unwritten = said.1 })
          ]
        ])
      ])
    ]

pub returns-in-Run-clause-served : goal.returns-in-Run-clause-served
returns-in-Run-clause-served g c = λ secret driven printed good.
    let ran = c.run.ensures in
    elim (c.in-Run.ensures.good secret driven printed good) [
      | inl is ↦ ran.pipe secret driven printed (same_run _ _ is)
      | inr no_run ↦ let none = same_run _ _ no_run in
          unserved g.D.Draws.draws g.R.Read.remaining g.W.Write.contents printed _ _ _ _ _ _ _ _ _ (ran.no_memory none).0
          (ran.unread (no_connection _ none) (no_replay _ none)) (ran.no_memory none).1
    ]

pub returns-in-Run-clause-replayed : goal.returns-in-Run-clause-replayed
returns-in-Run-clause-replayed g c = λ replay good.
    let ran = c.run.ensures in
    elim (c.in-Run.ensures.good_alone replay good) [
      | inl is ↦ ran.alone replay (same_run _ _ is)
      | inr no_run ↦ let none = same_run _ _ no_run in
          unreplayed g.R.Read.remaining g.W.Write.contents _ _ _ _ _ _ (ran.no_memory none).0 (ran.no_memory none).1
    ]

pub returns-in-Run-clause-to_serve : goal.returns-in-Run-clause-to_serve
returns-in-Run-clause-to_serve g c = λ service good.
    let ran = c.run.ensures in
    elim (c.in-Run.ensures.good_serve service good) [
      | inl is ↦ absurd (not_run _ _ (sym is))
      | inr no_run ↦ let none = same_run _ _ no_run in let said = ran.no_memory none in
          inr record { status = said.0; unread = ran.unread (no_connection _ none) (no_replay _ none); unwritten = said.1 }
    ]

pub returns-in-Run-clause-bad : goal.returns-in-Run-clause-bad
returns-in-Run-clause-bad g c = λ bad.
    let ran = c.run.ensures in
    let ends = c.in-Run.ensures.bad bad in
    let same = same_run _ _ ends.1 in
    elim ends.2 [
      | inl mistake ↦ let is = subst (λ a. IsMistake a mistake.0) (sym same) mistake.1 in
          let no = mistaken _ mistake.0 is in let said = ran.mistake mistake.0 is in
          inl record { text = mistake.0; status = said.0; unread = ran.unread no.0 no.1; unwritten = said.1; line = said.2 }
      | inr no_memory ↦ let none = same ∙ no_memory in let said = ran.no_memory none in
          inr record { status = said.0; unread = ran.unread (no_connection _ none) (no_replay _ none); unwritten = said.1 }
    ]

pub returns-in-Run-clause-helped : goal.returns-in-Run-clause-helped
returns-in-Run-clause-helped g c = λ help.
    let ran = c.run.ensures in
    let ends = c.in-Run.ensures.help help in
    let same = same_run _ _ ends.1 in
    elim ends.2 [
      | inl shown ↦ let is = subst (λ a. IsHelp a shown.0) (sym same) shown.1 in
          let no = helped _ shown.0 is in
          inl record {
            help = shown.0;
            unread = ran.unread no.0 no.1;
            written = elim (ran.help shown.0 is) [
              | inl served ↦ inl (served, ran.shown shown.0 is served)
              | inr failed ↦ inr (failed, ran.not_shown shown.0 is failed)
            ];
          }
      | inr no_memory ↦ let none = same ∙ no_memory in let said = ran.no_memory none in
          inr record { status = said.0; unread = ran.unread (no_connection _ none) (no_replay _ none); unwritten = said.1 }
    ]

pub returns-in-Serve-clause-ended_or_served : goal.returns-in-Serve-clause-ended_or_served
returns-in-Serve-clause-ended_or_served g c = record {
  asks = c.in-Serve.ensures.gives_serve c.in-Serve.service refl;
  unread = refl;
  unwritten = refl;
  silent = refl;
}

pub returns-in-Serve-clause-served : goal.returns-in-Serve-clause-served
returns-in-Serve-clause-served g c = λ secret driven printed good.
    elim (c.in-Serve.ensures.good secret driven printed good) [
      | inl is ↦ absurd (not_run _ _ is)
      | inr is ↦ absurd (not_run _ _ is)
    ]

pub returns-in-Serve-clause-replayed : goal.returns-in-Serve-clause-replayed
returns-in-Serve-clause-replayed g c = λ replay good.
    elim (c.in-Serve.ensures.good_alone replay good) [
      | inl is ↦ absurd (not_run _ _ is)
      | inr is ↦ absurd (not_run _ _ is)
    ]

pub returns-in-Serve-clause-to_serve : goal.returns-in-Serve-clause-to_serve
returns-in-Serve-clause-to_serve g c = λ service good.
    elim (c.in-Serve.ensures.good_serve service good) [
      | inl is ↦ inl (ap (λ s. RunEnd.Serve s c.args.reader c.args.writer) (same_server _ _ is))
      | inr is ↦ absurd (not_run _ _ is)
    ]

pub returns-in-Serve-clause-bad : goal.returns-in-Serve-clause-bad
returns-in-Serve-clause-bad g c = λ misgiven. absurd (not_run _ _ (c.in-Serve.ensures.bad misgiven).1)

pub returns-in-Serve-clause-helped : goal.returns-in-Serve-clause-helped
returns-in-Serve-clause-helped g c = λ help. absurd (not_run _ _ (c.in-Serve.ensures.help help).1)
