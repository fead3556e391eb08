use Rattle.std.proofs.Common.{◌≡◌, ◌∙◌, ℕ, List, Option, subst, sym}
use Rattle.ns_http.specs.declared.counting.Counted.{Counted}
use Rattle.ns_types.specs.State.Names.{Name}
use Rattle.ns_api.specs.declared.following.Driven.{Driven}
use Rattle.ns_pipe.specs.Ending.{uncounted}
use Rattle.ns_pipe.specs.Printing.{EndsPrinted}
use Rattle.ns_pipe.specs.ReplayPrinting.{EndsAlone}
use Rattle.ns_pipe.specs.declared.replay.replay.Replay.{Replay}
use Rattle.ns_pipe.specs.declared.asked.WordsRead.{WordsRead}
use Rattle.ns_pipe.specs.declared.nowhere.Nowhere.{Nowhere}
use Rattle.ns_pipe.specs.declared.printed.Printed.{Printed}
use Rattle.ns_pipe.proofs.running.run.Goals as goal

same_secret : (s t : Name) (d e : Driven) (p q : Printed) → WordsRead.Pipe s d p ≡ WordsRead.Pipe t e q → s ≡ t
same_secret s t d e p q is = cc

same_driven : (s t : Name) (d e : Driven) (p q : Printed) → WordsRead.Pipe s d p ≡ WordsRead.Pipe t e q → d ≡ e
same_driven s t d e p q is = cc

same_printed : (s t : Name) (d e : Driven) (p q : Printed) → WordsRead.Pipe s d p ≡ WordsRead.Pipe t e q → p ≡ q
same_printed s t d e p q is = cc

-- by what was asked, with an equal writer
ended : {D R W : Type 0} (draws : D → List ℕ → D → Type 0) (remaining : R → Option (List ℕ)) (contents : W → Option (List ℕ)) (s t : Name)
    (x : D) (d e : Driven) (p q : Printed) (status : ℕ) (reader reader' : Counted R) (other : Counted Nowhere) (w v : W) (writer' : Counted W) →
    WordsRead.Pipe s d p ≡ WordsRead.Pipe t e q → w ≡ v →
    EndsPrinted draws remaining contents p s x d status reader reader' other (uncounted w) writer' →
    EndsPrinted draws remaining contents q t x e status reader reader' other (uncounted v) writer'
ended draws remaining contents s t x d e p q status reader reader' other w v writer' is same h =
    subst (λ a. EndsPrinted draws remaining contents q a x e status reader reader' other (uncounted v) writer') (same_secret s t d e p q is)
    (subst (λ a. EndsPrinted draws remaining contents q s x a status reader reader' other (uncounted v) writer') (same_driven s t d e p q is)
    (subst (λ a. EndsPrinted draws remaining contents a s x d status reader reader' other (uncounted v) writer') (same_printed s t d e p q is)
    (subst (λ a. EndsPrinted draws remaining contents p s x d status reader reader' other (uncounted a) writer') same h)))

same_replay : (a b : Replay) → WordsRead.Alone a ≡ WordsRead.Alone b → a ≡ b
same_replay a b is = cc

-- by what was asked, with an equal reader and an equal writer
replayed : {R W : Type 0} (remaining : R → Option (List ℕ)) (contents : W → Option (List ℕ)) (a b : Replay) (status : ℕ)
    (reader reader' : Counted R) (w v : W) (writer' : Counted W) → WordsRead.Alone a ≡ WordsRead.Alone b → w ≡ v →
    EndsAlone remaining contents a status reader reader' (uncounted w) writer' →
    EndsAlone remaining contents b status reader reader' (uncounted v) writer'
replayed remaining contents a b status reader reader' w v writer' is same h =
    subst (λ r. EndsAlone remaining contents r status reader reader' (uncounted v) writer') (same_replay a b is)
    (subst (λ x. EndsAlone remaining contents a status reader reader' (uncounted x) writer') same h)

pub returns-in-Alone-clause-alone : goal.returns-in-Alone-clause-alone
returns-in-Alone-clause-alone g c = λ replay is.
    replayed g.R.Read.remaining g.W.Write.contents _ replay _ _ _ _ _ _ (sym c.in-Alone.is ∙ is)
    (c.into_inner-writer-in-Alone.ensures ∙ c.new-output.ensures.inner) c.replay.ensures.ended

pub returns-in-Pipe-clause-pipe : goal.returns-in-Pipe-clause-pipe
returns-in-Pipe-clause-pipe g c = λ secret driven printed is.
    ended g.D.Draws.draws g.R.Read.remaining g.W.Write.contents _ secret _ _ driven _ printed _ _ _ _ _ _ _ (sym c.in-Pipe.is ∙ is)
    (c.into_inner-writer.ensures ∙ c.new-output.ensures.inner) c.converse.ensures.ended
