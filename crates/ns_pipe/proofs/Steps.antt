-- The steps that a connection's requests made, with all that followed them, and the log of them.
use Rattle.std.proofs.Common.{ℕ, List, [], ◌∷◌, ◌++◌, Option, Result, map, sym, subst}
use Rattle.std.specs.Prelude.{zip}
use Rattle.ns_types.specs.declared.refusal.Refusal.{Refusal}
use Rattle.ns_types.specs.declared.reply.Rendered.{Rendered}
use Rattle.ns_types.specs.declared.snapshot.Snapshot.{Snapshot}
use Rattle.ns_types.specs.declared.step.Step.{Step}
use Rattle.ns_types.specs.State.Lists.{Each}
use Rattle.ns_types.specs.State.Rows.{State}
use Rattle.ns_types.specs.Steps.{Answer}
use Rattle.ns_types.specs.Wire.Http.{End, asked_by, Refused, Whole}
use Rattle.ns_types.specs.Wire.Responses.{Exchange}
use Rattle.ns_types.proofs.Elements.{each_append}
use Rattle.ns_json.specs.Replies.{Entry, rendered}
use Rattle.ns_json.proofs.Posts.{Post}
use Rattle.ns_log_reader.specs.Lines.{IsAsRead}
use Rattle.ns_driver.specs.declared.stopping.Stop.{Stop}
use Rattle.ns_driver.specs.Driving.{IsDriven, MakesMany, Rounds}
use Rattle.ns_driver.specs.Kept.{seen_of}
use Rattle.ns_work_log.specs.Lacking.{HeldLacks}
use Rattle.ns_work_log.specs.Logs.{AreNoted, History, IsNoted}
use Rattle.ns_http.specs.Conversation.{Streams}
use Rattle.ns_endpoints.specs.Asking.{asked}
use Rattle.ns_api.specs.declared.following.Driver.{Driver}
use Rattle.ns_api.specs.Answering.{Holding, Made, MakesFirst, MakesOwn}
use Rattle.ns_api.specs.Cores.{ServedByHeld, state_of}
use Rattle.ns_api.specs.Following.{FollowsBy}
use Rattle.ns_api.specs.Lacking.{LacksRoom}
use Rattle.ns_pipe.specs.Readable.{AreAsRead}
use Rattle.ns_pipe.proofs.Requests.{asked_read, drawn_read}

-- ---- what follows a request

driven_read : (step : Step) → IsDriven step → IsAsRead step
driven_read (Step.Admin secret command) driven = absurd driven
driven_read _ driven = tt

module _ {S : Type 0} (state : S → State) (notes : S → Step → Answer → S → Type 0) (lacks : S → Step → Refusal → Type 0) where
  many_read : (s : S) (has : Option Snapshot) (steps : List Step) (answers : List Answer) (s' : S) (has' : Option Snapshot) →
      MakesMany state notes lacks s has steps answers s' has' → Each IsAsRead steps
  many_read s has _ _ _ _ MakesMany.none = tt
  many_read s has _ _ _ _ (MakesMany.more steps answers mid held s' has' many one) =
      each_append IsAsRead steps (one.step ∷ []) (many_read s has steps answers mid held many) (driven_read one.step one.is_driven, tt)

  rounds_read : (s : S) (has : Option Snapshot) (steps : List Step) (answers : List Answer) (s' : S) (has' : Option Snapshot) (stop : Stop) →
      Rounds state notes lacks s has steps answers s' has' stop → Each IsAsRead steps
  rounds_read s has _ _ _ _ _ (Rounds.limit steps answers s' has' many long) = many_read s has steps answers s' has' many
  rounds_read s has _ _ _ _ _ (Rounds.stopped steps answers s' has' stop many stops) = many_read s has steps answers s' has' many
  rounds_read s has _ _ _ _ _ (Rounds.refused steps answers mid s' has' step refusal many is) =
      each_append IsAsRead steps (step ∷ []) (many_read s has steps answers mid has' many) (driven_read step is.is_driven, tt)

  follows_read : (driver : Driver) (s : S) (steps : List Step) (answers : List Answer) (s' : S) (driver' : Driver) →
      FollowsBy state notes lacks driver s steps answers s' driver' → Each IsAsRead steps
  follows_read Driver.Nobody s steps answers s' driver' follows = subst (Each IsAsRead) (sym follows.0.0) tt
  follows_read (Driver.Worker kept) s steps answers s' (Driver.Worker kept') follows =
      rounds_read s (seen_of kept) steps answers s' (seen_of kept') follows.0 follows.1.makes
  follows_read (Driver.Worker kept) s steps answers s' Driver.Nobody follows = absurd follows

-- ---- a request, and all of a connection

module _ {S D : Type 0} (state : S → State) (notes : S → Step → Answer → S → Type 0) (lacks : S → Step → Refusal → Type 0)
    (wants : S → Refusal → Type 0) (draws : D → List ℕ → D → Type 0) where
  own_read : (asks : Result Step Refusal) (s : S) (old : D) (reply : Rendered) (new : D) (own : List Step) (told : List Answer) →
      MakesOwn state notes wants draws asks s old reply new own told → Post asks IsAsRead → Each IsAsRead own
  own_read asks s old reply new [] told makes h = tt
  own_read asks s old reply new (made ∷ []) (answer ∷ []) makes h =
      (drawn_read draws makes.wanted made old new makes.draws_made (subst (λ r. Post r IsAsRead) makes.asks_wanted h), tt)
  own_read asks s old reply new (made ∷ []) [] makes h = absurd makes
  own_read asks s old reply new (made ∷ []) (answer ∷ other ∷ more) makes h = absurd makes
  own_read asks s old reply new (made ∷ second ∷ rest) told makes h = absurd makes

  first_read : (asks : Result Step Refusal) (old : Holding S D Driver) (reply : Rendered) (new : Holding S D Driver) (steps : List Step)
      (answers : List Answer) (steps' : List Step) (answers' : List Answer) →
      MakesFirst state notes wants draws (FollowsBy state notes lacks) asks old reply new steps answers steps' answers' →
      Post asks IsAsRead → Each IsAsRead steps' → Each IsAsRead steps
  first_read asks old reply new steps answers steps' answers' first h rest =
      let followed = follows_read state notes lacks old.follower first.between first.following first.answered new.taker new.follower first.followed in
      let own = own_read asks old.taker old.draws reply new.draws first.own first.told first.makes_own h in
      subst (Each IsAsRead) (sym first.are_steps)
      (each_append IsAsRead (first.own ++ first.following) steps' (each_append IsAsRead first.own first.following own followed) rest)

  made_read : (old : Holding S D Driver) (exchanges : List Exchange) (steps : List Step) (answers : List Answer) (new : Holding S D Driver) →
      Made state notes wants draws (FollowsBy state notes lacks) old exchanges steps answers new → Each IsAsRead steps
  made_read old [] steps answers new made = subst (Each IsAsRead) (sym made.0) tt
  made_read old ((Refused fault, reply) ∷ exchanges) steps answers new made = made_read old exchanges steps answers new made.1
  made_read old ((Whole m, reply) ∷ exchanges) steps answers new made =
      first_read (asked (asked_by m)) old reply made.0 steps answers made.1 made.2 made.3 (asked_read (asked_by m))
      (made_read made.0 exchanges made.1 made.2 new made.4)

-- ---- the log

noted_read : (steps : List Step) (answers : List Rendered) → Each IsAsRead steps → AreAsRead (zip steps answers)
noted_read [] answers h = tt
noted_read (step ∷ steps) [] h = tt
noted_read (step ∷ steps) (answer ∷ answers) h = (h.0, noted_read steps answers h.1)

pub log_read : {D : Type 0} (draws : D → List ℕ → D → Type 0) (old last : Holding History D Driver) (streams : Streams) (end : End)
    (connection : ServedByHeld draws old last streams end) →
    AreNoted old.taker connection.made.steps connection.made.answers last.taker → AreAsRead old.taker.log → AreAsRead last.taker.log
log_read draws old last streams end connection noted h =
    let run = connection.made in
    let steps = made_read state_of IsNoted HeldLacks LacksRoom draws old connection.conversation.exchanges run.steps run.answers last run.made in
    subst AreAsRead (sym noted.entries)
    (each_append (λ (e : Entry). IsAsRead e.0) old.taker.log (zip run.steps (map rendered run.answers)) h
    (noted_read run.steps (map rendered run.answers) steps))
