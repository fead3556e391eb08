use Rattle.std.proofs.Common.{◌≡◌, ℕ, List, Option, Ok, Err, refl, rules}
use Rattle.std.proofs.lemmas.Result.{err_from_is_err_and}
use Rattle.std.specs.declared.alloc.AllocError.{AllocError}
use Rattle.ns_types.specs.declared.step.AdminCommand.TheVariants as AdminCommand
use Rattle.ns_types.specs.declared.step.NewToken.{NewToken}
use Rattle.ns_types.specs.declared.step.Step.{Step}
use Rattle.ns_types.specs.State.Names.{Name}
use Rattle.ns_endpoints.specs.Asking.{new_token}
use Rattle.ns_endpoints.specs.Drawing.{DrawsTwo, GivesDrawn, random_id, with_texts}
use Rattle.ns_endpoints.proofs.drawing.drawn_token.Goals as goal

-- want of memory after both draws
spent : {D E : Type 0} (draws : D → List ℕ → D → Type 0) (bearer : Option Name) (token : NewToken) (old new : D) (first second : List ℕ) (e : E) →
    DrawsTwo draws old first second new → GivesDrawn draws (Step.Admin bearer (AdminCommand.CreateToken token)) old (Err e) new
spent draws bearer token old new first second e two =
    (Step.Admin bearer (AdminCommand.CreateToken (with_texts (random_id first) (random_id second) token)), (first, second, two, refl), tt)

-- the two texts, in their order
made : {D : Type 0} (draws : D → List ℕ → D → Type 0) (bearer : Option Name) (token : NewToken) (old new : D) (first second : List ℕ)
    (accessor secret : Name) → accessor ≡ random_id first → secret ≡ random_id second → DrawsTwo draws old first second new →
    GivesDrawn {E = AllocError} draws (Step.Admin bearer (AdminCommand.CreateToken token)) old
    (Ok (Step.Admin bearer (AdminCommand.CreateToken (with_texts accessor secret token)))) new
made draws bearer token old new first second accessor secret a s two = (
  Step.Admin bearer (AdminCommand.CreateToken (with_texts (random_id first) (random_id second) token)),
  (first, second, two, refl),
  rw (a, s) refl,
)

pub returns-clause-drawn : goal.returns-clause-drawn
returns-clause-drawn g c =
    rw c.with_texts.ensures (made g.D.Draws.draws c.args.bearer (new_token c.args.token) c.args.draws.now c.draw-second.new.self
    c.draw-first.result c.draw-second.result
    c.in_ok-accessor.accessor c.in_ok-secret.secret c.in_ok-accessor.ensures.text c.in_ok-secret.ensures.text
    (record {
      between = c.draw-first.new.self;
      first_length = search rules;
      second_length = search rules;
      draws_first = c.draw-first.ensures;
      draws_second = c.draw-second.ensures;
    }))

pub returns-in_err-accessor-clause-drawn : goal.returns-in_err-accessor-clause-drawn
returns-in_err-accessor-clause-drawn g c =
    let p = err_from_is_err_and c.from_residual.result c.from_residual.ensures.1 in
    rw p.1
    (spent g.D.Draws.draws c.args.bearer (new_token c.args.token) c.args.draws.now c.draw-second.new.self c.draw-first.result c.draw-second.result p.0
    (record {
      between = c.draw-first.new.self;
      first_length = search rules;
      second_length = search rules;
      draws_first = c.draw-first.ensures;
      draws_second = c.draw-second.ensures;
    }))

pub returns-in_err-secret-clause-drawn : goal.returns-in_err-secret-clause-drawn
returns-in_err-secret-clause-drawn g c =
    let p = err_from_is_err_and c.from_residual-in_err-secret.result c.from_residual-in_err-secret.ensures.1 in
    rw p.1
    (spent g.D.Draws.draws c.args.bearer (new_token c.args.token) c.args.draws.now c.draw-second.new.self c.draw-first.result c.draw-second.result p.0
    (record {
      between = c.draw-first.new.self;
      first_length = search rules;
      second_length = search rules;
      draws_first = c.draw-first.ensures;
      draws_second = c.draw-second.ensures;
    }))
