-- What a connection gains are receipts of the steps that its requests ask for.
use Rattle.std.specs.Prelude.{ℕ, List, [], ◌∷◌, All, Result, Ok, Err, IfOk}
use Rattle.std.specs.Result.{IsErrOf}
use Rattle.std.proofs.Common.{refl, subst, sym}
use Rattle.std.proofs.lemmas.List.Elements.{All-append, All-cons, All-nil}
use Rattle.ns_types.specs.declared.reply.Rendered.{Rendered}
use Rattle.ns_types.specs.Wire.Http.{Asked, asked_by, Refused, Whole}
use Rattle.ns_types.specs.Wire.Responses.{Exchange}
use Rattle.ns_http.specs.declared.engine.ConnFault.{ConnFault}
use Rattle.ns_log.specs.declared.receipts.receipt.Receipt.{Receipt}
use Rattle.ns_endpoints.specs.Asking.{asked}
use Rattle.ns_listener.specs.Answering.{Gains, GainsAll, Made}
use Rattle.ns_workers.specs.Growing.{Grows}
use Rattle.ns_listener.specs.Duties.{IsRequested}

-- ---- by the requests of a connection

module _ {D : Type 0} (draws : D → List ℕ → D → Type 0) where
  abbrev Own : Receipt → Type 0
  Own receipt = IsRequested draws receipt.step

  -- by one request
  own_requested : (a : Asked) (old : D) (reply : Rendered) (new : D) (own : List Receipt) → Gains draws (asked a) old reply new own → All Own own
  own_requested a old reply new [] g = All-nil Own
  own_requested a old reply new (receipt ∷ []) g =
      let requested : Own receipt = record {
        request = a;
        wanted = g.wanted;
        drawer = old;
        drawn = new;
        asks_wanted = g.asks_wanted;
        draws_step = g.draws_made;
      } in
      All-cons Own receipt [] requested (All-nil Own)
  own_requested a old reply new (first ∷ second ∷ rest) g = absurd g

  -- by all of a connection
  all_requested : (old : D) (exchanges : List Exchange) (gained : List Receipt) (new : D) → GainsAll draws old exchanges gained new → All Own gained
  all_requested old [] gained new g = subst (All Own) (sym g.0) (All-nil Own)
  all_requested old ((Refused fault, reply) ∷ exchanges) gained new g = all_requested old exchanges gained new g.1
  all_requested old ((Whole m, reply) ∷ exchanges) gained new g =
      subst (All Own) (sym g.4)
      (All-append Own g.1 g.2 (own_requested (asked_by m) old reply g.0 g.1 g.3) (all_requested g.0 exchanges g.2 new g.5))

  pub made_grows : (old : List Receipt × D) (exchanges : List Exchange) (new : List Receipt × D) → Made draws old exchanges new →
      Grows (IsRequested draws) old.0 new.0
  made_grows old exchanges new m = record {
    more = m.gained;
    is_grown = m.added;
    are_own = all_requested old.1 exchanges m.gained new.1 m.gains;
  }

-- however a connection ended
pub in_each_case : {T G : Type 0} (result : Result T ConnFault) → IfOk result (λ _. G) → (IsErrOf result ConnFault.Read → G) →
    (IsErrOf result ConnFault.Write → G) → (IsErrOf result ConnFault.Memory → G) → G
in_each_case (Ok x) ok read write memory = ok
in_each_case (Err ConnFault.Read) ok read write memory = read refl
in_each_case (Err ConnFault.Write) ok read write memory = write refl
in_each_case (Err ConnFault.Memory) ok read write memory = memory refl
