use Rattle.std.proofs.Common.{◌≡◌, [], Result, Ok, Err, IfOk, OnOk, sym, subst}
use Rattle.ns_types.specs.Isolation.{part_of}
use Rattle.ns_types.specs.State.Rows.{State}
use Rattle.ns_replay.specs.Replay.{IsFault, IsReplayed, RepliesAlone, own_entries, replies_of}
use Rattle.ns_replay.proofs.Replayed.{replayed_none, replies_alone}
use Rattle.ns_replay.proofs.replay.replay_on.Goals as goal

pub replay_all-replayed-requires : goal.replay_all-replayed-requires
replay_all-replayed-requires c =
    let ns = c.args.claim.now.namespace.now in
    let pools = c.args.claim.now.pools.now in
    let quotas = c.args.claim.now.quotas.now in
    let base = c.args.base.now in
    subst (λ (x : State). IsReplayed ns pools quotas base [] x c.in-Ok.alone) (sym c.requires.same)
    (subst (λ (y : State). IsReplayed ns pools quotas base [] base y) (sym c.in-Ok.ensures) (replayed_none ns pools quotas base c.requires.apart))

pub returns-in_default-clause-fault : goal.returns-in_default-clause-fault
returns-in_default-clause-fault c = IsFault.no_memory

-- where there is an answer, what is known then and what is known of it
both : {V E : Type 0} (r : Result V E) (P : Type 0) (Q R : V → Type 0) → (P → (x : V) → Q x → R x) → OnOk r P → IfOk r Q → IfOk r R
both (Ok x) P Q R f p q = f p x q
both (Err e) P Q R f p q = tt

pub returns-clause-replies : goal.returns-clause-replies
returns-clause-replies c =
    let ns = c.args.claim.now.namespace.now in
    let pools = c.args.claim.now.pools.now in
    let quotas = c.args.claim.now.quotas.now in
    let base = c.args.base.now in
    let log = c.args.entries.now in
    let ran = c.replay_all-replayed in
    both ran.result (IsReplayed ns pools quotas base log ran.new.whole ran.new.alone) (λ replies. replies.items ≡
    replies_of (own_entries (part_of ns pools quotas) log))
    (λ replies. RepliesAlone ns pools quotas base log replies.items)
    (λ replayed replies told. replies_alone ns pools quotas base log ran.new.whole ran.new.alone replies.items replayed told)
    ran.ensures.replayed ran.ensures.logged
