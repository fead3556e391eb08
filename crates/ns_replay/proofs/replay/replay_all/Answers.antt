use Rattle.std.proofs.Common.{◌≡◌, ◌+◌, ◌++◌, ◌∷◌, [], List, length, take, arith, refl, sym, ap, subst, ◌∙◌}
use Rattle.std.proofs.lemmas.List.{take_all, take_more}
use Rattle.std.proofs.lemmas.Option.{slice_get_read}
use Rattle.ns_json.specs.Replies.{Entry}
use Rattle.ns_types.specs.Isolation.{part_of}
use Rattle.ns_replay.specs.Abreast.{its_part}
use Rattle.ns_replay.specs.Replay.{IsReplayed, own_entries, replies_of}
use Rattle.ns_replay.proofs.Replayed.{beside, fault_at, no_memory, replayed_then, reply_then}
use Rattle.ns_replay.proofs.replay.replay_all.Goals as goal

pub returns-in_err-push_reply-in-Ok-clause-fault : goal.returns-in_err-push_reply-in-Ok-clause-fault
returns-in_err-push_reply-in-Ok-clause-fault c =
    no_memory c.args.claim.now.namespace.now c.args.claim.now.pools.now c.args.claim.now.quotas.now c.args.base.now c.args.entries.now
    c.from_residual.result c.from_residual.ensures.1

pub returns-in-Err-clause-fault : goal.returns-in-Err-clause-fault
returns-in-Err-clause-fault c =
    let log = c.args.entries.now in
    let place = c.loop-place.place in
    fault_at c.args.claim.now.namespace.now c.args.claim.now.pools.now c.args.claim.now.quotas.now c.args.base.now log place place
    c.index-entries-place.result c.loop-place.whole c.loop-place.alone c.in-Err.fault
    (record {
      is_entry = slice_get_read log (length log) place c.index-entries-place.result refl c.loop-place-test.true c.index-entries-place.is;
      before = c.loop-place.invariant.replayed;
    }) c.in-Err.ensures.fault refl

pub loop-place-init : goal.loop-place-init
loop-place-init c = record { replayed = c.requires; told = c.new-replies.ensures.items }

pub loop-place-preserved : goal.loop-place-preserved
loop-place-preserved c =
    let ns = c.args.claim.now.namespace.now in
    let pools = c.args.claim.now.pools.now in
    let quotas = c.args.claim.now.quotas.now in
    let base = c.args.base.now in
    let log = c.args.entries.now in
    let place = c.loop-place.place in
    let entry = c.index-entries-place.result in
    let before = take place log in
    let advanced = c.in-Ok.ensures.advances in
    let more : take (place + 1) log ≡ before ++ entry ∷ [] =
    take_more log place entry c.loop-place-test.true ∙ ap (λ (e : Entry). before ++ e ∷ []) (sym c.index-entries-place.is) in
    record {
      replayed = subst (λ (xs : List Entry). IsReplayed ns pools quotas base xs c.replay_entry.new.whole c.replay_entry.new.alone) (sym more)
          (replayed_then ns pools quotas base before entry c.loop-place.whole c.loop-place.alone c.replay_entry.new.whole c.replay_entry.new.alone c.in-Ok.reply
          c.is_valid.ensures c.loop-place.invariant.replayed advanced);
      told = c.in_ok-push_reply-in-Ok.ensures ∙
          reply_then ns pools quotas base before entry c.loop-place.alone c.replay_entry.new.alone c.in-Ok.reply c.loop-place.replies.items
          c.loop-place.invariant.told advanced.strikes
          ∙ ap (λ (xs : List Entry). replies_of (own_entries (part_of ns pools quotas) xs)) (sym more);
    }

pub replay_entry-requires : goal.replay_entry-requires
replay_entry-requires c =
    beside c.args.claim.now.namespace.now c.args.claim.now.pools.now c.args.claim.now.quotas.now c.args.base.now
    (take c.loop-place.place c.args.entries.now) c.loop-place.whole c.loop-place.alone c.is_valid.ensures
    c.loop-place.invariant.replayed

pub returns-clause-replayed : goal.returns-clause-replayed
returns-clause-replayed c =
    let ns = c.args.claim.now.namespace.now in
    let pools = c.args.claim.now.pools.now in
    let quotas = c.args.claim.now.quotas.now in
    let base = c.args.base.now in
    let log = c.args.entries.now in
    let all : take c.loop-place.place log ≡ log = take_all c.loop-place.place log (omega arith) in
    subst (λ (xs : List Entry). IsReplayed ns pools quotas base xs c.loop-place.whole c.loop-place.alone) all c.loop-place.invariant.replayed

pub returns-clause-logged : goal.returns-clause-logged
returns-clause-logged c =
    let all : take c.loop-place.place c.args.entries.now ≡ c.args.entries.now = take_all c.loop-place.place c.args.entries.now (omega arith) in
    c.loop-place.invariant.told ∙ ap (λ (xs : List Entry). replies_of (own_entries (its_part c.args.claim.now) xs)) all
