use Rattle.std.proofs.Common.{◌≤◌, ◌∙◌, ap, length, map, refl, subst, sym, vec_items}
use Rattle.std.proofs.lemmas.List.{length-map}
use Rattle.ns_work_log.specs.Logs.{History}
use Rattle.ns_log.specs.Segments.{Follows, IsGap, joined}
use Rattle.ns_log.proofs.Joined.{given_within}
use Rattle.ns_work_lock.proofs.SettledAlike.{follows, gap_is_unsettled, gaps, is_of, mismatch, no_mismatch, receipts, settled}
use Rattle.ns_work_lock.proofs.ended.Ended.settle.Goals as goal

pub hand_in-requires : goal.hand_in-requires
hand_in-requires g c = c.requires

pub returns-in_default-clause-settled : goal.returns-in_default-clause-settled
returns-in_default-clause-settled g c last f s k = refl

pub returns-in_default-clause-mismatch : goal.returns-in_default-clause-mismatch
returns-in_default-clause-mismatch g c seat place is = no_mismatch _ seat place refl is

pub returns-in_default-clause-counts : goal.returns-in_default-clause-counts
returns-in_default-clause-counts g c never all = absurd (never refl)

-- ---- the segments do not follow each other

pub returns-in-Err-clause-settled : goal.returns-in-Err-clause-settled
returns-in-Err-clause-settled g c last f s k =
    let starts = c.start-given.ensures ∙ ap (λ (h : History). h.start) c.in-Ok.ensures.held in
    let gap = subst (λ x. IsGap 0 x c.start-given.result c.in-Err.place) c.as_slice.ensures.value c.in-Err.ensures.gap in
    gap_is_unsettled c.args.first.now c.args.segments.items c.args.self.held.start c.start-given.result c.args.self.held.log
    (joined c.args.segments.items c.args.self.held.log) c.args.seats.items (map vec_items c.in-Ok.lists.items)
    starts refl c.in-Ok.ensures.receipts c.in-Err.place gap f

pub returns-in-Err-clause-mismatch : goal.returns-in-Err-clause-mismatch
returns-in-Err-clause-mismatch g c seat place is =
    let starts = c.start-given.ensures ∙ ap (λ (h : History). h.start) c.in-Ok.ensures.held in
    let gap = subst (λ x. IsGap 0 x c.start-given.result c.in-Err.place) c.as_slice.ensures.value c.in-Err.ensures.gap in
    gaps c.args.first.now c.args.segments.items c.args.self.held.start c.start-given.result c.args.self.held.log
    (joined c.args.segments.items c.args.self.held.log) c.args.seats.items (map vec_items c.in-Ok.lists.items)
    starts refl c.in-Ok.ensures.receipts c.len-seat.result c.in-Err.place seat place
    (c.len-seat.ensures ∙ c.in-Ok.lists.ok.0 ∙ sym (length-map c.in-Ok.lists.items vec_items)) gap is

pub returns-in-Err-clause-counts : goal.returns-in-Err-clause-counts
returns-in-Err-clause-counts g c never all = c.in-Ok.ensures.counts all

-- ---- no memory to join them

pub returns-in_default-join-clause-settled : goal.returns-in_default-join-clause-settled
returns-in_default-join-clause-settled g c last f s k = refl

pub returns-in_default-join-clause-mismatch : goal.returns-in_default-join-clause-mismatch
returns-in_default-join-clause-mismatch g c seat place is = no_mismatch _ seat place refl is

pub returns-in_default-join-clause-counts : goal.returns-in_default-join-clause-counts
returns-in_default-join-clause-counts g c never all = absurd (never refl)

-- ---- they are joined

pub settle_run-requires : goal.settle_run-requires
settle_run-requires g c =
    let follow = subst (λ x. Follows 0 x c.start-given.result) c.as_slice.ensures.value c.in_default-follow.ensures.ok in
    record {
      given = subst (λ log. c.start-given.result ≤ length log) (sym c.in-Ok-join.ensures)
          (given_within c.args.segments.items c.start-given.result c.into_log.result.items follow);
    }

pub returns-clause-log : goal.returns-clause-log
returns-clause-log g c =
    let starts = c.start-given.ensures ∙ ap (λ (h : History). h.start) c.in-Ok.ensures.held in
    let log = c.into_log.ensures ∙ ap (λ (h : History). h.log) c.in-Ok.ensures.held in
    let joins = c.in-Ok-join.ensures ∙ ap (joined c.args.segments.items) log in
    let follow = subst (λ x. Follows 0 x c.start-given.result) c.as_slice.ensures.value c.in_default-follow.ensures.ok in
    is_of c.args.first.now c.args.segments.items c.args.self.held.start c.start-given.result c.args.self.held.log
    c.in-Ok-join.log.items c.args.seats.items (map vec_items c.in-Ok.lists.items) starts joins c.in-Ok.ensures.receipts follow
    c.settle_run.result c.settle_run.ensures.base c.settle_run.ensures.log c.settle_run.ensures.given

pub returns-clause-follow : goal.returns-clause-follow
returns-clause-follow g c =
    let starts = c.start-given.ensures ∙ ap (λ (h : History). h.start) c.in-Ok.ensures.held in
    let log = c.into_log.ensures ∙ ap (λ (h : History). h.log) c.in-Ok.ensures.held in
    let joins = c.in-Ok-join.ensures ∙ ap (joined c.args.segments.items) log in
    let follow = subst (λ x. Follows 0 x c.start-given.result) c.as_slice.ensures.value c.in_default-follow.ensures.ok in
    follows c.args.first.now c.args.segments.items c.args.self.held.start c.start-given.result c.args.self.held.log
    c.in-Ok-join.log.items c.args.seats.items (map vec_items c.in-Ok.lists.items) starts joins c.in-Ok.ensures.receipts follow
    c.settle_run.result

pub returns-clause-receipts : goal.returns-clause-receipts
returns-clause-receipts g c =
    let starts = c.start-given.ensures ∙ ap (λ (h : History). h.start) c.in-Ok.ensures.held in
    let log = c.into_log.ensures ∙ ap (λ (h : History). h.log) c.in-Ok.ensures.held in
    let joins = c.in-Ok-join.ensures ∙ ap (joined c.args.segments.items) log in
    let follow = subst (λ x. Follows 0 x c.start-given.result) c.as_slice.ensures.value c.in_default-follow.ensures.ok in
    receipts c.args.first.now c.args.segments.items c.args.self.held.start c.start-given.result c.args.self.held.log
    c.in-Ok-join.log.items c.args.seats.items (map vec_items c.in-Ok.lists.items) starts joins c.in-Ok.ensures.receipts follow
    c.settle_run.result c.settle_run.ensures.receipts

pub returns-clause-run : goal.returns-clause-run
returns-clause-run g c = c.settle_run.ensures.run

pub returns-clause-settled : goal.returns-clause-settled
returns-clause-settled g c last f s k =
    let starts = c.start-given.ensures ∙ ap (λ (h : History). h.start) c.in-Ok.ensures.held in
    let log = c.into_log.ensures ∙ ap (λ (h : History). h.log) c.in-Ok.ensures.held in
    let joins = c.in-Ok-join.ensures ∙ ap (joined c.args.segments.items) log in
    let follow = subst (λ x. Follows 0 x c.start-given.result) c.as_slice.ensures.value c.in_default-follow.ensures.ok in
    settled c.args.first.now c.args.segments.items c.args.self.held.start c.start-given.result c.args.self.held.log
    c.in-Ok-join.log.items c.args.seats.items (map vec_items c.in-Ok.lists.items) starts joins c.in-Ok.ensures.receipts follow
    c.settle_run.result c.settle_run.ensures.settled last s k

pub returns-clause-mismatch : goal.returns-clause-mismatch
returns-clause-mismatch g c seat place is =
    let starts = c.start-given.ensures ∙ ap (λ (h : History). h.start) c.in-Ok.ensures.held in
    let log = c.into_log.ensures ∙ ap (λ (h : History). h.log) c.in-Ok.ensures.held in
    let joins = c.in-Ok-join.ensures ∙ ap (joined c.args.segments.items) log in
    let follow = subst (λ x. Follows 0 x c.start-given.result) c.as_slice.ensures.value c.in_default-follow.ensures.ok in
    mismatch c.args.first.now c.args.segments.items c.args.self.held.start c.start-given.result c.args.self.held.log
    c.in-Ok-join.log.items c.args.seats.items (map vec_items c.in-Ok.lists.items) starts joins c.in-Ok.ensures.receipts follow
    c.settle_run.result c.settle_run.ensures.mismatch seat place is

pub returns-clause-counts : goal.returns-clause-counts
returns-clause-counts g c never all = c.in-Ok.ensures.counts all
