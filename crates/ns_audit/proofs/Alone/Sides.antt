-- On which side of a choice a step is, and what both sides have in common.
use Rattle.std.specs.Prelude.{◌≡◌, Bool, true, false, not, Option, ◌&&◌, ◌||◌, option_map}
use Rattle.std.proofs.Common.{◌⊎◌, inl, inr, refl, ap, ◌∙◌}
use Rattle.ns_types.specs.declared.reply.Content.{Content}
use Rattle.ns_types.specs.declared.step.NodeCommand.{NodeCommand}
use Rattle.ns_types.specs.declared.step.Report.{Report}
use Rattle.ns_types.specs.declared.step.Step.{Step}
use Rattle.ns_types.specs.Asking.Policies.{with_world}
use Rattle.ns_types.specs.Asking.Asks.{ask}
use Rattle.ns_types.specs.Working.Commit.{apply}
use Rattle.ns_types.specs.Isolation.{Part, alone_in, concerns, is_own}
use Rattle.ns_types.specs.State.Names.{Name}
use Rattle.ns_types.specs.Asking.Nodes.{ask_pool}
use Rattle.ns_types.specs.Settling.Outcome.{Outcome, NotEnabled, lift}
use Rattle.ns_types.specs.State.Rows.{State, World, Tenant}
use Rattle.ns_types.specs.Settling.Settle.{settle}
use Rattle.ns_types.specs.Steps.{act, reply_of, is_past_bound, is_tenant_past_bound, is_pool_past_bound, greatest}
use Rattle.ns_types.specs.Working.Work.{dequeue, snap, submit, finish, nack}
use Rattle.std.specs.Prelude.{nat_lt}
use Rattle.ns_types.proofs.Lists.{not_both, each_map, left_none, right_none}
use Rattle.ns_types.proofs.Named.{names, one_name, first_of_both, second_of_both}
use Rattle.ns_types.proofs.Tables.{any_row-chosen, any_row-retain-none}
use Rattle.ns_audit.specs.Apart.{rest, IsWith, IsApart, IsAtHome}
use Rattle.ns_audit.specs.Laws.{is_admin}
use Rattle.ns_audit.proofs.Alone.Chosen.{tenant_alone}
use Rattle.ns_types.proofs.Settling.{settle_same}
use Rattle.ns_audit.proofs.Alone.Settling.{settle_alone}
use Rattle.ns_types.proofs.Tests.{and_yes}

-- ---- the other side

rest_with : (part : Part) (ns pool : Name) (quota : Option Name) → IsWith part ns pool quota → IsWith (rest part) ns pool quota
rest_with part ns pool quota h = record { pool_with = ap not h.pool_with; quota_with = λ q is. ap not (h.quota_with q is) }

pub apart_rest : (part : Part) (w : World) → IsApart part w → IsApart (rest part) w
apart_rest part w apart = record {
  quota = λ ns t q is named. ap not (apart.quota ns t q is named);
  pool = λ ns t p is allowed. ap not (apart.pool ns t p is allowed);
  blocked = each_map (λ key h e at. rest_with part key.0 e.pool e.quota (h e at)) w.blocked apart.blocked;
  allocation = λ ns t n a is at live. ap not (apart.allocation ns t n a is at live);
  job = λ ns t id j is at. ap not (apart.job ns t id j is at);
  held = λ ns t n worker e is at row. ap not (apart.held ns t n worker e is at row);
  kept = λ ns t n worker kept is at has. record {
    namespace = (apart.kept ns t n worker kept is at has).namespace;
    with =
        rest_with part ns kept.pool _ (apart.kept ns t n worker kept is at has).with;
  };
}

-- ---- on which side a step is

-- a report is of the chosen side where its pool and its namespace are, and of the other side where it
-- names another namespace, or another pool in which the chosen namespaces have nothing
abbrev pub ReportsOn : Part → World → Bool → Name → Report → Type 0
ReportsOn part w true pool r = (part.pools pool ≡ true) × (part.spaces r.namespace ≡ true)
ReportsOn part w false pool r = (part.spaces r.namespace ≡ false) ⊎ ((part.pools pool ≡ false) × IsAtHome part w)

abbrev pub AsksPoolOn : Part → World → Bool → Name → NodeCommand → Type 0
AsksPoolOn part w b pool (NodeCommand.Report name r) = ReportsOn part w b pool r
AsksPoolOn part w b pool _ = part.pools pool ≡ b

abbrev pub IsOn : Part → World → Bool → Step → Type 0
IsOn part w b (Step.Ask ns secret command) = part.spaces ns ≡ b
IsOn part w b (Step.Admin secret command) = ⊥
IsOn part w b (Step.Node pool secret command) = AsksPoolOn part w b pool command
IsOn part w b (Step.Dequeue worker ns n) = part.spaces ns ≡ b
IsOn part w b (Step.Snap worker ns) = part.spaces ns ≡ b
IsOn part w b (Step.Submit worker ns) = part.spaces ns ≡ b
IsOn part w b (Step.Apply worker ns) = part.spaces ns ≡ b
IsOn part w b (Step.Finish worker ns) = part.spaces ns ≡ b
IsOn part w b (Step.Nack worker ns) = part.spaces ns ≡ b

-- what a step that is no administrator's changes
abbrev pub change : Step → World → Outcome World
change (Step.Ask ns secret command) w = ask ns command w
change (Step.Admin secret command) w = NotEnabled
change (Step.Node pool secret command) w = ask_pool pool command w
change (Step.Dequeue worker ns n) w = dequeue worker (ns, n) w
change (Step.Snap worker ns) w = snap worker ns w
change (Step.Submit worker ns) w = submit worker ns w
change (Step.Apply worker ns) w = apply worker ns w
change (Step.Finish worker ns) w = finish worker ns w
change (Step.Nack worker ns) w = nack worker ns w

own_pool : (part : Part) (w : World) (pool : Name) (command : NodeCommand) → (part.pools pool && concerns part command) ≡ true →
    AsksPoolOn part w true pool command
own_pool part w pool NodeCommand.ReadPool own = first_of_both _ _ own
own_pool part w pool NodeCommand.ListNodes own = first_of_both _ _ own
own_pool part w pool (NodeCommand.PutNode name offer) own = first_of_both _ _ own
own_pool part w pool (NodeCommand.DeleteNode name) own = first_of_both _ _ own
own_pool part w pool (NodeCommand.SetStatus name status) own = first_of_both _ _ own
own_pool part w pool (NodeCommand.SetEligible name eligible) own = first_of_both _ _ own
own_pool part w pool (NodeCommand.Report name r) own = (first_of_both _ _ own, second_of_both _ _ own)

pub is_of_own : (part : Part) (w : World) (step : Step) → is_own part step ≡ true → is_admin step ≡ false → IsOn part w true step
unfolding is_own
is_of_own part w (Step.Ask ns secret command) own plain = own
is_of_own part w (Step.Admin secret command) own plain = not_both refl plain
is_of_own part w (Step.Node pool secret command) own plain = own_pool part w pool command own
is_of_own part w (Step.Dequeue worker ns n) own plain = own
is_of_own part w (Step.Snap worker ns) own plain = own
is_of_own part w (Step.Submit worker ns) own plain = own
is_of_own part w (Step.Apply worker ns) own plain = own
is_of_own part w (Step.Finish worker ns) own plain = own
is_of_own part w (Step.Nack worker ns) own plain = own

other_pool : (part : Part) (w : World) (pool : Name) (command : NodeCommand) → IsAtHome part w → (part.pools pool && concerns part command) ≡ false →
    AsksPoolOn part w false pool command
other_pool part w pool NodeCommand.ReadPool home other = and_yes _ other
other_pool part w pool NodeCommand.ListNodes home other = and_yes _ other
other_pool part w pool (NodeCommand.PutNode name offer) home other = and_yes _ other
other_pool part w pool (NodeCommand.DeleteNode name) home other = and_yes _ other
other_pool part w pool (NodeCommand.SetStatus name status) home other = and_yes _ other
other_pool part w pool (NodeCommand.SetEligible name eligible) home other = and_yes _ other
other_pool part w pool (NodeCommand.Report name r) home other = by (part.pools pool) refl other
  where
    by : (b : Bool) → part.pools pool ≡ b → (b && part.spaces r.namespace) ≡ false → ReportsOn part w false pool r
    by true is e = inl e
    by false is e = inr (is, home)

pub is_of_other : (part : Part) (w : World) (step : Step) → IsAtHome part w → is_own part step ≡ false → is_admin step ≡ false → IsOn part w false step
unfolding is_own
is_of_other part w (Step.Ask ns secret command) home other plain = other
is_of_other part w (Step.Admin secret command) home other plain = not_both refl plain
is_of_other part w (Step.Node pool secret command) home other plain = other_pool part w pool command home other
is_of_other part w (Step.Dequeue worker ns n) home other plain = other
is_of_other part w (Step.Snap worker ns) home other plain = other
is_of_other part w (Step.Submit worker ns) home other plain = other
is_of_other part w (Step.Apply worker ns) home other plain = other
is_of_other part w (Step.Finish worker ns) home other plain = other
is_of_other part w (Step.Nack worker ns) home other plain = other

rest_pool : (part : Part) (w : World) (pool : Name) (command : NodeCommand) → AsksPoolOn part w true pool command → AsksPoolOn (rest part) w false pool command
rest_pool part w pool NodeCommand.ReadPool own = ap not own
rest_pool part w pool NodeCommand.ListNodes own = ap not own
rest_pool part w pool (NodeCommand.PutNode name offer) own = ap not own
rest_pool part w pool (NodeCommand.DeleteNode name) own = ap not own
rest_pool part w pool (NodeCommand.SetStatus name status) own = ap not own
rest_pool part w pool (NodeCommand.SetEligible name eligible) own = ap not own
rest_pool part w pool (NodeCommand.Report name r) own = inl (ap not own.1)

-- what is its own is not of the rest
pub not_of_rest : (part : Part) (w : World) (step : Step) → IsOn part w true step → IsOn (rest part) w false step
not_of_rest part w (Step.Ask ns secret command) own = ap not own
not_of_rest part w (Step.Admin secret command) own = own
not_of_rest part w (Step.Node pool secret command) own = rest_pool part w pool command own
not_of_rest part w (Step.Dequeue worker ns n) own = ap not own
not_of_rest part w (Step.Snap worker ns) own = ap not own
not_of_rest part w (Step.Submit worker ns) own = ap not own
not_of_rest part w (Step.Apply worker ns) own = ap not own
not_of_rest part w (Step.Finish worker ns) own = ap not own
not_of_rest part w (Step.Nack worker ns) own = ap not own

pub act_is : (step : Step) (s : State) → is_admin step ≡ false → act step s ≡ lift (with_world s.acl) (change step s.world)
unfolding act
act_is (Step.Ask ns secret command) s plain = refl
act_is (Step.Admin secret command) s plain = not_both refl plain
act_is (Step.Node pool secret command) s plain = refl
act_is (Step.Dequeue worker ns n) s plain = refl
act_is (Step.Snap worker ns) s plain = refl
act_is (Step.Submit worker ns) s plain = refl
act_is (Step.Apply worker ns) s plain = refl
act_is (Step.Finish worker ns) s plain = refl
act_is (Step.Nack worker ns) s plain = refl

-- ---- replies

-- with the index that the step's namespace has after it
pub reply_alike : (part : Part) (step : Step) (content : Content) (w : World) → is_own part step ≡ true →
    reply_of step content (alone_in part w) ≡ reply_of step content w
unfolding is_own
reply_alike part (Step.Ask ns secret command) content w own = ap (λ t. record { index = option_map (λ (t : Tenant). t.index) t; content = content })
    (tenant_alone part w ns own)
reply_alike part (Step.Admin secret command) content w own = refl
reply_alike part (Step.Node pool secret command) content w own = refl
reply_alike part (Step.Dequeue worker ns n) content w own = refl
reply_alike part (Step.Snap worker ns) content w own = refl
reply_alike part (Step.Submit worker ns) content w own = refl
reply_alike part (Step.Apply worker ns) content w own = refl
reply_alike part (Step.Finish worker ns) content w own = refl
reply_alike part (Step.Nack worker ns) content w own = refl

-- ---- the bound of the counters

pub over_alone : (part : Part) (x : World) → is_past_bound (alone_in (rest part) x) ≡ false → is_past_bound x ≡ is_past_bound (alone_in part x)
unfolding is_past_bound
over_alone part x e = λ i.
    any_row-chosen names one_name (λ _ t. is_tenant_past_bound t) x.tenants part.spaces (left_none _ _ (left_none _ _ e)) i
    || any_row-chosen names one_name (λ _ p. is_pool_past_bound p) x.pools part.pools (right_none _ _ (left_none _ _ e)) i
    || any_row-chosen names one_name (λ _ q. nat_lt greatest q.release) x.quotas part.quotas (right_none _ _ e) i

pub over_part : (part : Part) (x : World) → is_past_bound x ≡ false → is_past_bound (alone_in part x) ≡ false
unfolding is_past_bound
over_part part x e = λ i.
    any_row-retain-none names one_name (λ _ t. is_tenant_past_bound t) x.tenants part.spaces (left_none _ _ (left_none _ _ e)) i
    || any_row-retain-none names one_name (λ _ p. is_pool_past_bound p) x.pools part.pools (right_none _ _ (left_none _ _ e)) i
    || any_row-retain-none names one_name (λ _ q. nat_lt greatest q.release) x.quotas part.quotas (right_none _ _ e) i

-- a change that leaves the chosen owners leaves them when all is settled, too
pub settled_leaves : (part : Part) (w w' : World) → IsApart part w → alone_in part w' ≡ alone_in part w → alone_in part (settle w w') ≡ alone_in part w
settled_leaves part w w' apart leaves = settle_alone part w w' apart ∙ ap (settle (alone_in part w)) leaves ∙ settle_same (alone_in part w)
