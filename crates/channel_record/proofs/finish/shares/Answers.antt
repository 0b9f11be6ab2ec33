use Rattle.std.proofs.Common.{◌≡◌, ◌≤◌, length, map, sym, ap, refl, subst, ℕ, List, replicate, false, ◌∙◌, arith}
use Rattle.std.specs.List.{All}
use Rattle.std.specs.List.Sorted.{IsStrictlyIncreasing}
use Rattle.std.proofs.lemmas.List.{length-replicate, map_push, take_all}
use Rattle.std.proofs.lemmas.List.Elements.{All-nil, All-push}
use Rattle.channel_record.specs.Claims.{AddsClaims, CanClaim}
use Rattle.channel_record.specs.Shares.{AgreesWith, IsAt, lists_of, place_of, places_of}
use Rattle.channel_record.specs.declared.calls.Call.{Call}
use Rattle.channel_record.specs.declared.calls.Outcome.{Outcome}
use Rattle.channel_record.proofs.Claims.{lists-more, none_claimed}
use Rattle.channel_record.proofs.Lists.{all_at, all_taken, map_at}
use Rattle.channel_record.proofs.Written.{refused_clerk, refused_end, written_down}
use Rattle.channel_record.proofs.finish.shares.Goals as goal

pub loop-clerk-preserved : goal.loop-clerk-preserved
loop-clerk-preserved g c =
    let i = c.loop-clerk.invariant in
    let pushed = ap lists_of c.in_ok-push.ensures.items
    ∙ map_push (λ list. list.items) c.loop-clerk.lists.items c.in-Some.places in
    let exact = rw c.in-Some.is at c.in_ok-places.ensures.exact in
    let places = rw c.in-Some.is at c.in_ok-places.ensures.places in
    let claims = rw c.in-Some.is at c.in_ok-places.ensures.claims in
    let can = exact.0 refl in
    record {
      places =
          rw pushed (map_at places_of c.args.clerks.now c.loop-clerk.clerk-index c.clerk-item.result
          (lists_of c.loop-clerk.lists.items) c.in-Some.places.items
          (omega arith) c.clerk-item.is i.places (places ∙ ap (map place_of) c.entries.ensures));
      rise = rw pushed (All-push IsStrictlyIncreasing
          (lists_of c.loop-clerk.lists.items) c.in-Some.places.items i.rise (rw places can.rise));
      agree =
          all_at (AgreesWith c.args.history.now) c.args.clerks.now c.loop-clerk.clerk-index c.clerk-item.result
          (omega arith) c.clerk-item.is i.agree
          (subst (λ (entries : List (ℕ × Call g.row.T.Denot × Outcome g.row.T.Denot)). All
          (IsAt c.args.history.now) entries) c.entries.ensures can.agree);
      counts = rw pushed (lists-more c.loop-clerk.claimed c.claim.new.claimed
          (lists_of c.loop-clerk.lists.items) c.in-Some.places.items i.counts
          (subst (λ (ps : List ℕ). AddsClaims c.loop-clerk.claimed c.claim.new.claimed ps) (sym places) claims));
      long = omega (arith, i.long);
    }

pub returns-clause-places : goal.returns-clause-places
returns-clause-places g c =
    let past : length c.args.clerks.now ≤ c.loop-clerk.clerk-index = omega arith in
    c.loop-clerk.invariant.places ∙ ap (map places_of) (take_all _ _ past)

pub returns-clause-exact : goal.returns-clause-exact
returns-clause-exact g c =
    let past : length c.args.clerks.now ≤ c.loop-clerk.clerk-index = omega arith in
    let i = c.loop-clerk.invariant in (
      λ found. written_down c.args.history.now c.args.clerks.now c.loop-clerk.claimed
          (lists_of c.loop-clerk.lists.items) i.long
          (i.places ∙ ap (map places_of) (take_all _ _ past)) i.counts (c.if-not-are_claimed.ensures.0 refl) i.rise
          (all_taken (AgreesWith c.args.history.now) c.args.clerks.now c.loop-clerk.clerk-index past i.agree),
      λ written. refl,
    )

pub loop-clerk-init : goal.loop-clerk-init
loop-clerk-init g c =
    let none = c.new-lists.ensures.items in
    let flags : c.as_mut_slice-claimed.result.now ≡ replicate (length c.args.history.now) false =
    rw c.as_mut_slice-claimed.ensures.value (c.in_ok-flags.ensures.items_if_clones_equal (λ y same. same)) in
    record {
      places = rw none refl;
      rise = rw none (All-nil IsStrictlyIncreasing);
      agree = All-nil (AgreesWith c.args.history.now);
      counts = λ place. rw none (rw flags (sym (none_claimed (length c.args.history.now) place)));
      long = ap length flags ∙ length-replicate (length c.args.history.now) false;
    }

pub returns-in_default-clause-exact : goal.returns-in_default-clause-exact
returns-in_default-clause-exact g c =
    let i = c.loop-clerk.invariant in
    let exact = rw c.in_default.is at c.in_ok-places.ensures.exact in
    let refused = refused_clerk c.args.history.now c.args.clerks.now c.loop-clerk.clerk-index
    c.clerk-item.result c.loop-clerk.claimed (lists_of c.loop-clerk.lists.items)
    (omega arith) c.clerk-item.is i.long i.places i.counts
    (λ can. let found = exact.1 (subst (λ (entries : List (ℕ × Call g.row.T.Denot × Outcome g.row.T.Denot)).
    CanClaim c.args.history.now c.loop-clerk.claimed entries) (sym c.entries.ensures) can) in cc) in
    (λ found. cc, λ written. absurd (refused written))

pub returns-then-not-are_claimed-clause-exact : goal.returns-then-not-are_claimed-clause-exact
returns-then-not-are_claimed-clause-exact g c =
    let past : length c.args.clerks.now ≤ c.loop-clerk.clerk-index = omega arith in
    let i = c.loop-clerk.invariant in
    let refused = refused_end c.args.history.now c.args.clerks.now c.loop-clerk.claimed
    (lists_of c.loop-clerk.lists.items) i.long (i.places ∙ ap (map places_of) (take_all _ _ past)) i.counts
    (λ all. let found = c.if-not-are_claimed.ensures.1 all in cc) in
    (λ found. cc, λ written. absurd (refused written))
