use Rattle.std.proofs.Common.{map, ap, ◌∙◌, refl, length, ◌≤◌, arith, subst, sym, List, ℕ}
use Rattle.std.proofs.lemmas.List.{take_all}
use Rattle.channel_record.specs.Claims.{AddsClaims, IsFree}
use Rattle.channel_record.specs.Shares.{IsAt, place_of}
use Rattle.channel_record.proofs.Claims.{claims-more, next_of-push, refused_entry, rises-push, rises-strictly, was_free}
use Rattle.channel_record.proofs.Lists.{all_at, all_taken, map_at}
use Rattle.channel_record.proofs.finish.claim.Goals as goal

pub loop-entry-preserved : goal.loop-entry-preserved
loop-entry-preserved g c =
    let i = c.loop-entry.invariant in
    let item = c.entry-item.result in
    let next = c.if-not-is_next.ensures.0 refl in
    record {
      places = rw c.in_ok-push.ensures.items (map_at place_of c.args.entries.now c.loop-entry.entry-index item
          c.loop-entry.places.items (place_of item) (omega arith) c.entry-item.is i.places refl);
      rise = rw c.in_ok-push.ensures.items (rises-push 0 c.loop-entry.places.items c.loop-entry.low
          (place_of item) i.rise next.rises);
      next = rw c.in_ok-push.ensures.items (sym (next_of-push c.loop-entry.places.items (place_of item)));
      agree = all_at (IsAt c.args.history.now) c.args.entries.now c.loop-entry.entry-index item
          (omega arith) c.entry-item.is i.agree next.agrees;
      free = all_at (λ entry. IsFree c.args.claimed.now (place_of entry)) c.args.entries.now
          c.loop-entry.entry-index item (omega arith) c.entry-item.is i.free
          (was_free c.args.claimed.now c.loop-entry.claimed c.loop-entry.places.items (place_of item)
          (omega arith) i.adds next.free);
      adds = rw c.in_ok-push.ensures.items (claims-more c.args.claimed.now c.loop-entry.claimed
          c.loop-entry.places.items (place_of item) next.free i.adds);
    }

pub returns-clause-exact : goal.returns-clause-exact
returns-clause-exact g c =
    let past : length c.args.entries.now ≤ c.loop-entry.entry-index = omega arith in
    let i = c.loop-entry.invariant in
    let places = i.places ∙ ap (map place_of) (take_all _ _ past) in (
      λ found. record {
        agree = all_taken (IsAt c.args.history.now) c.args.entries.now c.loop-entry.entry-index past i.agree;
        rise = rw (← places) (rises-strictly 0 c.loop-entry.places.items c.loop-entry.low i.rise);
        free = all_taken (λ entry. IsFree c.args.claimed.now (place_of entry)) c.args.entries.now
            c.loop-entry.entry-index past i.free;
      },
      λ can. refl,
    )

pub returns-clause-places : goal.returns-clause-places
returns-clause-places g c =
    let past : length c.args.entries.now ≤ c.loop-entry.entry-index = omega arith in
    c.loop-entry.invariant.places ∙ ap (map place_of) (take_all _ _ past)

pub returns-clause-claims : goal.returns-clause-claims
returns-clause-claims g c =
    let past : length c.args.entries.now ≤ c.loop-entry.entry-index = omega arith in
    let places = c.loop-entry.invariant.places ∙ ap (map place_of) (take_all _ _ past) in
    subst (λ (ps : List ℕ). AddsClaims c.args.claimed.now c.loop-entry.claimed ps) places c.loop-entry.invariant.adds

pub returns-then-not-is_next-clause-exact : goal.returns-then-not-is_next-clause-exact
returns-then-not-is_next-clause-exact g c =
    let i = c.loop-entry.invariant in
    let refused = refused_entry c.args.history.now c.args.claimed.now c.loop-entry.claimed c.args.entries.now
    c.loop-entry.entry-index c.entry-item.result c.loop-entry.places.items c.loop-entry.low
    (omega arith) c.entry-item.is (omega arith) i.places i.rise i.next i.adds
    (λ next. let found = c.if-not-is_next.ensures.1 next in cc) in
    (λ found. cc, λ can. absurd (refused can))

pub bounds-claimed-place : goal.bounds-claimed-place
bounds-claimed-place g c = (c.if-not-is_next.ensures.0 refl).free.within

pub overflow_add-low : goal.overflow_add-low
overflow_add-low g c =
    let within = (c.if-not-is_next.ensures.0 refl).free.within in
    omega arith
