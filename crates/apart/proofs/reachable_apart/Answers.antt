-- `reachable_apart` meets its contract, by the theorem on groups.
use Rattle.stacks.proofs.Deciding.{fails, decides_as}
use Rattle.store.proofs.Acceptance.{accepted_shaped}
use Rattle.within.proofs.Groups.{apart_exactly}
use Rattle.apart.proofs.reachable_apart.Goals as goal

pub same_elsewhere-requires : goal.same_elsewhere-requires
same_elsewhere-requires c = accepted_shaped _ c.requires.comparable.start

pub returns-then-not-same_elsewhere : goal.returns-then-not-same_elsewhere
returns-then-not-same_elsewhere c =
    fails λ r. c.same_elsewhere.ensures.not_so (c.if-not-same_elsewhere.true) ((apart_exactly _ _ _ c.requires.comparable c.requires.disjoint).0 r).elsewhere

pub returns : goal.returns
returns c =
    let e = apart_exactly _ _ _ c.requires.comparable c.requires.disjoint in
    decides_as (λ r. e.1 (record { elsewhere = c.same_elsewhere.ensures.so (c.if-not-same_elsewhere.false); each = r })) (λ r. (e.0 r).each) c.all_reachable.ensures
