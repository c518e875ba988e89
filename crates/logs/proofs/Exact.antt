-- One answer alone keeps the promise of following a log: two that do are the same (document 01, "Agreement on the contracts").
use mathlib.Core.Path.{◌≡◌, sym, ◌∙◌}
use Rattle.store.specs.declared.Store.{Store}
use Rattle.replay.specs.declared.Played.{Played}
use Rattle.entries.specs.declared.Untrue.{Untrue}
use Rattle.logs.specs.declared.Followed.{Followed}
use Rattle.logs.specs.Following.{Following}
use Rattle.logs.specs.Promises.{FollowedIs, TracedIs}

pub follow_exact : (o : Following) {x y : Followed} → FollowedIs o x → FollowedIs o y → x ≡ y
follow_exact o {x} {y} p q =
    λ i. record { store = (p.store ∙ sym q.store) i; entry = (p.entry ∙ sym q.entry) i; end = q.end.alone x.end p.end.has i }

-- so it is with a log followed in a lent store
pub traced_exact : (o : Following) {t u : Store} {x y : Played Untrue} → TracedIs o t x → TracedIs o u y → (t ≡ u) × (x ≡ y)
traced_exact o {t} {u} {x} p q =
    (p.store ∙ sym q.store, λ i. record { count = (p.entry ∙ sym q.entry) i; end = q.end.alone x.end p.end.has i })
