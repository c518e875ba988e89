-- `content` meets its contract: 0 where the store has no such slot, else what the slot shows.
use mathlib.Core.Path.{sym, ◌∙◌}
use Rattle.store.proofs.Lifting.{content_none, content_at}
use Rattle.store.proofs.Store.content.Goals as goal

pub returns-then-not-has_slot : goal.returns-then-not-has_slot
returns-then-not-has_slot c =
    let a = c.args in
    content_none a.self a.x.0 a.y.0 (sym c.has_slot.ensures ∙ c.if-not-has_slot.true)

pub returns : goal.returns
returns c =
    let a = c.args in
    content_at a.self a.x.0 a.y.0 (sym c.has_slot.ensures ∙ c.if-not-has_slot.false)
