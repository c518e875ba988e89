-- `can_hold` meets its contract: the depths where they must be equal, and then the numbers.
use mathlib.Core.Bool.{true}
use mathlib.Core.Path.{◌≡◌, sym, subst, ◌∙◌}
use Prim.Native.Nat.{ℕ, ◌<◌}
use native.Mathlib.Omega.{arith}
use lib.ListN.{get_or}
use Rattle.stacks.specs.Deciding.{Decides}
use Rattle.stacks.proofs.Deciding.{says_not, decides_as, decides_same}
use Rattle.lifts.specs.Lifting.{slot_count}
use Rattle.image.specs.Coding.{codable}
use Rattle.image.specs.Image.{holds}
use Rattle.image.proofs.Forms.{holds_test, width_most}
use Rattle.forms.proofs.can_hold.Goals as goal

pub returns-else-depths_held : goal.returns-else-depths_held
returns-else-depths_held c =
    c.if-depths_held.false ∙ sym (says_not _ (holds_test _ _) (λ h. c.depths_held.ensures.not_so (c.if-depths_held.false) h.equal))

pub returns-then-depths_held : goal.returns-then-depths_held
returns-then-depths_held c =
    let a = c.args in
    let all = subst (λ (n : ℕ). Decides c.all_codable.result ((i : ℕ) → i < slot_count → codable n (get_or a.s.slots i 0) ≡ true)) c.cassette_width.ensures c.all_codable.ensures in
    decides_same _ (holds a.form a.s)
    (decides_as (λ p. record { equal = c.depths_held.ensures.so (c.if-depths_held.true); numbered = p }) (λ h. h.numbered) all) (holds_test a.form a.s)

pub all_codable-requires : goal.all_codable-requires
all_codable-requires c = omega (arith, c.cassette_width.ensures, width_most c.args.form)
