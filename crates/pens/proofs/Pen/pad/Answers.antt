-- `pad` meets its contract: nothing, or the zero bits that the byte lacks.
use mathlib.Core.List.{List}
use mathlib.Core.Path.{◌≡◌}
use Prim.Native.Nat.{ℕ, ◌-◌, ◌<◌}
use native.Mathlib.Omega.{arith}
use Rattle.pens.specs.declared.Pen.{Pen}
use Rattle.bits.specs.Fields.{bits}
use Rattle.pens.specs.Pens.{Pushes, Pads}
use Rattle.pens.proofs.Pushed.{pushes_none}
use Rattle.bits.proofs.Widths.{length_bits}
use Rattle.pens.proofs.Pen.pad.Goals as goal

no-padding : (out : List ℕ) (p : Pen) → p.full ≡ 0 → Pads out out p p
unfolding bits
no-padding out p e = record { zeros = 0; few = omega arith; pushes = pushes_none out p (omega arith); whole = e }

some-padding : (out next : List ℕ) (p q : Pen) → (p.full ≡ 0 → ⊥) → p.full < 8 → Pushes (bits (8 - p.full) 0) out next p q → Pads out next p q
some-padding out next p q n h x = record {
  zeros = 8 - p.full;
  few = omega arith;
  pushes = x;
  whole = let k = length_bits (8 - p.full) 0 in omega (arith, x.count, x.full);
}

pub returns-then-self-eq0 : goal.returns-then-self-eq0
returns-then-self-eq0 c = let a = c.args in no-padding a.out.now a.self c.if-self-eq0.true

pub returns : goal.returns
returns c =
    let a = c.args in
    some-padding a.out.now _ a.self _ c.if-self-eq0.false (omega arith) c.push.ensures
