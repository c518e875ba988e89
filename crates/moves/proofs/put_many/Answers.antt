-- `put_many` meets its contract: the part of the list that is filled is that many bytes written.
use mathlib.Core.List.{List}
use mathlib.Core.Path.{◌≡◌, refl}
use Prim.Native.Nat.{ℕ, ◌+◌, ◌≤◌}
use native.Mathlib.Omega.{arith}
use lib.ListN.{length, replicate, length-replicate, length-take, length-drop}
use lib.Seq.{drop-drop}
use borrow.Rule.Slice.PartMut.{put_mid, mid_of}
use Rattle.moves.specs.Written.{written}
use Rattle.moves.proofs.put_many.Goals as goal

filled : (came ys : List ℕ) (at k n b : ℕ) → at + k ≤ length came → n ≡ k → ys ≡ replicate (length (mid_of at n came)) b → put_mid at n came ys ≡ written came at (replicate k b)
unfolding written
filled came ys at k n b h e f =
    let i : length (mid_of at n came) ≡ k = simp (length-take, length-drop) (omega arith) in
    rw (f, i, e, drop-drop, length-replicate) refl

pub returns : goal.returns
returns c = (refl, filled c.args.out.now _ c.args.at c.args.k _ c.args.b c.requires (omega arith) (c.fill.ensures.after (λ y h. h)))
