-- What a pen has written: bits pushed one after the other, stored as whole bytes in a lent slice.
use Rattle.std.specs.Prelude.{Bool, List, ◌++◌, ◌≡◌, ℕ, ◌+◌, ◌*◌, ◌<◌, length, get_or, take, drop}
use Rattle.pens.specs.declared.Pen.{Pen}
use Rattle.bits.specs.Fields.{bits, bits_of}

-- a pen that has pushed nothing
abbrev pub no_bits : Pen
no_bits = record { at = 0; part = 0; full = 0 }

-- The pen has pushed the bits l onto a slice that held `before`: its whole bytes stand first, the rest is in the pen, and the bytes past them are as they came.
pub record Holds (before out : List ℕ) (p : Pen) (l : List Bool) : Type 0 where
  pub pushed : bits_of (take p.at out) ++ bits p.full p.part ≡ l
  pub stored : (i : ℕ) → i < p.at → get_or out i 0 < 256
  pub kept : drop p.at out ≡ drop p.at before
  pub same_length : length out ≡ length before

-- Pushing the bits `more` takes a pen from p to q, and the slice from `out` to `next`.
pub record Pushes (more : List Bool) (out next : List ℕ) (p q : Pen) : Type 0 where
  pub holds : (before : List ℕ) (l : List Bool) → Holds before out p l → Holds before next q (l ++ more)
  pub count : 8 * q.at + q.full ≡ 8 * p.at + p.full + length more
  pub full : q.full < 8
  pub same_length : length next ≡ length out

-- Zero bits up to the end of a byte were pushed.
pub record Pads (out next : List ℕ) (p q : Pen) : Type 0 where
  pub zeros : ℕ
  pub few : zeros < 8
  pub pushes : Pushes (bits zeros 0) out next p q
  pub whole : q.full ≡ 0
