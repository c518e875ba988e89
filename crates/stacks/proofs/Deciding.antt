-- What a test that says whether P holds shows: where it says so, where it does not, and as a test of a Q that is as much as P.
use mathlib.Core.Bool.{Bool, true, false}
use mathlib.Core.Logic.{◌⊎◌, inl, inr}
use mathlib.Core.Path.{◌≡◌, refl, sym, ◌∙◌}
use Prim.Native.Nat.{ℕ}
use native.Mathlib.Omega.{arith}
use Rattle.stacks.specs.Deciding.{Decides}

pub true_false : true ≡ false → ⊥
true_false e = let z : ◌≡◌ {A = ℕ} 0 1 = cc in omega arith

pub holds : {P : Type 0} → P → Decides true P
holds p = record { so = λ e. p; not_so = λ e. absurd (true_false e) }

pub fails : {P : Type 0} → (P → ⊥) → Decides false P
fails n = record { so = λ e. absurd (true_false (sym e)); not_so = λ e. n }

pub decides_as : {r : Bool} {P Q : Type 0} → (P → Q) → (Q → P) → Decides r P → Decides r Q
decides_as f g d = record { so = λ e. f (d.so e); not_so = λ e q. d.not_so e (g q) }

-- a test that is true exactly if P holds
pub decides_by : (r : Bool) {P : Type 0} → (r ≡ true → P) → (P → r ≡ true) → Decides r P
decides_by r f g = record { so = f; not_so = λ e p. true_false (sym (g p) ∙ e) }

-- what the test says where P holds, and where it does not
pub says_so : (r : Bool) {P : Type 0} → Decides r P → P → r ≡ true
says_so true d p = refl
says_so false d p = absurd (d.not_so refl p)

pub says_not : (r : Bool) {P : Type 0} → Decides r P → (P → ⊥) → r ≡ false
says_not true d n = absurd (n (d.so refl))
says_not false d n = refl

-- two tests of the same say the same
pub decides_same : (r q : Bool) {P : Type 0} → Decides r P → Decides q P → r ≡ q
decides_same r true d e = says_so r d (e.so refl)
decides_same r false d e = says_not r d (e.not_so refl)

-- what is tested is so or not so
pub decided : (r : Bool) {P : Type 0} → Decides r P → P ⊎ (P → ⊥)
decided true d = inl (d.so refl)
decided false d = inr (d.not_so refl)
