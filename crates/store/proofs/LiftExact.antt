-- One answer alone keeps the promise of a single lift: two that do are the same (document 01, "Agreement on the contracts"). And what it tells, in one equation.
use mathlib.Core.Path.{◌≡◌, sym, ◌∙◌}
use Prim.Native.Nat.{ℕ}
use native.Mathlib.Decide.{ℕ_discrete}
use native.Mathlib.Omega.{arith}
use Rattle.std.specs.Prelude.{Result}
use Rattle.lifts.specs.declared.Carried.{Carried}
use Rattle.lifts.specs.declared.Refusal.{Refusal}
use Rattle.lifts.proofs.Numbered.{result_exact, refusal_one}
use Rattle.store.specs.declared.Store.{Store}
use Rattle.store.specs.declared.Lifted.{Lifted}
use Rattle.store.specs.Lifts.{lift_number}
use Rattle.store.specs.Promises.{Told, Tells, TriedIs, LiftIs}
use Rattle.store.specs.Slots.{slot, top_of}

same_carried : (c d : Carried) → c.cassette ≡ d.cassette → c.row.0 ≡ d.row.0 → c ≡ d
same_carried c d e f = λ i. record { cassette = e i; row = record { 0 = f i } }

told_exact : (s t : Store) (a b : ℕ) (c d : Carried) → Told s t a b c.cassette c.row.0 → Told s t a b d.cassette d.row.0 → c ≡ d
told_exact s t a b c d x y = same_carried c d (sym x.left ∙ y.left) (x.top ∙ sym y.top)

-- what a lift tells of the cassette that it carried
pub tells_exact : (k : ℕ) (s t : Store) (a b : ℕ) {c d : Carried} → Tells k s t a b c → Tells k s t a b d → c ≡ d
tells_exact k s t a b {c} {d} x y =
    elim (ℕ_discrete k 0) [
      | yes z ↦ told_exact s t a b c d (x.done z) (y.done z)
      | no n ↦ same_carried c d (omega (arith, x.refused n, y.refused n)) (omega (arith, x.refused n, y.refused n))
    ]

pub lift_exact : (s : Store) (a b : ℕ) {x y : Lifted} → LiftIs s a b x → LiftIs s a b y → x ≡ y
lift_exact s a b {x} {y} p q =
    let e : x.store ≡ y.store = p.store ∙ sym q.store in
    let c : x.carried ≡ y.carried = tells_exact (lift_number s a b) s x.store a b p.tells (rw e q.tells) in
    λ i. record { store = e i; carried = c i; answer = q.answer.alone x.answer p.answer.has i }

-- so it is with a lift tried in place
pub tried_exact : (s : Store) (a b : ℕ) {t u : Store} {x y : Result Carried Refusal} → TriedIs s a b t x → TriedIs s a b u y → (t ≡ u) × (x ≡ y)
tried_exact s a b {t} {u} {x} {y} p q =
    let e : t ≡ u = p.store ∙ sym q.store in
    (e, result_exact _ _ _ (told_exact s t a b) x y p.answer (rw e q.answer))

-- the store handed back shows, in the row told, what stood on top of the shaft left
pub lift_lands : (s : Store) (a b : ℕ) {x : Lifted} → LiftIs s a b x → lift_number s a b ≡ 0 → slot x.store b x.carried.row.0 ≡ top_of s a
lift_lands s a b p z = (p.tells.done z).entered ∙ sym (p.tells.done z).left
