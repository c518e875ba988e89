-- A list of bytes played on a store is a run of its stacks, and a run of the stacks is such a list.
use mathlib.Core.List.{List, [], ◌∷◌, ◌++◌, map}
use mathlib.Core.Path.{◌≡◌, refl, sym, ap, ◌∙◌, subst}
use Prim.Native.Nat.{ℕ, ◌<◌}
use native.Mathlib.Omega.{arith}
use Rattle.stacks.specs.Run.{Stacks, Lift, Step, Run, done, step}
use Rattle.lifts.specs.Bytes.{left, entered}
use Rattle.store.specs.declared.Store.{Store}
use Rattle.store.specs.Slots.{depth, SameFrame, stack}
use Rattle.store.specs.Lifts.{Allowed, lifted}
use Rattle.store.specs.Lists.{byte_of, lift_of, Leads, ended, then}
use Rattle.store.specs.Sound.{Shaped}
use Rattle.store.proofs.Views.{lifted_shaped, lift_step, step_allowed, step_lifted, same_stacks}

-- a list of bytes, played on the store, is a run of the stacks
pub leads_run : {s t : Store} {bs : List ℕ} → Shaped s → Leads s bs t → Run s.m (depth s) (stack s) (map lift_of bs) (stack t)
unfolding lifted
leads_run p ended = done
leads_run p (then {s} {t} {b} {bs} q r) = step (lift_step s (left b) (entered b) p q) (leads_run (lifted_shaped s (left b) (entered b) p q) r)

-- what a list keeps
pub leads_shaped : {s t : Store} {bs : List ℕ} → Shaped s → Leads s bs t → Shaped t
leads_shaped p ended = p
leads_shaped p (then {s} {t} {b} {bs} q r) = leads_shaped (lifted_shaped s (left b) (entered b) p q) r

pub leads_frame : {s t : Store} {bs : List ℕ} → Leads s bs t → SameFrame s t
unfolding lifted
leads_frame ended = record { shafts = refl; depths = refl }
leads_frame (then q r) = let f = leads_frame r in record { shafts = f.shafts; depths = f.depths }

-- one list after another
pub leads_then : {s t u : Store} {bs cs : List ℕ} → Leads s bs t → Leads t cs u → Leads s (bs ++ cs) u
leads_then ended k = k
leads_then (then q r) k = then q (leads_then r k)

-- a lift, then a list: the shafts of the lift's byte are those of the lift
pub lift_then : (s t : Store) (l : Lift) (bs : List ℕ) → l.entered < 16 → Allowed s l.left l.entered
    → Leads (lifted s l.left l.entered) bs t → Leads s (byte_of l ∷ bs) t
lift_then s t l bs h q r =
    let a : left (byte_of l) ≡ l.left = omega arith in
    let b : entered (byte_of l) ≡ l.entered = omega arith in
    let q' : Allowed s (left (byte_of l)) (entered (byte_of l)) = rw (a, b) q in
    let r' : Leads (lifted s (left (byte_of l)) (entered (byte_of l))) bs t = rw (a, b) r in
    then q' r'

-- the same for a run from the stacks S of s to the stacks T of t
stacks_lead : {m : ℕ} {d : ℕ → ℕ} {S T : Stacks} {ls : List Lift} → Run m d S ls T → (s t : Store) → Shaped s → Shaped t
    → SameFrame s t → s.m ≡ m → depth s ≡ d → stack s ≡ S → stack t ≡ T → Leads s (map byte_of ls) t
unfolding lifted
stacks_lead done s t p q f i j u v =
    subst (Leads s []) (same_stacks s t p q f λ x. ap (λ (S : Stacks). S x) (u ∙ sym v)) ended
stacks_lead (step {T} {l} {ls} k r) s t p q f i j u v =
    let k' : Step s.m (depth s) l (stack s) T = rw (← i, ← j, ← u) at k in
    let a : Allowed s l.left l.entered = step_allowed s l T p k' in
    let p' = lifted_shaped s l.left l.entered p a in
    let r' = stacks_lead r (lifted s l.left l.entered) t p' q (record { shafts = f.shafts; depths = f.depths }) i j (step_lifted s l T p k') v in
    lift_then s t l (map byte_of ls) (omega arith) a r'

-- a run of the stacks is a list of bytes that leads to the store with these stacks
pub run_leads : {s t : Store} {ls : List Lift} → Shaped s → Shaped t → SameFrame s t → Run s.m (depth s) (stack s) ls (stack t) → Leads s (map byte_of ls) t
run_leads {s} {t} p q f r = stacks_lead r s t p q f refl refl refl refl
