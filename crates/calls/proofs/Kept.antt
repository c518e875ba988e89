-- What lifts keep of the image of a store: each form that holds the store given holds the one that they lead to, and its image in that form keeps its length.
use mathlib.Core.List.{List}
use mathlib.Core.Bool.{true}
use mathlib.Core.Path.{◌≡◌, sym, ap, ◌∙◌}
use Prim.Native.Nat.{ℕ}
use native.Mathlib.Decide.{dec_lt}
use native.Mathlib.Omega.{arith}
use lib.ListN.{get_or, get_or-eq_default}
use Rattle.stacks.proofs.Deciding.{says_so}
use Rattle.lifts.specs.Lifting.{slot_count}
use Rattle.lifts.specs.Bytes.{left, entered}
use Rattle.depths.specs.Depths.{depth_by}
use Rattle.store.specs.declared.Store.{Store}
use Rattle.store.specs.Lists.{Leads}
use Rattle.store.specs.Sound.{Shaped}
use Rattle.store.specs.Slots.{SameFrame, depth}
use Rattle.store.proofs.Played.{leads_frame}
use Rattle.store.proofs.Views.{lifted_each}
use Rattle.reach.proofs.Lasting.{leads_count}
use Rattle.image.specs.Coding.{codable}
use Rattle.image.specs.Image.{cassette_width, length_in, holds}
use Rattle.image.proofs.Coding.{zero_codable}
use Rattle.image.proofs.Forms.{holds_test, width_some}
use Rattle.image.proofs.Lengths.{length_frame}

module _ {s t : Store} {bs : List ℕ} (p : Shaped s) (l : Leads s bs t) where
  pub leads_length : (f : ℕ) → length_in f t ≡ length_in f s
  leads_length f = sym (length_frame f s t (leads_frame l) (sym (leads_count p l)))

-- what holds of 0 and of every number of the slots holds after lifts
leads_each : (P : ℕ → Type 0) → P 0 → {s t : Store} {bs : List ℕ} → Leads s bs t → ((i : ℕ) → P (get_or s.slots i 0)) → (i : ℕ) → P (get_or t.slots i 0)
leads_each P z Leads.ended h = h
leads_each P z {s} (Leads.then {b = b} a l) h = leads_each P z l (lifted_each P s (left b) (entered b) z h)

pub leads_held : (f : ℕ) {s t : Store} {bs : List ℕ} → Shaped s → Leads s bs t → holds f s ≡ true → holds f t ≡ true
leads_held f {s} {t} p l e =
    let h = (holds_test f s).so e in
    let frame = leads_frame l in
    let zero = zero_codable (cassette_width f) (width_some f) in
    let all : (i : ℕ) → codable (cassette_width f) (get_or s.slots i 0) ≡ true = λ i. elim (dec_lt i slot_count) [
      | yes b ↦ h.numbered i b
      | no b ↦ (let past : get_or s.slots i 0 ≡ 0 = get_or-eq_default s.slots 0 (omega (arith, p.slots_sized)) in rw past zero)
    ] in
    says_so (holds f t) (holds_test f t) (record {
      equal = λ z x i. same_depth frame x ∙ h.equal z x (omega (arith, frame.shafts)) ∙ sym (same_depth frame 0);
      numbered = λ i b. leads_each (λ c. codable (cassette_width f) c ≡ true) zero l all i;
    })
  where
    same_depth : SameFrame s t → (x : ℕ) → depth t x ≡ depth s x
    same_depth q x = ap (λ (d : List ℕ). depth_by d x) (sym q.depths)
