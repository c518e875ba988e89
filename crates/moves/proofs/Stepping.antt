-- Laws of `Steps`: no lift, the bytes that a function wrote, and one part after another.
use mathlib.Core.List.{List, [], ◌++◌}
use mathlib.Core.Path.{◌≡◌, sym}
use Prim.Native.Nat.{ℕ, ◌+◌, ◌≤◌}
use native.Mathlib.Nat.{add-zero}
use native.Mathlib.Omega.{arith}
use lib.ListN.{length, length-append}
use Rattle.store.specs.declared.Store.{Store}
use Rattle.store.specs.Lists.{Leads, ended}
use Rattle.store.proofs.Played.{leads_then}
use Rattle.moves.specs.Written.{written, Steps}
use Rattle.moves.proofs.Writing.{written_nothing, followed}

pub steps_none : (s : Store) (at : ℕ) (came : List ℕ) → Steps s at came s at came
steps_none s at came =
    record { lifts = []; leads = ended; count = sym (add-zero at); bytes = sym (written_nothing came at) }

-- the bytes that a function wrote
pub steps_bytes : {s t : Store} {at n at' : ℕ} {came out bs : List ℕ} → Leads s bs t → length bs ≡ n → (at' ≡ at + n) × (out ≡ written came at bs)
    → Steps s at came t at' out
steps_bytes {bs = bs} r h e = record { lifts = bs; leads = r; count = omega arith; bytes = e.1 }

pub steps_then : {s t u : Store} {at at' at'' : ℕ} {came out out' : List ℕ} → Steps s at came t at' out → Steps t at' out u at'' out'
    → at'' ≤ length came → Steps s at came u at'' out'
steps_then {at = at} {came = came} p q h =
    record {
      lifts = p.lifts ++ q.lifts;
      leads = leads_then p.leads q.leads;
      count = rw length-append (omega arith);
      bytes = followed came at p.lifts q.lifts p.bytes p.count q.bytes (omega arith);
    }
