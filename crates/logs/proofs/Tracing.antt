-- How the functions that follow a log answer: a log followed from its middle, and the outcome for each way to end.
use mathlib.Core.List.{List, ◌∷◌}
use mathlib.Core.Path.{◌≡◌, refl, sym, ap, ◌∙◌, subst}
use Prim.Native.Nat.{ℕ, suc, ◌+◌, ◌*◌, ◌/◌, ◌%◌, ◌<◌}
use native.Mathlib.Numerals.{add-one}
use native.Mathlib.Omega.{arith}
use lib.ListN.{length, drop, length-drop}
use lib.Seq.{drop-drop}
use Rattle.std.specs.Prelude.{Ok, Err}
use Rattle.bits.specs.Fields.{bits_of}
use Rattle.store.specs.declared.Store.{Store}
use Rattle.store.specs.declared.Fault.{Fault}
use Rattle.store.specs.Accept.{store_fault, Accepted}
use Rattle.store.specs.Numbers.{fault_number}
use Rattle.store.specs.Sound.{Shaped}
use Rattle.store.proofs.Checks.{fault_one}
use Rattle.entries.specs.declared.Entry.{Entry}
use Rattle.entries.specs.declared.Untrue.{Untrue}
use Rattle.entries.specs.Entries.{entry_in, entry_fault}
use Rattle.entries.specs.Numbers.{untrue_number}
use Rattle.entries.specs.Promises.{EntryIs}
use Rattle.entries.proofs.Comparing.{none_true_lem}
use Rattle.entries.proofs.Following.{entry_left, entry_done}
use Rattle.entries.proofs.Numbered.{untrue_one}
use Rattle.replay.specs.declared.End.{End}
use Rattle.replay.specs.declared.Played.{Played}
use Rattle.logs.specs.Following.{Following, none_true, entries_of, follow_from, follow}
use Rattle.logs.specs.Numbers.{log_end_number}
use Rattle.logs.specs.Promises.{TracedIs, FollowedIs}
use Rattle.logs.proofs.Ends.{only_end}
use Rattle.logs.proofs.Following.{follow_goes, follow_stops, follow_refused, follow_wrong, after_shaped}
use Rattle.logs.proofs.Runs.{entries_none, entries_next}

-- Following the entries of a log from s goes on from t with what is left after n of them.
pub record Goes (s : Store) (log : List ℕ) (t : Store) (n : ℕ) : Type 0 where
  pub shaped : Shaped t
  pub reached : (follow_from s (entries_of log)).reached ≡ (follow_from t (entries_of (drop (3 * n) log))).reached
  pub entry : (follow_from s (entries_of log)).entry ≡ n + (follow_from t (entries_of (drop (3 * n) log))).entry
  pub number : (follow_from s (entries_of log)).number ≡ (follow_from t (entries_of (drop (3 * n) log))).number

pub goes_start : (s : Store) (log : List ℕ) → Shaped s → Goes s log s 0
goes_start s log p = record { shaped = p; reached = refl; entry = omega arith; number = refl }

-- an outcome that follows nothing, answered
at_once : (t : Store) (v : End Untrue) (o : Following) → o ≡ none_true t (log_end_number v) → TracedIs o t (record { count = 0; end = v })
at_once t v o e = record {
  store = sym (ap (λ (o : Following). o.reached) e);
  entry = sym (ap (λ (o : Following). o.entry) e);
  end = only_end (sym (ap (λ (o : Following). o.number) e));
}

module _ (s t : Store) (log : List ℕ) (n : ℕ) (g : Goes s log t n) where
  -- a log of which nothing more is followed ends here
  ends : (v : End Untrue) → follow_from t (entries_of (drop (3 * n) log)) ≡ none_true t (log_end_number v) → TracedIs (follow_from s (entries_of log)) t (record { count = n; end = v })
  ends v e = record {
    store = sym (g.reached ∙ ap (λ (o : Following). o.reached) e);
    entry = omega (arith, g.entry, ap (λ (o : Following). o.entry) e);
    end = only_end (sym (g.number ∙ ap (λ (o : Following). o.number) e));
  }

  pub goes_through : n ≡ length log / 3 → TracedIs (follow_from s (entries_of log)) t (record { count = length log / 3; end = End.RunThrough })
  unfolding follow_from
  goes_through h =
      subst (λ (k : ℕ). TracedIs (follow_from s (entries_of log)) t (record { count = k; end = End.RunThrough })) h
      (ends End.RunThrough (ap (follow_from t) (entries_none (drop (3 * n) log) (simp length-drop (omega arith)))))

  -- the next entry was followed
  module _ (h : n < length log / 3) {e : Entry} (a : e ≡ entry_in (bits_of (drop (3 * n) log))) where
    -- what is left after n entries begins with it
    next : follow_from t (entries_of (drop (3 * n) log)) ≡ follow_from t (e ∷ entries_of (drop (3 * suc n) log))
    next =
        let i : 3 * n + 3 ≡ 3 * suc n = omega arith in
        ap (follow_from t)
        (entries_next (drop (3 * n) log) (simp length-drop (omega arith))
        ∙ ap (λ (l : List ℕ). entry_in (bits_of (drop (3 * n) log)) ∷ entries_of l) (drop-drop 3 (3 * n) log ∙ ap (λ (k : ℕ). drop k log) i)
        ∙ ap (λ (e : Entry). e ∷ entries_of (drop (3 * suc n) log)) (sym a))

    pub goes_stopped : {u : Store} (f : Untrue) → EntryIs t e u (Err f) → TracedIs (follow_from s (entries_of log)) u (record { count = n; end = End.Stopped f })
    goes_stopped f q =
        let k : untrue_number f ≡ entry_fault t e = q.truth.has in
        rw (entry_left t e q (λ z. untrue_one f (k ∙ z))) (ends (End.Stopped f) (next ∙ follow_stops t e _ (untrue_number f) (sym k) (untrue_one f)))

    pub goes_on : {u : Store} → EntryIs t e u (Ok tt) → Goes s log u (n + 1)
    goes_on q =
        let z : entry_fault t e ≡ 0 = sym q.truth.has in
        let goes = next ∙ follow_goes t e _ z in
        rw (add-one, entry_done t e q z) (record {
          shaped = after_shaped t e g.shaped (none_true_lem t e z);
          reached = g.reached ∙ ap (λ (o : Following). o.reached) goes;
          entry = omega (arith, g.entry, ap (λ (o : Following). o.entry) goes);
          number = g.number ∙ ap (λ (o : Following). o.number) goes;
        })

-- a wrong length, and the store's own fault
pub traced_wrong : (s : Store) (log : List ℕ) → Accepted s → (length log % 3 ≡ 0 → ⊥) → TracedIs (follow s log) s (record { count = 0; end = End.Stopped Untrue.Malformed })
traced_wrong s log p n = at_once s (End.Stopped Untrue.Malformed) (follow s log) (follow_wrong s log p n)

pub follow_traced : {o : Following} (t : Store) (r : Played Untrue) → TracedIs o t r → FollowedIs o (record { store = t; entry = r.count; end = r.end })
follow_traced t r q = record { store = q.store; entry = q.entry; end = q.end }

pub followed_refused : (s : Store) (log : List ℕ) (f : Fault) → store_fault s ≡ fault_number f → FollowedIs (follow s log) (record { store = s; entry = 0; end = End.StoreRefused f })
followed_refused s log f e = follow_traced s _ (at_once s (End.StoreRefused f) (follow s log) (follow_refused s log (fault_number f) e (fault_one f)))
