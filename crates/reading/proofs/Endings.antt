-- The head, the shafts and the end of a reading put together, and its answer.
use mathlib.Core.List.{List, []}
use mathlib.Core.Path.{◌≡◌, sym, ap, ◌∙◌, subst}
use Prim.Native.Nat.{ℕ, ◌*◌}
use Rattle.std.specs.Prelude.{Result, Ok, Err}
use Rattle.marks.specs.Marking.{no_marks, Marked}
use Rattle.marks.proofs.Takes.{nothing_marked}
use Rattle.store.specs.declared.Store.{Store}
use Rattle.store.specs.Slots.{empty_store}
use Rattle.image.specs.declared.ReadFault.{ReadFault}
use Rattle.image.specs.Promises.{ReadIs}
use Rattle.image.specs.Reading.{Reading, smallest, no_depths, finish, read_body, read_shafts, read_image}
use Rattle.image.proofs.Answered.{only_read}
use Rattle.fields.specs.declared.Head.{Head}
use Rattle.fields.specs.Steps.{ended, HeadIs, EndIs}
use Rattle.columns.specs.declared.Work.{Work}
use Rattle.columns.specs.Columns.{Reads, shaft_most}
use Rattle.reading.specs.Promises.{StoreIs}

-- the shafts after a head, from the empty store and marks of nothing on
abbrev From : List ℕ → Head → List ℕ → Work → Result Unit ReadFault → Type 0
From bytes h words = Reads bytes (read_shafts h.form h.depth h.m) (shaft_most * h.m) (record { store = empty_store h.m no_depths; words = words; at = h.at })

none_yet : {words : List ℕ} → words ≡ no_marks → Marked words []
none_yet z = subst (λ (l : List ℕ). Marked l []) (sym z) nothing_marked

-- a head, and then a fault among the shafts, or what the end says
module _ (bytes : List ℕ) {h : Head} (p : HeadIs bytes (Ok h)) {words : List ℕ} (z : words ≡ no_marks) {w : Work} where
  pub shafts_stop : (f : ReadFault) → From bytes h words w (Err f) → StoreIs (read_image bytes) (Err f)
  unfolding read_body
  shafts_stop f r = p.same ∙ (r.after [] (none_yet z)).same finish

  pub body_ends : From bytes h words w (Ok tt) → {q : Result Unit ReadFault} → EndIs bytes w.at q → read_image bytes ≡ ended q w.store
  unfolding read_body
  body_ends r e = let a = r.after [] (none_yet z) in p.same ∙ a.same finish ∙ e.same a.seen w.store

-- the answer of a reading
module _ (o : Reading) where
  pub read_accepted : (s : Store) → StoreIs o (Ok s) → ReadIs o (record { store = s; answer = Ok tt })
  read_accepted s e = record { store = sym (ap (λ (r : Reading). r.store) e); answer = only_read (sym (ap (λ (r : Reading). r.number) e)) }

  pub read_refused : (f : ReadFault) → StoreIs o (Err f) → ReadIs o (record { store = smallest; answer = Err f })
  read_refused f e = record { store = sym (ap (λ (r : Reading). r.store) e); answer = only_read (sym (ap (λ (r : Reading). r.number) e)) }
