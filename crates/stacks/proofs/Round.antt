-- A round: the next cassette of any shaft of the goal is brought into place, within 4h + 8 lifts. Where no slot is left outside the two shafts, a third one lends its top row.
use mathlib.Core.Path.{◌≡◌, refl, ap, ◌∙◌}
use mathlib.Core.Logic.{◌≢◌, Ne-symm}
use mathlib.Core.List.{List, [], ◌∷◌, ◌++◌}
use Prim.Native.Nat.{ℕ, suc, ◌+◌, ◌*◌, ◌-◌, ◌≤◌, ◌<◌}
use native.Mathlib.Decide.{dec_lt, ℕ_discrete}
use native.Mathlib.Omega.{arith}
use lib.ListN.{length, length-append}
use Rattle.stacks.specs.Run.{Stacks, Usable, Within, Reached}
use Rattle.stacks.specs.Placing.{Onto, Over, lifts_left, Halfway}
use Rattle.stacks.proofs.Bottoms.{onto_same, onto_then, onto_length}
use Rattle.stacks.proofs.Sums.{everywhere}
use Rattle.stacks.proofs.Stores.{put, put_same, put_other, put_back, reached_here, Leading, leading_after, leading_lift}
use Rattle.stacks.proofs.PlacingLaws.{left_plain, left_most, two_rooms, three_rooms}
use Rattle.stacks.proofs.RoundLaws.{turn_legal, turned, top_plain, halfway_after, halfway_less, halfway_more, find, in_place}
use Rattle.stacks.proofs.Placement.{made, Placed, placed, gone}

-- a bottom part with something above it, and the next on it
pub next_on : {l t : List ℕ} → Onto l t → length l < length t → (x : ℕ) × Onto (x ∷ l) t
next_on {l} {t} o h = go o.above o.split (omega (arith, simp length-append at (ap length o.split)))
  where
    go : {t : List ℕ} (k : List ℕ) → t ≡ k ++ l → 0 < length k → (x : ℕ) × Onto (x ∷ l) t
    go [] e n = absurd (omega arith)
    go (x ∷ []) e n = (x, onto_same e)
    go {t = t'} (x ∷ y ∷ k) e n = let u = go {t = (y ∷ k) ++ l} (y ∷ k) refl (omega arith) in (u.0, onto_then u.1 (record { above = x ∷ []; split = e }))

-- A shaft other than a and b.
third : (m : ℕ) → 3 ≤ m → (a b : ℕ) → (c : ℕ) × (Usable m c × (c ≢ a) × (c ≢ b))
third m h a b = elim (ℕ_discrete 0 a) [
  | yes p ↦ elim (ℕ_discrete 1 b) [ yes q ↦ (2, omega arith) | no q ↦ (1, omega arith) ]
  | no p ↦ elim (ℕ_discrete 0 b) [
    | yes q ↦ elim (ℕ_discrete 1 a) [ yes r ↦ (2, omega arith) | no r ↦ (1, omega arith) ]
    | no q ↦ (0, omega arith)
  ]
]

module _ (m : ℕ) (d : ℕ → ℕ) (e h : ℕ) (three : 3 ≤ m) (deep : (i : ℕ) → Usable m i → 0 < d i) (shallow : (i : ℕ) → Usable m i → d i ≤ h) (G : Stacks) (G-within : Within m d G) where
  -- A store on the way is reached within so many lifts.
  abbrev pub Way : (S Q : Stacks) (bound : ℕ) → Type 0
  Way S Q = Leading m d S (λ T. Halfway m d e G T Q)

  -- v has come onto what is passed of b
  grown : {S P : Stacks} {b v : ℕ} → Halfway m d e G S P → Onto (v ∷ P b) (S b) → Onto (v ∷ P b) (G b) → Halfway m d e G S (put P b (v ∷ P b))
  grown {S} {P} {b} {v} w now goal = halfway_more w (put P b (v ∷ P b)) b v (put_same P b (v ∷ P b)) (put_other P b (v ∷ P b)) now goal

  way_placed : {S P : Stacks} {b v n : ℕ} → Halfway m d e G S P → Onto (v ∷ P b) (G b) → Placed m d e P b v S n → Way S (put P b (v ∷ P b)) n
  way_placed w goal t =
      record { store = t.store; reached = t.reached; so = grown (halfway_after w t.reached.runs t.so.1) t.so.0 goal }

  -- the top row of a full shaft may be given up for a while
  lowered : {S P : Stacks} {c z : ℕ} {q : List ℕ} → Halfway m d e G S P → P c ≡ z ∷ q → d c ≤ e + length q → Halfway m d e G S (put P c q)
  lowered {S} {P} {c} {z} {q} w pc f =
      halfway_less w (put P c q)
      (everywhere _ c (rw (put_same P c q) (record { above = z ∷ []; split = pc })) (λ i n. rw (put_other P c q i n) (onto_same refl)))
      (everywhere _ c (λ u. rw (put_same P c q) f) (λ i n u. rw (put_other P c q i n) (w.passed.floor i u)))

  -- The first half of a round: v is in place, and at most one shaft, full before, owes its top row.
  data Half (S P : Stacks) (b v bound : ℕ) : Type 0 where
    whole : Way S (put P b (v ∷ P b)) bound → Half S P b v bound
    owing : (c z : ℕ) (q : List ℕ) → c ≢ b → Usable m c → P c ≡ z ∷ q → suc (length q) ≡ d c → Way S (put (put P c q) b (v ∷ P b)) bound → Half S P b v bound

  half_after : {S T P : Stacks} {b v k l n : ℕ} → k + l ≤ n → Reached m d S T k → Half T P b v l → Half S P b v n
  half_after f r (whole w) = whole (leading_after f r w)
  half_after f r (owing c z q nc u pc s w) = owing c z q nc u pc s (leading_after f r w)

  module _ (P : Stacks) (b v : ℕ) (ub : Usable m b) (goal : Onto (v ∷ P b) (G b)) where
    place : length (P b) < d b
    place = omega (arith, onto_length goal, G-within b ub)

    -- v stands in another shaft, k above it; l are in the way
    module _ {S : Stacks} (w : Halfway m d e G S P) {a : ℕ} {p : List ℕ} (o : Over P S v a p) (ua : Usable m a) (ne : a ≢ b) (k l : ℕ)
        (ek : k + suc (length p) ≡ length (S a)) (el : l + length (P b) ≡ length (S b))
      where
        r : ℕ
        r = e + (length (S a) + length (S b)) - (d a + d b)

        er : r + (d a + d b) ≡ e + (length (S a) + length (S b))
        unfolding r
        er = omega (arith, two_rooms w.passed a b ne ua ub)

        straight : (n : ℕ) → (0 < k + l → 0 < r) → lifts_left k l r ≤ n → Way S (put P b (v ∷ P b)) n
        straight n f g =
            way_placed w goal
            (placed n
            record {
              passed = w.passed;
              over = o;
              differ = ne;
              first = ua;
              second = ub;
              place = place;
              covered = ek;
              in_the_way = el;
              outside = er;
              way = f;
            }
            g)

        -- no slot outside: the top of a third shaft comes to b first, and is owed if it was passed
        by_turn : r ≡ 0 → Half S P b v (2 * k + l + 4)
        by_turn r₀ = go (third m three a b)
          where
            none : d a + d b ≡ e + (length (S a) + length (S b))
            none = omega (arith, er)

            kept : (Q : Stacks) (c : ℕ) → Halfway m d e G S Q → Over Q S v a p → Q b ≡ P b → Usable m c → c ≢ a → c ≢ b → length (Q c) < length (S c)
                → Way S (put Q b (v ∷ P b)) (2 * k + l + 4)
            kept Q c u oQ same uc ca cb top =
                let t = made (turn_legal u.passed oQ k l ua ub ne (rw same place) ek (rw same el) none uc ca cb top) in
                let x = turned u.passed oQ k l ua ub ne (rw same place) ek (rw same el) none uc ca cb top t.legal in
                let y = placed (2 * k + l + 3) x (omega (arith, left_most k (l + 1) 1)) in
                leading_after (omega arith) (reached_here m d S 0) (rw same at (way_placed u (rw same goal) (leading_lift t.legal y)))

            owed : (c : ℕ) → Usable m c → c ≢ a → c ≢ b → d c ≤ length (S c) → length (S c) ≤ length (P c) → (t : List ℕ) → P c ≡ t → Half S P b v (2 * k + l + 4)
            owed c uc ca cb f g [] pc = absurd (omega (arith, deep c uc, ap length pc))
            owed c uc ca cb f g (z ∷ q) pc =
                let size : suc (length q) ≡ d c = omega (arith, ap length pc, w.passed.within c uc, onto_length (w.passed.onto c)) in
                owing c z q cb uc pc size
                (kept (put P c q) c (lowered w pc (omega (arith, w.passed.floor a ua, o.unpassed, ek, w.passed.within a ua)))
                (record { stands = o.stands; unpassed = rw (put_other P c q a (Ne-symm ca)) o.unpassed })
                (put_other P c q b (Ne-symm cb)) uc ca cb (rw (put_same P c q) (omega arith)))

            go : (c : ℕ) × (Usable m c × (c ≢ a) × (c ≢ b)) → Half S P b v (2 * k + l + 4)
            go (c, (uc, ca, cb)) =
                let top : d c ≤ length (S c) = omega (arith, none, three_rooms w.passed a b c ne ca cb ua ub uc) in
                elim (dec_lt (length (P c)) (length (S c))) [
                  | yes z ↦ whole (kept P c w o refl uc ca cb z)
                  | no z ↦ owed c uc ca cb top (omega arith) (P c) refl
                ]

        from_other : Half S P b v (2 * k + l + 4)
        from_other = elim (dec_lt 0 r) [
          | yes z ↦ whole (straight (2 * k + l + 4) (λ _. z) (omega (arith, left_most k l r)))
          | no z ↦ by_turn (omega arith)
        ]

    module _ {S : Stacks} (w : Halfway m d e G S P) where
      -- what stands on v and what is in the way, in numbers
      ahead : {a : ℕ} {p : List ℕ} → Over P S v a p → (length (S a) - suc (length p)) + suc (length p) ≡ length (S a)
      ahead o = omega (arith, onto_length o.stands)

      above : (length (S b) - length (P b)) + length (P b) ≡ length (S b)
      above = omega (arith, onto_length (w.passed.onto b))

      already : Onto (v ∷ P b) (S b) → (n : ℕ) → Way S (put P b (v ∷ P b)) n
      already now n = record { store = S; reached = reached_here m d S n; so = grown w now goal }

      first_half : Half S P b v (3 * h + 4)
      first_half =
          let a = find w b v ub goal in
          elim (ℕ_discrete a.shaft b) [
            | no n ↦
                half_after
                (omega (arith, ahead a.over, above, w.passed.within a.shaft a.usable, w.passed.within b ub, shallow b ub, shallow a.shaft a.usable))
                (reached_here m d S 0)
                (from_other w a.over a.usable n (length (S a.shaft) - suc (length a.under)) (length (S b) - length (P b)) (ahead a.over) above)
            | yes q ↦ own (rw q at a.over)
          ]
        where
          own : {p : List ℕ} → Over P S v b p → Half S P b v (3 * h + 4)
          own {p} o = elim (dec_lt (length (P b)) (length p)) [
            | yes z ↦
                let t = gone (length (S b) - suc (length p)) ub w.passed o (ahead o) in
                half_after (omega (arith, ahead o, w.passed.within b ub, shallow b ub)) t.reached
                (from_other (halfway_after w t.reached.runs t.so.passed) t.so.over t.so.usable t.so.differ 0 (length p - length (P b))
                (omega (arith, t.so.top)) (omega (arith, t.so.low)))
            | no z ↦ whole (already (in_place w o (omega (arith, o.unpassed))) (3 * h + 4))
          ]

      -- A top row takes no turn, and owes nothing.
      top_row : suc (length (P b)) ≡ d b → Way S (put P b (v ∷ P b)) (h + 1)
      top_row t =
          let a = find w b v ub goal in
          elim (ℕ_discrete a.shaft b) [ yes q ↦ own (rw q at a.over) | no n ↦ other a.over a.usable n ]
        where
          own : {p : List ℕ} → Over P S v b p → Way S (put P b (v ∷ P b)) (h + 1)
          own o = already (in_place w o (omega (arith, o.unpassed, onto_length o.stands, w.passed.within b ub))) (h + 1)

          other : {a : ℕ} {p : List ℕ} → Over P S v a p → Usable m a → a ≢ b → Way S (put P b (v ∷ P b)) (h + 1)
          other {a} {p} o u n =
              let k = length (S a) - suc (length p) in
              let l = length (S b) - length (P b) in
              let f = top_plain w.passed o u t k l (r w o u n k l (ahead o) above) (ahead o) above (er w o u n k l (ahead o) above) in
              straight w o u n k l (ahead o) above (h + 1) (λ z. omega (arith, f, z))
              (omega (arith, left_plain k l _ f, ahead o, above, w.passed.within a u, w.passed.within b ub, shallow a u))

  -- A round: v has come onto what is passed of b, and everything passed is as it was.
  pub round : {S P : Stacks} {b v : ℕ} → Usable m b → Onto (v ∷ P b) (G b) → Halfway m d e G S P → Way S (put P b (v ∷ P b)) (4 * h + 8)
  round {S} {P} {b} {v} ub goal w = go (first_half P b v ub goal w)
    where
      go : Half S P b v (3 * h + 4) → Way S (put P b (v ∷ P b)) (4 * h + 8)
      go (whole t) = leading_after (omega arith) (reached_here m d S 0) t
      go (owing c z q cb uc pc size t) =
          let at_c = put_other (put P c q) b (v ∷ P b) c cb ∙ put_same P c q in
          leading_after (omega arith) t.reached
          (rw (put_back P b c z (v ∷ P b) q cb pc) at (top_row (put (put P c q) b (v ∷ P b)) c z uc (rw (at_c, ← pc) (w.goal c)) t.so (rw at_c size)))
