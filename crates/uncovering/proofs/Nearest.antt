-- The least over the places that show a number: by one shaft, of which the highest such row decides, and by some shafts and those after them together.
use mathlib.Core.Path.{◌≡◌, refl, sym, ap, ◌∙◌}
use Prim.Native.Nat.{ℕ, ◌+◌, ◌-◌, ◌≤◌, ◌<◌}
use native.Mathlib.Decide.{dec_lt}
use native.Mathlib.Omega.{arith}
use Rattle.store.specs.declared.Store.{Store}
use Rattle.store.specs.Slots.{depth, height, slot}
use Rattle.std.specs.Prelude.{Result, Ok, Err}
use Rattle.uncovering.specs.declared.Hidden.{Hidden}
use Rattle.uncovering.specs.declared.Hidden.TheVariants.{Absent, Buried}
use Rattle.uncovering.specs.Nearest.{Place, HighEnough, Under, Nearest, NearestIs, nearer_of}
use Rattle.uncovering.specs.Promises.{Ready, TopRowIs}
use Rattle.uncovering.specs.Uncovering.{Stands}

-- one shaft, by the highest of its rows that shows the number
module _ (s : Store) (c x rows r : ℕ) (b : x < s.m) (g : rows ≡ height s x) (t : TopRowIs s.slots x rows c r) where
  same_shaft : (w : Place x (x + 1) s c) → w.stands.shaft ≡ x
  same_shaft w = omega (arith, w.from, w.to)

  -- no place is higher
  under_top : (w : Place x (x + 1) s c) → w.stands.row ≤ r
  under_top w = elim (dec_lt r w.stands.row) [
    | yes h ↦ absurd (t.none_above w.stands.row h (omega (arith, w.stands.held, ap (height s) (same_shaft w))) (ap (λ (y : ℕ). slot s y w.stands.row) (sym (same_shaft w)) ∙ w.stands.shows))
    | no h ↦ omega arith
  ]

  pub no_place : r ≡ 0 → NearestIs x (x + 1) s c (Err Absent)
  no_place z w = omega (arith, under_top w, w.stands.from_one)

  module _ (n : r ≡ 0 → ⊥) (e : ℕ) (l : Ready s e) (floor : ℕ) (f : floor ≡ depth s x - e) where
    abbrev top : Place x (x + 1) s c
    top = record { stands = record { shaft = x; row = r; below = b; from_one = omega arith; held = omega (arith, t.within); shows = t.shows (omega arith) }; from = omega arith; to = omega arith }

    pub too_low : r < floor → NearestIs x (x + 1) s c (Err Buried)
    too_low h = (top, λ w i. omega (arith, under_top w, ap (depth s) (same_shaft w), l.empty))

    pub nearest_top : floor ≤ r → NearestIs x (x + 1) s c (Ok (rows - r))
    nearest_top h = record {
      place = top;
      high = omega (arith, l.empty);
      above = omega (arith, t.within);
      least = λ w i. omega (arith, under_top w, t.within, ap (height s) (same_shaft w));
    }

-- the shafts a to b − 1, and those from there to d − 1
module _ (s : Store) (c a b d : ℕ) (h : a ≤ b) (i : b ≤ d) where
  -- what holds of the places of both holds of all
  every : (T : Stands s c → Type 0) → ((w : Place a b s c) → T w.stands) → ((w : Place b d s c) → T w.stands) → (w : Place a d s c) → T w.stands
  every T f g w = elim (dec_lt w.stands.shaft b) [
    | yes l ↦ f (record { stands = w.stands; from = w.from; to = l })
    | no l ↦ g (record { stands = w.stands; from = omega arith; to = w.to })
  ]

  abbrev among : {j k : ℕ} → a ≤ j → k ≤ d → Place j k s c → Place a d s c
  among l m w = record { stands = w.stands; from = omega (arith, w.from); to = omega (arith, w.to) }

  nearest : {j k l n : ℕ} → a ≤ j → k ≤ d → Nearest j k s c l → l ≡ n → Under a b s c n → Under b d s c n → Nearest a d s c n
  nearest {n = n} f g w e p q = record {
    place = among f g w.place;
    high = w.high;
    above = omega (arith, w.above);
    least = every (λ w. HighEnough w → n + w.row ≤ height s w.shaft) p q;
  }

  none_high : ((w : Place a b s c) → HighEnough w.stands → ⊥) → ((w : Place b d s c) → HighEnough w.stands → ⊥) → (w : Place a d s c) → HighEnough w.stands → ⊥
  none_high = every (λ w. HighEnough w → ⊥)

  -- the nearer answer is right for all
  pub nearer_of_both : (p q : Result ℕ Hidden) → NearestIs a b s c p → NearestIs b d s c q → NearestIs a d s c (nearer_of p q)
  nearer_of_both (Err Absent) (Err Absent) p q = every (λ w. ⊥) p q
  nearer_of_both (Err Absent) (Err Buried) p q = (among h (omega arith) q.0, none_high (λ w i. p w) q.1)
  nearer_of_both (Err Absent) (Ok k) p q = nearest h (omega arith) q refl (λ w i. absurd (p w)) q.least
  nearer_of_both (Err Buried) (Err Absent) p q = (among (omega arith) i p.0, none_high p.1 (λ w i. q w))
  nearer_of_both (Err Buried) (Err Buried) p q = (among (omega arith) i p.0, none_high p.1 q.1)
  nearer_of_both (Err Buried) (Ok k) p q = nearest h (omega arith) q refl (λ w i. absurd (p.1 w i)) q.least
  nearer_of_both (Ok j) (Err Absent) p q = nearest (omega arith) i p refl p.least (λ w i. absurd (q w))
  nearer_of_both (Ok j) (Err Buried) p q = nearest (omega arith) i p refl p.least (λ w i. absurd (q.1 w i))
  nearer_of_both (Ok j) (Ok k) p q = elim (dec_lt j k) [
    | yes l ↦ nearest (omega arith) i p (omega arith) (λ w i. omega (arith, p.least w i)) (λ w i. omega (arith, q.least w i))
    | no l ↦ nearest h (omega arith) q (omega arith) (λ w i. omega (arith, p.least w i)) (λ w i. omega (arith, q.least w i))
  ]
