-- A walk never goes back, and from the end or from a fault it goes nowhere. In order: a record; ranges and options; classes; roots;
-- fragments.
use mathlib.Core.Path.{◌≡◌, refl, sym, ap, ◌∙◌}
use mathlib.Core.Bool.{Bool, true, false}
use mathlib.Core.List.{List, [], ◌∷◌}
use Prim.Native.Nat.{ℕ, zero, suc, ◌+◌, ◌-◌, ◌*◌, ◌<◌, ◌≤◌}
use native.Mathlib.Omega.{arith}
use lib.ListN.{length, get_or, set, replicate, get_or-replicate}
use lib.Seq.{get_or-set_same, get_or-set_other}
use lib.Dec.{leb, eqb}
use borrow.Author.Tests.{leb-false, eqb-true, eqb-false}
use Rattle.table_offsets.specs.Bodies.{body_mark}
use Rattle.table_offsets.specs.Check.{pick_n, byte_at, latest, says_at}
use Rattle.table_offsets.proofs.Rows.{rows}
use Rattle.table_offsets.proofs.Places.{latest-set, latest-other}
use Rattle.check_slots.specs.Homes.{nowhere, is_a, is_among, behind_range, behind_ranges, behind_option, Spot, pick_p, pick_l, parts_at}
use Rattle.check_slots.specs.Homes.{set_elsewhere, noted, home_within, parts, part_at, class_at, roots_at, fault_at, homes_of, fragment_at}
use Rattle.check_slots.specs.Homes.{no_homes, all_roots_at, roots_before, header_with, streams_with, fragments_at}
use Rattle.check_slots.proofs.Onward.{a-here, among-here, nowhere-past, class-not, roots-not}

-- A record

pub nowhere-on : (t : List ℕ) (at : ℕ) → at ≤ nowhere t at
unfolding nowhere
nowhere-on t at = by (leb (length t) at) refl
  where
    by : (b : Bool) → leb (length t) at ≡ b → at ≤ pick_n b at (length t)
    by true e = unfold pick_n in omega arith
    by false e = unfold pick_n in omega (arith, leb-false (length t) at e)

pub not_a : (t : List ℕ) (k at : ℕ) → length t ≤ at → is_a t k at ≡ false
not_a t k at h = by (is_a t k at) refl
  where
    by : (b : Bool) → is_a t k at ≡ b → b ≡ false
    by true e = absurd (omega (arith, (a-here t k at e).0.within))
    by false e = refl

pub not-among : (t : List ℕ) (low high at : ℕ) → length t ≤ at → is_among t low high at ≡ false
not-among t low high at h = by (is_among t low high at) refl
  where
    by : (b : Bool) → is_among t low high at ≡ b → b ≡ false
    by true e = absurd (omega (arith, (among-here t low high at e).0.within))
    by false e = refl

-- Ranges and options

range-on : (t : List ℕ) (at : ℕ) → at ≤ behind_range t at
unfolding behind_range
range-on t at = by (is_a t 33 at)
  where
    by : (b : Bool) → at ≤ pick_n b (at + 18) (nowhere t at)
    by true = unfold pick_n in omega arith
    by false = unfold pick_n in nowhere-on t at

pub range-past : (t : List ℕ) (at : ℕ) → length t ≤ at → behind_range t at ≡ at
unfolding behind_range pick_n
range-past t at h = rw (not_a t 33 at h) (nowhere-past t at h)

ranges-on : (t : List ℕ) (n at : ℕ) → at ≤ behind_ranges t at n
unfolding behind_ranges
ranges-on t zero at = omega arith
ranges-on t (suc n) at = omega (arith, range-on t at, ranges-on t n (behind_range t at))

pub ranges-past : (t : List ℕ) (n at : ℕ) → length t ≤ at → behind_ranges t at n ≡ at
unfolding behind_ranges
ranges-past t zero at h = refl
ranges-past t (suc n) at h = rw (range-past t at h) (ranges-past t n at h)

option-on : (t : List ℕ) (at : ℕ) → at ≤ behind_option t at
unfolding behind_option
option-on t at = by (is_a t 34 at)
  where
    by : (b : Bool) → at ≤ pick_n b (behind_ranges t (at + 2) (byte_at t (at + 1))) (nowhere t at)
    by true = unfold pick_n in omega (arith, ranges-on t (byte_at t (at + 1)) (at + 2))
    by false = unfold pick_n in nowhere-on t at

option-past : (t : List ℕ) (at : ℕ) → length t ≤ at → behind_option t at ≡ at
unfolding behind_option pick_n
option-past t at h = rw (not_a t 34 at h) (nowhere-past t at h)

part-on : (t : List ℕ) (at next : ℕ) → next ≤ part_at t at next
unfolding part_at
part-on t at next = by (eqb (byte_at t at) 31) (eqb (byte_at t at) 32)
  where
    by : (a b : Bool) → next ≤ pick_n a (behind_ranges t next (byte_at t (at + 2))) (pick_n b (behind_option t next) next)
    by true b = unfold pick_n in ranges-on t (byte_at t (at + 2)) next
    by false true = unfold pick_n in option-on t next
    by false false = unfold pick_n in omega arith

part-past : (t : List ℕ) (at next : ℕ) → length t ≤ next → part_at t at next ≡ next
unfolding part_at
part-past t at next h = by (eqb (byte_at t at) 31) (eqb (byte_at t at) 32)
  where
    by : (a b : Bool) → pick_n a (behind_ranges t next (byte_at t (at + 2))) (pick_n b (behind_option t next) next) ≡ next
    by true b = unfold pick_n in ranges-past t (byte_at t (at + 2)) next h
    by false true = unfold pick_n in option-past t next h
    by false false = unfold pick_n in refl

-- Classes

parts-rise : (f : ℕ → List ℕ → Spot) (g : ℕ → ℕ) → ((at : ℕ) (v : List ℕ) → at ≤ (f at v).0) → ((at : ℕ) → at ≤ g at)
    → (n : ℕ) (p : Spot) → p.0 ≤ (parts_at f g p n).0
unfolding parts_at
parts-rise f g h k zero p = omega arith
parts-rise f g h k (suc n) p =
    omega (arith, k p.0, h (g p.0) p.1, parts-rise f g h k n (f (g p.0) p.1))

pub class-rises : (d : ℕ) (t : List ℕ) (home at : ℕ) (v : List ℕ) → at ≤ (class_at d t home at v).0
unfolding class_at
class-rises zero t home at v = nowhere-on t at
class-rises (suc d) t home at v = by (is_among t 16 32 at) (set_elsewhere v (says_at t at).sets home) _
    (parts-rise (class_at d t (home_within t home at)) (part_at t at) (class-rises d t (home_within t home at)) (part-on t at) (parts t at)
    (at + 1 + body_mark (byte_at t at), noted v (says_at t at).sets home))
  where
    by : (a b : Bool) (w : Spot) → at + 1 + body_mark (byte_at t at) ≤ w.0
        → at ≤ (pick_p a (pick_p b (fault_at t at, v) w) (nowhere t at, v)).0
    by true true w h = unfold pick_p in omega arith
    by true false w h = unfold pick_p in omega arith
    by false b w h = unfold pick_p in nowhere-on t at

pub class-past : (d : ℕ) (t : List ℕ) (home at : ℕ) (v : List ℕ) → length t ≤ at → class_at d t home at v ≡ (at, v)
class-past d t home at v h = class-not d t home at v (not-among t 16 32 at h) ∙ rw (nowhere-past t at h)

pub parts-past : (d : ℕ) (t : List ℕ) (home o : ℕ) (n at : ℕ) (v : List ℕ) → length t ≤ at
    → parts_at (class_at d t home) (part_at t o) (at, v) n ≡ (at, v)
unfolding parts_at
parts-past d t home o zero at v h = refl
parts-past d t home o (suc n) at v h = rw (part-past t o at h, class-past d t home at v h) (parts-past d t home o n at v h)

-- Roots

pub roots-rise : (t : List ℕ) (n : ℕ) (p : Spot) → p.0 ≤ (roots_at t p n).0
unfolding roots_at
roots-rise t zero p = omega arith
roots-rise t (suc n) p = by (is_a t 6 p.0) _ (roots-rise t n (class_at 9 t 0 (p.0 + 2) p.1))
  where
    by : (b : Bool) (w : Spot) → (class_at 9 t 0 (p.0 + 2) p.1).0 ≤ w.0 → p.0 ≤ (pick_p b w p).0
    by true w h = unfold pick_p in omega (arith, class-rises 9 t 0 (p.0 + 2) p.1)
    by false w h = unfold pick_p in omega arith

pub roots-past : (t : List ℕ) (n at : ℕ) (v : List ℕ) → length t ≤ at → roots_at t (at, v) n ≡ (at, v)
roots-past t n at v h = roots-not t (at, v) n (not_a t 6 at h)

-- Fragments

pub fragment-rises : (t : List ℕ) (before at : ℕ) → at ≤ fragment_at t before at
unfolding fragment_at
fragment-rises t before at = roots-rise t (length t - at) (at, homes_of t before)

pub fragment-of : (t : List ℕ) (before at : ℕ) (v : List ℕ) → v ≡ homes_of t before → (r : ℕ) → r ≡ (all_roots_at t at v).0
    → r ≡ fragment_at t before at
unfolding fragment_at
fragment-of t before at v e r h = rw (h, e)

pub at_most_one : (b : Bool) (n : ℕ) → n ≡ pick_n b 1 0 → n ≤ 1
unfolding pick_n
at_most_one true n e = omega arith
at_most_one false n e = omega arith

-- a stream class takes ten bytes
pub counted-room : (t : List ℕ) (k m n next : ℕ) → m ≡ body_mark k → 10 * n ≤ next → (c : ℕ) → c ≡ pick_n (eqb k 4) 1 0
    → (before e : ℕ) → e ≡ fragment_at t before (next + 1 + m) → 10 * (n + c) ≤ e
counted-room t k m n next h l c d before e f =
    let u : next + 1 + m ≤ e = omega (arith, fragment-rises t before (next + 1 + m)) in
    by (eqb k 4) refl d u
  where
    by : (b : Bool) → eqb k 4 ≡ b → c ≡ pick_n b 1 0 → next + 1 + m ≤ e → 10 * (n + c) ≤ e
    by true p d u = unfold pick_n in
        let q : k ≡ 4 = eqb-true k 4 p in
        let z : body_mark k ≡ 9 = rw q rows.stream_class in
        omega arith
    by false p d u = unfold pick_n in omega arith

streams-set : (t xs : List ℕ) (n next k : ℕ) → k ≡ byte_at t next → n < length xs
    → streams_with t (latest xs n) next ≡ latest (set xs n next) (n + pick_n (eqb k 4) 1 0)
unfolding streams_with
streams-set t xs n next k e h = rw (← e) (by (eqb k 4))
  where
    by : (b : Bool) → pick_l b (next ∷ latest xs n) (latest xs n) ≡ latest (set xs n next) (n + pick_n b 1 0)
    by true = unfold pick_l pick_n in latest-set xs n next h
    by false = unfold pick_l pick_n in
        let z : n + 0 ≡ n = omega arith in rw z (sym (latest-other xs n next n (omega arith)))

-- the whole walk w, of which `todo` fragments are left
module _ (t : List ℕ) (w header : ℕ) (xs : List ℕ) (n next todo : ℕ) (so_far : w ≡ fragments_at t header (latest xs n) next todo) where
  pub fragments-none : todo ≤ 0 → w ≡ next
  fragments-none h = so_far ∙ by todo h
    where
      by : (m : ℕ) → m ≤ 0 → fragments_at t header (latest xs n) next m ≡ next
      by zero l = unfold fragments_at in refl
      by (suc m) l = absurd (omega arith)

  module _ (more : 0 < todo) where
    pub fragments-not : is_among t 1 5 next ≡ false → w ≡ nowhere t next
    fragments-not e = so_far ∙ by todo more
      where
        by : (m : ℕ) → 0 < m → fragments_at t header (latest xs n) next m ≡ nowhere t next
        by zero l = absurd (omega arith)
        by (suc m) l = unfold fragments_at pick_n in rw e

    pub fragments-on : is_among t 1 5 next ≡ true → n < length xs → (k : ℕ) → k ≡ byte_at t next
        → (before : ℕ) → before ≡ roots_before t header (latest xs n) next → (header' : ℕ) → header' ≡ header_with t header next
        → (c : ℕ) → c ≡ pick_n (eqb k 4) 1 0 → (m : ℕ) → m ≡ body_mark k → (e : ℕ) → e ≡ fragment_at t before (next + 1 + m)
        → w ≡ fragments_at t header' (latest (set xs n next) (n + c)) e (todo - 1)
    fragments-on a room k b before p header' q c l m o e r = so_far ∙ by todo more
      where
        by : (m : ℕ) → 0 < m
            → fragments_at t header (latest xs n) next m ≡ fragments_at t header' (latest (set xs n next) (n + c)) e (m - 1)
        by zero l = absurd (omega arith)
        by (suc z) u = unfold fragments_at pick_n in
            let y : suc z - 1 ≡ z = omega arith in
            rw (a, y, r, p, q, o, b, l, streams-set t xs n next k b room)

-- Homes that are kept, each with the place of the roots that set them
abbrev pub Known : List ℕ → List (List ℕ) → List ℕ → Type 0
Known t vs places = (i : ℕ) → i < 128 → get_or vs i [] ≡ homes_of t (get_or places i 0)

pub homes_none : (t : List ℕ) → homes_of t (length t) ≡ no_homes
unfolding homes_of
homes_none t = ap (λ (p : Spot). p.1) (roots-past t (length t - length t) (length t) no_homes (omega arith))

pub known-none : (t : List ℕ) → Known t (replicate 128 no_homes) (replicate 128 (length t))
known-none t i l = rw (get_or-replicate 128 i no_homes [] l, get_or-replicate 128 i (length t) 0 l) (sym (homes_none t))

pub known-set : (t : List ℕ) (vs : List (List ℕ)) (places : List ℕ) → length vs ≡ 128 → length places ≡ 128 → Known t vs places
    → (i : ℕ) → i < 128 → (before : ℕ) (v : List ℕ) → v ≡ homes_of t before → Known t (set vs i v) (set places i before)
known-set t vs places a b s i l before v e j m = by (eqb j i) refl
  where
    by : (c : Bool) → eqb j i ≡ c → get_or (set vs i v) j [] ≡ homes_of t (get_or (set places i before) j 0)
    by true p =
        let z : j ≡ i = eqb-true j i p in
        rw (z, get_or-set_same vs i v [] (omega arith), get_or-set_same places i before 0 (omega arith)) e
    by false p =
        let z = eqb-false j i p in
        rw (get_or-set_other vs i j v [] z, get_or-set_other places i j before 0 z) (s j m)
