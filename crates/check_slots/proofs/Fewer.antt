-- A walk that goes through sets the same and ends at the same byte where fewer slots were set before it: what a stream class's roots set is
-- told without its header. (A law of the rules' walk: it speaks of no code.)
use mathlib.Core.Path.{◌≡◌, refl, sym, ap, subst, ◌∙◌}
use mathlib.Core.Bool.{Bool, true, false, ◌&&◌, ◌||◌}
use mathlib.Core.List.{List, ◌++◌}
use Prim.Native.Nat.{ℕ, zero, suc}
use Rattle.facts.proofs.Truth.{clash, or-true}
use Rattle.rules.specs.Faults.{among}
use Rattle.rules.specs.Limits.{depth_limit}
use Rattle.rules.specs.Record.{Shape, bit_field, leb_field, signed_leb_field, zero_string, text, blob, text_of, blob_of, members, elements}
use Rattle.rules.specs.Record.{elements_of, option?, options, Says as Said}
use Rattle.rules.specs.Record.{Record, unknown, fragment, root, class, range, option, record_of, behind}
use Rattle.rules.specs.Homes.{Homes, no_homes as nothing_set, both, across, Walked, fault, walked, lost, Walk, more, onward, out}
use Rattle.rules.specs.Homes.{is_whole, is_range, walk_ranges, walk_option, walk_options, walk_members, walk_shape, walk_record, walk_class}
use Rattle.rules.specs.Homes.{is_any_root, walk_roots}
use Rattle.check_slots.proofs.TieHomes.{among-append}

-- h has no slot that k has not
pub record Fewer (h k : Homes) : Type 0 where
  pub here : (i : ℕ) → among i h.here ≡ true → among i k.here ≡ true
  pub elsewhere : (i : ℕ) → among i h.elsewhere ≡ true → among i k.elsewhere ≡ true

pub fewer-none : (k : Homes) → Fewer nothing_set k
unfolding among
fewer-none k = record { here = λ i e. absurd (clash e); elsewhere = λ i e. absurd (clash e) }

or-first : (p q : Bool) → p ≡ true → (p || q) ≡ true
or-first p q e = rw e

or-second : (p q : Bool) → q ≡ true → (p || q) ≡ true
or-second true q e = refl
or-second false q e = e

more-first : (i : ℕ) (xs ys : List ℕ) → among i xs ≡ true → among i (xs ++ ys) ≡ true
more-first i xs ys e = among-append i xs ys ∙ or-first (among i xs) (among i ys) e

more-second : (i : ℕ) (xs ys : List ℕ) → among i ys ≡ true → among i (xs ++ ys) ≡ true
more-second i xs ys e = among-append i xs ys ∙ or-second (among i xs) (among i ys) e

one_of : (i : ℕ) (xs ys : List ℕ) {P : Type 0} → among i (xs ++ ys) ≡ true → (among i xs ≡ true → P) → (among i ys ≡ true → P) → P
one_of i xs ys e = or-true (among i xs) (among i ys) (sym (among-append i xs ys) ∙ e)

fewer-both : (g h k : Homes) → Fewer h k → Fewer (both g h) (both g k)
unfolding both
fewer-both g h k f = record {
  here = λ i e. one_of i g.here h.here e (more-first i g.here k.here) (λ o. more-second i g.here k.here (f.here i o));
  elsewhere = λ i e. one_of i g.elsewhere h.elsewhere e (more-first i g.elsewhere k.elsewhere)
      (λ o. more-second i g.elsewhere k.elsewhere (f.elsewhere i o));
}

fewer-across : (h k : Homes) → Fewer h k → Fewer (across h) (across k)
unfolding across among
fewer-across h k f = record {
  here = λ i e. absurd (clash e);
  elsewhere = λ i e. one_of i h.here h.elsewhere e (λ o. more-first i k.here k.elsewhere (f.here i o))
      (λ o. more-second i k.here k.elsewhere (f.elsewhere i o));
}

-- where the first goes through the second does, alike
abbrev pub Alike : Walked → Walked → Type 0
Alike (fault y) o = Unit {0}
Alike (walked g x) o = o ≡ walked g x
Alike lost o = Unit {0}

abbrev pub Steady : Walk → Type 0
Steady f = (h k : Homes) (x : List ℕ) → Fewer h k → Alike (f k x) (f h x)

more-alike : (g : Homes) (a b : Walked) → Alike a b → Alike (more g a) (more g b)
unfolding more
more-alike g (fault y) b e = tt
more-alike g (walked k x) b e = ap (more g) e
more-alike g lost b e = tt

onward-alike : (f : Walk) → Steady f → (h k : Homes) → Fewer h k → (a b : Walked) → Alike a b → Alike (onward k a f) (onward h b f)
unfolding onward
onward-alike f s h k l (fault y) b e = tt
onward-alike f s h k l (walked g x) b e =
    subst (λ (c : Walked). Alike (more g (f (both g k) x)) (onward h c f)) (sym e)
    (more-alike g (f (both g k) x) (f (both g h) x) (s (both g h) (both g k) x (fewer-both g h k l)))
onward-alike f s h k l lost b e = tt

out-alike : (a b : Walked) → Alike a b → Alike (out a) (out b)
unfolding out
out-alike (fault y) b e = tt
out-alike (walked g x) b e = ap out e
out-alike lost b e = tt

same_alike : (a : Walked) → Alike a a
same_alike (fault y) = tt
same_alike (walked g x) = refl
same_alike lost = tt

when_whole : (b : Bool) (a c : Walked) → Alike a c → Alike (elim b [ true ↦ a | false ↦ lost ]) (elim b [ true ↦ c | false ↦ lost ])
when_whole true a c e = e
when_whole false a c e = tt

ranges-alike : (n : ℕ) (h k : Homes) (x : List ℕ) → walk_ranges n h x ≡ walk_ranges n k x
unfolding walk_ranges
ranges-alike zero h k x = refl
ranges-alike (suc n) h k x =
    ap (λ (w : Walked). elim (is_whole x && is_range (record_of x)) [ true ↦ w | false ↦ lost ]) (ranges-alike n h k (behind x))

module _ (f : Walk) (s : Steady f) where
  ranged-steady : (n : ℕ) → Steady (λ h x. onward h (walk_ranges n h x) f)
  ranged-steady n h k x l =
      onward-alike f s h k l (walk_ranges n k x) (walk_ranges n h x)
      (subst (Alike (walk_ranges n k x)) (ranges-alike n k h x) (same_alike (walk_ranges n k x)))

  members-steady : (n : ℕ) → Steady (walk_members f n)
  unfolding walk_members
  members-steady zero h k x l = refl
  members-steady (suc n) h k x l = onward-alike (walk_members f n) (members-steady n) h k l (f k x) (f h x) (s h k x l)

  option-steady : (h k : Homes) (r : Record) (x : List ℕ) → Fewer h k → Alike (walk_option f k r x) (walk_option f h r x)
  unfolding walk_option
  option-steady h k unknown x l = tt
  option-steady h k (fragment g) x l = tt
  option-steady h k (root r) x l = tt
  option-steady h k (class y) x l = tt
  option-steady h k (range g m u) x l = tt
  option-steady h k (option n) x l = ranged-steady n h k x l

  options-steady : (n : ℕ) → Steady (walk_options f n)
  unfolding walk_options
  options-steady zero h k x l = refl
  options-steady (suc n) h k x l =
      when_whole (is_whole x) _ _
      (onward-alike (walk_options f n) (options-steady n) h k l _ _ (option-steady h k (record_of x) (behind x) l))

  shape-steady : (y : Said) (w : Shape) → Steady (walk_shape f y w)
  unfolding walk_shape
  shape-steady y (bit_field q) h k x l = refl
  shape-steady y leb_field h k x l = refl
  shape-steady y signed_leb_field h k x l = refl
  shape-steady y zero_string h k x l = refl
  shape-steady y text h k x l = refl
  shape-steady y blob h k x l = refl
  shape-steady y text_of h k x l = refl
  shape-steady y blob_of h k x l = refl
  shape-steady y members h k x l = members-steady y.count h k x l
  shape-steady y elements h k x l = out-alike (f (across k) x) (f (across h) x) (s (across h) (across k) x (fewer-across h k l))
  shape-steady y elements_of h k x l = out-alike (f (across k) x) (f (across h) x) (s (across h) (across k) x (fewer-across h k l))
  shape-steady y option? h k x l = ranged-steady y.count h k x l
  shape-steady y options h k x l = options-steady y.count h k x l

  class-steady : (h k : Homes) (y : Said) (x : List ℕ) → Fewer h k → Alike (walk_record f k (class y) x) (walk_record f h (class y) x)
  unfolding walk_record
  class-steady h k y x l = by (among y.sets k.elsewhere) (among y.sets h.elsewhere) (l.elsewhere y.sets)
    where
      by : (b c : Bool) → (c ≡ true → b ≡ true)
          → Alike (elim b [ true ↦ fault x | false ↦ walk_shape f y y.shape k (behind x) ])
          (elim c [ true ↦ fault x | false ↦ walk_shape f y y.shape h (behind x) ])
      by true c e = tt
      by false true e = absurd (clash (e refl))
      by false false e = shape-steady y y.shape h k (behind x) l

  record-steady : (h k : Homes) (r : Record) (x : List ℕ) → Fewer h k → Alike (walk_record f k r x) (walk_record f h r x)
  record-steady h k unknown x l = unfold walk_record in tt
  record-steady h k (fragment g) x l = unfold walk_record in tt
  record-steady h k (root r) x l = unfold walk_record in tt
  record-steady h k (class y) x l = class-steady h k y x l
  record-steady h k (range g m u) x l = unfold walk_record in tt
  record-steady h k (option n) x l = unfold walk_record in tt

classes-steady : (n : ℕ) → Steady (walk_class n)
unfolding walk_class
classes-steady zero h k x l = when_whole (is_whole x) _ _ (record-steady (λ h x. lost) (λ h k x l. tt) h k (record_of x) x l)
classes-steady (suc n) h k x l = when_whole (is_whole x) _ _ (record-steady (walk_class n) (classes-steady n) h k (record_of x) x l)

pub roots-steady : (n : ℕ) → Steady (walk_roots n)
unfolding walk_roots
roots-steady zero h k x l = refl
roots-steady (suc n) h k x l =
    by (is_whole x && is_any_root (record_of x)) _ _
    (onward-alike (walk_roots n) (roots-steady n) h k l _ _ (classes-steady depth_limit h k (behind x) l))
  where
    by : (b : Bool) (a c : Walked) → Alike a c
        → Alike (elim b [ true ↦ a | false ↦ walked nothing_set x ]) (elim b [ true ↦ c | false ↦ walked nothing_set x ])
    by true a c e = e
    by false a c e = refl
