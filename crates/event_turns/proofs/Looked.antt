-- What a root is that was looked for: which class, that it stands whole, its record's number, and that it is one member.
use Rattle.std.specs.Prelude.{Option, None, Some}
use mathlib.Core.Path.{◌≡◌, refl, ap, ◌∙◌}
use mathlib.Core.List.{List}
use Prim.Native.Nat.{ℕ}
use Rattle.rules.specs.Limits.{depth_limit}
use Rattle.rules.specs.Field.{Env, read}
use Rattle.rules.specs.Packet.{read_root}
use Rattle.class_layout.specs.Numbers.{number_at}
use Rattle.class_layout.specs.Trees.{class_at, stood_at, IsWhole, WholeMembers}
use Rattle.class_layout.specs.Fragments.{map_option, root_class, root_place, Fragment}
use Rattle.event_turns.specs.Roots.{class_of, number_of, Numbered, RootStands}

module _ (t : List ℕ) (o : ℕ) where
  pub root-class : (i : ℕ) (x : Option ℕ) → x ≡ root_place t o i → class_of t x ≡ root_class t o i
  unfolding root_class
  root-class i x e = ap (class_of t) e ∙ by (root_place t o i)
    where
      by : (p : Option ℕ) → class_of t p ≡ map_option (class_at depth_limit t) p
      by None = unfold class_of map_option in refl
      by (Some p) = unfold class_of map_option in refl

  pub root_stands : (i : ℕ) (x : Option ℕ) → Fragment t o → x ≡ root_place t o i → RootStands t x
  root_stands i x f e = rw (e) (by (root_place t o i) refl)
    where
      by : (p : Option ℕ) → root_place t o i ≡ p → RootStands t p
      by None e = unfold RootStands in tt
      by (Some p) e = unfold RootStands in f.roots i p e

-- its record's number, where each root found there has the number m
pub root-numbered : (t : List ℕ) (o i m : ℕ) (x : Option ℕ) → x ≡ root_place t o i
    → ((p : ℕ) → root_place t o i ≡ Some p → number_at t p ≡ m) → Numbered t x m
root-numbered t o i m x e each = rw (e) (by (root_place t o i) refl)
  where
    by : (p : Option ℕ) → root_place t o i ≡ p → Numbered t p m
    by None h = unfold Numbered in tt
    by (Some p) h = unfold Numbered in each p h

-- by any number that is right if there is a root
pub numbered-reads : (t : List ℕ) (e : Env) (x : Option ℕ) (m : ℕ) → Numbered t x m
    → read_root e (number_of t x) (class_of t x) ≡ read_root e m (class_of t x)
unfolding Numbered number_of class_of read_root
numbered-reads t e None m h = refl
numbered-reads t e (Some p) m h = ap (λ i. read e i (class_at depth_limit t p)) h

pub one-member : (t : List ℕ) (root : Option ℕ) (p : ℕ) → root ≡ Some p → RootStands t root
    → WholeMembers (IsWhole depth_limit t) (stood_at depth_limit t) p 1
unfolding RootStands WholeMembers
one-member t root p e w = (rw (e) at w, tt)
