-- What stands at a byte of the table, as the walks ask for it: depths, members from the front, and leaves, which stand at any depth.
use mathlib.Core.Path.{◌≡◌, refl}
use Prim.Native.Nat.{ℕ, zero, suc, ◌-◌, ◌≤◌, ◌<◌}
use native.Mathlib.Omega.{arith}
use mathlib.Core.List.{List}
use Rattle.rules.specs.Class.{bit_array, boolean, unsigned_int, signed_int, float, no_member, member}
use Rattle.rules.specs.Record.{Shape, bit_field, leb_field, signed_leb_field, zero_string, text, blob, text_of, blob_of, u8}
use Rattle.rules.specs.Record.{members, elements, elements_of, option?, options}
use Rattle.facts.proofs.Cases.{◌▷◌, below}
use Rattle.class_layout.specs.Trees.{Stood, shapes, shape_of, class_in, class_at, stood_at, members_at, IsWhole, WholeIn, WholeMembers}
use Rattle.class_layout.specs.Trees.{KindsIn}

module _ (t : List ℕ) (p : ℕ) where
  pub depth-some : (d : ℕ) → IsWhole d t p → d ≡ suc (d - 1)
  unfolding IsWhole
  depth-some zero w = absurd w
  depth-some (suc d) w = omega arith

  pub kind-high : (d : ℕ) → IsWhole d t p → u8 t p ≤ 32
  unfolding IsWhole
  kind-high zero w = absurd w
  kind-high (suc d) w = w.high

-- leaves hold nothing, and so stand at any depth

abbrev Leafy : Shape → Type 0
Leafy (bit_field k) = Unit {0}
Leafy leb_field = Unit {0}
Leafy signed_leb_field = Unit {0}
Leafy zero_string = Unit {0}
Leafy text = Unit {0}
Leafy blob = Unit {0}
Leafy text_of = Unit {0}
Leafy blob_of = Unit {0}
Leafy members = ⊥
Leafy elements = ⊥
Leafy elements_of = ⊥
Leafy option? = ⊥
Leafy options = ⊥

leafy : (k : ℕ) → k < 28 → Leafy (shape_of k)
unfolding shape_of shapes
leafy = below (λ k. Leafy (shape_of k)) 28 (
    tt ▷ tt ▷ tt ▷ tt ▷ tt ▷ tt ▷ tt ▷ tt ▷ tt ▷ tt ▷ tt ▷ tt ▷ tt ▷ tt ▷ tt ▷ tt ▷  -- none
    tt ▷ tt ▷ tt ▷ tt ▷ tt ▷ tt ▷ tt ▷ tt ▷ tt ▷ tt ▷ tt ▷ tt ▷ tt
    )

module _ (f f' : ℕ → Stood) (t : List ℕ) (p : ℕ) where
  leaf-in : (k : Shape) → Leafy k → class_in f t p k ≡ class_in f' t p k
  unfolding class_in
  leaf-in (bit_field bit_array) h = refl
  leaf-in (bit_field boolean) h = refl
  leaf-in (bit_field unsigned_int) h = refl
  leaf-in (bit_field signed_int) h = refl
  leaf-in (bit_field float) h = refl
  leaf-in leb_field h = refl
  leaf-in signed_leb_field h = refl
  leaf-in zero_string h = refl
  leaf-in text h = refl
  leaf-in blob h = refl
  leaf-in text_of h = refl
  leaf-in blob_of h = refl
  leaf-in members h = absurd h
  leaf-in elements h = absurd h
  leaf-in elements_of h = absurd h
  leaf-in option? h = absurd h
  leaf-in options h = absurd h

  module _ (g g' : ℕ → Type 0) where
    leaf-stands : (k : Shape) → Leafy k → WholeIn g f t p k → WholeIn g' f' t p k
    unfolding WholeIn
    leaf-stands (bit_field k) h w = w
    leaf-stands leb_field h w = tt
    leaf-stands signed_leb_field h w = tt
    leaf-stands zero_string h w = tt
    leaf-stands text h w = tt
    leaf-stands blob h w = tt
    leaf-stands text_of h w = tt
    leaf-stands blob_of h w = tt
    leaf-stands members h w = absurd h
    leaf-stands elements h w = absurd h
    leaf-stands elements_of h w = absurd h
    leaf-stands option? h w = absurd h
    leaf-stands options h w = absurd h

  leaf-kinds : (k : Shape) → Leafy k → KindsIn f' t p k
  unfolding KindsIn
  leaf-kinds (bit_field k) h = tt
  leaf-kinds leb_field h = tt
  leaf-kinds signed_leb_field h = tt
  leaf-kinds zero_string h = tt
  leaf-kinds text h = tt
  leaf-kinds blob h = tt
  leaf-kinds text_of h = tt
  leaf-kinds blob_of h = tt
  leaf-kinds members h = absurd h
  leaf-kinds elements h = absurd h
  leaf-kinds elements_of h = absurd h
  leaf-kinds option? h = absurd h
  leaf-kinds options h = absurd h

module _ (t : List ℕ) (p : ℕ) where
  pub leaf-whole : (d : ℕ) → IsWhole d t p → u8 t p < 28 → IsWhole 1 t p
  unfolding IsWhole
  leaf-whole zero w h = absurd w
  leaf-whole (suc d) w h = record {
    low = w.low;
    high = w.high;
    there = w.there;
    parts = leaf-stands (stood_at d t) (stood_at 0 t) t p (IsWhole d t) (IsWhole 0 t) (shape_of (u8 t p)) (leafy (u8 t p) h) w.parts;
    kinds = leaf-kinds (stood_at d t) (stood_at 0 t) t p (shape_of (u8 t p)) (leafy (u8 t p) h);
    begins = w.begins;
  }

  pub leaf-class : (d : ℕ) → IsWhole d t p → u8 t p < 28 → class_at d t p ≡ class_at 1 t p
  unfolding IsWhole stood_at
  leaf-class zero w h = absurd w
  leaf-class (suc d) w h = leaf-in (stood_at d t) (stood_at 0 t) t p (shape_of (u8 t p)) (leafy (u8 t p) h)

-- members from the front

module _ (g : ℕ → Type 0) (f : ℕ → Stood) (at : ℕ) where
  pub record First (n : ℕ) : Type 0 where
    pub whole : g at
    pub rest : WholeMembers g f (f at).next (n - 1)
    pub classes : members_at f at n ≡ member (f at).class (members_at f (f at).next (n - 1))

  pub first : (n : ℕ) → 0 < n → WholeMembers g f at n → First n
  unfolding WholeMembers members_at
  first zero h w = absurd (omega arith)
  first (suc n) h w =
      let e : suc n - 1 ≡ n = omega arith in
      record { whole = w.0; rest = rw e w.1; classes = rw e refl }

pub no_member_lem : (f : ℕ → Stood) (at n : ℕ) → n ≤ 0 → members_at f at n ≡ no_member
unfolding members_at
no_member_lem f at zero h = refl
no_member_lem f at (suc n) h = absurd (omega arith)
