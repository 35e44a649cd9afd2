-- The class record that stands at a byte: what it says, by what it announces, and the length that the table of body lengths has for it.
use Rattle.std.specs.Prelude.{Some, None}
use mathlib.Core.Path.{◌≡◌, refl, sym, ap, ◌∙◌}
use Prim.Native.Nat.{ℕ, zero, suc, ◌+◌, ◌-◌, ◌≤◌, ◌<◌}
use native.Mathlib.Omega.{arith}
use mathlib.Core.List.{List, [], ◌∷◌}
use lib.Dec.{T, ltb, leb, ltb→lt, leb→le}
use lib.ListN.{length, get_or, take, drop}
use lib.Seq.{get_or-take, get_or-drop, take-nil}
use Rattle.rules.specs.Limits.{no_slot}
use Rattle.rules.specs.Class.{Sort, bit_array, boolean, unsigned_int, signed_int, float}
use Rattle.rules.specs.Record.{Shape, bit_field, leb_field, signed_leb_field, zero_string, text, blob, text_of, blob_of, members, elements}
use Rattle.rules.specs.Record.{elements_of, option?, options, Says, says}
use Rattle.rules.specs.Record.{class}
use Rattle.rules.specs.Record.{u8, u16, Layout, no, bits_layout, layouts, size, record_of}
use Rattle.table_offsets.specs.Bodies.{known, body_in, body_of}
use Rattle.facts.proofs.Every.{both_left, both_right}
use Rattle.class_layout.specs.Trees.{shapes, shape_of, record_size}
use Rattle.class_layout.proofs.Records.{body, each_row, row, u8-body, number-body, of_kind, kind-of, size-at, record-at}

abbrev bits_say : ℕ → Sort → List ℕ → ℕ → ℕ → ℕ → Says
bits_say k s t at slot role = says k (bit_field s) (u8 t (at + 1)) (u8 t (at + 2)) (u8 t (at + 3)) slot 0 role 1

-- what a class record at a byte says, by what it announces
unfoldable pub said_at : List ℕ → ℕ → Shape → Says
said_at t at (bit_field bit_array) = bits_say 16 bit_array t at no_slot 0
said_at t at (bit_field boolean) = bits_say 17 boolean t at (u8 t (at + 4)) 0
said_at t at (bit_field unsigned_int) = bits_say 18 unsigned_int t at (u8 t (at + 4)) (u8 t (at + 5))
said_at t at (bit_field signed_int) = bits_say 19 signed_int t at (u8 t (at + 4)) 0
said_at t at (bit_field float) = bits_say 20 float t at no_slot 0
said_at t at leb_field = says 21 leb_field 1 0 0 (u8 t (at + 1)) 0 (u8 t (at + 2)) 1
said_at t at signed_leb_field = says 22 signed_leb_field 1 0 0 (u8 t (at + 1)) 0 0 1
said_at t at zero_string = says 23 zero_string 1 0 0 no_slot 0 0 1
said_at t at text = says 24 text 1 0 0 no_slot 0 0 (u16 t (at + 1))
said_at t at blob = says 25 blob 1 0 0 no_slot 0 (u8 t (at + 3)) (u16 t (at + 1))
said_at t at text_of = says 26 text_of 1 0 0 no_slot (u8 t (at + 1)) 0 1
said_at t at blob_of = says 27 blob_of 1 0 0 no_slot (u8 t (at + 1)) 0 1
said_at t at members = says 28 members 1 0 (u8 t (at + 2)) no_slot 0 0 (u8 t (at + 1))
said_at t at elements = says 29 elements 1 0 (u8 t (at + 3)) no_slot 0 0 (u16 t (at + 1))
said_at t at elements_of = says 30 elements_of 1 0 (u8 t (at + 2)) no_slot (u8 t (at + 1)) 0 1
said_at t at option? = says 31 option? 1 0 0 no_slot (u8 t (at + 1)) 0 (u8 t (at + 2))
said_at t at options = says 32 options 1 0 0 no_slot (u8 t (at + 1)) 0 (u8 t (at + 2))

record ClassRow (l : Layout) (s : Shape) : Type 0 where
  bytes : suc l.0 ≡ record_size s
  says : (t : List ℕ) (at : ℕ) → l.1 (body t at l.0) ≡ class (said_at t at s)

abbrev ClassRows : List Layout → List Shape → Type 0
ClassRows ls [] = Unit {0}
ClassRows [] (s ∷ ss) = ⊥
ClassRows (l ∷ ls) (s ∷ ss) = ClassRow l s × ClassRows ls ss

class-row : (ls : List Layout) (ss : List Shape) → ClassRows ls ss → (j : ℕ) → j < length ss
    → ClassRow (get_or ls j no) (get_or ss j zero_string)
class-row ls [] r j h = absurd (omega arith)
class-row [] (s ∷ ss) r j h = absurd r
class-row (l ∷ ls) (s ∷ ss) r zero h = r.0
class-row (l ∷ ls) (s ∷ ss) r (suc j) h = class-row ls ss r.1 j (omega arith)

u16-body : (t : List ℕ) (at n : ℕ) → 2 ≤ n → u16 (body t at n) 0 ≡ u16 t (at + 1)
unfolding u16
u16-body t at n h = number-body t at n 0 2 h

class-rows : ClassRows (take 17 (drop 16 layouts)) shapes
unfolding layouts bits_layout shapes record_size said_at
class-rows = (
  record { bytes = refl; says = λ t at. rw (b t at 3 0 tt, b t at 3 1 tt, b t at 3 2 tt) },
  (
    record { bytes = refl; says = λ t at. rw (b t at 4 0 tt, b t at 4 1 tt, b t at 4 2 tt, b t at 4 3 tt) },
    (
      record { bytes = refl; says = λ t at. rw (b t at 5 0 tt, b t at 5 1 tt, b t at 5 2 tt, b t at 5 3 tt, b t at 5 4 tt) },
      (
        record { bytes = refl; says = λ t at. rw (b t at 4 0 tt, b t at 4 1 tt, b t at 4 2 tt, b t at 4 3 tt) },
        (
          record { bytes = refl; says = λ t at. rw (b t at 3 0 tt, b t at 3 1 tt, b t at 3 2 tt) },
          (
            record { bytes = refl; says = λ t at. rw (b t at 2 0 tt, b t at 2 1 tt) },
            (
              record { bytes = refl; says = λ t at. rw (b t at 1 0 tt) },
              (
                record { bytes = refl; says = λ t at. refl },
                (
                  record { bytes = refl; says = λ t at. rw (w t at 2 tt) },
                  (
                    record { bytes = refl; says = λ t at. rw (w t at 3 tt, b t at 3 2 tt) },
                    (
                      record { bytes = refl; says = λ t at. rw (b t at 1 0 tt) },
                      (
                        record { bytes = refl; says = λ t at. rw (b t at 1 0 tt) },
                        (
                          record { bytes = refl; says = λ t at. rw (b t at 2 0 tt, b t at 2 1 tt) },
                          (
                            record { bytes = refl; says = λ t at. rw (w t at 3 tt, b t at 3 2 tt) },
                            (
                              record { bytes = refl; says = λ t at. rw (b t at 2 0 tt, b t at 2 1 tt) },
                              (
                                record { bytes = refl; says = λ t at. rw (b t at 2 0 tt, b t at 2 1 tt) },
                                (
                                  record { bytes = refl; says = λ t at. rw (b t at 2 0 tt, b t at 2 1 tt) },
                                  tt,
                                ),
                              ),
                            ),
                          ),
                        ),
                      ),
                    ),
                  ),
                ),
              ),
            ),
          ),
        ),
      ),
    ),
  ),
)
  where
    b : (t : List ℕ) (at n i : ℕ) → T (ltb i n) → u8 (body t at n) i ≡ u8 t (at + suc i)
    b t at n i h = u8-body t at n i (ltb→lt i n h)

    w : (t : List ℕ) (at n : ℕ) → T (ltb 1 n) → u16 (body t at n) 0 ≡ u16 t (at + 1)
    w t at n h = u16-body t at n (ltb→lt 1 n h)

row_of : (k : ℕ) → 16 ≤ k → k ≤ 32 → ClassRow (get_or layouts k no) (shape_of k)
unfolding shape_of
row_of k a b =
    let e : 16 + (k - 16) ≡ k = omega arith in
    let j : k - 16 < 17 = omega arith in
    let f : get_or (take 17 (drop 16 layouts)) (k - 16) no ≡ get_or layouts k no =
    get_or-take 17 (drop 16 layouts) (k - 16) no j ∙ get_or-drop 16 layouts (k - 16) no ∙ ap (λ i. get_or layouts i no) e in
    rw f at (class-row _ shapes class-rows (k - 16) (unfold shapes in j))

pub class-size : (t : List ℕ) (at : ℕ) → 16 ≤ u8 t at → u8 t at ≤ 32 → size (drop at t) ≡ record_size (shape_of (u8 t at))
class-size t at a b = size-at t at _ refl ∙ (row_of (u8 t at) a b).bytes

pub record ClassAt (t : List ℕ) (at : ℕ) (y : Says) : Type 0 where
  pub low : 16 ≤ u8 t at
  pub high : u8 t at ≤ 32
  pub bytes : size (drop at t) ≡ record_size (shape_of (u8 t at))
  pub says : y ≡ said_at t at (shape_of (u8 t at))

pub class-at : (t : List ℕ) (at : ℕ) (y : Says) → record_of (drop at t) ≡ class y → ClassAt t at y
unfolding of_kind
class-at t at y e =
    let k = kind-of t at (class y) e in
    let a : 16 ≤ u8 t at = leb→le _ _ (both_left (leb 16 (u8 t at)) _ k) in
    let b : u8 t at ≤ 32 = leb→le _ _ (both_right (leb 16 (u8 t at)) _ k) in
    let r = row_of (u8 t at) a b in
    let s : class y ≡ class (said_at t at (shape_of (u8 t at))) = sym e ∙ record-at t at _ refl ∙ r.says t at in
    record { low = a; high = b; bytes = class-size t at a b; says = cc }

-- the body's length that the table of lengths has for a kind of a class
bodies-pass : T (each_row (λ k l. leb l.0 17) 0 layouts)
unfolding layouts bits_layout no
bodies-pass = tt

body-small : (k : ℕ) → k < 35 → (get_or layouts k no).0 ≤ 17
body-small k h = leb→le _ 17 (row (λ k l. leb l.0 17) 0 layouts bodies-pass k (unfold layouts in h))

class-body : (k : ℕ) → 16 ≤ k → k ≤ 32 → body_of k ≡ Some (get_or layouts k no).0
unfolding body_of body_in known
class-body k a b =
    let c : (get_or layouts k no).1 [] ≡ class (said_at [] 0 (shape_of k)) = rw take-nil at ((row_of k a b).says [] 0) in rw (c, body_in)

pub class-bytes : (k n : ℕ) → 16 ≤ k → k ≤ 32 → body_of k ≡ Some n → (n + 1 ≡ record_size (shape_of k)) × (n ≤ 17)
class-bytes k n a b e =
    let f : (get_or layouts k no).0 ≡ n = cc (class-body k a b) in
    (omega (arith, (row_of k a b).bytes), omega (arith, body-small k (omega arith)))

pub class-known : (k : ℕ) → 16 ≤ k → k ≤ 32 → body_of k ≡ None → ⊥
class-known k a b e = let z : ◌≡◌ {A = ℕ} 0 1 = cc (class-body k a b) in omega arith
