-- The record at a byte of a table, by its kind: what the rules' row says of the rest of the bytes, in the bytes of the table. One entry
-- a row; every later law goes by these.
use mathlib.Core.Path.{◌≡◌, refl, sym, subst}
use mathlib.Core.Bool.{Bool, true, false}
use mathlib.Core.List.{List, []}
use mathlib.Core.Logic.{⊎_elim}
use Prim.Native.Nat.{ℕ, suc, ◌+◌, ◌<◌, ◌≤◌}
use native.Mathlib.Omega.{arith}
use lib.Dec.{T, ltb, leb, ltb→lt, leb→le, lit<, lit≤}
use lib.ListN.{get_or, take, drop, get_or-eq_default}
use Rattle.facts.proofs.Numbers.{lt-or-ge}
use Rattle.rules.specs.Record.{Shape, bit_field, leb_field, signed_leb_field, zero_string, text, blob, text_of, blob_of, members, elements}
use Rattle.rules.specs.Record.{elements_of, option?, options}
use Rattle.rules.specs.Record.{preamble, trace_class, clock_class, stream_class, event_class}
use Rattle.rules.specs.Record.{Record, unknown, fragment, root, class, range, option}
use Rattle.rules.specs.Record.{Says as Said, Layout, no, bits_layout, layouts, record_of, layout_of, size, u8, u16 as ru16, u64 as ru64}
use Rattle.table_offsets.specs.declared.Says.{Says}
use Rattle.table_offsets.specs.Bodies.{known, no_kind, mark, body_mark}
use Rattle.table_offsets.specs.Check.{byte_at, u16, u64, bits_say, say, sayings, say_of}
use Rattle.facts.proofs.Cases.{Each, ◌▷◌, below}
use Rattle.table_offsets.proofs.TieBytes.{Rest, rest-byte, body-u8, body-u16, body-u64}

-- what a class record says, but for its shape
unfoldable pub plain : Said → Says
plain y = record {
  kind = y.kind;
  length = y.length;
  order = y.order;
  align = y.align;
  sets = y.sets;
  reads = y.reads;
  role = y.role;
  count = y.count;
}

-- the shape that goes with a kind: of a single field, or of one that holds others
pub data Single : Shape → Type 0 where
  bits : {s : _} → Single (bit_field s)
  lebs : Single leb_field
  signed_lebs : Single signed_leb_field
  to_zero : Single zero_string
  texts : Single text
  blobs : Single blob
  texts_of : Single text_of
  blobs_of : Single blob_of

pub data Shaped : ℕ → ℕ → Shape → Type 0 where
  single : {k n : ℕ} {s : Shape} → k < 28 → Single s → Shaped k n s
  structured : Shaped 28 2 members
  static : Shaped 29 3 elements
  dynamic : Shaped 30 2 elements_of
  optional : Shaped 31 2 option?
  variant : Shaped 32 2 options

-- the record at `at`, by its kind and its body's bytes
pub data Stands (t : List ℕ) (at : ℕ) : ℕ → ℕ → Record → Type 0 where
  nothing : {k : ℕ} → Stands t at k no_kind unknown
  a_preamble : Stands t at 1 1 (fragment (preamble (byte_at t (at + 1))))
  a_trace : {l : List ℕ} → Stands t at 2 17 (fragment (trace_class (byte_at t (at + 1)) l))
  a_clock : Stands t at 3 9 (fragment (clock_class (byte_at t (at + 1)) (u64 t (at + 2))))
  a_stream : Stands t at 4 9 (fragment (stream_class (u64 t (at + 1)) (byte_at t (at + 9))))
  an_event : Stands t at 5 16 (fragment (event_class (u64 t (at + 1)) (u64 t (at + 9))))
  a_root : Stands t at 6 1 (root (byte_at t (at + 1)))
  a_class : {k n : ℕ} {y : Said} → 16 ≤ k → k ≤ 32 → n < no_kind → y.kind ≡ k → plain y ≡ say_of k t at → Shaped k n y.shape
      → Stands t at k n (class y)
  a_range : Stands t at 33 17 (range (byte_at t (at + 1)) (u64 t (at + 2)) (u64 t (at + 10)))
  an_option : Stands t at 34 1 (option (byte_at t (at + 1)))

-- the mark of a row that stands for a known kind is its body's length
known-mark : (row : Layout) → (mark row ≡ no_kind → ⊥) → suc row.0 ≡ 1 + mark row
known-mark row = by (known (row.1 [])) refl
  where
    by : (b : Bool) → known (row.1 []) ≡ b → (mark row ≡ no_kind → ⊥) → suc row.0 ≡ 1 + mark row
    by true e n = unfold mark in rw (e, mark) (omega arith)
    by false e n = absurd (n (unfold mark in rw (e, mark)))

module _ (t : List ℕ) (at : ℕ) (x : List ℕ) (h : Rest t at x) where
  abbrev Row : ℕ → Layout → Type 0
  Row k row = Stands t at k (mark row) (row.1 (take row.0 (drop 1 x)))

  b : (n i : ℕ) → T (ltb i n) → u8 (take n (drop 1 x)) i ≡ get_or t (at + (1 + i)) 0
  b n i l = body-u8 t at x h n i (ltb→lt i n l)

  two : (n i : ℕ) → T (leb (i + 2) n) → ru16 (take n (drop 1 x)) i ≡ u16 t (at + (1 + i))
  two n i l = body-u16 t at x h n i (leb→le (i + 2) n l)

  eight : (n i : ℕ) → T (leb (i + 8) n) → ru64 (take n (drop 1 x)) i ≡ u64 t (at + (1 + i))
  eight n i l = body-u64 t at x h n i (leb→le (i + 8) n l)

  none : (k : ℕ) → Row k no
  unfolding mark known no
  none k = nothing

  rows : Each (λ k. Row k (get_or layouts k no)) 0 35
  unfolding mark known layouts no bits_layout say_of sayings bits_say say plain
  rows =
      none 0
      ▷ rw (b 1 0 tt) a_preamble
      ▷ rw (b 17 0 tt) a_trace
      ▷ rw (b 9 0 tt, eight 9 1 tt) a_clock
      ▷ rw (eight 9 0 tt, b 9 8 tt) a_stream
      ▷ rw (eight 16 0 tt, eight 16 8 tt) an_event
      ▷ rw (b 1 0 tt) a_root
      ▷ none 7 ▷ none 8 ▷ none 9 ▷ none 10 ▷ none 11 ▷ none 12 ▷ none 13 ▷ none 14 ▷ none 15
      ▷ a_class (lit≤ tt) (lit≤ tt) (lit< tt) refl (rw (b 3 0 tt, b 3 1 tt, b 3 2 tt)) (single (lit< tt) bits)
      ▷ a_class (lit≤ tt) (lit≤ tt) (lit< tt) refl (rw (b 4 0 tt, b 4 1 tt, b 4 2 tt, b 4 3 tt)) (single (lit< tt) bits)
      ▷ a_class (lit≤ tt) (lit≤ tt) (lit< tt) refl (rw (b 5 0 tt, b 5 1 tt, b 5 2 tt, b 5 3 tt, b 5 4 tt)) (single (lit< tt) bits)
      ▷ a_class (lit≤ tt) (lit≤ tt) (lit< tt) refl (rw (b 4 0 tt, b 4 1 tt, b 4 2 tt, b 4 3 tt)) (single (lit< tt) bits)
      ▷ a_class (lit≤ tt) (lit≤ tt) (lit< tt) refl (rw (b 3 0 tt, b 3 1 tt, b 3 2 tt)) (single (lit< tt) bits)
      ▷ a_class (lit≤ tt) (lit≤ tt) (lit< tt) refl (rw (b 2 0 tt, b 2 1 tt)) (single (lit< tt) lebs)
      ▷ a_class (lit≤ tt) (lit≤ tt) (lit< tt) refl (rw (b 1 0 tt)) (single (lit< tt) signed_lebs)
      ▷ a_class (lit≤ tt) (lit≤ tt) (lit< tt) refl (cc) (single (lit< tt) to_zero)
      ▷ a_class (lit≤ tt) (lit≤ tt) (lit< tt) refl (rw (two 2 0 tt)) (single (lit< tt) texts)
      ▷ a_class (lit≤ tt) (lit≤ tt) (lit< tt) refl (rw (two 3 0 tt, b 3 2 tt)) (single (lit< tt) blobs)
      ▷ a_class (lit≤ tt) (lit≤ tt) (lit< tt) refl (rw (b 1 0 tt)) (single (lit< tt) texts_of)
      ▷ a_class (lit≤ tt) (lit≤ tt) (lit< tt) refl (rw (b 1 0 tt)) (single (lit< tt) blobs_of)
      ▷ a_class (lit≤ tt) (lit≤ tt) (lit< tt) refl (rw (b 2 0 tt, b 2 1 tt)) structured
      ▷ a_class (lit≤ tt) (lit≤ tt) (lit< tt) refl (rw (two 3 0 tt, b 3 2 tt)) static
      ▷ a_class (lit≤ tt) (lit≤ tt) (lit< tt) refl (rw (b 2 0 tt, b 2 1 tt)) dynamic
      ▷ a_class (lit≤ tt) (lit≤ tt) (lit< tt) refl (rw (b 2 0 tt, b 2 1 tt)) optional
      ▷ a_class (lit≤ tt) (lit≤ tt) (lit< tt) refl (rw (b 2 0 tt, b 2 1 tt)) variant
      ▷ rw (b 17 0 tt, eight 17 1 tt, eight 17 9 tt) a_range
      ▷ rw (b 1 0 tt) an_option
      ▷ tt

  kind_row : (k : ℕ) → Row k (get_or layouts k no)
  unfolding layouts
  kind_row k = ⊎_elim
      (λ (l : k < 35). below (λ k. Row k (get_or layouts k no)) 35 rows k l)
      (λ (l : 35 ≤ k). rw (get_or-eq_default layouts no {n = k} l) (none k))
      (lt-or-ge k 35)

  layout-at : layout_of x ≡ get_or layouts (byte_at t at) no
  unfolding layout_of u8
  layout-at = let e : at + 0 ≡ at = omega arith in rw (rest-byte t at x h 0, e)

  pub stands : Stands t at (byte_at t at) (body_mark (byte_at t at)) (record_of x)
  unfolding body_mark record_of
  stands = subst (λ (l : Layout). Stands t at (byte_at t at) (body_mark (byte_at t at)) (l.1 (take l.0 (drop 1 x)))) (sym layout-at)
      (kind_row (byte_at t at))

  pub stands-as : (k : ℕ) → byte_at t at ≡ k → Stands t at k (body_mark (byte_at t at)) (record_of x)
  stands-as k e = subst (λ k. Stands t at k (body_mark (byte_at t at)) (record_of x)) e stands

  -- a known kind's body is as long as its row says
  pub known-size : (body_mark (byte_at t at) ≡ no_kind → ⊥) → size x ≡ 1 + body_mark (byte_at t at)
  unfolding size body_mark
  known-size k = rw layout-at (known-mark (get_or layouts (byte_at t at) no) k)
