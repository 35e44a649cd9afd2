-- What is found of a stream class: its context, and what its events ask of it.
use Rattle.std.specs.Prelude.{Some, Option}
use mathlib.Core.Path.{◌≡◌, ap, sym}
use mathlib.Core.List.{List}
use mathlib.Core.Bool.{Bool, not}
use Prim.Native.Nat.{ℕ, ◌+◌, ◌≤◌}
use lib.ListN.{length}
use lib.Dec.{eqb}
use borrow.Author.Tests.{eqb-true}
use Rattle.rules.specs.Limits.{no_clock}
use Rattle.rules.specs.Packet.{first_root}
use Rattle.rules.specs.Record.{u8, u64}
use Rattle.facts.proofs.Truth.{and_left, and_right}
use Rattle.class_layout.specs.Fragments.{asked_at, stream_class_at, find_stream_at, fragments_of, map_option, root_place, opening_size, is_stream}
use Rattle.class_layout.specs.Sizes.{Sized, SizedFragment}
use Rattle.class_layout.proofs.Lookups.{found_some, first_holds}
use Rattle.class_layout.proofs.RootNumbers.{first-number, header-number, common-number}
use Rattle.event_turns.specs.Roots.{class_of, Numbered}
use Rattle.event_turns.specs.Ready.{OfStream}
use Rattle.event_turns.proofs.Looked.{root-class, root_stands, root-numbered}

pub context-class : (t : List ℕ) (o : ℕ) (x : Option ℕ) → x ≡ root_place t o 0 → class_of t x ≡ (stream_class_at t o).context
unfolding stream_class_at
context-class t o x e = root-class t o 0 x e

-- the stream class that has an id
module _ (t s : List ℕ) (id class : ℕ) (h : Sized t s) (e : find_stream_at t (fragments_of t) id ≡ Some class) where
  found_at : find_stream_at t (fragments_of t) id ≡ Some class
  found_at = found_some _ class (sym e)

  pub stream-sized : SizedFragment t s class
  stream-sized = (first_holds (SizedFragment t s) (is_stream t id) (fragments_of t) class found_at h.each).1

  is-stream : (u8 t class ≡ 4) × (u64 t (class + 1) ≡ id)
  unfolding is_stream
  is-stream =
      let x = (first_holds (SizedFragment t s) (is_stream t id) (fragments_of t) class found_at h.each).0 in
      let kind = and_left (eqb (u8 t class) 4) (eqb (u64 t (class + 1)) id) x in
      let same = and_right (eqb (u8 t class) 4) (eqb (u64 t (class + 1)) id) x in
      (eqb-true _ _ kind, eqb-true _ _ same)

  pub context-number : (x : Option ℕ) → x ≡ root_place t class 0 → Numbered t x first_root
  context-number x e = root-numbered t class 0 first_root x e (λ p h. first-number t class p stream-sized.stands h)

  pub stream-found : (asked_at t).stream id ≡ Some (stream_class_at t class)
  unfolding asked_at map_option
  stream-found = ap (map_option (stream_class_at t)) found_at

  pub stream-there : class + 10 ≤ length t
  unfolding opening_size
  stream-there = rw (is-stream.0, opening_size) at stream-sized.stands.there

  pub of-stream : (x y : Option ℕ) (timed : Bool) → timed ≡ not (eqb (u8 t (class + 9)) no_clock) → x ≡ root_place t class 1
      → y ≡ root_place t class 2
      → OfStream t (record { class = class; id = id; timed = timed; header = x; common = y })
  unfolding stream_class_at
  of-stream x y timed w p q = record {
    found = stream-found;
    id = sym is-stream.1;
    timed = w;
    header = root-class t class 1 x p;
    common = root-class t class 2 y q;
    header_stands = root_stands t class 1 x stream-sized.stands p;
    common_stands = root_stands t class 2 y stream-sized.stands q;
    header_numbered = root-numbered t class 1 _ x p (λ i h. header-number t class i stream-sized.stands h);
    common_numbered = root-numbered t class 2 _ y q (λ i h. common-number t class i stream-sized.stands h);
  }
