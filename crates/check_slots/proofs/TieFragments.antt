-- The walk of homes by offsets is the rules' walk, for every list of bytes: `walk-tie`. In order: roots; what is kept of a fragment; a
-- fragment, and all of them; the whole table.
use mathlib.Core.Path.{◌≡◌, refl, sym, ap, subst, ◌∙◌}
use mathlib.Core.Bool.{Bool, true, false, ◌&&◌}
use mathlib.Core.List.{List, [], ◌∷◌}
use Prim.Native.Nat.{ℕ, zero, suc, ◌+◌, ◌<◌, ◌≤◌}
use native.Mathlib.Omega.{arith}
use lib.ListN.{length, drop, length-replicate}
use lib.Dec.{ltb, eqb}
use borrow.Author.Tests.{ne_eqb, lt-ltb, le-ltb}
use Rattle.facts.specs.Bytes.{Bytes}
use Rattle.facts.proofs.Truth.{clash}
use Rattle.rules.specs.Limits.{depth_limit}
use Rattle.rules.specs.Record.{Fragment, preamble, trace_class, clock_class, stream_class, event_class}
use Rattle.rules.specs.Record.{Record, record_of, behind}
use Rattle.rules.specs.Homes.{Homes, no_homes as nothing_set, both, Walked, fault, walked, lost, onward, is_whole, is_any_root}
use Rattle.rules.specs.Homes.{walk_class, walk_roots, homes_of as rules_homes, homes_before, header_homes, stream_homes}
use Rattle.rules.specs.Homes.{walk_rest, walk_opened}
use Rattle.rules.specs.Homes.{walk_fragments, walk}
use Rattle.table_offsets.specs.Bodies.{no_kind, body_mark}
use Rattle.table_offsets.specs.Check.{pick_n, byte_at, u64}
use Rattle.table_offsets.proofs.TieBytes.{Rest, rest-length}
use Rattle.table_offsets.proofs.TieHead.{Whole, head-whole, rest-behind}
use Rattle.table_offsets.proofs.TieKinds.{Stands, nothing, a_preamble, a_trace, a_clock, a_stream}
use Rattle.table_offsets.proofs.TieKinds.{an_event, a_root, a_class, a_range, an_option, stands, stands-as}
use Rattle.check_slots.specs.Homes.{nowhere, fault_at, is_a, is_among, Spot, pick_p, pick_l, no_homes, class_at, roots_at, homes_of}
use Rattle.check_slots.specs.Homes.{fragment_at, stream_roots, roots_before, header_with, streams_with, fragments_at, fault_of}
use Rattle.check_slots.specs.Homes.{first_home_fault}
use Rattle.check_slots.proofs.Onward.{a-here, among-here, nowhere-within}
use Rattle.check_slots.proofs.Rising.{roots-past, homes_none}
use Rattle.check_slots.proofs.Within.{fragments-past, fault-above, fault-none}
use Rattle.check_slots.proofs.TieHomes.{Fresh, Rel, rel-first, rel-none, fresh-none, fresh-later}
use Rattle.check_slots.proofs.TieClasses.{Tied, both-fault, both-walked, both-lost, Begun, none-tie, sooner, onward-tie, classes-tie}
use Rattle.check_slots.proofs.TieClasses.{whole-test, whole_here, here-whole, is_among_lem}
use Rattle.check_slots.proofs.Fewer.{fewer-none, Alike, roots-steady}

-- Roots

root-kind : (t : List ℕ) (at k n : ℕ) (r : Record) → Stands t at k n r → (n ≡ no_kind → ⊥) → is_any_root r ≡ eqb k 6
unfolding is_any_root
root-kind t at k n r nothing h = absurd (h refl)
root-kind t at k n r a_preamble h = refl
root-kind t at k n r a_trace h = refl
root-kind t at k n r a_clock h = refl
root-kind t at k n r a_stream h = refl
root-kind t at k n r an_event h = refl
root-kind t at k n r a_root h = refl
root-kind t at k n r (a_class l u b c e s) h = sym (ne_eqb k 6 (λ z. omega arith))
root-kind t at k n r a_range h = refl
root-kind t at k n r an_option h = refl

root-test : (t : List ℕ) (at : ℕ) (x : List ℕ) → Rest t at x → (is_whole x && is_any_root (record_of x)) ≡ is_a t 6 at
unfolding is_a
root-test t at x r = whole-test t at x r is_any_root (eqb (byte_at t at) 6) (unfold is_any_root in refl)
    (λ k. root-kind t at _ _ _ (stands t at x r) k)

a-root : (t : List ℕ) (at n : ℕ) (v : Record) → Stands t at 6 n v → (n ≡ no_kind → ⊥) → n ≡ 1
a-root t at n v nothing h = absurd (h refl)
a-root t at n v (a_class l u b z g c) h = absurd (omega arith)
a-root t at n v a_root h = refl

module _ (t : List ℕ) (bytes : Bytes t) where
  roots-tie : (n at : ℕ) (h : Homes) (x v : List ℕ) → Begun t 0 at h x v → Tied t 0 at v (walk_roots n h x) (roots_at t (at, v) n)
  unfolding walk_roots roots_at
  roots-tie zero at h x v b = none-tie t 0 at h x v b
  roots-tie (suc n) at h x v b =
      subst (λ (c : Bool). Tied t 0 at v
      (elim c [ true ↦ onward h (walk_class depth_limit h (behind x)) (walk_roots n) | false ↦ walked nothing_set x ])
      (roots_at t (at, v) (suc n)))
      (sym (root-test t at x b.rest)) (by (is_a t 6 at) refl (λ e y w g c. roots-tie n e (both g h) y w c))
    where
      by : (c : Bool) → is_a t 6 at ≡ c
          → ((e : ℕ) (y w : List ℕ) (g : Homes) → Begun t 0 e (both g h) y w
          → Tied t 0 e w (walk_roots n (both g h) y) (roots_at t (e, w) n))
          → Tied t 0 at v (elim c [ true ↦ onward h (walk_class depth_limit h (behind x)) (walk_roots n) | false ↦ walked nothing_set x ])
          (pick_p c (roots_at t (class_at 9 t 0 (at + 2) v) n) (at, v))
      by true e rec = unfold pick_p in
          let a = a-here t 6 at e in
          let w = head-whole t at a.0.head in
          let m = a-root t at _ _ (stands-as t at x b.rest 6 a.1) w.known in
          let c : Begun t 0 (at + 2) h (behind x) v = record {
            rest = rest-behind t at x b.rest w 1 m;
            before = omega arith;
            rel = b.rel;
            fresh = fresh-later at (at + 2) v (omega arith) b.fresh;
            size = b.size;
          } in
          sooner t 0 at (at + 2) v (omega arith)
          (onward-tie t 0 (at + 2) v h (omega arith) b.rel (walk_roots n) (λ e w. roots_at t (e, w) n) (λ e w l. roots-past t n e w l)
          (λ g e y w l c. rec e y w g c) (classes-tie t bytes 8 0 (at + 2) h (behind x) v c))
      by false e rec = unfold pick_p in none-tie t 0 at h x v b

  -- What is kept of a fragment: what its roots set, walked from the byte o on with nothing set; all before the byte e

  record Kept (o e : ℕ) (h : Homes) : Type 0 where
    rel : Rel 0 h (homes_of t o)
    fresh : Fresh e (homes_of t o)
    size : length (homes_of t o) ≡ 256

  kept-later : (o e e' : ℕ) (h : Homes) → e ≤ e' → Kept o e h → Kept o e' h
  kept-later o e e' h l k = record { rel = k.rel; fresh = fresh-later e e' (homes_of t o) l k.fresh; size = k.size }

  kept-none : (e : ℕ) → Kept (length t) e nothing_set
  kept-none e = record {
    rel = rw (homes_none t) (rel-none 0);
    fresh = rw (homes_none t) (fresh-none e);
    size = rw (homes_none t) (length-replicate {A = ℕ} 256 0);
  }

  kept-walked : (o e : ℕ) (g : Homes) (y : List ℕ) (p : Spot) → 0 < o → Rest t e y → Tied t 0 o no_homes (walked g y) p
      → p.1 ≡ homes_of t o → Kept o e g
  kept-walked o e g y p l r (both-walked {e = e'} {v' = v'} r' u w f s) q =
      let z : e' ≡ e = omega (arith, rest-length t e y r, rest-length t e' y r', r.within, r'.within) in
      record {
        rel = subst (Rel 0 g) q (rel-first 0 o v' g l w);
        fresh = subst (Fresh e) q (subst (λ e. Fresh e v') z f);
        size = sym (ap length q) ∙ s;
      }

  -- the roots from o on were walked, with some slots set before
  kept-roots : (o e : ℕ) (h g : Homes) (x y : List ℕ) → 0 < o → Rest t o x → Rest t e y → walk_roots (length x) h x ≡ walked g y
      → Kept o e g
  unfolding homes_of
  kept-roots o e h g x y l r r' w =
      let n = rest-length t o x r in
      let a : walk_roots (length x) nothing_set x ≡ walked g y = subst (λ (c : Walked). Alike c (walk_roots (length x) nothing_set x)) w
      (roots-steady (length x) nothing_set h x (fewer-none h)) in
      let b : Begun t 0 o nothing_set x no_homes = record {
        rest = r;
        before = l;
        rel = rel-none 0;
        fresh = fresh-none o;
        size = length-replicate {A = ℕ} 256 0;
      } in
      kept-walked o e g y (roots_at t (o, no_homes) (length x)) l r'
      (subst (λ (c : Walked). Tied t 0 o no_homes c (roots_at t (o, no_homes) (length x))) a
      (roots-tie (length x) o nothing_set x no_homes b))
      (ap (λ (n : ℕ). (roots_at t (o, no_homes) n).1) n)

  -- the stream classes so far, by their places
  data Listed (e : ℕ) : List (ℕ × Homes) → List ℕ → Type 0 where
    no-streams : Listed e [] []
    one_more : {i o : ℕ} {g : Homes} {l : List (ℕ × Homes)} {os : List ℕ} → i ≡ u64 t (o + 1) → Kept (o + 10) e g → Listed e l os
        → Listed e ((i, g) ∷ l) (o ∷ os)

  listed-later : (e e' : ℕ) → e ≤ e' → {l : List (ℕ × Homes)} {os : List ℕ} → Listed e l os → Listed e' l os
  listed-later e e' u no-streams = no-streams
  listed-later e e' u (one_more {o = o} {g = g} i k l) = one_more i (kept-later (o + 10) e e' g u k) (listed-later e e' u l)

  listed : (e i : ℕ) {l : List (ℕ × Homes)} {os : List ℕ} → Listed e l os → Kept (stream_roots t i os) e (rules_homes l i)
  unfolding stream_roots rules_homes
  listed e i no-streams = kept-none e
  listed e i (one_more {i = j} {o = o} {g = g} {l = l} {os = os} z k m) =
      rw (← z) (by (eqb j i) (listed e i m))
    where
      by : (b : Bool) → Kept (stream_roots t i os) e (rules_homes l i)
          → Kept (pick_n b (o + 10) (stream_roots t i os)) e (elim b [ true ↦ g | false ↦ rules_homes l i ])
      by true r = unfold pick_n in k
      by false r = unfold pick_n in r

-- A fragment

-- how both walks end
pub data Ended (t : List ℕ) : Walked → ℕ → Type 0 where
  ended-fault : {y : List ℕ} {b : ℕ} → Rest t b y → b < length t → Ended t (fault y) (fault_at t b)
  ended-lost : {e : ℕ} → e ≤ length t → Ended t lost e

fragments-not : (t : List ℕ) (header : ℕ) (os : List ℕ) (n at : ℕ) → is_among t 1 5 at ≡ false
    → fragments_at t header os at (suc n) ≡ nowhere t at
unfolding fragments_at pick_n
fragments-not t header os n at e = rw e

fragments-step : (t : List ℕ) (header : ℕ) (os : List ℕ) (n at : ℕ) → is_among t 1 5 at ≡ true → (m : ℕ) → body_mark (byte_at t at) ≡ m
    → (before : ℕ) → roots_before t header os at ≡ before → (header' : ℕ) → header_with t header at ≡ header'
    → (os' : List ℕ) → streams_with t os at ≡ os'
    → fragments_at t header os at (suc n) ≡ fragments_at t header' os' (fragment_at t before (at + (1 + m))) n
unfolding fragments_at pick_n
fragments-step t header os n at e m j before p header' q os' r =
    let z : at + 1 + m ≡ at + (1 + m) = omega arith in rw (e, j, p, q, r, z)

-- what the kinds 1 to 5 have before them, and what is kept of them
record Opens (t : List ℕ) (header : ℕ) (os : List ℕ) (at : ℕ) : Type 0 where
  none_before : (k : ℕ) → byte_at t at ≡ k → (k ≡ 4 → ⊥) → (k ≡ 5 → ⊥) → roots_before t header os at ≡ length t
  header-before : byte_at t at ≡ 4 → roots_before t header os at ≡ header
  stream-before : byte_at t at ≡ 5 → roots_before t header os at ≡ stream_roots t (u64 t (at + 1)) os
  header-new : byte_at t at ≡ 2 → header_with t header at ≡ at + 18
  header-old : (k : ℕ) → byte_at t at ≡ k → (k ≡ 2 → ⊥) → header_with t header at ≡ header
  streams-new : byte_at t at ≡ 4 → streams_with t os at ≡ at ∷ os
  streams-old : (k : ℕ) → byte_at t at ≡ k → (k ≡ 4 → ⊥) → streams_with t os at ≡ os

opens : (t : List ℕ) (header : ℕ) (os : List ℕ) (at : ℕ) → Opens t header os at
unfolding roots_before header_with streams_with pick_n pick_l
opens t header os at = record {
  none_before = λ k e a b. rw (e, ne_eqb k 4 a, ne_eqb k 5 b);
  header-before = λ e. rw e;
  stream-before = λ e. rw e;
  header-new = λ e. rw e;
  header-old = λ k e a. rw (e, ne_eqb k 2 a);
  streams-new = λ e. rw e;
  streams-old = λ k e a. rw (e, ne_eqb k 4 a);
}

module _ (t : List ℕ) (bytes : Bytes t) (n : ℕ) (F : Homes → List (ℕ × Homes) → List ℕ → Walked)
    (rec : (at : ℕ) (x : List ℕ) → Rest t at x → (h : Homes) (l : List (ℕ × Homes)) (header : ℕ) (os : List ℕ)
    → Kept t bytes header at h → Listed t bytes at l os → Ended t (F h l x) (fragments_at t header os at n)) where
  -- its roots are walked; if they go through, what is kept serves those behind it
  rest-tie : (g : Fragment) (h : Homes) (l : List (ℕ × Homes)) (at q : ℕ) (x : List ℕ) → at < q → Rest t q x → (before : ℕ)
      → Kept t bytes before at (homes_before h l g) → (header : ℕ) (os : List ℕ)
      → ((k : Homes) (e : ℕ) (y : List ℕ) → at ≤ e → Rest t e y → walk_roots (length x) (homes_before h l g) x ≡ walked k y
      → Kept t bytes header e (header_homes g k h) × Listed t bytes e (stream_homes g k l) os)
      → Ended t (walk_rest F h l g (walk_roots (length x) (homes_before h l g) x)) (fragments_at t header os (fragment_at t before q) n)
  rest-tie g h l at q x u r before kept header os keep =
      by (walk_roots (length x) (homes_before h l g) x) (roots_at t (q, homes_of t before) (length x)) refl
      (unfold fragment_at in ap (λ (n : ℕ). (roots_at t (q, homes_of t before) n).0) (rest-length t q x r))
      (roots-tie t bytes (length x) q (homes_before h l g) x (homes_of t before) (record {
        rest = r;
        before = omega arith;
        rel = kept.rel;
        fresh = fresh-later at q (homes_of t before) (omega arith) kept.fresh;
        size = kept.size;
      }))
    where
      by : (o : Walked) (p : Spot) → walk_roots (length x) (homes_before h l g) x ≡ o → p.0 ≡ fragment_at t before q
          → Tied t 0 q (homes_of t before) o p
          → Ended t (walk_rest F h l g o) (fragments_at t header os (fragment_at t before q) n)
      by o p i j (both-fault {b = b} a w) = unfold walk_rest in
          rw (← j, fragments-past t header os n (fault_at t b) (omega arith)) (ended-fault a w)
      by o p i j (both-walked {g = k} {x = y} {e = e} a w own fr s) = unfold walk_rest in
          let c = keep k e y (omega arith) a i in
          rw (← j) (rec e y a (header_homes g k h) (stream_homes g k l) header os c.0 c.1)
      by o p i j both-lost = unfold walk_rest in
          rw (← j, fragments-past t header os n (length t) (omega arith)) (ended-lost {e = length t} (omega arith))

  module _ (at : ℕ) (x : List ℕ) (r : Rest t at x) (h : Homes) (l : List (ℕ × Homes)) (header : ℕ) (os : List ℕ)
      (kept : Kept t bytes header at h) (list : Listed t bytes at l os) (a : is_among t 1 5 at ≡ true) where
    whole : Whole t at
    whole = head-whole t at (among-here t 1 5 at a).0.head

    opened-tie : (m z : ℕ) (v : Record) → Stands t at m z v → byte_at t at ≡ m → body_mark (byte_at t at) ≡ z
        → Ended t (walk_opened F h l v (behind x)) (fragments_at t header os at (suc n))
    unfolding walk_opened homes_before header_homes stream_homes
    opened-tie m z v nothing i j = absurd (whole.known j)
    opened-tie m z v a_preamble i j =
        let o = opens t header os at in
        rw (fragments-step t header os n at a 1 j (length t) (o.none_before 1 i (λ e. omega arith) (λ e. omega arith)) header
        (o.header-old 1 i (λ e. omega arith)) os (o.streams-old 1 i (λ e. omega arith)))
        (rest-tie (preamble (byte_at t (at + 1))) h l at (at + 2) (behind x) (omega arith) (rest-behind t at x r whole 1 j) (length t)
        (kept-none t bytes at) header os (λ k e y u g w. (kept-later t bytes header at e h u kept, listed-later t bytes at e u list)))
    opened-tie m z v (a_trace {l = c}) i j =
        let o = opens t header os at in
        let b = rest-behind t at x r whole 17 j in
        rw (fragments-step t header os n at a 17 j (length t) (o.none_before 2 i (λ e. omega arith) (λ e. omega arith)) (at + 18)
        (o.header-new i) os (o.streams-old 2 i (λ e. omega arith)))
        (rest-tie (trace_class (byte_at t (at + 1)) c) h l at (at + 18) (behind x) (omega arith) b (length t)
        (kept-none t bytes at) (at + 18) os
        (λ k e y u g w. (kept-roots t bytes (at + 18) e nothing_set k (behind x) y (omega arith) b g w, listed-later t bytes at e u list)))
    opened-tie m z v a_clock i j =
        let o = opens t header os at in
        rw (fragments-step t header os n at a 9 j (length t) (o.none_before 3 i (λ e. omega arith) (λ e. omega arith)) header
        (o.header-old 3 i (λ e. omega arith)) os (o.streams-old 3 i (λ e. omega arith)))
        (rest-tie (clock_class (byte_at t (at + 1)) (u64 t (at + 2))) h l at (at + 10) (behind x) (omega arith)
        (rest-behind t at x r whole 9 j) (length t) (kept-none t bytes at) header os
        (λ k e y u g w. (kept-later t bytes header at e h u kept, listed-later t bytes at e u list)))
    opened-tie m z v a_stream i j =
        let o = opens t header os at in
        let b = rest-behind t at x r whole 9 j in
        rw (fragments-step t header os n at a 9 j header (o.header-before i) header (o.header-old 4 i (λ e. omega arith)) (at ∷ os)
        (o.streams-new i))
        (rest-tie (stream_class (u64 t (at + 1)) (byte_at t (at + 9))) h l at (at + 10) (behind x) (omega arith) b header kept header
        (at ∷ os)
        (λ k e y u g w. (
          kept-later t bytes header at e h u kept,
          one_more refl (kept-roots t bytes (at + 10) e h k (behind x) y (omega arith) b g w) (listed-later t bytes at e u list),
        )))
    opened-tie m z v an_event i j =
        let o = opens t header os at in
        rw (fragments-step t header os n at a 16 j (stream_roots t (u64 t (at + 1)) os) (o.stream-before i) header
        (o.header-old 5 i (λ e. omega arith)) os (o.streams-old 5 i (λ e. omega arith)))
        (rest-tie (event_class (u64 t (at + 1)) (u64 t (at + 9))) h l at (at + 17) (behind x) (omega arith)
        (rest-behind t at x r whole 16 j)
        (stream_roots t (u64 t (at + 1)) os) (listed t bytes at (u64 t (at + 1)) list) header os
        (λ k e y u g w. (kept-later t bytes header at e h u kept, listed-later t bytes at e u list)))
    opened-tie m z v a_root i j = absurd (omega (arith, (among-here t 1 5 at a).1))
    opened-tie m z v (a_class b u c d g q) i j = absurd (omega (arith, (among-here t 1 5 at a).1))
    opened-tie m z v a_range i j = absurd (omega (arith, (among-here t 1 5 at a).1))
    opened-tie m z v an_option i j = absurd (omega (arith, (among-here t 1 5 at a).1))

-- Fragments

unfoldable opened_here : (Homes → List (ℕ × Homes) → List ℕ → Walked) → Homes → List (ℕ × Homes) → List ℕ → Walked
opened_here F h l x = elim (is_whole x) [ true ↦ walk_opened F h l (record_of x) (behind x) | false ↦ lost ]

opened-is : (F : Homes → List (ℕ × Homes) → List ℕ → Walked) (h : Homes) (l : List (ℕ × Homes)) (x : List ℕ) → is_whole x ≡ true
    → opened_here F h l x ≡ walk_opened F h l (record_of x) (behind x)
unfolding opened_here
opened-is F h l x p = ap (λ (b : Bool). elim b [ true ↦ walk_opened F h l (record_of x) (behind x) | false ↦ lost ]) p

not-fragment : (t : List ℕ) (F : Homes → List (ℕ × Homes) → List ℕ → Walked) (h : Homes) (l : List (ℕ × Homes)) (at : ℕ) (x : List ℕ)
    → Rest t at x → is_among t 1 5 at ≡ false → opened_here F h l x ≡ lost
unfolding opened_here
not-fragment t F h l at x r e = by (is_whole x) refl _ _ _ refl refl (stands t at x r)
  where
    must : (m : ℕ) → byte_at t at ≡ m → (z : ℕ) → body_mark (byte_at t at) ≡ z → (z ≡ no_kind → ⊥) → 1 ≤ m → m ≤ 5 → is_whole x ≡ true → ⊥
    must m i z j k a b p =
        let w = here-whole t at x r (λ o. k (sym j ∙ o)) p in
        clash (sym e ∙ is_among_lem t 1 5 at w (omega arith) (omega arith))

    by : (b : Bool) → is_whole x ≡ b → (m z : ℕ) (v : Record) → byte_at t at ≡ m → body_mark (byte_at t at) ≡ z → Stands t at m z v
        → elim b [ true ↦ walk_opened F h l v (behind x) | false ↦ lost ] ≡ lost
    by false p m z v i j s = refl
    by true p m z v i j nothing = unfold walk_opened in refl
    by true p m z v i j a_preamble = absurd (must 1 i 1 j (λ o. omega arith) (omega arith) (omega arith) p)
    by true p m z v i j a_trace = absurd (must 2 i 17 j (λ o. omega arith) (omega arith) (omega arith) p)
    by true p m z v i j a_clock = absurd (must 3 i 9 j (λ o. omega arith) (omega arith) (omega arith) p)
    by true p m z v i j a_stream = absurd (must 4 i 9 j (λ o. omega arith) (omega arith) (omega arith) p)
    by true p m z v i j an_event = absurd (must 5 i 16 j (λ o. omega arith) (omega arith) (omega arith) p)
    by true p m z v i j a_root = unfold walk_opened in refl
    by true p m z v i j (a_class a u c d g q) = unfold walk_opened in refl
    by true p m z v i j a_range = unfold walk_opened in refl
    by true p m z v i j an_option = unfold walk_opened in refl

here-tie : (t : List ℕ) (bytes : Bytes t) (n : ℕ) (F : Homes → List (ℕ × Homes) → List ℕ → Walked)
    → ((at : ℕ) (x : List ℕ) → Rest t at x → (h : Homes) (l : List (ℕ × Homes)) (header : ℕ) (os : List ℕ)
    → Kept t bytes header at h → Listed t bytes at l os → Ended t (F h l x) (fragments_at t header os at n))
    → (at : ℕ) (x : List ℕ) → Rest t at x → (h : Homes) (l : List (ℕ × Homes)) (header : ℕ) (os : List ℕ)
    → Kept t bytes header at h → Listed t bytes at l os → Ended t (opened_here F h l x) (fragments_at t header os at (suc n))
here-tie t bytes n F rec at x r h l header os kept list = by (is_among t 1 5 at) refl
  where
    by : (c : Bool) → is_among t 1 5 at ≡ c → Ended t (opened_here F h l x) (fragments_at t header os at (suc n))
    by true e =
        rw (opened-is F h l x (whole_here t at x r (among-here t 1 5 at e).0.head))
        (opened-tie t bytes n F rec at x r h l header os kept list e _ _ _ (stands t at x r) refl refl)
    by false e =
        rw (not-fragment t F h l at x r e, fragments-not t header os n at e, nowhere-within t at r.within)
        (ended-lost {e = length t} (omega arith))

fragments-tie : (t : List ℕ) (bytes : Bytes t) (n at : ℕ) (x : List ℕ) → Rest t at x
    → (h : Homes) (l : List (ℕ × Homes)) (header : ℕ) (os : List ℕ) → Kept t bytes header at h → Listed t bytes at l os
    → Ended t (walk_fragments n h l x) (fragments_at t header os at n)
unfolding walk_fragments opened_here fragments_at
fragments-tie t bytes zero at x r h l header os kept list = ended-lost r.within
fragments-tie t bytes (suc n) at x r h l header os kept list =
    here-tie t bytes n (walk_fragments n) (fragments-tie t bytes n) at x r h l header os kept list

-- The whole table

told : (t : List ℕ) {o : Walked} {e : ℕ} → Ended t o e
    → o ≡ elim (ltb (fault_of t e) (length t)) [ true ↦ fault (drop (fault_of t e) t) | false ↦ lost ]
told t (ended-fault {y = y} {b = b} r l) =
    subst (λ (n : ℕ). fault y ≡ elim (ltb n (length t)) [ true ↦ fault (drop n t) | false ↦ lost ]) (sym (fault-above t b))
    (rw (lt-ltb b (length t) l) (ap fault r.is))
told t (ended-lost {e = e} l) = rw (fault-none t e l, le-ltb (length t) (length t) (omega arith))

-- The rules' walk finds the class at fault at the byte that the walk by offsets finds, and none where that finds none.
pub walk-tie : (t : List ℕ) → Bytes t
    → walk t ≡ elim (ltb (first_home_fault t) (length t)) [ true ↦ fault (drop (first_home_fault t) t) | false ↦ lost ]
unfolding walk first_home_fault
walk-tie t bytes = told t (fragments-tie t bytes (length t) 0 t (record { is = refl; within = omega arith }) nothing_set [] (length t) []
    (kept-none t bytes 0) no-streams)

-- The same by cases, for who has tested the byte

pub walk-fault : (t : List ℕ) → Bytes t → first_home_fault t < length t → walk t ≡ fault (drop (first_home_fault t) t)
walk-fault t bytes l =
    walk-tie t bytes
    ∙ ap (λ (b : Bool). elim b [ true ↦ fault (drop (first_home_fault t) t) | false ↦ lost ]) (lt-ltb (first_home_fault t) (length t) l)

pub walk_none : (t : List ℕ) → Bytes t → length t ≤ first_home_fault t → walk t ≡ lost
walk_none t bytes l =
    walk-tie t bytes
    ∙ ap (λ (b : Bool). elim b [ true ↦ fault (drop (first_home_fault t) t) | false ↦ lost ]) (le-ltb (first_home_fault t) (length t) l)

ended-within : (t : List ℕ) {o : Walked} {e : ℕ} → Ended t o e → fault_of t e ≤ length t
ended-within t (ended-fault {b = b} r l) = rw (fault-above t b) (omega arith)
ended-within t (ended-lost {e = e} l) = rw (fault-none t e l) (omega arith)

pub fault-within : (t : List ℕ) → Bytes t → first_home_fault t ≤ length t
unfolding first_home_fault
fault-within t bytes =
    ended-within t (fragments-tie t bytes (length t) 0 t (record { is = refl; within = omega arith }) nothing_set [] (length t) []
    (kept-none t bytes 0) no-streams)
