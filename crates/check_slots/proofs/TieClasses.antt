-- The walk of homes by offsets over a class and all that it holds is the rules' walk, at every depth. In order: a record that stands whole;
-- when two walks say the same, and one after the other; ranges; members and options; which slot a record sets; a class.
use mathlib.Core.Path.{◌≡◌, refl, sym, ap, subst, ◌∙◌}
use mathlib.Core.Logic.{⊎_elim}
use mathlib.Core.Bool.{Bool, true, false, ◌&&◌}
use mathlib.Core.List.{List, []}
use Prim.Native.Nat.{ℕ, zero, suc, ◌+◌, ◌<◌, ◌≤◌}
use native.Mathlib.Omega.{arith}
use lib.ListN.{length, get_or, take, drop, length-take, get_or-eq_default}
use lib.Seq.{get_or-take, get_or-drop}
use lib.Dec.{leb, eqb, lit<}
use borrow.Author.Tests.{eqb-true, eq-eqb, ne_eqb, le-leb, lt-leb}
use Rattle.facts.specs.Bytes.{Bytes}
use Rattle.facts.proofs.Cases.{Each, ◌▷◌, below}
use Rattle.facts.proofs.Numbers.{lt-or-ge}
use Rattle.facts.proofs.Truth.{clash, and_none}
use Rattle.rules.specs.Class.{setting}
use Rattle.rules.specs.Record.{Shape, bit_field, leb_field, signed_leb_field, zero_string, text, blob, text_of, blob_of, members, elements}
use Rattle.rules.specs.Record.{elements_of, option?, options, Says as Said, no, bits_layout, layouts, layout_of, u8}
use Rattle.rules.specs.Record.{Record, unknown, fragment, root, class, range, option, record_of, behind, size}
use Rattle.rules.specs.Homes.{Homes, homes, no_homes as nothing_set, both, across, Walked, fault, walked, lost, Walk, more, onward, out}
use Rattle.rules.specs.Homes.{is_whole, is_range, walk_ranges, walk_option, walk_options, walk_members, walk_shape, walk_record, walk_class}
use Rattle.table_offsets.specs.declared.Says.{Says}
use Rattle.table_offsets.specs.Bodies.{no_kind, body_mark}
use Rattle.table_offsets.specs.Check.{pick_n, inside, byte_at, head_fault, say, sayings, say_of, says_at}
use Rattle.table_offsets.proofs.Rows.{rows}
use Rattle.table_offsets.proofs.TieBytes.{Rest, rest-byte}
use Rattle.table_offsets.proofs.TieHead.{head-whole, whole-at, rest-behind, known-or-not}
use Rattle.table_offsets.proofs.TieKinds.{plain, Single, bits, lebs, signed_lebs, to_zero, texts, blobs, texts_of, blobs_of}
use Rattle.table_offsets.proofs.TieKinds.{Shaped, single, structured, static, dynamic, optional, variant}
use Rattle.table_offsets.proofs.TieKinds.{Stands, nothing, a_preamble, a_trace, a_clock, a_stream}
use Rattle.table_offsets.proofs.TieKinds.{an_event, a_root, a_class, a_range, an_option, stands, stands-as}
use Rattle.check_slots.specs.Homes.{nowhere, fault_at, is_a, is_among, behind_range, behind_ranges, behind_option, Spot, pick_p, parts_at}
use Rattle.check_slots.specs.Homes.{set_elsewhere, noted, home_within, parts, part_at, class_at}
use Rattle.check_slots.proofs.Onward.{Here, a-here, among-here, nowhere-within}
use Rattle.check_slots.proofs.Rising.{ranges-past, class-past, parts-past}
use Rattle.check_slots.proofs.TieHomes.{Own, Fresh, Rel, own-none, own-then, own_out, own-sooner, rel-own, rel-across, noted-none}
use Rattle.check_slots.proofs.TieHomes.{length-noted, own-noted, fresh-noted, fresh-later}

-- A record that stands whole

-- the rules' test of a whole record is the test at a byte
pub whole-test : (t : List ℕ) (at : ℕ) (x : List ℕ) → Rest t at x → (P : Record → Bool) (b : Bool) → P unknown ≡ false
    → ((body_mark (byte_at t at) ≡ no_kind → ⊥) → P (record_of x) ≡ b)
    → (is_whole x && P (record_of x)) ≡ (eqb (head_fault t at) 0 && b)
unfolding is_whole
whole-test t at x r P b u h = ⊎_elim
    (λ e. rw (e.1, u, and_none (leb (size x) (length x))) (sym (none e.0 (eqb (head_fault t at) 0) refl)))
    (λ k. rw (h k.0, whole-at t at x r k.0))
    (known-or-not t at _ _ _ (stands t at x r))
  where
    none : body_mark (byte_at t at) ≡ no_kind → (c : Bool) → eqb (head_fault t at) 0 ≡ c → (c && b) ≡ false
    none e true p = absurd ((head-whole t at (eqb-true (head_fault t at) 0 p)).known e)
    none e false p = refl

pub whole_here : (t : List ℕ) (at : ℕ) (x : List ℕ) → Rest t at x → head_fault t at ≡ 0 → is_whole x ≡ true
unfolding is_whole
whole_here t at x r e = whole-at t at x r (head-whole t at e).known ∙ eq-eqb (head_fault t at) 0 e

pub here-whole : (t : List ℕ) (at : ℕ) (x : List ℕ) → Rest t at x → (body_mark (byte_at t at) ≡ no_kind → ⊥) → is_whole x ≡ true
    → head_fault t at ≡ 0
unfolding is_whole
here-whole t at x r k e = eqb-true (head_fault t at) 0 (sym (whole-at t at x r k) ∙ e)

-- a record of a kind stands here
pub is-a : (t : List ℕ) (k at : ℕ) → head_fault t at ≡ 0 → byte_at t at ≡ k → is_a t k at ≡ true
unfolding is_a
is-a t k at h e = rw (eq-eqb (head_fault t at) 0 h, eq-eqb (byte_at t at) k e)

pub is_among_lem : (t : List ℕ) (low high at : ℕ) → head_fault t at ≡ 0 → low ≤ byte_at t at → byte_at t at ≤ high
    → is_among t low high at ≡ true
unfolding is_among inside
is_among_lem t low high at h l u = rw (eq-eqb (head_fault t at) 0 h, le-leb low (byte_at t at) l, le-leb (byte_at t at) high u)

range-kind : (t : List ℕ) (at k n : ℕ) (r : Record) → Stands t at k n r → (n ≡ no_kind → ⊥) → is_range r ≡ eqb k 33
unfolding is_range
range-kind t at k n r nothing h = absurd (h refl)
range-kind t at k n r a_preamble h = refl
range-kind t at k n r a_trace h = refl
range-kind t at k n r a_clock h = refl
range-kind t at k n r a_stream h = refl
range-kind t at k n r an_event h = refl
range-kind t at k n r a_root h = refl
range-kind t at k n r (a_class l u b c e s) h = sym (ne_eqb k 33 (λ z. omega arith))
range-kind t at k n r a_range h = refl
range-kind t at k n r an_option h = refl

range-test : (t : List ℕ) (at : ℕ) (x : List ℕ) → Rest t at x → (is_whole x && is_range (record_of x)) ≡ is_a t 33 at
unfolding is_a
range-test t at x r = whole-test t at x r is_range (eqb (byte_at t at) 33) (unfold is_range in refl)
    (λ k. range-kind t at _ _ _ (stands t at x r) k)

-- Two walks

-- the rules' walk and the one by offsets, from `at` on at a home, where v was set
pub data Tied (t : List ℕ) (home at : ℕ) (v : List ℕ) : Walked → Spot → Type 0 where
  both-fault : {y : List ℕ} {b : ℕ} {v' : List ℕ} → Rest t b y → b < length t → Tied t home at v (fault y) (fault_at t b, v')
  both-walked : {g : Homes} {x : List ℕ} {e : ℕ} {v' : List ℕ} → Rest t e x → at ≤ e → Own home at v v' g → Fresh e v' → length v' ≡ 256
      → Tied t home at v (walked g x) (e, v')
  both-lost : {v' : List ℕ} → Tied t home at v lost (length t, v')

-- what is known where a walk begins
pub record Begun (t : List ℕ) (home at : ℕ) (h : Homes) (x : List ℕ) (v : List ℕ) : Type 0 where
  pub rest : Rest t at x
  pub before : home < at
  pub rel : Rel home h v
  pub fresh : Fresh at v
  pub size : length v ≡ 256

pub none-tie : (t : List ℕ) (home at : ℕ) (h : Homes) (x v : List ℕ) → Begun t home at h x v
    → Tied t home at v (walked nothing_set x) (at, v)
none-tie t home at h x v b = both-walked b.rest (omega arith) (own-none home at v) b.fresh b.size

pub nowhere-tie : (t : List ℕ) (home at : ℕ) (h : Homes) (x v : List ℕ) → Begun t home at h x v → Tied t home at v lost (nowhere t at, v)
nowhere-tie t home at h x v b = rw (nowhere-within t at b.rest.within) both-lost

pub sooner : (t : List ℕ) (home at e : ℕ) (v : List ℕ) → at ≤ e → {o : Walked} {p : Spot} → Tied t home e v o p → Tied t home at v o p
sooner t home at e v l (both-fault r u) = both-fault r u
sooner t home at e v l (both-walked {g = g} {v' = v'} r u o f s) = both-walked r (omega arith) (own-sooner home at e v v' g l o) f s
sooner t home at e v l both-lost = both-lost

more-tie : (t : List ℕ) (home at e : ℕ) (v v' : List ℕ) (g : Homes) → home < at → at ≤ e → Own home at v v' g
    → {o : Walked} {p : Spot} → Tied t home e v' o p → Tied t home at v (more g o) p
unfolding more
more-tie t home at e v v' g l u a (both-fault r k) = both-fault r k
more-tie t home at e v v' g l u a (both-walked {g = g'} {v' = v''} r k o f s) =
    both-walked r (omega arith) (own-then home at e v v' v'' g g' l u a o) f s
more-tie t home at e v v' g l u a both-lost = both-lost

pub onward-tie : (t : List ℕ) (home at : ℕ) (v : List ℕ) (h : Homes) → home < at → Rel home h v → (f : Walk) (F : ℕ → List ℕ → Spot)
    → ((e : ℕ) (w : List ℕ) → length t ≤ e → F e w ≡ (e, w))
    → ((g : Homes) (e : ℕ) (x w : List ℕ) → at ≤ e → Begun t home e (both g h) x w → Tied t home e w (f (both g h) x) (F e w))
    → {o : Walked} {p : Spot} → Tied t home at v o p → Tied t home at v (onward h o f) (F p.0 p.1)
unfolding onward
onward-tie t home at v h l r f F past k (both-fault {b = b} {v' = v'} a u) =
    rw (past (fault_at t b) v' (omega arith)) (both-fault a u)
onward-tie t home at v h l r f F past k (both-walked {g = g} {x = x} {e = e} {v' = v'} a u o fr s) =
    more-tie t home at e v v' g l u o (k g e x v' u (record {
      rest = a;
      before = omega arith;
      rel = rel-own home at v v' g h l r o;
      fresh = fr;
      size = s;
    }))
onward-tie t home at v h l r f F past k (both-lost {v' = v'}) = rw (past (length t) v' (omega arith)) both-lost

out-tie : (t : List ℕ) (home at next : ℕ) (v : List ℕ) → at < next → Fresh at v → {o : Walked} {p : Spot}
    → Tied t at next v o p → Tied t home at v (out o) p
unfolding out
out-tie t home at next v l u (both-fault a k) = both-fault a k
out-tie t home at next v l u (both-walked {g = g} {v' = v'} a k o f s) =
    both-walked a (omega arith) (own_out home at next v v' g l u o) f s
out-tie t home at next v l u both-lost = both-lost

-- Ranges set nothing

pub data Passed (t : List ℕ) (at : ℕ) : Walked → ℕ → Type 0 where
  passed : {x : List ℕ} {e : ℕ} → Rest t e x → at ≤ e → Passed t at (walked nothing_set x) e
  passed-not : Passed t at lost (length t)

passed-sooner : (t : List ℕ) (at e : ℕ) → at ≤ e → {o : Walked} {n : ℕ} → Passed t e o n → Passed t at o n
passed-sooner t at e l (passed r u) = passed r (omega arith)
passed-sooner t at e l passed-not = passed-not

ranges-tie : (t : List ℕ) (n at : ℕ) (h : Homes) (x : List ℕ) → Rest t at x → Passed t at (walk_ranges n h x) (behind_ranges t at n)
unfolding walk_ranges behind_ranges behind_range
ranges-tie t zero at h x r = passed r (omega arith)
ranges-tie t (suc n) at h x r =
    subst (λ (c : Bool). Passed t at (elim c [ true ↦ walk_ranges n h (behind x) | false ↦ lost ]) (behind_ranges t (behind_range t at) n))
    (sym (range-test t at x r)) (by (is_a t 33 at) refl (ranges-tie t n (at + 18) h (behind x)))
  where
    by : (b : Bool) → is_a t 33 at ≡ b
        → (Rest t (at + 18) (behind x) → Passed t (at + 18) (walk_ranges n h (behind x)) (behind_ranges t (at + 18) n))
        → Passed t at (elim b [ true ↦ walk_ranges n h (behind x) | false ↦ lost ]) (behind_ranges t (pick_n b (at + 18) (nowhere t at)) n)
    by true e rec = unfold pick_n in
        let a = a-here t 33 at e in
        let w = head-whole t at a.0.head in
        let m : body_mark (byte_at t at) ≡ 17 = rw a.1 rows.range in
        passed-sooner t at (at + 18) (omega arith) (rec (rest-behind t at x r w 17 m))
    by false e rec = unfold pick_n in
        rw (nowhere-within t at r.within, ranges-past t n (length t) (omega arith)) passed-not

pub passed-tie : (t : List ℕ) (home at : ℕ) (h : Homes) (x v : List ℕ) → Begun t home at h x v → {o : Walked} {n : ℕ} → Passed t at o n
    → Tied t home at v o (n, v)
passed-tie t home at h x v b (passed {e = e} r u) = both-walked r u (own-none home at v) (fresh-later at e v u b.fresh) b.size
passed-tie t home at h x v b passed-not = both-lost

-- Classes of a depth, and what holds them

abbrev pub Walks : List ℕ → Walk → ℕ → Type 0
Walks t f d = (home at : ℕ) (h : Homes) (x v : List ℕ) → Begun t home at h x v → Tied t home at v (f h x) (class_at d t home at v)

module _ (t : List ℕ) (f : Walk) (d : ℕ) (k : Walks t f d) where
  members-tie : (o : ℕ) → ((e : ℕ) → part_at t o e ≡ e) → (n home at : ℕ) (h : Homes) (x v : List ℕ) → Begun t home at h x v
      → Tied t home at v (walk_members f n h x) (parts_at (class_at d t home) (part_at t o) (at, v) n)
  unfolding walk_members parts_at
  members-tie o g zero home at h x v b = none-tie t home at h x v b
  members-tie o g (suc n) home at h x v b =
      rw (g at) (onward-tie t home at v h b.before b.rel (walk_members f n) (λ e w. parts_at (class_at d t home) (part_at t o) (e, w) n)
      (λ e w l. parts-past d t home o n e w l) (λ g' e y w l c. members-tie o g n home e (both g' h) y w c) (k home at h x v b))

  -- ranges, and then a class
  ranged-tie : (n home at : ℕ) (h : Homes) (x v : List ℕ) → Begun t home at h x v
      → Tied t home at v (onward h (walk_ranges n h x) f) (class_at d t home (behind_ranges t at n) v)
  ranged-tie n home at h x v b =
      onward-tie t home at v h b.before b.rel f (class_at d t home) (λ e w l. class-past d t home e w l)
      (λ g e y w l c. k home e (both g h) y w c) (passed-tie t home at h x v b (ranges-tie t n at h x b.rest))

  unfoldable option_here : Homes → List ℕ → Walked
  option_here h x = elim (is_whole x) [ true ↦ walk_option f h (record_of x) (behind x) | false ↦ lost ]

  not-option : (at : ℕ) (h : Homes) (x : List ℕ) → Rest t at x → is_a t 34 at ≡ false → option_here h x ≡ lost
  unfolding option_here
  not-option at h x r e = by (is_whole x) refl _ _ _ refl refl (stands t at x r)
    where
      by : (b : Bool) → is_whole x ≡ b → (m n : ℕ) (v : Record) → byte_at t at ≡ m → body_mark (byte_at t at) ≡ n → Stands t at m n v
          → elim b [ true ↦ walk_option f h v (behind x) | false ↦ lost ] ≡ lost
      by false p m n v i j s = refl
      by true p m n v i j nothing = unfold walk_option in refl
      by true p m n v i j a_preamble = unfold walk_option in refl
      by true p m n v i j a_trace = unfold walk_option in refl
      by true p m n v i j a_clock = unfold walk_option in refl
      by true p m n v i j a_stream = unfold walk_option in refl
      by true p m n v i j an_event = unfold walk_option in refl
      by true p m n v i j a_root = unfold walk_option in refl
      by true p m n v i j (a_class l u c z g q) = unfold walk_option in refl
      by true p m n v i j a_range = unfold walk_option in refl
      by true p m n v i j an_option =
          absurd (clash (sym e ∙ is-a t 34 at (here-whole t at x r (λ z. let y = sym j ∙ z in omega arith) p) i))

  an-option : (at n : ℕ) (v : Record) → Stands t at 34 n v → (n ≡ no_kind → ⊥) → (v ≡ option (byte_at t (at + 1))) × (n ≡ 1)
  an-option at n v nothing h = absurd (h refl)
  an-option at n v (a_class l u b z g c) h = absurd (omega arith)
  an-option at n v an_option h = (refl, refl)

  option_is : (h : Homes) (x : List ℕ) (n : ℕ) → is_whole x ≡ true → record_of x ≡ option n
      → option_here h x ≡ onward h (walk_ranges n h (behind x)) f
  unfolding option_here walk_option
  option_is h x n p q =
      ap (λ (b : Bool). elim b [ true ↦ walk_option f h (record_of x) (behind x) | false ↦ lost ]) p
      ∙ ap (λ (r : Record). walk_option f h r (behind x)) q

  option-tie : (home at : ℕ) (h : Homes) (x v : List ℕ) → Begun t home at h x v
      → Tied t home at v (option_here h x) (class_at d t home (behind_option t at) v)
  unfolding behind_option
  option-tie home at h x v b = by (is_a t 34 at) refl
    where
      by : (c : Bool) → is_a t 34 at ≡ c
          → Tied t home at v (option_here h x)
          (class_at d t home (pick_n c (behind_ranges t (at + 2) (byte_at t (at + 1))) (nowhere t at)) v)
      by true e = unfold pick_n in
          let a = a-here t 34 at e in
          let w = head-whole t at a.0.head in
          let o = an-option at _ _ (stands-as t at x b.rest 34 a.1) w.known in
          let y = rest-behind t at x b.rest w 1 o.1 in
          rw (option_is h x (byte_at t (at + 1)) (whole_here t at x b.rest a.0.head) o.0)
          (sooner t home at (at + 2) v (omega arith) (ranged-tie (byte_at t (at + 1)) home (at + 2) h (behind x) v (record {
            rest = y;
            before = omega (arith, b.before);
            rel = b.rel;
            fresh = fresh-later at (at + 2) v (omega arith) b.fresh;
            size = b.size;
          })))
      by false e = unfold pick_n in
          rw (not-option at h x b.rest e, nowhere-within t at b.rest.within, class-past d t home (length t) v (omega arith))
          both-lost

  options-step : (h : Homes) (x : List ℕ) (g : Walk)
      → elim (is_whole x) [ true ↦ onward h (walk_option f h (record_of x) (behind x)) g | false ↦ lost ] ≡ onward h (option_here h x) g
  unfolding option_here onward
  options-step h x g = by (is_whole x)
    where
      by : (b : Bool) → elim b [ true ↦ onward h (walk_option f h (record_of x) (behind x)) g | false ↦ lost ]
          ≡ onward h (elim b [ true ↦ walk_option f h (record_of x) (behind x) | false ↦ lost ]) g
      by true = refl
      by false = refl

  options-tie : (o : ℕ) → ((e : ℕ) → part_at t o e ≡ behind_option t e) → (n home at : ℕ) (h : Homes) (x v : List ℕ) → Begun t home at h x v
      → Tied t home at v (walk_options f n h x) (parts_at (class_at d t home) (part_at t o) (at, v) n)
  unfolding walk_options parts_at
  options-tie o g zero home at h x v b = none-tie t home at h x v b
  options-tie o g (suc n) home at h x v b =
      rw (g at, options-step h x (walk_options f n))
      (onward-tie t home at v h b.before b.rel (walk_options f n) (λ e w. parts_at (class_at d t home) (part_at t o) (e, w) n)
      (λ e w l. parts-past d t home o n e w l) (λ g' e y w l c. options-tie o g n home e (both g' h) y w c)
      (option-tie home at h x v b))

-- What a record of a class sets: a slot byte; none, where it is no number
abbrev Silent : Shape → ℕ → Type 0
Silent (bit_field s) i = Unit {0}
Silent leb_field i = Unit {0}
Silent signed_leb_field i = Unit {0}
Silent zero_string i = i ≡ 255
Silent text i = i ≡ 255
Silent blob i = i ≡ 255
Silent text_of i = i ≡ 255
Silent blob_of i = i ≡ 255
Silent members i = i ≡ 255
Silent elements i = i ≡ 255
Silent elements_of i = i ≡ 255
Silent option? i = i ≡ 255
Silent options i = i ≡ 255

abbrev Slotted : Record → Type 0
Slotted unknown = Unit {0}
Slotted (fragment f) = Unit {0}
Slotted (root r) = Unit {0}
Slotted (class y) = (y.sets < 256) × Silent y.shape y.sets
Slotted (range g l h) = Unit {0}
Slotted (option n) = Unit {0}

module _ (x : List ℕ) (b : (i : ℕ) → u8 x i < 256) where
  slotted-rows : Each (λ k. Slotted ((get_or layouts k no).1 x)) 0 35
  unfolding layouts no bits_layout
  slotted-rows =
      tt ▷ tt ▷ tt ▷ tt ▷ tt ▷ tt ▷ tt ▷ tt ▷ tt ▷ tt ▷ tt ▷ tt ▷ tt ▷ tt ▷ tt ▷ tt
      ▷ (lit< tt, tt) ▷ (b 3, tt) ▷ (b 3, tt) ▷ (b 3, tt) ▷ (lit< tt, tt) ▷ (b 0, tt) ▷ (b 0, tt)
      ▷ (lit< tt, refl) ▷ (lit< tt, refl) ▷ (lit< tt, refl) ▷ (lit< tt, refl) ▷ (lit< tt, refl)
      ▷ (lit< tt, refl) ▷ (lit< tt, refl) ▷ (lit< tt, refl) ▷ (lit< tt, refl) ▷ (lit< tt, refl)
      ▷ tt ▷ tt ▷ tt

  slotted-row : (k : ℕ) → Slotted ((get_or layouts k no).1 x)
  unfolding layouts
  slotted-row k = ⊎_elim
      (λ (l : k < 35). below (λ k. Slotted ((get_or layouts k no).1 x)) 35 slotted-rows k l)
      (λ (l : 35 ≤ k). rw (get_or-eq_default layouts no {n = k} l) (unfold no in tt))
      (lt-or-ge k 35)

body-small : (x : List ℕ) (n : ℕ) → ((i : ℕ) → get_or x i 0 < 256) → (i : ℕ) → u8 (take n (drop 1 x)) i < 256
unfolding u8
body-small x n h i = ⊎_elim
    (λ (l : i < n). rw (get_or-take n (drop 1 x) i 0 l, get_or-drop 1 x i 0) (h (1 + i)))
    (λ (l : n ≤ i).
    let short : length (take n (drop 1 x)) ≤ i = omega (arith, length-take n (drop 1 x)) in
    let z : get_or (take n (drop 1 x)) i 0 ≡ 0 = get_or-eq_default (take n (drop 1 x)) 0 {n = i} short in
    omega arith)
    (lt-or-ge i n)

slotted : (x : List ℕ) → ((i : ℕ) → get_or x i 0 < 256) → Slotted (record_of x)
unfolding record_of layout_of
slotted x h = slotted-row _ (body-small x (get_or layouts (u8 x 0) no).0 h) (u8 x 0)

class-slots : (t : List ℕ) → Bytes t → (at : ℕ) (x : List ℕ) → Rest t at x → (y : Said) → record_of x ≡ class y
    → (y.sets < 256) × Silent y.shape y.sets
class-slots t b at x r y e =
    subst Slotted e (slotted x (λ i. rw (rest-byte t at x r i) (b (at + i))))

-- A class

home-kept : (t : List ℕ) (home at m : ℕ) → byte_at t at ≡ m → (m ≡ 29 → ⊥) → (m ≡ 30 → ⊥) → home_within t home at ≡ home
unfolding home_within pick_n
home-kept t home at m e a b = rw (e, ne_eqb m 29 a, ne_eqb m 30 b)

part-plain : (t : List ℕ) (at m : ℕ) → byte_at t at ≡ m → (m ≡ 31 → ⊥) → (m ≡ 32 → ⊥) → (e : ℕ) → part_at t at e ≡ e
unfolding part_at pick_n
part-plain t at m k a b e = rw (k, ne_eqb m 31 a, ne_eqb m 32 b)

parts-single : (t : List ℕ) (at m : ℕ) → byte_at t at ≡ m → m < 28 → parts t at ≡ 0
unfolding parts pick_n inside
parts-single t at m e l =
    rw (e, ne_eqb m 28 (λ z. omega arith), ne_eqb m 32 (λ z. omega arith), lt-leb 29 m (omega arith))

-- what the kinds 28 to 32 say of what they hold
record Holds (t : List ℕ) (at : ℕ) : Type 0 where
  structures : byte_at t at ≡ 28 → parts t at ≡ byte_at t (at + 1)
  statics : byte_at t at ≡ 29 → parts t at ≡ 1
  dynamics : byte_at t at ≡ 30 → parts t at ≡ 1
  optionals : byte_at t at ≡ 31 → parts t at ≡ 1
  variants : byte_at t at ≡ 32 → parts t at ≡ byte_at t (at + 2)
  static-home : (home : ℕ) → byte_at t at ≡ 29 → home_within t home at ≡ at
  dynamic-home : (home : ℕ) → byte_at t at ≡ 30 → home_within t home at ≡ at
  ranged : (e : ℕ) → byte_at t at ≡ 31 → part_at t at e ≡ behind_ranges t e (byte_at t (at + 2))
  optioned : (e : ℕ) → byte_at t at ≡ 32 → part_at t at e ≡ behind_option t e

holds : (t : List ℕ) (at : ℕ) → Holds t at
unfolding parts home_within part_at pick_n inside
holds t at = record {
  structures = λ e. rw e;
  statics = λ e. rw e;
  dynamics = λ e. rw e;
  optionals = λ e. rw e;
  variants = λ e. rw e;
  static-home = λ home e. rw e;
  dynamic-home = λ home e. rw e;
  ranged = λ n e. rw e;
  optioned = λ n e. rw e;
}

one-part : (F : ℕ → List ℕ → Spot) (g : ℕ → ℕ) (at : ℕ) (v : List ℕ) → parts_at F g (at, v) 1 ≡ F (g at) v
unfolding parts_at
one-part F g at v = refl

module _ (t : List ℕ) (f : Walk) (d : ℕ) (k : Walks t f d) (home at : ℕ) (h : Homes) (x v : List ℕ) (b : Begun t home at h x v) where
  begun : (n : ℕ) (x' : List ℕ) → Rest t (at + (1 + n)) x' → Begun t home (at + (1 + n)) h x' v
  begun n x' r = record {
    rest = r;
    before = omega (arith, b.before);
    rel = b.rel;
    fresh = fresh-later at (at + (1 + n)) v (omega arith) b.fresh;
    size = b.size;
  }

  element : (n : ℕ) (x' : List ℕ) → Rest t (at + (1 + n)) x' → Begun t at (at + (1 + n)) (across h) x' v
  element n x' r = record {
    rest = r;
    before = omega arith;
    rel = rel-across home at h v b.fresh b.rel;
    fresh = fresh-later at (at + (1 + n)) v (omega arith) b.fresh;
    size = b.size;
  }

  single-tie : (n : ℕ) (w : Shape) → Single w → (y : Said) → y.sets < 256 → Silent w y.sets → set_elsewhere v y.sets home ≡ false
      → (x' : List ℕ) → Rest t (at + (1 + n)) x'
      → Tied t home at v (walk_shape f y w h x') (at + (1 + n), noted v y.sets home)
  unfolding walk_shape
  single-tie n w s y l q e x' r = by w s q
    where
      later : Fresh (at + (1 + n)) v
      later = fresh-later at (at + (1 + n)) v (omega arith) b.fresh

      sets : Tied t home at v (walked (homes (setting y.sets) []) x') (at + (1 + n), noted v y.sets home)
      sets =
          let m : y.sets < length v = omega (arith, b.size) in
          both-walked r (omega arith) (own-noted home at v y.sets m e)
          (fresh-noted home (at + (1 + n)) v y.sets (omega (arith, b.before)) m later)
          (length-noted v y.sets home ∙ b.size)

      quiet : y.sets ≡ 255 → Tied t home at v (walked nothing_set x') (at + (1 + n), noted v y.sets home)
      quiet z = rw (noted-none v y.sets home z) (both-walked r (omega arith) (own-none home at v) later b.size)

      by : (w : Shape) → Single w → Silent w y.sets → Tied t home at v (walk_shape f y w h x') (at + (1 + n), noted v y.sets home)
      by w bits q = unfold walk_shape in sets
      by w lebs q = unfold walk_shape in sets
      by w signed_lebs q = unfold walk_shape in sets
      by w to_zero q = unfold walk_shape in quiet q
      by w texts q = unfold walk_shape in quiet q
      by w blobs q = unfold walk_shape in quiet q
      by w texts_of q = unfold walk_shape in quiet q
      by w blobs_of q = unfold walk_shape in quiet q

  abbrev Parts : ℕ → ℕ → Spot
  Parts n i = parts_at (class_at d t (home_within t home at)) (part_at t at) (at + (1 + n), noted v i home) (parts t at)

  shape-tie : (m n : ℕ) (w : Shape) → Shaped m n w → byte_at t at ≡ m → (y : Said) → plain y ≡ say_of m t at → y.sets < 256
      → Silent w y.sets → set_elsewhere v y.sets home ≡ false → (x' : List ℕ) → Rest t (at + (1 + n)) x'
      → Tied t home at v (walk_shape f y w h x') (Parts n y.sets)
  unfolding walk_shape plain say_of sayings say
  shape-tie m n w (single l s) z y e u q free x' r =
      rw (parts-single t at m z l) (unfold parts_at in single-tie n w s y u q free x' r)
  shape-tie m n w structured z y e u q free x' r =
      let c : y.count ≡ byte_at t (at + 1) = ap (λ (s : Says). s.count) e in
      rw (noted-none v y.sets home q, home-kept t home at 28 z (λ o. omega arith) (λ o. omega arith), (holds t at).structures z, c)
      (sooner t home at (at + 3) v (omega arith)
      (members-tie t f d k at (part-plain t at 28 z (λ o. omega arith) (λ o. omega arith)) (byte_at t (at + 1)) home (at + 3) h x' v
      (begun 2 x' r)))
  shape-tie m n w static z y e u q free x' r =
      rw (
        noted-none v y.sets home q,
        (holds t at).static-home home z,
        (holds t at).statics z,
        one-part (class_at d t at) (part_at t at) (at + 4) v,
        part-plain t at 29 z (λ o. omega arith) (λ o. omega arith) (at + 4),
      )
      (out-tie t home at (at + 4) v (omega arith) b.fresh (k at (at + 4) (across h) x' v (element 3 x' r)))
  shape-tie m n w dynamic z y e u q free x' r =
      rw (
        noted-none v y.sets home q,
        (holds t at).dynamic-home home z,
        (holds t at).dynamics z,
        one-part (class_at d t at) (part_at t at) (at + 3) v,
        part-plain t at 30 z (λ o. omega arith) (λ o. omega arith) (at + 3),
      )
      (out-tie t home at (at + 3) v (omega arith) b.fresh (k at (at + 3) (across h) x' v (element 2 x' r)))
  shape-tie m n w optional z y e u q free x' r =
      let c : y.count ≡ byte_at t (at + 2) = ap (λ (s : Says). s.count) e in
      rw (
        noted-none v y.sets home q,
        home-kept t home at 31 z (λ o. omega arith) (λ o. omega arith),
        (holds t at).optionals z,
        one-part (class_at d t home) (part_at t at) (at + 3) v,
        (holds t at).ranged (at + 3) z,
        c,
      )
      (sooner t home at (at + 3) v (omega arith) (ranged-tie t f d k (byte_at t (at + 2)) home (at + 3) h x' v (begun 2 x' r)))
  shape-tie m n w variant z y e u q free x' r =
      let c : y.count ≡ byte_at t (at + 2) = ap (λ (s : Says). s.count) e in
      rw (noted-none v y.sets home q, home-kept t home at 32 z (λ o. omega arith) (λ o. omega arith), (holds t at).variants z, c)
      (sooner t home at (at + 3) v (omega arith)
      (options-tie t f d k at (λ e. (holds t at).optioned e z) (byte_at t (at + 2)) home (at + 3) h x' v (begun 2 x' r)))

-- the rules' walk of a class, where f walks those one deeper
unfoldable walk_here : Walk → Walk
walk_here f h x = elim (is_whole x) [ true ↦ walk_record f h (record_of x) x | false ↦ lost ]

not-class : (t : List ℕ) (f : Walk) (at : ℕ) (h : Homes) (x : List ℕ) → Rest t at x → is_among t 16 32 at ≡ false → walk_here f h x ≡ lost
unfolding walk_here
not-class t f at h x r e = by (is_whole x) refl _ _ _ refl refl (stands t at x r)
  where
    by : (b : Bool) → is_whole x ≡ b → (m n : ℕ) (v : Record) → byte_at t at ≡ m → body_mark (byte_at t at) ≡ n → Stands t at m n v
        → elim b [ true ↦ walk_record f h v x | false ↦ lost ] ≡ lost
    by false p m n v i j s = refl
    by true p m n v i j nothing = unfold walk_record in refl
    by true p m n v i j a_preamble = unfold walk_record in refl
    by true p m n v i j a_trace = unfold walk_record in refl
    by true p m n v i j a_clock = unfold walk_record in refl
    by true p m n v i j a_stream = unfold walk_record in refl
    by true p m n v i j an_event = unfold walk_record in refl
    by true p m n v i j a_root = unfold walk_record in refl
    by true p m n v i j (a_class l u c z g q) =
        let w = here-whole t at x r (λ z. let y = sym j ∙ z in omega arith) p in
        absurd (clash (sym e ∙ is_among_lem t 16 32 at w (omega arith) (omega arith)))
    by true p m n v i j a_range = unfold walk_record in refl
    by true p m n v i j an_option = unfold walk_record in refl

class-parts : (d : ℕ) (t : List ℕ) (home at : ℕ) (v : List ℕ) → is_among t 16 32 at ≡ true → (s : ℕ) → (says_at t at).sets ≡ s
    → set_elsewhere v s home ≡ false → (n : ℕ) → body_mark (byte_at t at) ≡ n → class_at (suc d) t home at v
    ≡ parts_at (class_at d t (home_within t home at)) (part_at t at) (at + (1 + n), noted v s home) (parts t at)
unfolding class_at pick_p
class-parts d t home at v a s e f n m = let z : at + 1 + n ≡ at + (1 + n) = omega arith in rw (a, e, f, m, z)

class-fault : (d : ℕ) (t : List ℕ) (home at : ℕ) (v : List ℕ) → is_among t 16 32 at ≡ true → (s : ℕ) → (says_at t at).sets ≡ s
    → set_elsewhere v s home ≡ true → class_at (suc d) t home at v ≡ (fault_at t at, v)
unfolding class_at pick_p
class-fault d t home at v a s e f = rw (a, e, f)

class-not : (d : ℕ) (t : List ℕ) (home at : ℕ) (v : List ℕ) → is_among t 16 32 at ≡ false → class_at (suc d) t home at v ≡ (nowhere t at, v)
unfolding class_at pick_p
class-not d t home at v a = rw a

module _ (t : List ℕ) (bytes : Bytes t) (f : Walk) (d : ℕ) (k : Walks t f d) where
  module _ (home at : ℕ) (h : Homes) (x v : List ℕ) (b : Begun t home at h x v) (a : is_among t 16 32 at ≡ true) where
    said : (y : Said) → plain y ≡ says_at t at → (says_at t at).sets ≡ y.sets
    unfolding plain
    said y e = ap (λ (s : Says). s.sets) (sym e)

    class-tie : (y : Said) → record_of x ≡ class y → plain y ≡ says_at t at → Shaped (byte_at t at) (body_mark (byte_at t at)) y.shape
        → Tied t home at v (walk_record f h (class y) x) (class_at (suc d) t home at v)
    unfolding walk_record
    class-tie y i e s =
        subst (λ (c : Bool). Tied t home at v (elim c [ true ↦ fault x | false ↦ walk_shape f y y.shape h (behind x) ])
        (class_at (suc d) t home at v))
        (sym (b.rel.elsewhere y.sets)) (by (set_elsewhere v y.sets home) refl)
      where
        here : Here t at
        here = (among-here t 16 32 at a).0

        by : (c : Bool) → set_elsewhere v y.sets home ≡ c
            → Tied t home at v (elim c [ true ↦ fault x | false ↦ walk_shape f y y.shape h (behind x) ]) (class_at (suc d) t home at v)
        by true p = rw (class-fault d t home at v a y.sets (said y e) p) (both-fault b.rest here.within)
        by false p =
            let w = head-whole t at here.head in
            let z = class-slots t bytes at x b.rest y i in
            rw (class-parts d t home at v a y.sets (said y e) p (body_mark (byte_at t at)) refl)
            (shape-tie t f d k home at h x v b (byte_at t at) (body_mark (byte_at t at)) y.shape s refl y (unfold says_at in e) z.0 z.1
            p (behind x) (rest-behind t at x b.rest w (body_mark (byte_at t at)) refl))

    record-tie : (m n : ℕ) (r : Record) → Stands t at m n r → byte_at t at ≡ m → body_mark (byte_at t at) ≡ n → record_of x ≡ r
        → Tied t home at v (walk_record f h r x) (class_at (suc d) t home at v)
    record-tie m n r (a_class {y = y} l u c z e s) i j o =
        class-tie y o (unfold says_at in e ∙ ap (λ m. say_of m t at) (sym i))
        (subst (λ n. Shaped (byte_at t at) n y.shape) (sym j) (subst (λ m. Shaped m n y.shape) (sym i) s))
    record-tie m n r nothing i j o = absurd ((head-whole t at (among-here t 16 32 at a).0.head).known j)
    record-tie m n r a_preamble i j o = absurd (omega (arith, (among-here t 16 32 at a).1))
    record-tie m n r a_trace i j o = absurd (omega (arith, (among-here t 16 32 at a).1))
    record-tie m n r a_clock i j o = absurd (omega (arith, (among-here t 16 32 at a).1))
    record-tie m n r a_stream i j o = absurd (omega (arith, (among-here t 16 32 at a).1))
    record-tie m n r an_event i j o = absurd (omega (arith, (among-here t 16 32 at a).1))
    record-tie m n r a_root i j o = absurd (omega (arith, (among-here t 16 32 at a).1))
    record-tie m n r a_range i j o = absurd (omega (arith, (among-here t 16 32 at a).1))
    record-tie m n r an_option i j o = absurd (omega (arith, (among-here t 16 32 at a).1))

  here-is : (h : Homes) (x : List ℕ) → is_whole x ≡ true → walk_here f h x ≡ walk_record f h (record_of x) x
  unfolding walk_here
  here-is h x p = ap (λ (b : Bool). elim b [ true ↦ walk_record f h (record_of x) x | false ↦ lost ]) p

  here-tie : (home at : ℕ) (h : Homes) (x v : List ℕ) → Begun t home at h x v
      → Tied t home at v (walk_here f h x) (class_at (suc d) t home at v)
  here-tie home at h x v b = by (is_among t 16 32 at) refl
    where
      by : (c : Bool) → is_among t 16 32 at ≡ c → Tied t home at v (walk_here f h x) (class_at (suc d) t home at v)
      by true e =
          rw (here-is h x (whole_here t at x b.rest (among-here t 16 32 at e).0.head))
          (record-tie home at h x v b e _ _ _ (stands t at x b.rest) refl refl refl)
      by false e = rw (not-class t f at h x b.rest e, class-not d t home at v e) (nowhere-tie t home at h x v b)

-- the rules' walk with so many depths left; with none there is nothing
deep : ℕ → Walk
deep zero h x = lost
deep (suc n) h x = walk_class n h x

deep-here : (n : ℕ) (h : Homes) (x : List ℕ) → walk_class n h x ≡ walk_here (deep n) h x
unfolding walk_class walk_here deep
deep-here zero h x = refl
deep-here (suc n) h x = refl

deep-tie : (t : List ℕ) → Bytes t → (d : ℕ) → Walks t (deep d) d
unfolding class_at deep
deep-tie t bytes zero home at h x v b = nowhere-tie t home at h x v b
deep-tie t bytes (suc d) home at h x v b = rw (deep-here d h x) (here-tie t bytes (deep d) d (deep-tie t bytes d) home at h x v b)

pub classes-tie : (t : List ℕ) → Bytes t → (d : ℕ) → Walks t (walk_class d) (suc d)
unfolding deep
classes-tie t bytes d = deep-tie t bytes (suc d)
