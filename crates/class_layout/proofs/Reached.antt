-- The loops that go by the notes: over a structure's members, over a variant's options. In order: members; options; a class by its kind.
use mathlib.Core.Path.{◌≡◌, refl, sym, ◌∙◌}
use Prim.Native.Nat.{ℕ, zero, suc, ◌+◌, ◌-◌, ◌*◌, ◌≤◌, ◌<◌, max}
use native.Mathlib.Omega.{arith}
use mathlib.Core.List.{List}
use mathlib.Core.Logic.{⊎_elim}
use lib.ListN.{get_or, set}
use borrow.Author.Tests.{le-leb, lt-leb}
use Rattle.rules.specs.Record.{u8}
use Rattle.facts.proofs.Numbers.{lt-or-ge}
use Rattle.class_layout.specs.Trees.{shapes, shape_of, record_size, behind_members, align_members, behind_options, next_in, align_in}
use Rattle.class_layout.specs.Notes.{Notes, notes, end_noted, align_noted, end_by, align_by, size_to, is_class, note_at, note_below}
use Rattle.class_layout.specs.Notes.{sets_noted, sets_members, sets_options, sets_in, sets_by, ReachesMembers, ReachesOptions}
use Rattle.table_records.specs.Named.{named_at}
use Rattle.class_layout.specs.Words.{word_of, sets_one, sets_both}
use Rattle.class_layout.proofs.Setting.{both_first, both-none, both-assoc}

-- Members: of n from p on, `left` from `next` on are left; `most` is the largest exponent so far, and `set` what is set so far

pub record MembersLeft (s a : List ℕ) (p n next most set left : ℕ) : Type 0 where
  pub end : behind_members (end_noted s) p n ≡ behind_members (end_noted s) next left
  pub align : align_members (align_noted a) (end_noted s) p n ≡ max most (align_members (align_noted a) (end_noted s) next left)
  pub sets : sets_members (sets_noted a) (end_noted s) p n ≡ sets_both set (sets_members (sets_noted a) (end_noted s) next left)
  pub small : set < 8192
  pub onward : p ≤ next
  pub near : next + left * 65535 ≤ p + n * 65535

module _ {s a : List ℕ} {p n : ℕ} where
  pub members-start : MembersLeft s a p n p 0 0 n
  members-start = record {
    end = refl;
    align = omega arith;
    sets = sym (both_first 0 _ refl);
    small = omega arith;
    onward = omega arith;
    near = omega arith;
  }

  pub members-next : {next most set m v e : ℕ} (left : ℕ) → 0 < left → m ≡ max most (align_noted a next)
      → (v ≡ sets_both set (sets_noted a next)) × (v < 8192) → e ≡ next + get_or s next 0 → e ≤ next + 65535
      → MembersLeft s a p n next most set left → MembersLeft s a p n e m v (left - 1)
  unfolding behind_members align_members sets_members end_noted
  members-next zero l f k g b h = absurd (omega arith)
  members-next (suc left) l f k g b h =
      let z : suc left - 1 ≡ left = omega arith in
      record {
        end = rw (z, g) h.end;
        align = rw (z, g, f) (h.align ∙ omega arith);
        sets = rw (z, g, k.0) (h.sets ∙ sym (both-assoc _ _ _));
        small = k.1;
        onward = omega (arith, h.onward);
        near = omega (arith, h.near);
      }

  pub members-done : {next most set : ℕ} (left : ℕ) → left ≤ 0 → MembersLeft s a p n next most set left
      → ReachesMembers s a p n (record { next = next; align = most; sets = set })
  unfolding behind_members align_members sets_members
  members-done zero l h = record {
    end = sym h.end;
    align = omega (arith, h.align);
    sets = (sym (h.sets ∙ both-none _), h.small);
    onward = h.onward;
  }
  members-done (suc left) l h = absurd (omega arith)

-- Options: of n from p on, `left` from `next` on are left, and `set` is what is set so far

pub record OptionsLeft (t : List ℕ) (x : Notes) (p n next set left : ℕ) : Type 0 where
  pub end : behind_options (end_noted x.sizes) t p n ≡ behind_options (end_noted x.sizes) t next left
  pub sets : sets_options (sets_noted x.aligns) (end_noted x.sizes) t p n
      ≡ sets_both set (sets_options (sets_noted x.aligns) (end_noted x.sizes) t next left)
  pub small : set < 8192
  pub onward : p ≤ next
  pub near : next + left * 70127 ≤ p + n * 70127

module _ {t : List ℕ} {x : Notes} {p n : ℕ} where
  pub options-start : OptionsLeft t x p n p 0 n
  options-start = record { end = refl; sets = sym (both_first 0 _ refl); small = omega arith; onward = omega arith; near = omega arith }

  pub options-next : {next set k v e : ℕ} (left : ℕ) → 0 < left → k ≡ get_or t (next + 1) 0 → k < 256
      → (v ≡ sets_both set (sets_noted x.aligns (next + 2 + 18 * k))) × (v < 8192)
      → e ≡ next + 2 + 18 * k + get_or x.sizes (next + 2 + 18 * k) 0 → e ≤ next + 2 + 18 * k + 65535
      → OptionsLeft t x p n next set left → OptionsLeft t x p n e v (left - 1)
  unfolding behind_options sets_options end_noted u8
  options-next zero l f c q g b h = absurd (omega arith)
  options-next (suc left) l f c q g b h =
      let z : suc left - 1 ≡ left = omega arith in
      record {
        end = rw (z, g, f) h.end;
        sets = rw (z, g, q.0, f) (h.sets ∙ sym (both-assoc _ _ _));
        small = q.1;
        onward = omega (arith, h.onward);
        near = omega (arith, h.near);
      }

  pub options-done : {next set : ℕ} (left : ℕ) → left ≤ 0 → OptionsLeft t x p n next set left
      → ReachesOptions t x p n (record { next = next; align = 0; sets = set })
  unfolding behind_options sets_options
  options-done zero l h =
      record { end = sym h.end; align = refl; sets = (sym (h.sets ∙ both-none _), h.small); onward = h.onward }
  options-done (suc left) l h = absurd (omega arith)

-- A class by its kind

-- P of n numbers from i on
abbrev Span : (ℕ → Type 0) → ℕ → ℕ → Type 0
Span P i zero = Unit {0}
Span P i (suc n) = P i × Span P (suc i) n

among : (P : ℕ → Type 0) (i n : ℕ) → Span P i n → (k : ℕ) → i ≤ k → k < i + n → P k
among P i zero h k a b = absurd (omega arith)
among P i (suc n) h k a b = ⊎_elim
    (λ (l : i < k). among P (suc i) n h.1 k l (omega arith))
    (λ (l : k ≤ i). let e : i ≡ k = omega arith in rw (← e) h.0)
    (lt-or-ge i k)

module _ (t : List ℕ) (x : Notes) (p : ℕ) where
  abbrev Leaf : ℕ → ℕ → Type 0
  Leaf a k = (next_in (end_noted x.sizes) t p (shape_of k) ≡ p + record_size (shape_of k))
      × (align_in (align_noted x.aligns) (end_noted x.sizes) t p (shape_of k) ≡ a)
      × (sets_in (sets_noted x.aligns) (end_noted x.sizes) t p (shape_of k) ≡ sets_one (named_at t p))

  pub bits-reach : (k : ℕ) → u8 t p ≡ k → 16 ≤ k → k < 21 → Leaf (u8 t (p + 3)) (u8 t p)
  unfolding shape_of shapes next_in align_in sets_in record_size
  bits-reach k e a b =
      rw e (among (Leaf (u8 t (p + 3))) 16 5
      ((refl, refl, refl), ((refl, refl, refl), ((refl, refl, refl), ((refl, refl, refl), ((refl, refl, refl), tt))))) k a b)

  pub bytes-reach : (k : ℕ) → u8 t p ≡ k → 21 ≤ k → k < 28 → Leaf 3 (u8 t p)
  unfolding shape_of shapes next_in align_in sets_in record_size
  bytes-reach k e a b =
      rw e (among (Leaf 3) 21 7 (
        (refl, refl, refl),
        (
          (refl, refl, refl),
          (
            (refl, refl, refl),
            (
              (refl, refl, refl),
              (
                (refl, refl, refl),
                (
                  (refl, refl, refl),
                  ((refl, refl, refl), tt),
                ),
              ),
            ),
          ),
        ),
      ) k a b)

  abbrev Held : ℕ → ℕ → ℕ → Type 0
  Held n a v = (n ≡ end_by t x p) × (a ≡ align_by t x p) × (v ≡ sets_by t x p)

  pub structure-reach : u8 t p ≡ 28
      → Held (behind_members (end_noted x.sizes) (p + 3) (u8 t (p + 1)))
      (max (u8 t (p + 2)) (align_members (align_noted x.aligns) (end_noted x.sizes) (p + 3) (u8 t (p + 1))))
      (sets_members (sets_noted x.aligns) (end_noted x.sizes) (p + 3) (u8 t (p + 1)))
  unfolding shape_of shapes next_in align_in sets_in
  structure-reach e = (rw e, rw e, rw e)

  pub array-reach : u8 t p ≡ 29 → Held (p + 4 + get_or x.sizes (p + 4) 0) (max (u8 t (p + 3)) (align_noted x.aligns (p + 4)))
      (sets_noted x.aligns (p + 4))
  unfolding shape_of shapes next_in align_in sets_in end_noted
  array-reach e = (rw e, rw e, rw e)

  pub dynamic-reach : u8 t p ≡ 30 → Held (p + 3 + get_or x.sizes (p + 3) 0) (max (u8 t (p + 2)) (align_noted x.aligns (p + 3)))
      (sets_noted x.aligns (p + 3))
  unfolding shape_of shapes next_in align_in sets_in end_noted
  dynamic-reach e = (rw e, rw e, rw e)

  pub optional-reach : u8 t p ≡ 31
      → Held (p + 3 + 18 * u8 t (p + 2) + get_or x.sizes (p + 3 + 18 * u8 t (p + 2)) 0) 0 (sets_noted x.aligns (p + 3 + 18 * u8 t (p + 2)))
  unfolding shape_of shapes next_in align_in sets_in end_noted
  optional-reach e = (rw e, rw e, rw e)

  pub variant-reach : u8 t p ≡ 32
      → Held (behind_options (end_noted x.sizes) t (p + 3) (u8 t (p + 2))) 0
      (sets_options (sets_noted x.aligns) (end_noted x.sizes) t (p + 3) (u8 t (p + 2)))
  unfolding shape_of shapes next_in align_in sets_in
  variant-reach e = (rw e, rw e, rw e)

-- A byte's notes, and those of the bytes below

module _ (t : List ℕ) (p : ℕ) (x : Notes) where
  pub note-low : u8 t p < 16 → x ≡ note_at t p x
  unfolding note_at is_class
  note-low l = rw (lt-leb 16 (u8 t p) l, is_class, note_at)

  pub note-high : 32 < u8 t p → x ≡ note_at t p x
  unfolding note_at is_class
  note-high l = rw (le-leb 16 (u8 t p) (omega arith), lt-leb (u8 t p) 32 l, is_class, note_at)

  pub note-class : {n a : ℕ} → 16 ≤ u8 t p → u8 t p ≤ 32 → n ≡ size_to t p (end_by t x p) → a ≡ word_of (align_by t x p) (sets_by t x p)
      → notes (set x.sizes p n) (set x.aligns p a) ≡ note_at t p x
  unfolding note_at is_class
  note-class l h e f = rw (e, f, le-leb 16 (u8 t p) l, le-leb (u8 t p) 32 h, is_class, note_at)

-- the first byte of a table is no class
pub not_first : (t : List ℕ) (p : ℕ) → u8 t 0 < 16 → 16 ≤ u8 t p → 1 ≤ p
not_first t zero a b = absurd (omega arith)
not_first t (suc p) a b = omega arith

pub below_next : (t : List ℕ) (p : ℕ) (x : Notes) → 0 < p → note_below t p x ≡ note_below t (p - 1) (note_at t (p - 1) x)
unfolding note_below
below_next t zero x l = absurd (omega arith)
below_next t (suc p) x l = let e : suc p - 1 ≡ p = omega arith in rw e

pub below_none : (t : List ℕ) (p : ℕ) (x : Notes) → p ≤ 0 → note_below t p x ≡ x
unfolding note_below
below_none t zero x l = refl
below_none t (suc p) x l = absurd (omega arith)
