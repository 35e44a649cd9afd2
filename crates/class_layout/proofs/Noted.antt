-- The notes are right: of every class that stands whole, by what is noted behind its record; of every fragment; and later notes undo
-- no earlier one. In order: a record, by what it announces; what it sets; a byte; the bytes from the back; the fragments; all, with
-- numbers.
use mathlib.Core.Path.{◌≡◌, refl, sym, ap, ◌∙◌}
use Prim.Native.Nat.{ℕ, zero, suc, ◌+◌, ◌-◌, ◌*◌, ◌≤◌, ◌<◌, max}
use native.Mathlib.Omega.{arith}
use mathlib.Core.List.{List, [], ◌∷◌}
use mathlib.Core.Bool.{Bool, true, false}
use mathlib.Core.Logic.{⊎_elim}
use lib.ListN.{length, get_or, set, length-set}
use lib.Seq.{get_or-set_same, get_or-set_other, set-get_or}
use lib.Dec.{leb, eqb}
use borrow.Author.Tests.{le-leb, eqb-true, eqb-false}
use Rattle.rules.specs.Limits.{depth_limit, no_slot}
use Rattle.rules.specs.Record.{Shape, bit_field, leb_field, signed_leb_field, zero_string, text, blob, text_of, blob_of, members, elements}
use Rattle.rules.specs.Record.{elements_of, option?, options, u8}
use Rattle.rules.specs.Class.{bit_array, boolean, unsigned_int, signed_int, float, setting, sets, members_set, options_set}
use Rattle.facts.specs.Bytes.{Bytes}
use Rattle.facts.proofs.Numbers.{lt-or-ge}
use Rattle.facts.proofs.Truth.{clash}
use Rattle.class_layout.specs.Trees.{shape_of, option_class, Stood, behind_members, behind_options, next_in, stood_at, next_at, align_members}
use Rattle.class_layout.specs.Trees.{align_in, align_at, WholeMembers, WholeOptions, WholeIn, IsWhole}
use Rattle.class_layout.specs.Trees.{ranges_at, sign_at, members_at, options_at, class_in, class_at}
use Rattle.class_layout.specs.Fragments.{behind_fragment, fragments_of, All, AllFragments}
use Rattle.class_layout.specs.Notes.{Notes, notes, end_noted, align_noted, end_by, align_by, size_to, is_class, note_at, note_below}
use Rattle.class_layout.specs.Notes.{sets_noted, sets_members, sets_options, sets_in, sets_by, note_fragments, note_numbers, notes_of}
use Rattle.class_layout.specs.Notes.{NotedClass, Prepared}
use Rattle.table_records.specs.Named.{slot_place, named_at}
use Rattle.class_layout.specs.Words.{word_of, sets_one, SaysSet}
use Rattle.class_layout.proofs.Named.{place_in, of-class, named_in, named-in, optional-sets}
use Rattle.class_layout.proofs.Setting.{one-small, both_small, says_none, says-one, says_both}
use Rattle.class_layout.proofs.NotedWords.{align_word, sets_word, sets-of-small}
use Rattle.class_layout.proofs.NumbersNoted.{numbers-length, numbers-align, numbers-sets, numbers-number}
use Rattle.class_layout.proofs.Aligned.{aligned}
use Rattle.class_layout.proofs.Ends.{Ends, whole-ends}
use Rattle.class_layout.proofs.Turns.{whole-inside}
use Rattle.class_layout.proofs.Numbered.{class-opens-none, class-begins}

-- A record: f and h are what stands, f' and h' what is noted; they agree on classes behind the byte `at`

module _ (t : List ℕ) (at : ℕ) (g : ℕ → Type 0) (f f' : ℕ → Stood) (h h' : ℕ → ℕ) (ends : (q : ℕ) → g q → Ends t (q + 1) (f q).next)
    (same : (q : ℕ) → at < q → g q → ((f q).next ≡ (f' q).next) × (h q ≡ h' q)) where
  members-noted : (p n : ℕ) → at < p → WholeMembers g f p n
      → (behind_members f p n ≡ behind_members f' p n) × (align_members h f p n ≡ align_members h' f' p n)
  unfolding WholeMembers behind_members align_members
  members-noted p zero l w = (refl, refl)
  members-noted p (suc n) l w =
      let s = same p l w.0 in
      let r = members-noted (f p).next n (omega (arith, (ends p w.0).onward)) w.1 in
      (rw (← s.0) r.0, rw (← s.0, ← s.1) (ap (max (h p)) r.1))

  options-noted : (p n : ℕ) → at < p → WholeOptions g f t p n → behind_options f t p n ≡ behind_options f' t p n
  unfolding WholeOptions behind_options
  options-noted p zero l w = refl
  options-noted p (suc n) l w =
      let s = same (option_class t p) (omega arith) w.2 in
      rw (← s.0) (options-noted (f (option_class t p)).next n (omega (arith, (ends (option_class t p) w.2).onward)) w.3)

  shape-noted : (s : Shape) → WholeIn g f t at s → (next_in f t at s ≡ next_in f' t at s) × (align_in h f t at s ≡ align_in h' f' t at s)
  unfolding WholeIn next_in align_in
  shape-noted (bit_field k) w = (refl, refl)
  shape-noted leb_field w = (refl, refl)
  shape-noted signed_leb_field w = (refl, refl)
  shape-noted zero_string w = (refl, refl)
  shape-noted text w = (refl, refl)
  shape-noted blob w = (refl, refl)
  shape-noted text_of w = (refl, refl)
  shape-noted blob_of w = (refl, refl)
  shape-noted members w =
      let r = members-noted (at + 3) (u8 t (at + 1)) (omega arith) w.1 in (r.0, ap (max (u8 t (at + 2))) r.1)
  shape-noted elements w = let s = same (at + 4) (omega arith) w.1 in (s.0, ap (max (u8 t (at + 3))) s.1)
  shape-noted elements_of w = let s = same (at + 3) (omega arith) w.1 in (s.0, ap (max (u8 t (at + 2))) s.1)
  shape-noted option? w = ((same (at + 3 + 18 * u8 t (at + 2)) (omega arith) w.1).0, refl)
  shape-noted options w = (options-noted (at + 3) (u8 t (at + 2)) (omega arith) w.1, refl)

-- what it sets: u is what is noted of it, right of the classes behind the byte `at`

module _ (t : List ℕ) (at : ℕ) (g : ℕ → Type 0) (f f' : ℕ → Stood) (u : ℕ → ℕ) (ends : (q : ℕ) → g q → Ends t (q + 1) (f q).next)
    (same : (q : ℕ) → at < q → g q → ((f q).next ≡ (f' q).next) × SaysSet (u q) (sets (f q).class)) where
  members-say : (p n : ℕ) → at < p → WholeMembers g f p n → SaysSet (sets_members u f' p n) (members_set (members_at f p n))
  unfolding WholeMembers sets_members members_at sets
  members-say p zero l w = says_none
  members-say p (suc n) l w =
      let s = same p l w.0 in
      let r = members-say (f p).next n (omega (arith, (ends p w.0).onward)) w.1 in
      says_both _ _ _ _ s.1 (rw (← s.0) r)

  options-say : (p n : ℕ) → at < p → WholeOptions g f t p n → SaysSet (sets_options u f' t p n) (options_set (options_at f t p n))
  unfolding WholeOptions sets_options options_at sets
  options-say p zero l w = says_none
  options-say p (suc n) l w =
      let o = option_class t p in
      let s = same o (omega arith) w.2 in
      let r = options-say (f o).next n (omega (arith, (ends o w.2).onward)) w.3 in
      says_both _ _ _ _ s.1 (rw (← s.0) r)

  leaf-says : {l : List ℕ} (i : ℕ) → slot_place (u8 t at) ≡ i → named_in t at i ≡ l → SaysSet (sets_one (named_at t at)) l
  leaf-says i e k = rw (named-in t at i e ∙ k) at (says-one (named_at t at))

  shape-says : (s : Shape) → slot_place (u8 t at) ≡ place_in s → WholeIn g f t at s
      → SaysSet (sets_in u f' t at s) (sets (class_in f t at s))
  unfolding place_in named_in WholeIn sets_in class_in sets setting
  shape-says (bit_field bit_array) e w = leaf-says 0 e refl
  shape-says (bit_field boolean) e w = leaf-says 4 e refl
  shape-says (bit_field unsigned_int) e w = leaf-says 4 e refl
  shape-says (bit_field signed_int) e w = leaf-says 4 e refl
  shape-says (bit_field float) e w = leaf-says 0 e refl
  shape-says leb_field e w = leaf-says 1 e refl
  shape-says signed_leb_field e w = leaf-says 1 e refl
  shape-says zero_string e w = leaf-says 0 e refl
  shape-says text e w = leaf-says 0 e refl
  shape-says blob e w = leaf-says 0 e refl
  shape-says text_of e w = leaf-says 0 e refl
  shape-says blob_of e w = leaf-says 0 e refl
  shape-says members e w = members-say (at + 3) (u8 t (at + 1)) (omega arith) w.1
  shape-says elements e w = (same (at + 4) (omega arith) w.1).1
  shape-says elements_of e w = (same (at + 3) (omega arith) w.1).1
  shape-says option? e w =
      rw (optional-sets (u8 t (at + 1)) (sign_at t (at + 3)) (ranges_at t (at + 3) (u8 t (at + 2))) (f (at + 3 + 18 * u8 t (at + 2))).class)
      (same (at + 3 + 18 * u8 t (at + 2)) (omega arith) w.1).1
  shape-says options e w = options-say (at + 3) (u8 t (at + 2)) (omega arith) w.1

-- what it sets is a small number, where u says small numbers

module _ (t : List ℕ) (bytes : Bytes t) (f : ℕ → Stood) (u : ℕ → ℕ) (small : (q : ℕ) → u q < 8192) where
  named_small : (at : ℕ) → named_at t at < 256
  unfolding named_at u8
  named_small at = by (eqb (slot_place (u8 t at)) 0)
    where
      by : (b : Bool) → elim b [ true ↦ no_slot | false ↦ u8 t (at + slot_place (u8 t at)) ] < 256
      by true = omega arith
      by false = bytes (at + slot_place (u8 t at))

  members-small : (p n : ℕ) → sets_members u f p n < 8192
  unfolding sets_members
  members-small p zero = omega arith
  members-small p (suc n) = both_small _ _ (small p) (members-small (f p).next n)

  options-small : (p n : ℕ) → sets_options u f t p n < 8192
  unfolding sets_options
  options-small p zero = omega arith
  options-small p (suc n) = both_small _ _ (small (option_class t p)) (options-small (f (option_class t p)).next n)

  shape-small : (at : ℕ) (s : Shape) → sets_in u f t at s < 8192
  unfolding sets_in
  shape-small at (bit_field k) = one-small _ (named_small at)
  shape-small at leb_field = one-small _ (named_small at)
  shape-small at signed_leb_field = one-small _ (named_small at)
  shape-small at zero_string = one-small _ (named_small at)
  shape-small at text = one-small _ (named_small at)
  shape-small at blob = one-small _ (named_small at)
  shape-small at text_of = one-small _ (named_small at)
  shape-small at blob_of = one-small _ (named_small at)
  shape-small at members = members-small (at + 3) (u8 t (at + 1))
  shape-small at elements = small (at + 4)
  shape-small at elements_of = small (at + 3)
  shape-small at option? = small (at + 3 + 18 * u8 t (at + 2))
  shape-small at options = options-small (at + 3) (u8 t (at + 2))

module _ (t : List ℕ) where
  -- A byte

  -- the notes have room for the table, and those of the classes from p on are right
  pub record From (p : ℕ) (x : Notes) : Type 0 where
    pub room : (length t ≤ length x.sizes) × (length t ≤ length x.aligns)
    pub classes : (d q : ℕ) → p ≤ q → IsWhole d t q → NotedClass t x d q

  class-kind : (d p : ℕ) → IsWhole d t p → is_class (u8 t p) ≡ true
  unfolding IsWhole is_class
  class-kind zero p w = absurd w
  class-kind (suc d) p w = rw (le-leb 16 (u8 t p) w.low, le-leb (u8 t p) 32 w.high)

  record ByNotes (x : Notes) (d p : ℕ) : Type 0 where
    end : next_at d t p ≡ end_by t x p
    align : align_at d t p ≡ align_by t x p
    says : SaysSet (sets_by t x p) (sets (class_at d t p))

  by-notes : (x : Notes) (d p : ℕ) → From (suc p) x → IsWhole d t p → ByNotes x d p
  unfolding IsWhole stood_at align_at end_noted align_noted
  by-notes x zero p b w = absurd w
  by-notes x (suc d) p b w =
      let r = shape-noted t p (IsWhole d t) (stood_at d t) (end_noted x.sizes) (align_at d t) (align_noted x.aligns)
      (λ q v. whole-ends d t q v)
      (λ q l v. let n = b.classes d q l v in (sym n.size, sym n.align)) (shape_of (u8 t p)) w.parts in
      let says = shape-says t p (IsWhole d t) (stood_at d t) (end_noted x.sizes) (sets_noted x.aligns) (λ q v. whole-ends d t q v)
      (λ q l v. let n = b.classes d q l v in (sym n.size, n.sets)) (shape_of (u8 t p))
      (of-class (u8 t p) w.low w.high).slot w.parts in
      record { end = r.0; align = r.1; says = says }

  sets-small : (x : Notes) (p : ℕ) → Bytes t → sets_by t x p < 8192
  unfolding sets_noted
  sets-small x p bytes =
      shape-small t bytes (end_noted x.sizes) (sets_noted x.aligns) (λ q. sets-of-small (get_or x.aligns q 0)) p (shape_of (u8 t p))

  noted_here : (x : Notes) (d p : ℕ) → Bytes t → From (suc p) x → IsWhole d t p
      → NotedClass t (notes (set x.sizes p (size_to t p (end_by t x p))) (set x.aligns p (word_of (align_by t x p) (sets_by t x p)))) d p
  unfolding size_to align_noted sets_noted
  noted_here x d p bytes b w =
      let n = by-notes x d p b w in
      let e = whole-ends d t p w in
      let l = whole-inside d t p w in
      let s : p < length x.sizes = omega (arith, b.room.0) in
      let a : p < length x.aligns = omega (arith, b.room.1) in
      let f : leb (next_at d t p) (length t) ≡ true = le-leb _ _ e.within in
      let word = get_or-set_same x.aligns p (word_of (align_by t x p) (sets_by t x p)) 0 a in
      record {
        size = rw (get_or-set_same x.sizes p (size_to t p (end_by t x p)) 0 s, ← n.end, f, size_to) (omega (arith, e.onward));
        align = rw (word) (align_word (align_by t x p) (sets_by t x p) (rw n.align at (aligned d t p w).1)) ∙ sym n.align;
        sets = rw (word, sets_word (align_by t x p) (sets_by t x p) (sets-small x p bytes)) n.says;
      }

  noted_other : (x : Notes) (d p q v a : ℕ) → p < q → NotedClass t x d q
      → NotedClass t (notes (set x.sizes p v) (set x.aligns p a)) d q
  unfolding align_noted sets_noted
  noted_other x d p q v a l n =
      let k : q ≡ p → ⊥ = λ e. omega arith in
      let word = get_or-set_other x.aligns p q a 0 k in
      record {
        size = rw (get_or-set_other x.sizes p q v 0 k) n.size;
        align = rw word n.align;
        sets = rw word n.sets;
      }

  note-at : (p : ℕ) (x : Notes) → Bytes t → From (suc p) x → From p (note_at t p x)
  unfolding note_at
  note-at p x bytes b = by (is_class (u8 t p)) refl
    where
      by : (c : Bool) → is_class (u8 t p) ≡ c
          → From p (elim c [
            | true ↦ notes (set x.sizes p (size_to t p (end_by t x p))) (set x.aligns p (word_of (align_by t x p) (sets_by t x p)))
            | false ↦ x
          ])
      by true e = record {
        room = (rw length-set b.room.0, rw length-set b.room.1);
        classes = λ d q l w. ⊎_elim
            (λ (m : p < q). noted_other x d p q _ _ m (b.classes d q m w))
            (λ (m : q ≤ p). let k : p ≡ q = omega arith in rw (← k) (noted_here x d p bytes b (rw (← k) at w)))
            (lt-or-ge p q);
      }
      by false e = record {
        room = b.room;
        classes = λ d q l w. ⊎_elim
            (λ (m : p < q). b.classes d q m w)
            (λ (m : q ≤ p). let k : q ≡ p = omega arith in absurd (clash (sym e ∙ class-kind d p (rw k at w))))
            (lt-or-ge p q);
      }

  -- The bytes from the back

  note-below : (p : ℕ) (x : Notes) → Bytes t → From p x → From 0 (note_below t p x)
  unfolding note_below
  note-below zero x bytes b = b
  note-below (suc p) x bytes b = note-below p (note_at t p x) bytes (note-at p x bytes b)

  pub all_noted : (x : Notes) → Bytes t → length t ≤ length x.sizes → length t ≤ length x.aligns → From 0 (note_below t (length t) x)
  all_noted x bytes s a =
      note-below (length t) x bytes (record { room = (s, a); classes = λ d q l w. absurd (omega (arith, whole-inside d t q w)) })

  -- The fragments

  length-fragments : (os s : List ℕ) → length (note_fragments t os s) ≡ length s
  unfolding note_fragments
  length-fragments [] s = refl
  length-fragments (o ∷ os) s = length-fragments os (set s o (behind_fragment t o - o)) ∙ length-set s o _

  -- a note at the place of a fragment stays if it is no fragment's place, or is that fragment's size
  not-fragment : (os s : List ℕ) (p : ℕ) → AllFragments t os → 5 < u8 t p → get_or (note_fragments t os s) p 0 ≡ get_or s p 0
  unfolding note_fragments
  not-fragment [] s p h l = refl
  not-fragment (o ∷ os) s p h l =
      let k : p ≡ o → ⊥ = λ e. omega (arith, h.0.high, ap (u8 t) e) in
      not-fragment os (set s o (behind_fragment t o - o)) p h.1 l ∙ get_or-set_other s o p _ 0 k

  fragment-kept : (os s : List ℕ) (p : ℕ) → get_or s p 0 ≡ behind_fragment t p - p → get_or (note_fragments t os s) p 0 ≡ behind_fragment t p - p
  unfolding note_fragments
  fragment-kept [] s p e = e
  fragment-kept (o ∷ os) s p e = fragment-kept os (set s o (behind_fragment t o - o)) p (by (eqb p o) refl)
    where
      by : (b : Bool) → eqb p o ≡ b → get_or (set s o (behind_fragment t o - o)) p 0 ≡ behind_fragment t p - p
      by true k = let j : p ≡ o = eqb-true p o k in rw (← j, ← e, set-get_or s p 0)
      by false k = get_or-set_other s o p _ 0 (eqb-false p o k) ∙ e

  fragment-sizes : (os s : List ℕ) → AllFragments t os → length t ≤ length s
      → All (λ o. get_or (note_fragments t os s) o 0 ≡ behind_fragment t o - o) os
  unfolding note_fragments
  fragment-sizes [] s h l = tt
  fragment-sizes (o ∷ os) s h l =
      let v = behind_fragment t o - o in (
        fragment-kept os (set s o v) o (get_or-set_same s o v 0 (omega (arith, h.0.onward, h.0.within))),
        fragment-sizes os (set s o v) h.1 (rw length-set l),
      )

  both : {P Q R : ℕ → Type 0} (os : List ℕ) → ((o : ℕ) → P o → Q o → R o) → All P os → All Q os → All R os
  both [] f p q = tt
  both (o ∷ os) f p q = (f o p.0 q.0, both os f p.1 q.1)

  -- All, with numbers

  pub prepared : (x : Notes) → Bytes t → AllFragments t (fragments_of t) → length t ≤ 65536 → length t ≤ length x.sizes
      → length t ≤ length x.aligns
      → Prepared t (notes_of t x)
  unfolding notes_of note_numbers
  prepared x bytes h k s a =
      let b = all_noted x bytes s a in
      let y = note_below t (length t) x in
      let room = b.room.1 in
      let c : (d p : ℕ) → IsWhole d t p → NotedClass t (notes_of t x) d p = λ d p w.
      let n = b.classes d p (omega arith) w in
      record {
        size = rw (not-fragment (fragments_of t) y.sizes p h (class-opens-none d t p w)) n.size;
        align = numbers-align t y.aligns room p ∙ n.align;
        sets = rw (numbers-sets t y.aligns room p) n.sets;
      } in
      record {
        sized = record {
          limit = k;
          room = rw (length-fragments (fragments_of t) y.sizes) b.room.0;
          each = both (fragments_of t)
              (λ o u v. record {
                stands = u;
                size = rw v (omega (arith, u.onward));
                roots = λ i p e. (c depth_limit p (u.roots i p e)).size;
              })
              h (fragment-sizes (fragments_of t) y.sizes h b.room.0);
        };
        room = rw (numbers-length t (length t) 0 0 y.aligns) room;
        classes = c;
        numbers = λ d p w. numbers-number t y.aligns p room (class-begins d t p w) (whole-inside d t p w);
      }
