-- The loops that note the fragments' sizes and the records' numbers: what each has noted, and what it still has to. And what an accepted
-- table gives them.
use mathlib.Core.Path.{◌≡◌, refl, sym, ap, ◌∙◌}
use Prim.Native.Nat.{ℕ, zero, suc, ◌+◌, ◌-◌, ◌≤◌, ◌<◌}
use native.Mathlib.Omega.{arith}
use mathlib.Core.List.{List, ◌∷◌}
use lib.ListN.{length, get_or, set, length-set}
use lib.Seq.{get_or-set_other}
use borrow.Author.Tests.{lt-ltb, le-ltb}
use Rattle.rules.specs.Limits.{depth_limit}
use Rattle.rules.specs.Record.{u8}
use Rattle.facts.specs.Bytes.{Bytes}
use Rattle.class_layout.specs.Numbers.{next_record, number_behind}
use Rattle.class_layout.specs.Words.{numbered_word}
use Rattle.class_layout.specs.Fragments.{behind_fragment, fragments_from, fragments_of, Fragment, AllFragments}
use Rattle.class_layout.specs.Sizes.{SizedRoots}
use Rattle.class_layout.specs.Notes.{Notes, notes, note_below, note_fragments, numbers_from, note_numbers, notes_of, SizedClasses, Made}
use Rattle.class_layout.proofs.Numbers.{next-onward, behind-small}
use Rattle.class_layout.proofs.Numbered.{class-opens-none}
use Rattle.class_layout.proofs.NumbersNoted.{numbers-record}
use Rattle.class_layout.proofs.Walked.{none_left}
use Rattle.class_layout.proofs.Asked.{Accepts}
use Rattle.class_layout.proofs.Noted.{From, all_noted, prepared}

-- sizes were z and are s, and the fragments from a byte on are left
pub record FragmentsLeft (t z s : List ℕ) (at : ℕ) : Type 0 where
  pub left : ℕ
  pub enough : length t ≤ at + left
  pub same : note_fragments t (fragments_of t) z ≡ note_fragments t (fragments_from left t at) s
  pub each : AllFragments t (fragments_from left t at)
  pub classes : SizedClasses t s
  pub size : length s ≡ length z
  pub begun : 2 ≤ at

record Step (t z s : List ℕ) (at : ℕ) : Type 0 where
  here : Fragment t at
  next : FragmentsLeft t z (set s at (behind_fragment t at - at)) (behind_fragment t at)

pub fragments-start : {t z : List ℕ} → AllFragments t (fragments_of t) → SizedClasses t z → FragmentsLeft t z z 2
unfolding fragments_of
fragments-start {t} h k = record {
  left = length t - 2;
  enough = omega arith;
  same = refl;
  each = h;
  classes = k;
  size = refl;
  begun = omega arith;
}

module _ {t z s : List ℕ} where
  step : {at : ℕ} → at < length t → FragmentsLeft t z s at → Step t z s at
  unfolding fragments_from note_fragments
  step {at} l h = by h.left h.enough h.same h.each
    where
      by : (left : ℕ) → length t ≤ at + left → note_fragments t (fragments_of t) z ≡ note_fragments t (fragments_from left t at) s
          → AllFragments t (fragments_from left t at) → Step t z s at
      by zero m e w = absurd (omega arith)
      by (suc left) m e w =
          let e₁ : note_fragments t (fragments_of t) z ≡ note_fragments t (at ∷ fragments_from left t (behind_fragment t at)) s =
          rw (lt-ltb at (length t) l, fragments_from) at e in
          let w₁ : AllFragments t (at ∷ fragments_from left t (behind_fragment t at)) = rw (lt-ltb at (length t) l, fragments_from) at w in
          record {
            here = w₁.0;
            next = record {
              left = left;
              enough = omega (arith, w₁.0.onward);
              same = e₁;
              each = w₁.1;
              classes = λ d p v.
                  let k : p ≡ at → ⊥ = λ q. omega (arith, class-opens-none d t p v, w₁.0.high, ap (u8 t) q) in
                  rw (get_or-set_other s at p (behind_fragment t at - at) 0 k) (h.classes d p v);
              size = length-set s at _ ∙ h.size;
              begun = omega (arith, h.begun, w₁.0.onward);
            };
          }

  pub fragments-here : {at : ℕ} → at < length t → FragmentsLeft t z s at → Fragment t at
  fragments-here l h = (step l h).here

  pub fragments-roots : {at : ℕ} → at < length t → FragmentsLeft t z s at → SizedRoots t s at
  fragments-roots l h = λ i p e. h.classes depth_limit p ((step l h).here.roots i p e)

  pub fragments-next : {at n v : ℕ} → at < length t → n ≡ behind_fragment t at → v ≡ n - at → FragmentsLeft t z s at
      → FragmentsLeft t z (set s at v) n
  fragments-next l e f h = rw (f, e) (step l h).next

  pub fragments-done : {at : ℕ} → length t ≤ at → FragmentsLeft t z s at → s ≡ note_fragments t (fragments_of t) z
  unfolding note_fragments
  fragments-done {at} l h = sym (h.same ∙ rw (none_left t at h.left l))

-- The records' numbers: words were z and are a, and from the byte `at` on, whose record has the number m, the records are left

pub record RecordsLeft (t z a : List ℕ) (at m : ℕ) : Type 0 where
  pub left : ℕ
  pub enough : length t ≤ at + left
  pub same : note_numbers t z ≡ numbers_from left t at m a
  pub size : length a ≡ length z
  pub few : m ≤ at

pub records-start : {t z : List ℕ} → RecordsLeft t z z 0 0
unfolding note_numbers
records-start {t} = record { left = length t; enough = omega arith; same = refl; size = refl; few = omega arith }

module _ {t z a : List ℕ} where
  pub records-next : {at m w next n : ℕ} → at < length t → w ≡ numbered_word (get_or a at 0) m → next ≡ next_record t at
      → n ≡ number_behind (u8 t next) m → RecordsLeft t z a at m → RecordsLeft t z (set a at w) next n
  records-next {at} {m} l e f g h = rw (g, f, e) (by h.left h.enough h.same)
    where
      by : (left : ℕ) → length t ≤ at + left → note_numbers t z ≡ numbers_from left t at m a
          → RecordsLeft t z (set a at (numbered_word (get_or a at 0) m)) (next_record t at) (number_behind (u8 t (next_record t at)) m)
      by zero k s = absurd (omega arith)
      by (suc left) k s =
          let one = next-onward t at in
          record {
            left = left;
            enough = omega arith;
            same = s ∙ numbers-record t left at m a l;
            size = length-set a at _ ∙ h.size;
            few = omega (arith, h.few, behind-small (u8 t (next_record t at)) m);
          }

  pub records-done : {at m : ℕ} → length t ≤ at → RecordsLeft t z a at m → a ≡ note_numbers t z
  unfolding numbers_from
  records-done {at} {m} l h = sym (h.same ∙ by h.left)
    where
      by : (left : ℕ) → numbers_from left t at m a ≡ a
      by zero = refl
      by (suc left) = rw (le-ltb at (length t) l, numbers_from)

-- The passes, one after the other

module _ (t : List ℕ) (x : Notes) {y : Notes} (bytes : Bytes t) (s : length t ≤ length x.sizes) (a : length t ≤ length x.aligns)
    (e : y ≡ note_below t (length t) x) where
  noted : From t 0 y
  noted = rw e (all_noted t x bytes s a)

  pub first-pass : SizedClasses t y.sizes × (length t ≤ length y.sizes) × (length t ≤ length y.aligns)
  first-pass = (λ d p w. (noted.classes d p (omega arith) w).size, noted.room.0, noted.room.1)

  pub all-passes : {z b : List ℕ} → Accepts t → z ≡ note_fragments t (fragments_of t) y.sizes → b ≡ note_numbers t y.aligns
      → Made t x (notes z b)
  unfolding notes_of
  all-passes h f g =
      let k : notes (note_fragments t (fragments_of t) y.sizes) (note_numbers t y.aligns) ≡ notes_of t x =
      ap (λ y. notes (note_fragments t (fragments_of t) y.sizes) (note_numbers t y.aligns)) e in
      rw (f, g) (record { notes = k; ready = rw k (prepared t x bytes h.fragments h.limit s a) })
