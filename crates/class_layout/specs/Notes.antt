-- What `prepare` notes of a table in two lists: for each class its size with all that it holds, and the word of its alignment's exponent,
-- of what it sets and of its record's number (Words); for each fragment its size. Byte by byte from the back: what a class holds stands
-- behind its record, and is noted before it. Numbers are noted from the front, record by record.
use Rattle.std.specs.Prelude.{◌≡◌, ℕ, zero, suc, ◌+◌, ◌-◌, ◌*◌, ◌≤◌, ◌<◌, List, [], ◌∷◌, Bool, true, false, ◌&&◌, length, get_or, set, leb, ltb}
use Rattle.rules.specs.Class.{string, sets}
use Rattle.rules.specs.Record.{u8}
use Rattle.rules.specs.Record.{Shape, bit_field, leb_field, signed_leb_field, zero_string, text, blob, text_of, blob_of, members, elements}
use Rattle.rules.specs.Record.{elements_of, option?, options}
use Rattle.class_layout.specs.declared.Reach.{Reach}
use Rattle.class_layout.specs.Trees.{shape_of, option_class, Stood, behind_members, behind_options, next_in, class_at, next_at, align_members}
use Rattle.class_layout.specs.Trees.{align_in, align_at, IsWhole}
use Rattle.table_records.specs.Named.{named_at}
use Rattle.class_layout.specs.Numbers.{next_record, number_behind, number_at}
use Rattle.class_layout.specs.Words.{word_of, align_of_word, sets_of_word, number_of_word, numbered_word, sets_one, sets_both, SaysSet}
use Rattle.class_layout.specs.Fragments.{behind_fragment, fragments_of}
use Rattle.class_layout.specs.Sizes.{Sized}

pub record Notes : Type 0 where
  pub sizes : List ℕ
  pub aligns : List ℕ

abbrev pub notes : List ℕ → List ℕ → Notes
notes s a = record { sizes = s; aligns = a }

-- what the notes say of the class at a byte: where it ends, of which alone the definitions of Trees ask here, its exponent, what it sets,
-- and its record's number
unfoldable pub end_noted : List ℕ → ℕ → Stood
end_noted s p = record { class = string; next = p + get_or s p 0 }

unfoldable pub align_noted : List ℕ → ℕ → ℕ
align_noted a p = align_of_word (get_or a p 0)

unfoldable pub sets_noted : List ℕ → ℕ → ℕ
sets_noted a p = sets_of_word (get_or a p 0)

unfoldable pub number_noted : List ℕ → ℕ → ℕ
number_noted a p = number_of_word (get_or a p 0)

-- what members set, and options, by what h says of each class; and what a class sets by its record, and h of what is behind it
unfoldable pub sets_members : (ℕ → ℕ) → (ℕ → Stood) → ℕ → ℕ → ℕ
sets_members h f at zero = 0
sets_members h f at (suc n) = sets_both (h at) (sets_members h f (f at).next n)

unfoldable pub sets_options : (ℕ → ℕ) → (ℕ → Stood) → List ℕ → ℕ → ℕ → ℕ
sets_options h f t at zero = 0
sets_options h f t at (suc n) = sets_both (h (option_class t at)) (sets_options h f t (f (option_class t at)).next n)

unfoldable pub sets_in : (ℕ → ℕ) → (ℕ → Stood) → List ℕ → ℕ → Shape → ℕ
sets_in h f t at (bit_field k) = sets_one (named_at t at)
sets_in h f t at leb_field = sets_one (named_at t at)
sets_in h f t at signed_leb_field = sets_one (named_at t at)
sets_in h f t at zero_string = sets_one (named_at t at)
sets_in h f t at text = sets_one (named_at t at)
sets_in h f t at blob = sets_one (named_at t at)
sets_in h f t at text_of = sets_one (named_at t at)
sets_in h f t at blob_of = sets_one (named_at t at)
sets_in h f t at members = sets_members h f (at + 3) (u8 t (at + 1))
sets_in h f t at elements = h (at + 4)
sets_in h f t at elements_of = h (at + 3)
sets_in h f t at option? = h (at + 3 + 18 * u8 t (at + 2))
sets_in h f t at options = sets_options h f t (at + 3) (u8 t (at + 2))

-- where the class that a record announces ends, and its exponent, by the notes of what is behind the record
abbrev pub end_by : List ℕ → Notes → ℕ → ℕ
end_by t x p = next_in (end_noted x.sizes) t p (shape_of (u8 t p))

abbrev pub align_by : List ℕ → Notes → ℕ → ℕ
align_by t x p = align_in (align_noted x.aligns) (end_noted x.sizes) t p (shape_of (u8 t p))

abbrev pub sets_by : List ℕ → Notes → ℕ → ℕ
sets_by t x p = sets_in (sets_noted x.aligns) (end_noted x.sizes) t p (shape_of (u8 t p))

-- 0 where that lies past the table, as no class does
unfoldable pub size_to : List ℕ → ℕ → ℕ → ℕ
size_to t p next = elim (leb next (length t)) [ true ↦ next - p | false ↦ 0 ]

-- a byte that is no kind of a class is passed over
unfoldable pub is_class : ℕ → Bool
is_class k = leb 16 k && leb k 32

unfoldable pub note_at : List ℕ → ℕ → Notes → Notes
note_at t p x =
    elim (is_class (u8 t p)) [
      | true ↦ notes (set x.sizes p (size_to t p (end_by t x p))) (set x.aligns p (word_of (align_by t x p) (sets_by t x p)))
      | false ↦ x
    ]

-- the bytes below p, from the back
unfoldable pub note_below : List ℕ → ℕ → Notes → Notes
note_below t zero x = x
note_below t (suc p) x = note_below t p (note_at t p x)

-- and then the fragments
unfoldable pub note_fragments : List ℕ → List ℕ → List ℕ → List ℕ
note_fragments t [] s = s
note_fragments t (o ∷ os) s = note_fragments t os (set s o (behind_fragment t o - o))

-- and then the numbers: of k records or fewer from the byte p on, which has the number m, into the words at their first bytes
unfoldable pub numbers_from : ℕ → List ℕ → ℕ → ℕ → List ℕ → List ℕ
numbers_from zero t p m a = a
numbers_from (suc k) t p m a =
    elim (ltb p (length t)) [
      | true ↦ numbers_from k t (next_record t p) (number_behind (u8 t (next_record t p)) m) (set a p (numbered_word (get_or a p 0) m))
      | false ↦ a
    ]

-- each record takes a byte or more, so that as many as there are bytes are enough
unfoldable pub note_numbers : List ℕ → List ℕ → List ℕ
note_numbers t a = numbers_from (length t) t 0 0 a

unfoldable pub notes_of : List ℕ → Notes → Notes
notes_of t x =
    let y = note_below t (length t) x in
    notes (note_fragments t (fragments_of t) y.sizes) (note_numbers t y.aligns)

-- the sizes of all classes that stand whole are right
abbrev pub SizedClasses : List ℕ → List ℕ → Type 0
SizedClasses t s = (d p : ℕ) → IsWhole d t p → p + get_or s p 0 ≡ next_at d t p

-- and its record's number
abbrev pub NumberedClasses : List ℕ → List ℕ → Type 0
NumberedClasses t a = (d p : ℕ) → IsWhole d t p → number_noted a p ≡ number_at t p

-- the notes of the class at a byte are right
pub record NotedClass (t : List ℕ) (x : Notes) (d p : ℕ) : Type 0 where
  pub size : p + get_or x.sizes p 0 ≡ next_at d t p
  pub align : align_noted x.aligns p ≡ align_at d t p
  pub sets : SaysSet (sets_noted x.aligns p) (sets (class_at d t p))

-- what a reading goes by: of every fragment, and of every byte at which a class stands whole
pub record Prepared (t : List ℕ) (x : Notes) : Type 0 where
  pub sized : Sized t x.sizes
  pub room : length t ≤ length x.aligns
  pub classes : (d p : ℕ) → IsWhole d t p → NotedClass t x d p
  pub numbers : NumberedClasses t x.aligns

-- What the code finds of a class, and of members

pub record Reaches (t : List ℕ) (x : Notes) (p : ℕ) (r : Reach) : Type 0 where
  pub end : r.next ≡ end_by t x p
  pub align : r.align ≡ align_by t x p
  pub sets : (r.sets ≡ sets_by t x p) × (r.sets < 8192)
  pub onward : p ≤ r.next

pub record ReachesMembers (s a : List ℕ) (p n : ℕ) (r : Reach) : Type 0 where
  pub end : r.next ≡ behind_members (end_noted s) p n
  pub align : r.align ≡ align_members (align_noted a) (end_noted s) p n
  pub sets : (r.sets ≡ sets_members (sets_noted a) (end_noted s) p n) × (r.sets < 8192)
  pub onward : p ≤ r.next

pub record ReachesOptions (t : List ℕ) (x : Notes) (p n : ℕ) (r : Reach) : Type 0 where
  pub end : r.next ≡ behind_options (end_noted x.sizes) t p n
  pub align : r.align ≡ 0
  pub sets : (r.sets ≡ sets_options (sets_noted x.aligns) (end_noted x.sizes) t p n) × (r.sets < 8192)
  pub onward : p ≤ r.next

-- What `prepare` does: every word of both lists, and what they are good for

pub record Made (t : List ℕ) (x y : Notes) : Type 0 where
  pub notes : y ≡ notes_of t x
  pub ready : Prepared t y
