-- The rules refuse by the paper's numbers for the answers: a field that gets to its bytes does as the answer says. In order: fields;
-- stamps; records.
use Rattle.std.specs.Prelude.{Option, None, Some}
use mathlib.Core.Path.{◌≡◌, refl, sym, ap, subst, ◌∙◌}
use mathlib.Core.Logic.{◌↔◌}
use Prim.Native.Nat.{ℕ, zero, suc, ◌+◌, ◌-◌, ◌*◌, ◌/◌, ◌%◌, ◌^◌, ◌≤◌, ◌<◌}
use native.Mathlib.Omega.{arith}
use mathlib.Core.List.{List, [], ◌∷◌}
use mathlib.Core.Bool.{Bool, true, false, not, ◌&&◌, ◌||◌}
use lib.ListN.{length, get_or, take, drop, length-take}
use lib.Seq.{take-take}
use borrow.Author.Tests.{le-ltb}
use Rattle.rules.specs.declared.BitPlace.{BitPlace}
use Rattle.rules.specs.declared.ByteLength.{ByteLength}
use Rattle.rules.specs.declared.Entry.{Entry}
use Rattle.rules.specs.declared.Content.{Content}
use Rattle.rules.specs.declared.Content.TheVariants.{Unsigned, Signed}
use Rattle.rules.specs.declared.Leb.{Leb}
use Rattle.rules.specs.declared.Leb.TheVariants.{Value, Past, Large}
use Rattle.rules.specs.declared.Refusal.{Refusal}
use Rattle.rules.specs.declared.Refusal.TheVariants.{PastBound, LebTooLarge, NoZeroByte, ClockTooLarge, NotText}
use Rattle.rules.specs.Record.{Record, unknown, fragment, root, class, range, option, Layout, no, bits_layout, layouts, layout_of, record_of, u8}
use Rattle.rules.specs.Faults.{Ids, first_fault, record_fault}
use Rattle.rules.specs.Leb128.{leb_unsigned, leb_signed}
use Rattle.rules.specs.Clock.{clock_after}
use Rattle.rules.specs.Text.{text_length, zero_at, is_text}
use Rattle.rules.specs.Slots.{slot_at}
use Rattle.rules.specs.Limits.{words_per_entry, length_limit}
use Rattle.rules.specs.Class.{Role, no_role}
use Rattle.rules.specs.Verdict.{refusal_number}
use Rattle.rules.specs.Step.{State, Out, stop, go, Step, onto, after, ◌⨾◌, refuse, refuse_at, check, check_at, due, listed, pass}
use Rattle.rules.specs.Field.{Env, aligned, fit, ahead, bytes_at, field, new_clock, role, from_slot, as_number, as_length}
use Rattle.rules.specs.Field.{read_leb, as_text, read_zero, read_text, read}
use Rattle.facts.proofs.Truth.{clash, and_left, and_right}
use Rattle.facts.proofs.Steps.{onto-nil}
use Rattle.leb128.specs.Answer.{leb_number}
use Rattle.clock.specs.Ticked.{ticked_of, ticked_number}
use Rattle.clock.specs.Least.{Least}
use Rattle.clock.proofs.Least.{new-clock}
use Rattle.text.specs.Number.{text_number, ended_number}
use Rattle.text.proofs.Laws.{zero-found, text-own}
use Rattle.table_offsets.specs.Bodies.{known, body_in, body_of, body_number}
use Rattle.laws.proofs.Places.{tenth_byte}
use Rattle.promises.specs.Numbers.{Lists, ByNumber, AtBytes, BytesFit, leb_place, Numbers}
use Rattle.promises.proofs.Clocks.{after-least, after_none}

-- Fields

check-passed : (t : State → Bool) (r : Refusal) (m : Step) (s : State) → t s ≡ false → (check t r ⨾ m) s ≡ m s
unfolding check ◌⨾◌ pass after
check-passed t r m s h = rw (h, check) (onto-nil (m s))

fit_passed : (e : Env) (a n : ℕ) (m : Step) (s : State) → (aligned e a s).0 + n ≤ e.bound.0 → (fit e a n ⨾ m) s ≡ m s
unfolding fit check_at ◌⨾◌ pass after
fit_passed e a n m s h = rw (le-ltb e.bound.0 ((aligned e a s).0 + n) h, check_at) (onto-nil (m s))

due-passed : (m : Step) (s : State) → words_per_entry ≤ s.room → (due ⨾ m) s ≡ m s
unfolding due
due-passed m s h = check-passed _ _ _ s (le-ltb s.room words_per_entry h)

-- a slot that has a length
length-passed : (i n : ℕ) (f : ℕ → Step) (s : State) → slot_at s.slots i ≡ Unsigned n → n ≤ length_limit
    → from_slot i (λ x. as_length x f) s ≡ f n s
unfolding from_slot as_length as_number
length-passed i n f s u l = ap (λ x. as_length x f s) u ∙ check-passed _ _ _ s (le-ltb length_limit n l)

at-bytes : (e : Env) (m : Step) (s : State) → AtBytes e s → (due ⨾ fit e 8 0 ⨾ m) s ≡ m s
at-bytes e m s h = due-passed _ s h.room ∙ fit_passed e 8 0 m s (omega (arith, h.within))

-- an entry is listed, whatever comes behind it
lists-onto : (x : Entry) (o : Out) → Lists (onto (x ∷ []) o)
unfolding onto
lists-onto x (stop es v) = tt
lists-onto x (go es s) = tt

by_zero : (s : State) (o : Out) → Lists o → ByNumber 0 s.place o
by_zero s o h = record { lists = λ e. h; refuses = λ n. absurd (n refl) }

by-refuse_at : (r : Refusal) (p : BitPlace) (s : State) → (refusal_number r ≡ 0 → ⊥) → ByNumber (refusal_number r) p (refuse_at r p s)
unfolding refuse_at
by-refuse_at r p s h = record { lists = λ e. absurd (h e); refuses = λ n. record { why = r; number = refl; stopped = refl } }

by-refuse : (r : Refusal) (s : State) → (refusal_number r ≡ 0 → ⊥) → ByNumber (refusal_number r) s.place (refuse r s)
unfolding refuse refuse_at
by-refuse r s h = by-refuse_at r s.place s h

by-leb : (e : Env) (m k : ℕ) (c : ℕ → Content) (i : ℕ) (r : Role) (x : Leb) (s : State)
    → ByNumber (leb_number x) (leb_place e s x) (read_leb e m k c i r x s)
unfolding read_leb leb_number leb_place field ◌⨾◌ listed after
by-leb e m k c i r (Value v n) s = by_zero s _ (lists-onto _ _)
by-leb e m k c i r Past s = by-refuse_at PastBound e.bound s (unfold refusal_number in λ q. omega arith)
by-leb e m k c i r Large s = by-refuse_at LebTooLarge (tenth_byte e s) s (unfold refusal_number in λ q. omega arith)

-- bytes that are text, or are not, and the field that waits for it
by-text : (e : Env) (x : List ℕ) (m k n v : ℕ) (s : State) → ByNumber (text_number (is_text x)) s.place ((as_text x ⨾ field e m k 8 n v) s)
unfolding as_text check ◌⨾◌
by-text e x m k n v s = by (is_text x)
  where
    by : (formed : Bool)
        → ByNumber (text_number formed) s.place
        (after (elim (not formed) [ true ↦ refuse NotText s | false ↦ pass s ]) (field e m k 8 n v))
    by true = unfold text_number pass after field listed onto in by_zero s _ tt
    by false = unfold text_number refuse after in by-refuse NotText s (unfold refusal_number in λ q. omega arith)

front-ahead : (e : Env) (p : BitPlace) (n : ℕ) → n < length (ahead e p) → take n (ahead e p) ≡ bytes_at e p n
unfolding ahead bytes_at
front-ahead e p n h =
    let left : ℕ = (e.bound.0 - p.0) / 8 in
    let from : List ℕ = drop (p.0 / 8) e.bytes in
    take-take n left from (omega (arith, length-take left from))

-- the text that a zero byte ends is that of all bytes from its first one on
text-ahead : (e : Env) (p : BitPlace) (n : ByteLength) → zero_at (ahead e p) ≡ Some n → is_text (bytes_at e p n.0) ≡ is_text (ahead e p)
text-ahead e p n q =
    let found = zero-found (ahead e p) n q in
    rw (← front-ahead e p n.0 found.0, ← found.1) (text-own (ahead e p))

by-zero_byte : (e : Env) (m : ℕ) (x : Option ByteLength) (s : State) → zero_at (ahead e (aligned e 8 s)) ≡ x
    → ByNumber (ended_number (is_text (ahead e (aligned e 8 s))) x) s.place (read_zero e m x s)
unfolding read_zero ended_number ◌⨾◌
by-zero_byte e m (Some n) s q =
    subst (λ t. ByNumber (text_number t) s.place (read_zero e m (Some n) s)) (text-ahead e (aligned e 8 s) n q)
    (by-text e (bytes_at e (aligned e 8 s) n.0) m 23 (8 * (n.0 + 1)) n.0 s)
by-zero_byte e m None s q = by-refuse NoZeroByte s (unfold refusal_number in λ z. omega arith)

by_bytes : (e : Env) (m k n : ℕ) (s : State) → AtBytes e s → BytesFit e n s
    → ByNumber (text_number (is_text (bytes_at e (aligned e 8 s) n))) s.place (read_text e m k n s)
unfolding read_text
by_bytes e m k n s h f =
    subst (ByNumber _ _) (sym (fit_passed e 8 0 _ s (omega (arith, h.within)) ∙ fit_passed e 8 (8 * n) _ s f))
    (by-text e (bytes_at e (aligned e 8 s) n) m k (8 * n) (text_length (bytes_at e (aligned e 8 s) n)) s)

-- Stamps

by-clock : (l : ℕ) (o : Option ℕ) (s : State) → ByNumber (ticked_number (ticked_of o)) s.place (new_clock l o s)
unfolding new_clock ticked_number ticked_of ◌⨾◌ listed after
by-clock l None s = by-refuse ClockTooLarge s (unfold refusal_number in λ q. omega arith)
by-clock l (Some c) s = by_zero s _ (lists-onto _ _)

needs-more : (c l v n : ℕ) → Least c l (v % 2 ^ l) n → (ticked_number (ticked_of (clock_after c l v)) ≡ 36) ↔ (2 ^ 64 ≤ n)
needs-more c l v n h = by (clock_after c l v) refl
  where
    by : (o : Option ℕ) → clock_after c l v ≡ o → (ticked_number (ticked_of o) ≡ 36) ↔ (2 ^ 64 ≤ n)
    by None e = unfold ticked_of ticked_number refusal_number in
        let x = after_none c l v e in
        ((λ q. omega (arith, new-clock.once h x.0, x.1)), λ q. refl)
    by (Some m) e = unfold ticked_of ticked_number refusal_number in
        let x = after-least c l v m e in
        ((λ q. absurd (omega arith)), λ q. absurd (omega (arith, new-clock.once h x.0, x.1)))

-- Records

-- no byte of a body gives a row a kind that it has not
without : List ℕ → Layout → Bool
without x row = known (row.1 []) || not (known (row.1 x))

every : (Layout → Bool) → List Layout → Bool
every p [] = true
every p (row ∷ rows) = p row && every p rows

every-at : (p : Layout → Bool) (rows : List Layout) → every p rows ≡ true → p no ≡ true → (k : ℕ) → p (get_or rows k no) ≡ true
unfolding every
every-at p [] h n k = n
every-at p (row ∷ rows) h n zero = and_left (p row) _ h
every-at p (row ∷ rows) h n (suc k) = every-at p rows (and_right (p row) _ h) n k

all_without : (x : List ℕ) → every (without x) layouts ≡ true
unfolding every without layouts bits_layout known no
all_without x = refl

unknown-only : (r : Record) → known r ≡ false → r ≡ unknown
unfolding known
unknown-only unknown h = refl
unknown-only (fragment f) h = absurd (clash (sym h))
unknown-only (root n) h = absurd (clash (sym h))
unknown-only (class s) h = absurd (clash (sym h))
unknown-only (range g l h) e = absurd (clash (sym e))
unknown-only (option n) h = absurd (clash (sym h))

-- without a body there is no kind, whatever bytes come
no_body : (row : Layout) (x : List ℕ) → without x row ≡ true → body_in row ≡ None → known (row.1 x) ≡ false
unfolding without body_in
no_body row x w h = by (known (row.1 [])) (known (row.1 x)) refl refl
  where
    by : (a b : Bool) → known (row.1 []) ≡ a → known (row.1 x) ≡ b → b ≡ false
    by true b p q = let k : Some row.0 ≡ None = rw (p, body_in) at h in let z : ◌≡◌ {A = ℕ} 0 1 = cc in absurd (omega arith)
    by false true p q = let k : false ≡ true = rw (p, q) at w in absurd (clash k)
    by false false p q = refl

no_kind : (x : List ℕ) → body_of (u8 x 0) ≡ None → record_of x ≡ unknown
unfolding body_of record_of layout_of without no known
no_kind x h = unknown-only _ (no_body _ _ (every-at (without _) layouts (all_without _) refl (u8 x 0)) h)

by_kind : (x : List ℕ) → body_of (u8 x 0) ≡ None → (short : Bool)
    → (first_fault short (record_of x) ≡ body_number None) × ((q : Ids) (m : ℕ) → record_fault short q (record_of x) m ≡ body_number None)
unfolding first_fault record_fault body_number
by_kind x h short = rw (no_kind x h) (refl, λ q m. refl)

pub numbers : Numbers
unfolding read role
numbers = record {
  leb-past = unfold leb_number refusal_number in refl;
  leb-large = unfold leb_number refusal_number in refl;
  zero-never = λ formed. unfold ended_number refusal_number in refl;
  no_text = λ n. unfold ended_number text_number refusal_number in refl;
  clock-large = unfold ticked_number refusal_number in refl;
  leb = λ e m i r s h. subst (ByNumber _ _) (sym (at-bytes e _ s h)) (by-leb e m 21 Unsigned i r (leb_unsigned (ahead e (aligned e 8 s))) s);
  signed-leb = λ e m i s h.
      subst (ByNumber _ _) (sym (at-bytes e _ s h)) (by-leb e m 22 Signed i no_role (leb_signed (ahead e (aligned e 8 s))) s);
  zero-byte = λ e m s h. subst (ByNumber _ _) (sym (at-bytes e _ s h)) (by-zero_byte e m (zero_at (ahead e (aligned e 8 s))) s refl);
  static-text = λ e m n s h f. subst (ByNumber _ _) (sym (due-passed _ s h.room)) (by_bytes e m 24 n s h f);
  dynamic-text = λ e m i n s h f u l.
      subst (ByNumber _ _) (sym (due-passed _ s h.room ∙ length-passed i n _ s u l)) (by_bytes e m 26 n s h f);
  stamp = λ l v s h. subst (ByNumber _ _) (sym (due-passed _ s h)) (by-clock l (clock_after s.clock l v) s);
  too_large = needs-more;
  kind-unknown = unfold body_number in refl;
  kind = by_kind;
}
