-- What stays by marks is what stays by ids: of an accepted table whose marks are those of the ids, `kept` is the rules' `leave`, which goes
-- from record to record. In order: one record; a row of records that open no fragment; a fragment, and those to the end; the table.
use Rattle.std.specs.Prelude.{Ok}
use mathlib.Core.Path.{◌≡◌, refl, sym, ap, ◌∙◌}
use Prim.Native.Nat.{ℕ, zero, suc, ◌+◌, ◌-◌, ◌≤◌, ◌<◌}
use native.Mathlib.Omega.{arith}
use mathlib.Core.List.{List, [], ◌∷◌, ◌++◌, append_assoc}
use mathlib.Core.Bool.{Bool, true, false}
use lib.Dec.{ltb, eqb→eq}
use lib.ListN.{length, take, drop, drop_of_length-le}
use lib.Seq.{drop-cons, drop-drop, take-add}
use borrow.Author.Tests.{ltb-false}
use Rattle.rules.specs.declared.ByteLength.{ByteLength}
use Rattle.rules.specs.Record.{Record, unknown, fragment, root, class, range, option, Fragment as Opening, preamble, trace_class, clock_class}
use Rattle.rules.specs.Record.{stream_class, event_class, u8, u64, layouts, record_of, size}
use Rattle.rules.specs.Parse.{missing, checked}
use Rattle.rules.specs.Edition.{stays, part, leave_records, leave}
use Rattle.facts.proofs.Cases.{◌▷◌, below}
use Rattle.class_layout.specs.Numbers.{next_record}
use Rattle.class_layout.specs.Fragments.{roots_of, behind_fragment, fragments_from, fragments_of, Fragment, All, AllFragments}
use Rattle.class_layout.proofs.Records.{fragment_kind, of_kind, kind-of, record-at, size-at, number-body, behind-at}
use Rattle.class_layout.proofs.Numbers.{Row, next-onward}
use Rattle.class_layout.proofs.RootNumbers.{records_before, opening-bytes, roots-passed}
use Rattle.class_layout.proofs.Asked.{checked-accepts}
use Rattle.bundle_table.specs.Kept.{stood, bytes_of, kept_one, kept_from, kept, Mark, Marks}
use Rattle.bundle_table.proofs.One.{stream-stood, event-stood, other-stood}

abbrev keep_if : Bool → List ℕ → List ℕ
keep_if b x = elim b [ true ↦ x | false ↦ [] ]

keep-none : (b : Bool) → keep_if b [] ≡ []
keep-none true = refl
keep-none false = refl

keep-both : (b : Bool) (u v z : List ℕ) → keep_if b u ++ (keep_if b v ++ z) ≡ keep_if b (u ++ v) ++ z
keep-both true u v z = sym (append_assoc u v z)
keep-both false u v z = refl

-- bytes from p up to q, and from there up to r
parts_join : (t : List ℕ) (p q r : ℕ) → p ≤ q → q ≤ r → take (q - p) (drop p t) ++ take (r - q) (drop q t) ≡ take (r - p) (drop p t)
parts_join t p q r h l =
    let far : p + (q - p) ≡ q = omega arith in
    let rest : drop (q - p) (drop p t) ≡ drop q t = rw far at (drop-drop (q - p) p t) in
    let all : q - p + (r - q) ≡ r - p = omega arith in
    rw (← rest, ← take-add (q - p) (r - q) (drop p t), all)

-- a record begins before the table's end
there : (t : List ℕ) (p : ℕ) → p < length t → missing (drop p t) ≡ false
unfolding missing
there t p l = rw (drop-cons t p 0 l)

module _ (ks : ℕ → Bool) (ke : ℕ → ℕ → Bool) where
  -- One record

  part-keeps : (b : Bool) (x : List ℕ) → part ks ke b x ≡ keep_if b (take (size x) x)
  unfolding part
  part-keeps true x = refl
  part-keeps false x = refl

  record-left : (t : List ℕ) (p rounds : ℕ) (now s : Bool) → p < length t → stays ks ke now (record_of (drop p t)) ≡ s
      → leave_records ks ke (suc rounds) now (drop p t)
      ≡ keep_if s (take (next_record t p - p) (drop p t)) ++ leave_records ks ke rounds s (drop (next_record t p) t)
  unfolding leave_records
  record-left t p rounds now s l e =
      let own : next_record t p - p ≡ size (drop p t) = omega arith in
      rw (there t p l, leave_records, e, behind-at t p, part-keeps s (drop p t), own)

  -- A row of records that open no fragment

  fragment-low : (g : Opening) → fragment_kind g ≤ 5
  unfolding fragment_kind
  fragment-low (preamble v) = omega arith
  fragment-low (trace_class u l) = omega arith
  fragment-low (clock_class i f) = omega arith
  fragment-low (stream_class i c) = omega arith
  fragment-low (event_class i j) = omega arith

  -- each stays as the one before it
  plain-stays : (t : List ℕ) (p : ℕ) (now : Bool) → 5 < u8 t p → stays ks ke now (record_of (drop p t)) ≡ now
  unfolding stays of_kind
  plain-stays t p now l = by (record_of (drop p t)) refl
    where
      by : (r : Record) → record_of (drop p t) ≡ r → stays ks ke now r ≡ now
      by unknown e = refl
      by (fragment g) e = absurd (omega (arith, eqb→eq (u8 t p) (fragment_kind g) (kind-of t p (fragment g) e), fragment-low g))
      by (root r) e = refl
      by (class y) e = refl
      by (range g a b) e = refl
      by (option n) e = refl

  row-onward : (t : List ℕ) (n p q : ℕ) → Row t p n q → p + n ≤ q
  unfolding Row
  row-onward t zero p q w = omega (arith, w)
  row-onward t (suc n) p q w = omega (arith, row-onward t n (next_record t p) q w.1, next-onward t p)

  row-left : (t : List ℕ) (q : ℕ) → q ≤ length t → (n p rounds : ℕ) (now : Bool) → Row t p n q → length t ≤ p + rounds
      → leave_records ks ke rounds now (drop p t)
      ≡ keep_if now (take (q - p) (drop p t)) ++ leave_records ks ke (rounds - n) now (drop q t)
  unfolding Row
  row-left t q l zero p rounds now w h =
      let none : q - p ≡ 0 = omega (arith, w) in
      let same : rounds - 0 ≡ rounds = omega arith in
      rw (none, same, keep-none now, w)
  row-left t q l (suc n) p zero now w h =
      absurd (omega (arith, row-onward t n (next_record t p) q w.1, next-onward t p))
  row-left t q l (suc n) p (suc rounds) now w h =
      let next = next_record t p in
      let far = row-onward t n next q w.1 in
      let up = next-onward t p in
      let less : suc rounds - suc n ≡ rounds - n = omega arith in
      record-left t p rounds now now (omega arith) (plain-stays t p now w.0)
      ∙ ap (λ z. keep_if now (take (next - p) (drop p t)) ++ z) (row-left t q l n next rounds now w.1 (omega arith))
      ∙ keep-both now (take (next - p) (drop p t)) (take (q - next) (drop next t)) (leave_records ks ke (rounds - n) now (drop q t))
      ∙ rw (less, parts_join t p next q (omega arith) (omega arith))

  -- A fragment

  -- whether it stays, by its kind
  module _ (t m : List ℕ) (o : ℕ) (k : Mark ks ke t m o) (now : Bool) where
    abbrev Stays : Type 0
    Stays = stays ks ke now (record_of (drop o t)) ≡ stood t m o

    trace-stays : u8 t o ≡ 2 → Stays
    unfolding layouts stays
    trace-stays e = rw (record-at t o 2 e) (other-stood t m o (λ h. omega arith) (λ h. omega arith))

    clock-stays : u8 t o ≡ 3 → Stays
    unfolding layouts stays
    clock-stays e = rw (record-at t o 3 e) (other-stood t m o (λ h. omega arith) (λ h. omega arith))

    stream-stays : u8 t o ≡ 4 → Stays
    unfolding layouts stays u64
    stream-stays e = rw (record-at t o 4 e, number-body t o 9 0 8 (omega arith)) (sym (k.stream e) ∙ stream-stood t m o e)

    event-stays : u8 t o ≡ 5 → Stays
    unfolding layouts stays u64
    event-stays e =
        rw (record-at t o 5 e, number-body t o 16 0 8 (omega arith), number-body t o 16 8 8 (omega arith))
        (sym (k.event e) ∙ event-stood t m o e)

    fragment-stays : Fragment t o → Stays
    fragment-stays f =
        let same : 2 + (u8 t o - 2) ≡ u8 t o = omega (arith, f.low) in
        below (λ j. u8 t o ≡ 2 + j → Stays) 4 (trace-stays ▷ clock-stays ▷ stream-stays ▷ event-stays ▷ tt) (u8 t o - 2)
        (omega (arith, f.low, f.high)) (sym same)

  -- how many records it has
  abbrev records : List ℕ → ℕ → ℕ
  records t o = suc (records_before t o (length (roots_of (u8 t o))))

  fragment-row : (t : List ℕ) (o : ℕ) → Fragment t o
      → Row t (next_record t o) (records_before t o (length (roots_of (u8 t o)))) (behind_fragment t o)
  fragment-row t o f = rw (← opening-bytes t o f) at (roots-passed t o f).row

  fragment-left : (t m : List ℕ) (o rounds : ℕ) (now : Bool) → Fragment t o → Mark ks ke t m o → length t ≤ o + rounds
      → leave_records ks ke rounds now (drop o t)
      ≡ kept_one t m o ++ leave_records ks ke (rounds - records t o) (stood t m o) (drop (behind_fragment t o) t)
  unfolding kept_one bytes_of
  fragment-left t m o zero now f k h = absurd (omega (arith, f.onward, f.within))
  fragment-left t m o (suc rounds) now f k h =
      let s = stood t m o in
      let next = next_record t o in
      let q = behind_fragment t o in
      let n = records_before t o (length (roots_of (u8 t o))) in
      let row = fragment-row t o f in
      let far : next + n ≤ q = row-onward t n next q row in
      let up : o < next = next-onward t o in
      let in_table : q ≤ length t = f.within in
      let less : suc rounds - suc n ≡ rounds - n = omega arith in
      record-left t o rounds now s (omega arith) (fragment-stays t m o k now f)
      ∙ ap (λ z. keep_if s (take (next - o) (drop o t)) ++ z) (row-left t q in_table n next rounds s row (omega arith))
      ∙ keep-both s (take (next - o) (drop o t)) (take (q - next) (drop next t)) (leave_records ks ke (rounds - n) s (drop q t))
      ∙ rw (less, parts_join t o next q (omega arith) (omega arith))

  -- Fragments to the end

  end-left : (t : List ℕ) (at rounds : ℕ) (now : Bool) → length t ≤ at → leave_records ks ke rounds now (drop at t) ≡ []
  end-left t at rounds now l = rw (drop_of_length-le t {i = at} l) (by rounds)
    where
      by : (n : ℕ) → leave_records ks ke n now [] ≡ []
      by zero = unfold leave_records in refl
      by (suc n) = unfold leave_records missing in refl

  fragments-left : (t m : List ℕ) (left at rounds : ℕ) (now : Bool) → AllFragments t (fragments_from left t at)
      → All (Mark ks ke t m) (fragments_from left t at) → length t ≤ at + left → length t ≤ at + rounds
      → leave_records ks ke rounds now (drop at t) ≡ kept_from t m (fragments_from left t at)
  unfolding fragments_from kept_from
  fragments-left t m zero at rounds now f k h l = end-left t at rounds now (omega arith)
  fragments-left t m (suc left) at rounds now f k h l =
      by (ltb at (length t)) refl (λ at rounds now f k h l. fragments-left t m left at rounds now f k h l) f k
    where
      Rest : Type 0
      Rest = (at rounds : ℕ) (now : Bool) → AllFragments t (fragments_from left t at) → All (Mark ks ke t m) (fragments_from left t at)
          → length t ≤ at + left → length t ≤ at + rounds
          → leave_records ks ke rounds now (drop at t) ≡ kept_from t m (fragments_from left t at)

      ahead : Bool → List ℕ
      ahead b = elim b [ true ↦ at ∷ fragments_from left t (behind_fragment t at) | false ↦ [] ]

      by : (b : Bool) → ltb at (length t) ≡ b → Rest → AllFragments t (ahead b) → All (Mark ks ke t m) (ahead b)
          → leave_records ks ke rounds now (drop at t) ≡ kept_from t m (ahead b)
      by true e rec f k =
          let o = f.0 in
          let row = fragment-row t at o in
          let n = records_before t at (length (roots_of (u8 t at))) in
          let far = row-onward t n (next_record t at) (behind_fragment t at) row in
          fragment-left t m at rounds now o k.0 l
          ∙ ap (λ z. kept_one t m at ++ z)
          (rec (behind_fragment t at) (rounds - records t at) (stood t m at) f.1 k.1 (omega (arith, o.onward))
          (omega (arith, far, next-onward t at)))
      by false e rec f k = end-left t at rounds now (ltb-false at (length t) e)

  -- The table

  preamble-stays : (t : List ℕ) → u8 t 0 ≡ 1 → stays ks ke true (record_of (drop 0 t)) ≡ true
  unfolding layouts stays
  preamble-stays t e = rw (record-at t 0 1 e)

  preamble-next : (t : List ℕ) → u8 t 0 ≡ 1 → next_record t 0 ≡ 2
  unfolding layouts
  preamble-next t e = omega (arith, size-at t 0 1 e)

  table-left : (t : List ℕ) (n : ℕ) → length t ≡ n → u8 t 0 ≡ 1
      → leave_records ks ke n true t ≡ take 2 t ++ leave_records ks ke (n - 1) true (drop 2 t)
  unfolding u8
  table-left [] zero l e = absurd (omega arith)
  table-left (a ∷ x) zero l e = absurd (omega arith)
  table-left t (suc n) l e =
      let next = preamble-next t (unfold u8 in e) in
      let less : suc n - 1 ≡ n = omega arith in
      record-left t 0 n true true (omega arith) (preamble-stays t (unfold u8 in e)) ∙ rw (next, less)

  pub kept-is-leave : (t m : List ℕ) (n : ByteLength) → checked t ≡ Ok n → Marks ks ke t m → kept t m ≡ leave ks ke t
  unfolding kept leave fragments_of
  kept-is-leave t m n h k =
      let a = checked-accepts t n h in
      sym (table-left t (length t) refl a.first
      ∙ ap (λ z. take 2 t ++ z)
      (fragments-left t m (length t - 2) 2 (length t - 1) true a.fragments k.each (omega arith) (omega arith)))
