-- `utf8` holds of scalar values encoded and of nothing else: the ranges of its nine rows are the scalar values. And what is encoded can be
-- decoded, so no two lists are encoded as one. In order: what is encoded is text; all text is; in one way.
use Rattle.std.specs.Prelude.{Option, None, Some}
use mathlib.Core.Path.{◌≡◌, refl, sym, ap, ◌∙◌}
use mathlib.Core.Logic.{⊎_elim}
use mathlib.Core.List.{List, [], ◌∷◌, ◌++◌}
use mathlib.Core.Bool.{Bool, true, false, ◌&&◌, cond}
use Prim.Native.Nat.{ℕ, zero, suc, ◌+◌, ◌-◌, ◌*◌, ◌<◌, ◌≤◌, zero-le}
use native.Mathlib.Nat.{add-sub_cancel_left}
use native.Mathlib.Omega.{arith}
use borrow.Author.Tests.{leb-true, le-leb, lt-leb}
use lib.Dec.{leb}
use lib.ListN.{drop, get_or}
use Rattle.facts.proofs.Numbers.{lt-or-ge}
use Rattle.facts.proofs.Truth.{clash, and_left, and_right}
use Rattle.facts.proofs.Cases.{◌▷◌}
use Rattle.rules.specs.Text.{Row, rows, row_of, utf8_from, utf8}
use Rattle.text.specs.Encoding.{Scalar, Scalars, six, encode_one, encoded, Encodes, TextIs}
use Rattle.text.proofs.Rows.{encode_one_lem, encode-two, encode-three, encode-four, two, three, four, value}
use Rattle.text.proofs.Rows.{row_here, row_at, lead-taken, all-taken, Tail, end, next, ended, Spans}
use Rattle.text.proofs.Rows.{to-7F, to-7FF, to-FFF, to-CFFF, to-D7FF, to-FFFF, to-3FFFF, to-FFFFF, to-10FFFF}

-- What is encoded is text

upto : {P : Type 0} (c k : ℕ) → (c ≤ k → P) → (k < c → P) → P
upto c k f g = ⊎_elim g f (lt-or-ge k c)

-- one range behind the other, and the surrogates between two of them
scalar-taken : (c : ℕ) (bs : List ℕ) → Scalar c → utf8 (encode_one c ++ bs) ≡ utf8 bs
scalar-taken c bs s =
    upto c 0x7F (to-7F.taken c bs zero-le)
    (λ a. upto c 0x7FF (to-7FF.taken c bs a)
    (λ a. upto c 0xFFF (to-FFF.taken c bs a)
    (λ a. upto c 0xCFFF (to-CFFF.taken c bs a)
    (λ a. upto c 0xD7FF (to-D7FF.taken c bs a)
    (λ a. upto c 0xDFFF (λ z. absurd (s.no_surrogate a z))
    (λ a. upto c 0xFFFF (to-FFFF.taken c bs a)
    (λ a. upto c 0x3FFFF (to-3FFFF.taken c bs a)
    (λ a. upto c 0xFFFFF (to-FFFFF.taken c bs a)
    (λ a. to-10FFFF.taken c bs a s.in-range)))))))))

sound : (cs : List ℕ) → Scalars cs → utf8 (encoded cs) ≡ true
unfolding utf8_from utf8 encoded
sound [] s = refl
sound (c ∷ cs) s = scalar-taken c (encoded cs) (s 0) ∙ sound cs (λ i. s (suc i))

-- All text is

one_more : (c : ℕ) (cs : List ℕ) → Scalar c → Scalars cs → Scalars (c ∷ cs)
one_more c cs h s zero = h
one_more c cs h s (suc i) = s i

-- what the row takes is encoded
abbrev Gives : Row → Type 0
Gives r = (b : ℕ) (bs : List ℕ) → r.first ≤ b → b ≤ r.last → Tail r.more r.low r.high bs → Encodes (b ∷ bs)

-- as the numbers of its range are scalar values
gives : (k low high : ℕ) → Spans k low high → ((c : ℕ) → low ≤ c → c ≤ high → Scalar c) → Gives (row_at k)
unfolding encoded
gives k low high spans scalar b bs a z t =
    let led = spans.given b bs a z t in
    let others = led.others in
    record {
      values = led.number ∷ others.values;
      scalars = one_more _ others.values (scalar led.number led.from led.to) others.scalars;
      same = rw others.same led.same;
    }

abbrev All : List Row → Type 0
All [] = Unit {0}
All (r ∷ rs) = Gives r × All rs

all_give : All rows
unfolding rows row_at
all_give =
    gives 0 _ _ to-7F (omega arith)
    ▷ gives 1 _ _ to-7FF (omega arith)
    ▷ gives 2 _ _ to-FFF (omega arith)
    ▷ gives 3 _ _ to-CFFF (omega arith)
    ▷ gives 4 _ _ to-D7FF (omega arith)
    ▷ gives 5 _ _ to-FFFF (omega arith)
    ▷ gives 6 _ _ to-3FFFF (omega arith)
    ▷ gives 7 _ _ to-FFFFF (omega arith)
    ▷ gives 8 _ _ to-10FFFF (omega arith)
    ▷ tt

row_gives : (rs : List Row) → All rs → (b : ℕ) (r : Row) (bs : List ℕ)
    → row_of rs b ≡ Some r → Tail r.more r.low r.high bs → Encodes (b ∷ bs)
unfolding row_of
row_gives [] g b r bs h t = let z : ◌≡◌ {A = ℕ} 0 1 = cc in absurd (omega arith)
row_gives (q ∷ rs) g b r bs h t = by (row_gives rs g.1 b r bs) (leb q.first b && leb b q.last) refl
  where
    by : (row_of rs b ≡ Some r → Tail r.more r.low r.high bs → Encodes (b ∷ bs))
        → (test : Bool) → (leb q.first b && leb b q.last) ≡ test → Encodes (b ∷ bs)
    by later true i =
        let a = leb-true q.first b (and_left _ _ i) in
        let z = leb-true b q.last (and_right (leb q.first b) _ i) in
        let same : q ≡ r = cc (row_here q rs b a z) in
        g.0 b bs a z (rw same t)
    by later false i = later (simp (i, row_of) at h) t

no_row : (b : ℕ) (bs : List ℕ) → row_of rows b ≡ None → utf8 (b ∷ bs) ≡ false
unfolding utf8_from utf8
no_row b bs h = simp (h, utf8, utf8_from)

lead-given : (b : ℕ) (bs : List ℕ) → utf8 (b ∷ bs) ≡ true
    → ((n l h : ℕ) → utf8_from n l h bs ≡ true → Tail n l h bs) → Encodes (b ∷ bs)
lead-given b bs e more = by (row_of rows b) refl
  where
    by : (r : Option Row) → row_of rows b ≡ r → Encodes (b ∷ bs)
    by None i = absurd (clash (sym (no_row b bs i) ∙ e))
    by (Some r) i = row_gives rows all_give b r bs i (more _ _ _ (sym (lead-taken b r bs i) ∙ e))

next-given : (n l h b : ℕ) (bs : List ℕ) → utf8_from (suc n) l h (b ∷ bs) ≡ true
    → (utf8_from n 0x80 0xBF bs ≡ true → Tail n 0x80 0xBF bs) → Tail (suc n) l h (b ∷ bs)
unfolding utf8_from
next-given n l h b bs e more =
    let rest = utf8_from n 0x80 0xBF bs in
    let both = and_left (leb l b && leb b h) rest e in
    next (leb-true l b (and_left _ _ both)) (leb-true b h (and_right (leb l b) _ both)) (more (and_right (leb l b && leb b h) rest e))

tail : (bs : List ℕ) (n l h : ℕ) → utf8_from n l h bs ≡ true → Tail n l h bs
unfolding utf8_from encoded
tail [] zero l h e = end (record { values = []; scalars = λ i. omega arith; same = refl })
tail [] (suc n) l h e = absurd (clash e)
tail (b ∷ bs) zero l h e = end (lead-given b bs (sym (all-taken l h (b ∷ bs)) ∙ e) (tail bs))
tail (b ∷ bs) (suc n) l h e = next-given n l h b bs e (tail bs n 0x80 0xBF)

complete : (bytes : List ℕ) → utf8 bytes ≡ true → Encodes bytes
unfolding utf8
complete bytes e = ended (tail bytes 0 0 0 e)

-- In one way

data Decoded : Type 0 where
  nothing : Decoded
  first : ℕ → List ℕ → Decoded

-- the first number, told by its first byte, and what stands behind it
decode : List ℕ → Decoded
decode [] = nothing
decode (b ∷ bs) =
    cond (leb b 0x7F) (first b bs)
    (cond (leb b 0xDF) (first (value two (b - 0xC0) (get_or bs 0 0 - 0x80) 0) (drop 1 bs))
    (cond (leb b 0xEF) (first (value three (b - 0xE0) (get_or bs 0 0 - 0x80) (get_or bs 1 0 - 0x80)) (drop 2 bs))
    (first (value four (b - 0xF0) (get_or bs 0 0 - 0x80) (64 * (get_or bs 1 0 - 0x80) + (get_or bs 2 0 - 0x80))) (drop 3 bs))))

decode-one : (b : ℕ) (bs : List ℕ) → b ≤ 0x7F → decode (b ∷ bs) ≡ first b bs
unfolding decode
decode-one b bs z = simp (le-leb b 0x7F z, decode)

decode-two : (x y : ℕ) (bs : List ℕ) → x < 32 → decode ((0xC0 + x) ∷ (0x80 + y) ∷ bs) ≡ first (value two x y 0) bs
unfolding decode
decode-two x y bs z =
    simp (lt-leb (0xC0 + x) 0x7F (omega arith), le-leb (0xC0 + x) 0xDF (omega arith), add-sub_cancel_left, decode)

decode-three : (x y w : ℕ) (bs : List ℕ) → x < 16
    → decode ((0xE0 + x) ∷ (0x80 + y) ∷ (0x80 + w) ∷ bs) ≡ first (value three x y w) bs
unfolding decode
decode-three x y w bs z = simp (
  lt-leb (0xE0 + x) 0x7F (omega arith),
  lt-leb (0xE0 + x) 0xDF (omega arith),
  le-leb (0xE0 + x) 0xEF (omega arith),
  add-sub_cancel_left,
  decode,
)

decode-four : (x y v w : ℕ) (bs : List ℕ)
    → decode ((0xF0 + x) ∷ (0x80 + y) ∷ (0x80 + v) ∷ (0x80 + w) ∷ bs) ≡ first (value four x y (64 * v + w)) bs
unfolding decode
decode-four x y v w bs = simp (
  lt-leb (0xF0 + x) 0x7F (omega arith),
  lt-leb (0xF0 + x) 0xDF (omega arith),
  lt-leb (0xF0 + x) 0xEF (omega arith),
  add-sub_cancel_left,
  decode,
)

decode-encoded : (c : ℕ) (bs : List ℕ) → decode (encode_one c ++ bs) ≡ first c bs
unfolding six
decode-encoded c bs =
    upto c 0x7F (λ z. rw (encode_one_lem c z) (decode-one c bs z))
    (λ a. upto c 0x7FF (λ z. rw (encode-two c a z) (decode-two _ _ bs (omega arith) ∙ ap (λ n. first n bs) (omega arith)))
    (λ a. upto c 0xFFFF (λ z. rw (encode-three c a z) (decode-three _ _ _ bs (omega arith) ∙ ap (λ n. first n bs) (omega arith)))
    (λ a. rw (encode-four c a) (decode-four _ _ _ _ bs ∙ ap (λ n. first n bs) (omega arith)))))

never-empty : (c : ℕ) (bs : List ℕ) → [] ≡ encode_one c ++ bs → ⊥
unfolding decode
never-empty c bs e =
    let none_left : nothing ≡ first c bs = ap decode e ∙ decode-encoded c bs in
    let z : ◌≡◌ {A = ℕ} 0 1 = cc in omega arith

once : (cs ds : List ℕ) → encoded cs ≡ encoded ds → cs ≡ ds
unfolding encoded
once [] [] e = refl
once [] (d ∷ ds) e = absurd (never-empty d (encoded ds) e)
once (c ∷ cs) [] e = absurd (never-empty c (encoded cs) (sym e))
once (c ∷ cs) (d ∷ ds) e =
    let same : first c (encoded cs) ≡ first d (encoded ds) = sym (decode-encoded c _) ∙ ap decode e ∙ decode-encoded d _ in
    let others : cs ≡ ds = once cs ds (cc) in
    cc

pub text-is : TextIs
text-is = record { sound = sound; complete = complete; once = once }
