-- A text of any bytes is shown so that it steers no terminal (`Safe`). In order: no byte of it is below 32, nor 127, so that it stays on
-- its line; no C2 stands right before 80 to 9F: the byte behind a C2 that is shown as it is was seen, and begins no such character.
use mathlib.Core.Path.{◌≡◌, refl, sym, ◌∙◌}
use mathlib.Core.List.{List, [], ◌∷◌, ◌++◌, append_assoc}
use mathlib.Core.Bool.{Bool, true, false, ◌||◌}
use Prim.Native.Nat.{ℕ, zero, suc, ◌+◌}
use native.Mathlib.Omega.{arith}
use borrow.Author.Tests.{ltb-false, eqb-false, eq-eqb, le-leb}
use lib.ListN.{length, get_or}
use lib.Dec.{ltb, eqb}
use Rattle.facts.proofs.Truth.{clash, or-false}
use Rattle.screen_number.specs.Number.{hex}
use Rattle.screen_number.specs.Safe.{Seen, Visible, Apart, Parted}
use Rattle.screen_number.proofs.Printed.{Printed, visible-append, printed-safe, hex-printed}
use Rattle.screen_text.specs.Escape.{quote, backslash, within, control, control2, hidden, marked, escaped, before, shown_at}
use Rattle.screen_text.specs.Escape.{part, quoted}
use Rattle.screen_text.specs.Promised.{TextSafe}

-- No byte below 32, nor 127

hex-visible : (k n : ℕ) → Visible (hex k n)
hex-visible k n = (printed-safe (hex k n) (hex-printed k n)).visible

not-control : (c : ℕ) → control c ≡ false → Seen c
unfolding control
not-control c h =
    let s = or-false (ltb c 32) (eqb c 127) h in
    (ltb-false c 32 s.0, eqb-false c 127 s.1)

by-mark : (t : Bool) (c : ℕ) → Seen c → Visible (elim t [ true ↦ backslash ∷ c ∷ [] | false ↦ c ∷ [] ])
by-mark true c s = ((omega arith, λ e. omega (arith, e)), (s, tt))
by-mark false c s = (s, tt)

escaped-visible : (h : Bool) (c : ℕ) → (h ≡ false → Seen c) → Visible (escaped h c)
unfolding escaped
escaped-visible true c s = ((omega arith, λ e. omega (arith, e)), ((omega arith, λ e. omega (arith, e)), hex-visible 2 c))
escaped-visible false c s = by-mark (marked c) c (s refl)

hidden-control : (a b c d e : ℕ) → hidden a b c d e ≡ false → Seen c
unfolding hidden
hidden-control a b c d e h = not-control c (or-false (control c) _ h).0

shown-visible : (s : List ℕ) (i : ℕ) → Visible (shown_at s i)
unfolding shown_at
shown-visible s i =
    escaped-visible (hidden (before s i 2) (before s i 1) (get_or s i 0) (get_or s (i + 1) 0) (get_or s (i + 2) 0)) (get_or s i 0)
    (hidden-control (before s i 2) (before s i 1) (get_or s i 0) (get_or s (i + 1) 0) (get_or s (i + 2) 0))

pub part-visible : (s : List ℕ) (i n : ℕ) → Visible (part s i n)
unfolding part
part-visible s i zero = tt
part-visible s i (suc n) = visible-append (shown_at s i) (part s (i + 1) n) (shown-visible s i) (part-visible s (i + 1) n)

pub quoted-visible : (s : List ℕ) → Visible (quoted s)
unfolding quoted
quoted-visible s = (
  (omega arith, λ e. omega (arith, e)),
  visible-append (part s 0 (length s)) _ (part-visible s 0 (length s))
      ((omega arith, λ e. omega (arith, e)), tt),
)

-- No C2 right before 80 to 9F. A shown byte, and y behind it: y is fine behind every byte that is fine before the text's next one, d

abbrev Behind : ℕ → List ℕ → Type 0
Behind d y = (b : ℕ) → Apart b d → Parted b y

-- behind a byte that is none of C2
plain-before : (b d : ℕ) → (b ≡ 0xC2 → ⊥) → Apart b d
plain-before b d n e l h = n e

ascii-behind : (x : List ℕ) (a d : ℕ) (y : List ℕ) → Printed x → (a ≡ 0xC2 → ⊥) → Behind d y → Parted a (x ++ y)
ascii-behind [] a d y p n k = k a (plain-before a d n)
ascii-behind (b ∷ x) a d y p n k =
    (λ e l h. omega (arith, l, p.0.1), ascii-behind x b d y p.1 (λ e. omega (arith, e, p.0.1)) k)

not-control2 : (c d : ℕ) → control2 c d ≡ false → Apart c d
unfolding control2 within
not-control2 c d h e l k = clash (sym h ∙ simp (eq-eqb c 0xC2 e, le-leb 0x80 d l, le-leb d 0x9F k))

-- by its digits; behind a backslash, which a C2 never is; as it is
mark-plain : (c : ℕ) → marked c ≡ true → c ≡ 0xC2 → ⊥
unfolding marked
mark-plain c h e =
    let m : (eqb c quote || eqb c backslash) ≡ false = rw e refl in
    clash (sym m ∙ h)

by-mark-parted : (t : Bool) (a c d : ℕ) (y : List ℕ) → marked c ≡ t → Apart a c → Apart c d → Behind d y
    → Parted a (elim t [ true ↦ backslash ∷ c ∷ [] | false ↦ c ∷ [] ] ++ y)
by-mark-parted true a c d y m f g k =
    (λ e l h. omega (arith, l), (λ e l h. omega (arith, e), k c (plain-before c d (mark-plain c m))))
by-mark-parted false a c d y m f g k = (f, k c g)

escaped-parted : (h : Bool) (a c d : ℕ) (y : List ℕ) → Apart a c → (h ≡ false → Apart c d) → Behind d y → Parted a (escaped h c ++ y)
unfolding escaped
escaped-parted true a c d y f g k =
    (λ e l h. omega (arith, l), (λ e l h. omega (arith, l), ascii-behind (hex 2 c) 120 d y (hex-printed 2 c) (λ e. omega (arith, e)) k))
escaped-parted false a c d y f g k = by-mark-parted (marked c) a c d y refl f (g refl) k

hidden-apart : (a b c d e : ℕ) → hidden a b c d e ≡ false → Apart c d
unfolding hidden
hidden-apart a b c d e h = not-control2 c d (or-false (control2 c d) _ (or-false (control c) _ h).1).0

shown-parted : (s : List ℕ) (i a : ℕ) (y : List ℕ) → Apart a (get_or s i 0) → Behind (get_or s (i + 1) 0) y → Parted a (shown_at s i ++ y)
unfolding shown_at
shown-parted s i a y f k =
    escaped-parted (hidden (before s i 2) (before s i 1) (get_or s i 0) (get_or s (i + 1) 0) (get_or s (i + 2) 0)) a (get_or s i 0)
    (get_or s (i + 1) 0) y f
    (hidden-apart (before s i 2) (before s i 1) (get_or s i 0) (get_or s (i + 1) 0) (get_or s (i + 2) 0)) k

part-parted : (s : List ℕ) (i n a : ℕ) (y : List ℕ) → Apart a (get_or s i 0) → ((b : ℕ) → Parted b y) → Parted a (part s i n ++ y)
unfolding part
part-parted s i zero a y f k = k a
part-parted s i (suc n) a y f k =
    rw (append_assoc (shown_at s i) (part s (i + 1) n) y)
    (shown-parted s i a (part s (i + 1) n ++ y) f (λ b g. part-parted s (i + 1) n b y g k))

quoted-parted : (s : List ℕ) (a : ℕ) → Parted a (quoted s)
unfolding quoted
quoted-parted s a = (
  λ e l h. omega (arith, l),
  part-parted s 0 (length s) quote (quote ∷ []) (λ e. omega (arith, e)) (λ b. (λ e l h. omega (arith, l), tt)),
)

pub text-safe : TextSafe
text-safe s = record { visible = quoted-visible s; parted = quoted-parted s }
